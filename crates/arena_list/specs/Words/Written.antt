-- The words of the list, the core that they show, and where the values lie.
-- Word 0 is the head, word 8 + k the node of the slot k, and word 80 + 16 * k its state, 128 bytes after that of the slot before. The words between aren't used.
use Rattle.std.specs.Prelude.{◌≡◌, ℕ, ◌+◌, ◌*◌, ◌<◌, Bool, true, false, List, length, slice_index}
use mathlib.Core.Option.{some}
use lib.ListN.{get_elem?}
use Rattle.arena_list.specs.declared.for_clauses.view.Node.{Node}
use Rattle.arena_list.specs.Words.Nodes.{before, head_of, node_word}
use Rattle.arena_list.specs.Words.Core.{Core, Standing, slot_count}

abbrev pub node_at : ℕ → ℕ
node_at slot = 8 + slot

abbrev pub state_at : ℕ → ℕ
state_at slot = 80 + 16 * slot

-- how many words there are: the state of the last slot has a line of its own, too
abbrev pub word_count : ℕ
word_count = state_at slot_count

-- the place of a slot's value in the table: of two values of 16 bytes no two lie within 128 bytes. The places between are empty
abbrev pub value_at : ℕ → ℕ
value_at slot = slot * 8

abbrev pub value_count : ℕ
value_count = value_at slot_count

-- each slot is one of the list's
abbrev pub AreSmall : List Node → Type 0
AreSmall nodes = (k : ℕ) (n : Node) → get_elem? nodes k ≡ some n → n.slot < slot_count

abbrev pub bit : Bool → ℕ
bit true = 1
bit false = 0

-- twice the used sum, plus 1 where the value is home
abbrev pub state_word : Standing → ℕ
state_word s = 2 * s.used + bit s.home

-- the words show the core
pub record Show (c : Core) (words : List ℕ) : Type 0 where
  pub wide : length words ≡ word_count
  pub head : slice_index words 0 ≡ head_of c.joined
  pub nodes : (k : ℕ) (n : Node) → get_elem? c.joined k ≡ some n → slice_index words (node_at n.slot) ≡ node_word n.caller (before c.joined k)
  pub states : (slot : ℕ) → slot < slot_count → slice_index words (state_at slot) ≡ state_word (c.standing slot)
