-- The list as its nodes, oldest first, and how its words write it down.
use Rattle.std.specs.Prelude.{◌≡◌, ◌≢◌, ℕ, zero, suc, ◌+◌, ◌*◌, ◌^◌, ◌≤◌, List, length, slice_index, map}
use mathlib.Core.Option.{some}
use lib.ListN.{get_elem?}
use Rattle.arena_list.specs.declared.for_clauses.view.Node.{Node}

abbrev pub node : ℕ → ℕ → Node
node slot caller = record { slot = slot; caller = caller }

-- the slot of a node
abbrev pub slot_of : Node → ℕ
slot_of n = n.slot

-- the slot of the node before the k-th, plus 1, or 0 where there is none
abbrev pub before : List Node → ℕ → ℕ
before nodes zero = 0
before nodes (suc k) = slice_index (map slot_of nodes) k + 1

-- the head's word: how many nodes there are, and the slot of the newest, plus 1, or 0 for no nodes
abbrev pub head_of : List Node → ℕ
head_of nodes = length nodes * 2 ^ 32 + before nodes (length nodes)

-- a node's word: its caller, and the slot of the node before it, plus 1
abbrev pub node_word : ℕ → ℕ → ℕ
node_word caller previous = caller * 2 ^ 32 + previous

-- the list has this node
abbrev pub HasNode : List Node → ℕ → ℕ → Type 0
HasNode nodes slot who = (k : ℕ) × (get_elem? nodes k ≡ some (node slot who))

-- the list doesn't have this node
abbrev pub LacksNode : List Node → ℕ → ℕ → Type 0
LacksNode nodes slot who = (k : ℕ) → get_elem? nodes k ≢ some (node slot who)

-- one list begins the other
pub record Begins (xs ys : List Node) : Type 0 where
  pub short : length xs ≤ length ys
  pub same : (k : ℕ) (n : Node) → get_elem? xs k ≡ some n → get_elem? ys k ≡ some n
