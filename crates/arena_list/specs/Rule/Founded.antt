-- What a list is made with, and the view with which it begins.
use Rattle.std.specs.Prelude.{◌≡◌, ◌≢◌, ℕ, ◌+◌, ◌*◌, ◌<◌, ◌^◌, ◌==◌, slice_index, set, not, Bool, true, false, List, [], ◌∷◌, ◌++◌, Option, Some, None, length, map, replicate, filter, if◌then◌else◌}
use Rattle.std.specs.List.{list_any}
use Rattle.std.specs.Option.{option_map}
use mathlib.Core.Option.{some}
use lib.ListN.{get_elem?}
use Rattle.arena_list.specs.declared.entry.Entry.{Entry}
use Rattle.arena_list.specs.declared.for_clauses.founding.Founding.{Founding}
use Rattle.arena_list.specs.declared.for_clauses.view.Node.{Node}
use Rattle.arena_list.specs.declared.for_clauses.view.Hold.TheVariants.{Vacant}
use Rattle.arena_list.specs.declared.for_clauses.view.Hand.{Hand}
use Rattle.arena_list.specs.declared.for_clauses.view.View.{View}
use Rattle.arena_list.specs.Words.Core.{slot_count}
use Rattle.arena_list.specs.Words.Nodes.{node, before, head_of, node_word}
use Rattle.arena_list.specs.Words.Written.{node_at, state_at, word_count}
use Rattle.arena_list.specs.Rule.Views.{first_hand}

-- a part's owner, life and used sum
pub record Meter (V : Type 0) : Type 0 where
  pub owner : V → ℕ
  pub life : V → ℕ
  pub used : V → ℕ

abbrev pub meter : {V : Type 0} → (V → ℕ) → (V → ℕ) → (V → ℕ) → Meter V
meter owner life used = record { owner = owner; life = life; used = used }

-- no number stands twice
abbrev pub Differ : List ℕ → Type 0
Differ xs = (i j x : ℕ) → get_elem? xs i ≡ some x → get_elem? xs j ≡ some x → i ≡ j

-- the number stands in the list
abbrev pub has : List ℕ → ℕ → Bool
has xs x = list_any (λ y. y == x) xs

abbrev pub with_state : Bool → List ℕ → ℕ → ℕ → List ℕ
with_state true words at state = words
with_state false words at state = set words (state_at at) state

module _ {V : Type 0} where
  abbrev pub slot : Entry V → ℕ
  slot e = e.slot

  abbrev pub caller : Entry V → ℕ
  caller e = e.caller

  abbrev pub node_of : Entry V → Node
  node_of e = node e.slot e.caller

  -- the entry of a caller
  abbrev pub entry_of : List (Entry V) → ℕ → Option (Entry V)
  entry_of [] who = None
  entry_of (e ∷ es) who = if e.caller == who then Some e else entry_of es who

  -- the entries of callers that aren't among these
  abbrev pub others_of : List (Entry V) → List ℕ → List (Entry V)
  others_of entries callers = filter (λ e. not (has callers e.caller)) entries

  -- the callers that have no entry here
  abbrev pub without : List (Entry V) → List ℕ → List ℕ
  without entries callers = filter (λ c. not (has (map caller entries) c)) callers

  abbrev pub fresh : Bool → Entry V → Hand V
  fresh linked e = record { who = e.caller; slot = e.slot; linked = linked; noted = None; hold = Vacant }

  abbrev pub or_else : Option (Hand V) → Option (Hand V) → Hand V
  or_else (Some h) b = h
  or_else None (Some h) = h
  or_else None None = first_hand []

  -- the hand of a caller, with its linked slot, or else its spare
  abbrev pub hand_from : List (Entry V) → List (Entry V) → ℕ → Hand V
  hand_from linked spare who = or_else (option_map (fresh true) (entry_of linked who)) (option_map (fresh false) (entry_of spare who))

  abbrev pub hand_for : Founding V → ℕ → Hand V
  hand_for k who = hand_from k.linked.items k.spare.items who

  abbrev pub first_view : Founding V → View V
  first_view k = record { hands = map (hand_for k) k.callers.items; seen = map node_of k.linked.items; list_steps = 0; sizes = replicate slot_count 0; base = k; pasts = [] }

  -- a part fits its slot: it has the caller as its owner, this life, and a used sum that a word can show
  pub record Fits (m : Meter V) (life who : ℕ) (part : V) : Type 0 where
    pub owner : m.owner part ≡ who
    pub life_is : m.life part ≡ life
    pub used : m.used part < 2 ^ 63

  -- what `make` asks of the entries and callers that it is given
  pub record AreFit (m : Meter V) (life : ℕ) (linked spare : List (Entry V)) (callers : List ℕ) : Type 0 where
    -- all slots differ, and are below 64
    pub slots : Differ (map slot (linked ++ spare))
    pub small : (i : ℕ) (e : Entry V) → get_elem? (linked ++ spare) i ≡ some e → e.slot < slot_count
    -- the linked callers differ, and the callers, of which there is one at least
    pub linked_once : Differ (map caller linked)
    pub callers_once : Differ callers
    pub some_caller : 0 < length callers
    -- one spare entry for each caller that no linked entry has, in the order of the callers
    pub spares : map caller spare ≡ without linked callers
    pub parts : (i : ℕ) (e : Entry V) → get_elem? (linked ++ spare) i ≡ some e → Fits m life e.caller e.part

  -- the words of a list with these linked entries and callers: its nodes, and the states of the entries whose callers have no seat
  pub record IsLaid (m : Meter V) (linked : List (Entry V)) (callers words : List ℕ) : Type 0 where
    pub wide : length words ≡ word_count
    pub head : slice_index words 0 ≡ head_of (map node_of linked)
    pub nodes : (i : ℕ) (e : Entry V) → get_elem? linked i ≡ some e → slice_index words (node_at e.slot) ≡ node_word e.caller (before (map node_of linked) i)
    pub home : (i : ℕ) (e : Entry V) → get_elem? (others_of linked callers) i ≡ some e → slice_index words (state_at e.slot) ≡ 2 * m.used e.part + 1
    pub away : (slot : ℕ) → slot < slot_count → ((i : ℕ) (e : Entry V) → get_elem? (others_of linked callers) i ≡ some e → e.slot ≢ slot) → slice_index words (state_at slot) ≡ 0

  -- the words with one more entry: its node, and its state where its caller has no seat
  abbrev pub with_entry : Meter V → List ℕ → Entry V → Bool → ℕ → List ℕ
  with_entry m words e seated link = with_state seated (set words (node_at e.slot) (node_word e.caller link)) e.slot (2 * m.used e.part + 1)

  -- the same of the first n linked entries, while the words are written
  pub record IsLaidTo (m : Meter V) (linked : List (Entry V)) (callers words : List ℕ) (n : ℕ) : Type 0 where
    pub wide : length words ≡ word_count
    pub nodes : (i : ℕ) (e : Entry V) → i < n → get_elem? linked i ≡ some e → slice_index words (node_at e.slot) ≡ node_word e.caller (before (map node_of linked) i)
    pub home : (i : ℕ) (e : Entry V) → i < n → get_elem? linked i ≡ some e → has callers e.caller ≡ false → slice_index words (state_at e.slot) ≡ 2 * m.used e.part + 1
    pub away : (slot : ℕ) → slot < slot_count → ((i : ℕ) (e : Entry V) → i < n → get_elem? linked i ≡ some e → has callers e.caller ≡ false → e.slot ≢ slot) → slice_index words (state_at slot) ≡ 0
