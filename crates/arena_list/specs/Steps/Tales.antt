-- What each kind of step on a word of the list tells its seat.
use Rattle.std.specs.Prelude.{◌≡◌, ◌≢◌, ℕ, ◌+◌, ◌/◌, ◌^◌, ◌<◌, ◌≤◌, Bool, true, false, List, [], ◌∷◌, ◌++◌, Option, Some, None, length, max, set, slice_index, replicate, nat_lt, if◌then◌else◌}
use mathlib.Core.Option.{some}
use lib.ListN.{get_elem?}
use Rattle.atomic_table.specs.Table.{Me, Step}
use Rattle.ghost_list.specs.declared.GhostList.{GhostList}
use Rattle.arena_list.specs.declared.for_clauses.view.Node.{Node}
use Rattle.arena_list.specs.declared.for_clauses.view.Hold.TheVariants.{Moving, Away, Rests}
use Rattle.arena_list.specs.declared.for_clauses.view.Hand.{Hand}
use Rattle.arena_list.specs.declared.for_clauses.view.View.{View}
use Rattle.arena_list.specs.Words.Nodes.{before, head_of, node_word, Begins, HasNode, LacksNode}
use Rattle.arena_list.specs.Words.Core.{CallersDiffer, slot_count}
use Rattle.arena_list.specs.Words.Written.{node_at, state_at, value_at}
use Rattle.arena_list.specs.Rule.Views.{hand}
use Rattle.arena_list.specs.Rule.Founded.{Meter}
use Rattle.arena_list.specs.Steps.Moments.{SeenList, SeenJoin, SeenTake, SeenGive, SeenSize}
use Rattle.arena_list.specs.Steps.After.{counted, looked, next_link, noted, joined, held, settled, sized, used_now, with_seat}

-- the list as it stood at a look, beside the hand that looked: the caller's slot is in it exactly where it is linked
pub record Sees {V : Type 0} (h : Hand V) (nodes : List Node) : Type 0 where
  pub linked : h.linked ≡ true → HasNode nodes h.slot h.who
  pub spare : h.linked ≡ false → (k : ℕ) (n : Node) → get_elem? nodes k ≡ some n → n.caller ≢ h.who
  pub callers : CallersDiffer nodes
  pub slots : (i j : ℕ) (n o : Node) → get_elem? nodes i ≡ some n → get_elem? nodes j ≡ some o → n.slot ≡ o.slot → i ≡ j
  pub small : (k : ℕ) (n : Node) → get_elem? nodes k ≡ some n → n.slot < slot_count
  pub few : length nodes ≤ slot_count
  pub fewer : h.linked ≡ false → length nodes < slot_count

-- a seat: its view, and the slots that it holds
abbrev pub Sat : Type 0 → Type 0
Sat V = Me (Option V) (View V)

-- the greater of both at each number
abbrev pub greater : List ℕ → List ℕ → List ℕ
greater [] ys = []
greater (x ∷ xs) [] = []
greater (x ∷ xs) (y ∷ ys) = max x y ∷ greater xs ys

-- the longer of two lists of which one begins the other
abbrev pub longer : List Node → List Node → List Node
longer xs ys = if nat_lt (length xs) (length ys) then ys else xs

abbrev pub no_items : {A : Type 0} → GhostList A
no_items = record { marker = record {}; items = [] }

-- ---- what a step tells
module _ {V : Type 0} where
  abbrev pub saw_head : Meter V → Step (Option V) → Sat V → ℕ → Sat V → Type 0
  saw_head m st me r me' = (me' ≡ (looked me.0 me'.0.seen, me.1)) × (r ≡ head_of me'.0.seen) × Begins me.0.seen me'.0.seen × Sees (hand me.0) me'.0.seen × SeenList m me.0.base me.0 me'.0.seen

  abbrev pub saw_node : Step (Option V) → Sat V → ℕ → Sat V → Type 0
  saw_node st me r me' = (me' ≡ (counted me.0, me.1)) × ((k : ℕ) (n : Node) → get_elem? me.0.seen k ≡ some n → st.word ≡ node_at n.slot → r ≡ node_word n.caller (before me.0.seen k))

  abbrev pub stored_node : Step (Option V) → Sat V → ℕ → Sat V → Type 0
  stored_node st me r me' = me' ≡ (noted me.0, me.1)

  -- the exchange appended the caller's node, or else showed a longer list
  abbrev pub tried_link : Meter V → Step (Option V) → Sat V → ℕ → Sat V → Type 0
  tried_link m st me r me' = (r ≡ st.first → (me' ≡ (joined me.0, me.1)) × Sees (hand me'.0) me'.0.seen × SeenJoin m me.0.base me.0)
      × (r ≢ st.first → saw_head m st me r me' × (length me.0.seen < length me'.0.seen))

  abbrev pub took : Meter V → Step (Option V) → Sat V → ℕ → Sat V → Type 0
  took m st me r me' = (part : V) → (hand me.0).hold ≡ Rests part → (me' ≡ (held me.0 (Moving (m.used part)), (value_at (hand me.0).slot, Some part) ∷ me.1)) × SeenTake m me.0.base me.0 (m.used part)

  -- the emptied slot went home
  abbrev pub emptied : Step (Option V) → Sat V → ℕ → Sat V → Type 0
  emptied st me r me' = (used : ℕ) (out : List (ℕ × Option V)) → (hand me.0).hold ≡ Moving used → me.1 ≡ (value_at (hand me.0).slot, None) ∷ out → me' ≡ (held me.0 (Away used), out)

  abbrev pub claimed : Meter V → Step (Option V) → Sat V → ℕ → Sat V → Type 0
  claimed m st me r me' = me' ≡ (held me.0 (with_seat (hand me.0).hold), (value_at (hand me.0).slot, None) ∷ me.1)

  abbrev pub gave : Meter V → Step (Option V) → Sat V → ℕ → Sat V → Type 0
  gave m st me r me' = (part : V) (out : List (ℕ × Option V)) → me.1 ≡ (value_at (hand me.0).slot, Some part) ∷ out → (me' ≡ (settled m me.0 part, out)) × (slice_index me.0.sizes (hand me.0).slot ≤ m.used part) × SeenGive m me.0.base me.0 part

  abbrev pub saw_size : Meter V → Step (Option V) → Sat V → ℕ → Sat V → Type 0
  saw_size m st me r me' = (slot : ℕ) → st.word ≡ state_at slot → (me' ≡ (sized me.0 slot (r / 2), me.1)) × (slice_index me.0.sizes slot ≤ r / 2) × (slice_index (set me.0.sizes slot (r / 2)) slot ≡ r / 2) × (slot ≡ (hand me.0).slot → r / 2 ≡ used_now m (hand me.0).hold) × SeenSize m me.0.base me.0 slot (r / 2)

  -- ---- cutting a view in two, and putting two together
  abbrev pub dealt : View V → View V
  dealt v = record v { hands = hand v ∷ []; list_steps = 0 }

  abbrev pub rest_of : List (Hand V) → List (Hand V)
  rest_of [] = []
  rest_of (h ∷ hs) = hs

  abbrev pub undealt : View V → View V
  undealt v = record v { hands = rest_of v.hands }

  abbrev pub both : View V → View V → View V
  both v w = record { hands = v.hands ++ w.hands; seen = longer v.seen w.seen; list_steps = v.list_steps + w.list_steps; sizes = greater v.sizes w.sizes; base = v.base; pasts = v.seen ∷ w.seen ∷ (v.pasts ++ w.pasts) }

  abbrev pub spent : View V
  spent = record { hands = []; seen = []; list_steps = 0; sizes = replicate slot_count 0; base = record { life = 0; linked = no_items; spare = no_items; callers = no_items }; pasts = [] }

  -- the view of a seat that has one
  abbrev pub sole : List (View V) → View V
  sole [] = spent
  sole (v ∷ vs) = v

-- What a seat keeps beside its view is what its view says: of its one caller, of the caller's slot and its used sum, and of the head
pub record IsSeated {V : Type 0} (m : Meter V) (caller slot : ℕ) (linked : Bool) (used head : ℕ) (me : Sat V) : Type 0 where
  pub one : length me.0.hands ≡ 1
  pub caller_is : caller ≡ (hand me.0).who
  pub slot_is : slot ≡ (hand me.0).slot
  pub linked_is : linked ≡ (hand me.0).linked
  pub used_is : used ≡ used_now m (hand me.0).hold
  pub head_is : head ≡ head_of me.0.seen
  pub slot_small : slot < slot_count
  pub used_small : used < 2 ^ 63
  pub link_small : next_link me.0 ≤ slot_count
  -- a seat whose slot is in the list has seen its own node
  pub own : linked ≡ true → ¬ LacksNode me.0.seen slot caller
  pub few : length me.0.seen ≤ slot_count
  pub fewer : linked ≡ false → length me.0.seen < slot_count
  -- between two calls it holds no slot
  pub free : me.1 ≡ []
