-- What a seat's view says, by name.
use Rattle.std.specs.Prelude.{◌≡◌, ℕ, ◌+◌, Bool, true, false, List, [], ◌∷◌, Option, Some, None, slice_index}
use Rattle.arena_list.specs.declared.for_clauses.view.Node.{Node}
use Rattle.arena_list.specs.declared.for_clauses.view.Hold.{Hold}
use Rattle.arena_list.specs.declared.for_clauses.view.Hold.TheVariants.{Vacant}
use Rattle.arena_list.specs.declared.for_clauses.view.Hand.{Hand}
use Rattle.arena_list.specs.declared.for_clauses.view.View.{View}
use Rattle.arena_list.specs.Words.Nodes.{HasNode}

-- the sum of what the seat saw of these nodes
abbrev pub sum_seen : List ℕ → List Node → ℕ
sum_seen sizes [] = 0
sum_seen sizes (n ∷ ns) = slice_index sizes n.slot + sum_seen sizes ns

abbrev pub when : Bool → ℕ → Option ℕ
when true slot = Some slot
when false slot = None

abbrev pub unless : Bool → ℕ → Option ℕ
unless true slot = None
unless false slot = Some slot

module _ {V : Type 0} where
  -- the hand of a view that stands for one caller
  abbrev pub first_hand : List (Hand V) → Hand V
  first_hand [] = record { who = 0; slot = 0; linked = false; noted = None; hold = Vacant }
  first_hand (h ∷ hs) = h

  abbrev pub hand : View V → Hand V
  hand v = first_hand v.hands

  abbrev pub who : View V → ℕ
  who v = (hand v).who

  -- the caller's slot in the list
  abbrev pub mine : View V → Option ℕ
  mine v = when (hand v).linked (hand v).slot

  -- the caller's slot that isn't in the list yet
  abbrev pub spare : View V → Option ℕ
  spare v = unless (hand v).linked (hand v).slot

  -- the seat has seen the caller's own node, where that is in the list
  abbrev pub HasSeenOwn : View V → Type 0
  HasSeenOwn v = (slot : ℕ) → mine v ≡ Some slot → HasNode v.seen slot (who v)

  -- where the value of the caller's slot is
  abbrev pub out : View V → Hold V
  out v = (hand v).hold

  -- the least sum that the seat knows the list to have used
  abbrev pub shown : View V → ℕ
  shown v = sum_seen v.sizes v.seen
