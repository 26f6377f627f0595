-- What closing a list works with, and what it gives.
use Rattle.std.specs.Prelude.{◌≡◌, ◌⊎◌, ℕ, ◌+◌, ◌<◌, ◌≤◌, List, [], ◌∷◌, ◌++◌, Option, Some, length, map, slice_index, if◌then◌else◌}
use mathlib.Core.Option.{some}
use lib.ListN.{get_elem?}
use base.Stored.{Coded}
use Rattle.arena_list.specs.declared.entry.Entry.{Entry}
use Rattle.arena_list.specs.declared.list.ArenaList.{ArenaList}
use Rattle.arena_list.specs.declared.list.ListSeat.{ListSeat}
use Rattle.arena_list.specs.declared.for_clauses.view.Node.{Node}
use Rattle.arena_list.specs.declared.for_clauses.view.Hold.{Hold}
use Rattle.arena_list.specs.declared.for_clauses.view.Hold.TheVariants.{Vacant, Filling, Moving, Away, Rests}
use Rattle.arena_list.specs.declared.for_clauses.view.Hand.{Hand}
use Rattle.arena_list.specs.declared.for_clauses.mark.Mark.{Mark}
use Rattle.arena_list.specs.declared.for_clauses.view.View.{View}
use Rattle.arena_list.specs.Words.Core.{slot_count}
use Rattle.arena_list.specs.Words.Nodes.{Begins}
use Rattle.arena_list.specs.Rule.Founded.{Meter, Fits, Differ, slot, caller, node_of}
use Rattle.arena_list.specs.Marks.OfParts.{marked_entry}
use Rattle.arena_list.specs.Rule.Views.{hand, who, mine, spare, out}
use Rattle.arena_list.specs.Calls.Seats.{view, callers_of, IsSeatOf, IsAmong, HasValue}

-- each number of the second list is at least that of the first
abbrev pub AreAtMost : List ℕ → List ℕ → Type 0
AreAtMost xs ys = (i : ℕ) → i < length ys → slice_index xs i ≤ slice_index ys i

module _ {V : Type 0} where
  -- the view has seen these nodes, itself or in a seat that was joined into it
  abbrev pub HasTold : View V → List Node → Type 0
  HasTold v nodes = (v.seen ≡ nodes) ⊎ ((i : ℕ) × (get_elem? v.pasts i ≡ some nodes))

  abbrev pub entry : ℕ → ℕ → V → Entry V
  entry slot caller part = record { slot = slot; caller = caller; part = part }

  -- the value, where it rests
  abbrev pub rested : Hold V → List V
  rested Vacant = []
  rested Filling = []
  rested (Moving used) = []
  rested (Away used) = []
  rested (Rests part) = part ∷ []

  abbrev pub own_entry : Hand V → List (Entry V)
  own_entry h = map (entry h.slot h.who) (rested h.hold)

  -- the entries of the hands that never joined the list, in the order of the hands
  abbrev pub spares_of : List (Hand V) → List (Entry V)
  spares_of [] = []
  spares_of (h ∷ hs) = if h.linked then spares_of hs else (own_entry h ++ spares_of hs)

  -- what the parts of these entries use together
  abbrev pub used_sum : Meter V → List (Entry V) → ℕ
  used_sum m [] = 0
  used_sum m (e ∷ es) = m.used e.part + used_sum m es

  -- each entry has a slot and a caller of its own, and its part fits
  pub record AreApart (m : Meter V) (life : ℕ) (es : List (Entry V)) : Type 0 where
    pub slots : Differ (map slot es)
    pub callers : Differ (map caller es)
    pub small : (i : ℕ) (e : Entry V) → get_elem? es i ≡ some e → e.slot < slot_count
    pub parts : (i : ℕ) (e : Entry V) → get_elem? es i ≡ some e → Fits m life e.caller e.part

abbrev pub hand_of : ListSeat → Hand Mark
hand_of s = hand (view s)

-- the value of the seat's slot is in it
abbrev pub Rested : ListSeat → Type 0
Rested s = (part : Mark) × (out (view s) ≡ Rests part)

-- the slots of the seats that never joined the list, each with its caller, in the order of the seats
abbrev pub slots_of : List ListSeat → List (ℕ × ℕ)
slots_of [] = []
slots_of (s ∷ ss) = if s.linked then slots_of ss else ((s.slot, s.caller) ∷ slots_of ss)

module _ {V : Type 0} where
  -- these are all seats of the list, and each one's slot is home
  pub record AreAll (list : ArenaList V) (seats : List ListSeat) : Type 0 where
    -- no more than these were made, so as many are all
    pub enough : length (callers_of list) ≤ length seats
    pub each : (k : ℕ) (s : ListSeat) → get_elem? seats k ≡ some s → IsSeatOf list s × Rested s

module _ {V : Type 0} (c : Coded V) (m : Meter V) where
  -- the entry is that of the seat's caller, whose slot this is: it has the value that the slot had
  pub record IsEntryAt (slot : Option ℕ) (s : ListSeat) (e : Entry V) : Type 0 where
    pub slot_is : slot ≡ Some e.slot
    pub caller_is : who (view s) ≡ e.caller
    pub value : HasValue c m s e.part

  -- the entry of a seat whose slot is in the list, and of one whose slot is a spare
  abbrev pub IsJoined : ListSeat → Entry V → Type 0
  IsJoined s e = IsEntryAt (mine (view s)) s e

  abbrev pub IsSpare : ListSeat → Entry V → Type 0
  IsSpare s e = IsEntryAt (spare (view s)) s e

  -- these are the linked entries, oldest first, of a list that was closed with all its seats. Those that it was made with begin them, and its wards are among them
  pub record AreLinked (wards begun : List (Entry V)) (seats : List ListSeat) (es : List (Entry V)) : Type 0 where
    -- each is that of a seat whose slot is in the list, or a ward
    pub known : (e : Entry V) → IsAmong es e → ((k : ℕ) × (s : ListSeat) × (get_elem? seats k ≡ some s) × IsJoined s e) ⊎ IsAmong wards e
    -- each seat whose slot is in the list has its entry among them
    pub joined : (k : ℕ) (s : ListSeat) (slot : ℕ) → get_elem? seats k ≡ some s → mine (view s) ≡ Some slot → (e : Entry V) × IsAmong es e × IsJoined s e
    -- and where a value was in the slot, it is in the entry
    pub valued : (k : ℕ) (s : ListSeat) (slot : ℕ) (part : V) → get_elem? seats k ≡ some s → mine (view s) ≡ Some slot → HasValue c m s part → IsAmong es (entry slot (who (view s)) part)
    pub wards_are : (e : Entry V) → IsAmong wards e → IsAmong es e
    -- what a seat had seen begins the list, and so do the nodes that it was made with
    pub seen : (k : ℕ) (s : ListSeat) → get_elem? seats k ≡ some s → Begins (view s).seen (map node_of es)
    pub founded : Begins (map node_of begun) (map node_of es)

  -- these are the entries of the seats whose slots never came into the list, in the order of the seats
  pub record AreSpares (seats : List ListSeat) (es : List (Entry V)) : Type 0 where
    pub known : (e : Entry V) → IsAmong es e → (k : ℕ) × (s : ListSeat) × (get_elem? seats k ≡ some s) × IsSpare s e
    pub there : (k : ℕ) (s : ListSeat) (slot : ℕ) → get_elem? seats k ≡ some s → spare (view s) ≡ Some slot → (e : Entry V) × IsAmong es e × IsSpare s e
    pub order : map (marked_entry c m) es ≡ spares_of (map hand_of seats)
