-- The seats that `make` gives, while their slots are filled and after that.
use Rattle.std.specs.Prelude.{◌≡◌, ◌≢◌, ℕ, ◌++◌, List, [], ◌∷◌, Option, Some, None, length, map, replicate}
use mathlib.Core.Option.{some}
use lib.ListN.{get_elem?}
use base.Stored.{Coded}
use Rattle.atomic_table.specs.Seated.{TableId}
use Rattle.arena_list.specs.declared.entry.Entry.{Entry}
use Rattle.arena_list.specs.declared.for_clauses.founding.Founding.{Founding}
use Rattle.arena_list.specs.declared.list.ListSeat.{ListSeat}
use Rattle.arena_list.specs.declared.for_clauses.view.Hold.TheVariants.{Vacant}
use Rattle.arena_list.specs.declared.for_clauses.mark.Mark.{Mark}
use Rattle.arena_list.specs.declared.for_clauses.view.View.{View}
use Rattle.arena_list.specs.Words.Core.{slot_count}
use Rattle.arena_list.specs.Rule.Founded.{Meter, entry_of, hand_for, node_of, others_of}
use Rattle.arena_list.specs.Marks.OfParts.{marks, mark, marked_founding}
use Rattle.arena_list.specs.Rule.Views.{who, mine, spare, HasSeenOwn}
use Rattle.arena_list.specs.Steps.After.{settled}
use Rattle.arena_list.specs.declared.list.ArenaList.{ArenaList}
use Rattle.arena_list.specs.Calls.Seats.{view, life_of, founding_of, callers_of, wards_of, IsSeatOf, IsAmong, HasValue, RestsIn}

module _ {V : Type 0} where
  -- the view of a caller's seat whose slot isn't filled yet
  abbrev pub claimed_view : Founding V → ℕ → View V
  claimed_view k who = record { hands = record (hand_for k who) { hold = Vacant } ∷ []; seen = map node_of k.linked.items; list_steps = 0; sizes = replicate slot_count 0; base = k; pasts = [] }

module _ {V : Type 0} (c : Coded V) (m : Meter V) where
  abbrev pub given : View Mark → Option (Entry V) → View Mark
  given v None = v
  given v (Some e) = settled marks v (mark c m e.part)

  -- the same where these entries have filled their slots
  abbrev pub view_with : Founding V → List (Entry V) → ℕ → View Mark
  view_with k done who = given (claimed_view (marked_founding c m k) who) (entry_of done who)

  -- the seats of these callers, in their order, with these entries given
  pub record AreSeats (k : Founding V) (table : TableId) (callers : List ℕ) (done : List (Entry V)) (seats : List ListSeat) : Type 0 where
    pub count : length seats ≡ length callers
    pub each : (i who : ℕ) (s : ListSeat) → get_elem? callers i ≡ some who → get_elem? seats i ≡ some s → (s.badge.table_id ≡ table) × (view s ≡ view_with k done who)

  -- an entry was given to its caller's seat, and the other seats are as they were
  pub record Places (callers : List ℕ) (e : Entry V) (old new : List ListSeat) : Type 0 where
    pub count : length new ≡ length old
    pub each : (i who : ℕ) (s t : ListSeat) → get_elem? callers i ≡ some who → get_elem? old i ≡ some s → get_elem? new i ≡ some t
        → (t.badge.table_id ≡ s.badge.table_id) × (who ≡ e.caller → view t ≡ settled marks (view s) (mark c m e.part)) × (who ≢ e.caller → view t ≡ view s)

  -- The seat that `make` gives a caller. Its slot is that of the caller's linked entry, or else of its spare one, and has the entry's value
  pub record IsFirst (list : ArenaList V) (linked spares : List (Entry V)) (caller : ℕ) (s : ListSeat) : Type 0 where
    pub of_list : IsSeatOf list s
    pub who_is : who (view s) ≡ caller
    -- the caller has an entry, a linked one or a spare one
    pub entry : (e : Entry V) × IsAmong (linked ++ spares) e × (e.caller ≡ caller)
    pub own : (k : ℕ) (e : Entry V) → get_elem? linked k ≡ some e → e.caller ≡ caller → mine (view s) ≡ Some e.slot
    pub own_value : (k : ℕ) (e : Entry V) → get_elem? linked k ≡ some e → e.caller ≡ caller → HasValue c m s e.part
    pub beside : (k : ℕ) (e : Entry V) → get_elem? spares k ≡ some e → e.caller ≡ caller → spare (view s) ≡ Some e.slot
    pub beside_value : (k : ℕ) (e : Entry V) → get_elem? spares k ≡ some e → e.caller ≡ caller → HasValue c m s e.part
    pub rests : RestsIn list s
    pub no_step : (view s).list_steps ≡ 0
    pub seen_is : (view s).seen ≡ map node_of linked
    pub seen_own : HasSeenOwn (view s)
    pub base_is : (view s).base ≡ marked_founding c m (founding_of list)
    -- its whole view: no node is noted, no other seat came to it, and of all used sums its own alone was shown
    pub opening : (e : Entry V) × (entry_of (linked ++ spares) caller ≡ Some e) × (view s ≡ settled marks (claimed_view (marked_founding c m (founding_of list)) caller) (mark c m e.part))

  -- a first seat for each of these callers, in their order
  pub record AreFirst (list : ArenaList V) (linked spares : List (Entry V)) (callers : List ℕ) (seats : List ListSeat) : Type 0 where
    pub count : length seats ≡ length callers
    pub each : (i caller : ℕ) (s : ListSeat) → get_elem? callers i ≡ some caller → get_elem? seats i ≡ some s → IsFirst list linked spares caller s

module _ {V : Type 0} where
  -- the list has this life and these entries and callers
  pub record IsMadeOf (life : ℕ) (linked spares : List (Entry V)) (callers : List ℕ) (list : ArenaList V) : Type 0 where
    pub life_is : life_of list ≡ life
    pub linked_are : (founding_of list).linked.items ≡ linked
    pub spares_are : (founding_of list).spare.items ≡ spares
    pub callers_are : callers_of list ≡ callers
    pub wards_are : wards_of list ≡ others_of linked callers
