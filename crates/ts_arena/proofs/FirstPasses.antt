-- What an arena's list and seats make of a shared arena and its passes.
use Rattle.std.proofs.Common.{◌≡◌, ℕ, ◌^◌, ◌<◌, Bool, true, false, List, ◌++◌, map, length, sym, refl, ap, subst, ◌∙◌, ⊎_elim, arith, Some, None}
use Rattle.std.proofs.lemmas.Option.{none-some}
use mathlib.Core.Option.{some}
use lib.ListN.{get_elem?}
use Rattle.serial_arena.specs.Serial.{SerialState}
use Rattle.ts_arena.specs.contracts.boxed.BoxedArena.{the_row}
use Rattle.arena_list.specs.declared.entry.Entry.{Entry}
use Rattle.arena_list.specs.declared.list.ArenaList.{ArenaList}
use Rattle.arena_list.specs.declared.list.ListSeat.{ListSeat}
use Rattle.arena_list.specs.declared.for_clauses.mark.Mark.{Mark}
use Rattle.arena_list.specs.declared.for_clauses.view.View.{View}
use Rattle.arena_list.specs.Rule.Founded.{Differ, slot}
use Rattle.arena_list.specs.Rule.Views.{hand, who, mine, spare, when, unless}
use Rattle.arena_list.specs.Calls.Seats.{view, IsAmong}
use Rattle.arena_list.specs.Making.Made.{IsMadeOf, IsFirst, AreFirst}
use Rattle.arena_list.proofs.Words.Lists.{at_below, at_there}
use Rattle.arena_list.proofs.Words.Few.{at_mapped, len_map}
use Rattle.arena_list.proofs.Steps.Seats.{at_append}
use Rattle.arena_list.proofs.Rule.Opening.{filter_tells}
use Rattle.arena_list.proofs.Calls.SeatFacts.{mine_tells}
use Rattle.ts_arena.specs.declared.pass.Pass.{Pass}
use Rattle.ts_arena.specs.Arena.{ArenaState, IsArena, IsOwned, AreHeld}
use Rattle.ts_arena.specs.Sharing.{Owners, AreSpares}
use Rattle.ts_arena.proofs.Slots.{has_entry}
use Rattle.ts_arena.specs.Passes.{SharedState, serial_meter, pass_of, IsPassOf, IsShared, IsSharedFrom, IsFirstPass, AreFirstPasses, adopted_used, entries_of}

-- a slot that isn't in the list is a spare
pub spare_tells : (v : View Mark) (s : ℕ) → spare v ≡ Some s → (mine v ≡ None) × ((hand v).slot ≡ s)
spare_tells v s e = told (hand v).linked (hand v).slot s e where
  told : (b : Bool) (t s : ℕ) → unless b t ≡ Some s → (when b t ≡ None) × (t ≡ s)
  told true t s e = absurd (none-some s e)
  told false t s e = (refl, cc)

module _ (a : ArenaState) (is : IsArena a) (callers : List ℕ) (spares : Owners) (are : AreSpares a.policy a.life a.owners callers spares) (held : AreHeld a.life a.policy (a.owners ++ spares)) (list : ArenaList SerialState) (made : IsMadeOf a.life a.owners spares callers list) where
  abbrev shared : SharedState
  shared = record { life = a.life; policy = a.policy; list = list; adopted = a.adopted }

  pub shared_is : (count used : ℕ) → count ≡ length callers → used ≡ adopted_used shared → used < 2 ^ 127 → IsShared shared count used
  shared_is count used n u small = record {
    born = is.born;
    policy = is.policy;
    life_is = made.life_is;
    slots = subst (λ (z : Owners × Owners). Differ (map slot (z.0 ++ z.1))) (λ i. (sym made.linked_are i, sym made.spares_are i)) held.slots;
    resting_are = λ e among. let at = filter_tells _ a.owners among.0 e (sym (ap (λ (l : Owners). get_elem? l among.0) made.wards_are) ∙ among.1) in is.owners.held.each at.0 e at.1;
    adopted = is.adopted;
    made_is = n ∙ sym (ap length made.callers_are);
    used_is = u;
    small = small;
  }

  pub shared_from : IsSharedFrom a callers shared
  shared_from = record { life_is = refl; policy_is = refl; adopted_are = refl; begun = made.linked_are; resting_are = made.wards_are; made = ap length made.callers_are }

  among_made : (e : Entry SerialState) → IsAmong (a.owners ++ spares) e → IsAmong (entries_of shared) e
  among_made e among = subst (λ (z : Owners × Owners). IsAmong (z.0 ++ z.1) e) (λ i. (sym made.linked_are i, sym made.spares_are i)) among

  module _ (caller : ℕ) (s : ListSeat) (first : IsFirst the_row.coded serial_meter list a.owners spares caller s) where
    abbrev pass : Pass
    pass = pass_of a.life s

    owned_as : (e : Entry SerialState) (k : ℕ) → (hand (view s)).slot ≡ k → k ≡ e.slot → e.caller ≡ caller → IsOwned a.life a.policy e.slot e.caller e.part → IsOwned a.life a.policy (hand (view s)).slot (who (view s)) e.part
    owned_as e k p q w o = subst (λ (z : ℕ × ℕ). IsOwned a.life a.policy z.0 z.1 e.part) (λ i. (sym (p ∙ q) i, (w ∙ sym first.who_is) i)) o

    linked_pass : (k : ℕ) (e : Entry SerialState) → IsAmong (a.owners ++ spares) e → get_elem? a.owners k ≡ some e → e.caller ≡ caller → IsPassOf shared pass
    linked_pass k e among at own = let tells = mine_tells (view s) e.slot (first.own k e at own) in record {
      of_list = first.of_list;
      life_is = refl;
      part = e.part;
      has_part = first.own_value k e at own;
      owned = owned_as e e.slot tells.1 refl own (is.owners.held.each k e at);
      entry = has_entry shared e (among_made e among) _ _ (sym tells.1) (own ∙ sym first.who_is);
      empty = λ none. absurd (none-some e.slot (sym none ∙ first.own k e at own));
    }

    spare_pass : (k : ℕ) (e : Entry SerialState) → IsAmong (a.owners ++ spares) e → get_elem? spares k ≡ some e → IsOwned a.life a.policy e.slot e.caller e.part → e.caller ≡ caller → IsPassOf shared pass
    spare_pass k e among at o own = let tells = spare_tells (view s) e.slot (first.beside k e at own) in record {
      of_list = first.of_list;
      life_is = refl;
      part = e.part;
      has_part = first.beside_value k e at own;
      owned = owned_as e e.slot tells.1 refl own o;
      entry = has_entry shared e (among_made e among) _ _ (sym tells.1) (own ∙ sym first.who_is);
      empty = λ none. let same = are.empty k e at in record { no_placements = ap (λ (s : SerialState). s.placements) same; no_buffers = ap (λ (s : SerialState). s.kept) same };
    }

    pass_is : IsPassOf shared pass
    pass_is = let e = first.entry in let at = e.1 in ⊎_elim
        (λ t. linked_pass at.0 e.0 at t e.2)
        (λ t. spare_pass t.0 e.0 at t.2 (held.each at.0 e.0 at.1) e.2)
        (at_append a.owners spares at.0 e.0 at.1)

    pub first_pass : IsFirstPass shared a.owners spares caller pass
    first_pass = record {
      made = pass_is;
      who = first.who_is;
      no_step = first.no_step;
      own = λ k e at own. (first.own k e at own, first.own_value k e at own);
      beside = λ k e at own. let tells = spare_tells (view s) e.slot (first.beside k e at own) in (tells.0, tells.1, first.beside_value k e at own);
    }

  pub first_passes : (seats : List ListSeat) (passes : List Pass) → passes ≡ map (pass_of a.life) seats → AreFirst the_row.coded serial_meter list a.owners spares callers seats → AreFirstPasses a callers shared passes
  first_passes seats passes e first = subst (AreFirstPasses a callers shared) (sym e) (record {
    count = len_map (pass_of a.life) seats ∙ first.count;
    all = λ k p at. let m = at_mapped (pass_of a.life) seats k p at in let low = at_below seats k m.0 m.1 in let c = at_there callers k (let n = first.count in omega arith) in
        subst (IsPassOf shared) m.2 (first_pass c.0 m.0 (first.each k c.0 m.0 c.1 m.1)).made;
    spares = spares;
    spares_are = are;
    each = λ i c p at_caller at_pass. let m = at_mapped (pass_of a.life) seats i p at_pass in subst (IsFirstPass shared a.owners spares c) m.2 (first_pass c m.0 (first.each i c m.0 at_caller m.1));
  })
