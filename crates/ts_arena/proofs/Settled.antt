-- What closing the list of a shared arena makes of the arena.
use Rattle.std.proofs.Common.{◌≡◌, ℕ, suc, ◌+◌, ◌≤◌, List, [], ◌∷◌, ◌++◌, map, length, sym, refl, ap, subst, ◌∙◌, ⊎_elim, inl, inr, arith}
use Rattle.std.specs.Prelude.{sum_by}
use Rattle.std.proofs.lemmas.List.{map-append}
use Rattle.std.proofs.lemmas.List.Sums.{sum_by-cons}
use mathlib.Core.Option.{some}
use lib.ListN.{get_elem?}
use Rattle.serial_arena.specs.Serial.{SerialState, used_of}
use Rattle.ts_arena.specs.contracts.boxed.BoxedArena.{the_row}
use Rattle.arena_list.specs.declared.entry.Entry.{Entry}
use Rattle.arena_list.specs.declared.list.ListSeat.{ListSeat}
use Rattle.arena_list.specs.Rule.Founded.{Differ, slot, caller}
use Rattle.arena_list.specs.Rule.Views.{shown}
use Rattle.arena_list.specs.Calls.Seats.{view, IsSeatOf, IsAmong, founding_of}
use Rattle.arena_list.specs.Closing.Closed.{used_sum, AreAll, Rested, AreApart, AreLinked, IsJoined}
use Rattle.arena_list.proofs.Words.Lists.{at_more}
use Rattle.arena_list.proofs.Words.Few.{at_map, at_mapped, len_map}
use Rattle.arena_list.proofs.Calls.SeatFacts.{mine_tells}
use Rattle.arena_list.proofs.Marks.Badges.{one_value}
use Rattle.ts_arena.specs.declared.pass.Pass.{Pass}
use Rattle.ts_arena.specs.Arena.{ArenaState, IsArena, IsOwned, used_at}
use Rattle.ts_arena.specs.Sharing.{Owners}
use Rattle.ts_arena.specs.Passes.{SharedState, serial_meter, pass_of, IsPassOf, IsShared, SeatHas, made_by, resting}
use Rattle.ts_arena.specs.Settling.{AreOwn, AreOfLife, IsSettledFrom}
use Rattle.ts_arena.proofs.Passes.{seat_of}

-- a seat's slot has one serial arena
pub one_part : (s : ListSeat) (x y : SerialState) → SeatHas s x → SeatHas s y → x ≡ y
one_part s x y a b = one_value the_row.coded serial_meter x y (sym a ∙ b)

differ_front : (xs ys : List ℕ) → Differ (xs ++ ys) → Differ xs
differ_front xs ys d i j x a b = d i j x (at_more xs ys i x a) (at_more xs ys j x b)

used_sum_is : (es : Owners) → used_sum serial_meter es ≡ sum_by used_at es
used_sum_is [] = refl
used_sum_is (e ∷ es) = ap (λ (n : ℕ). used_of e.part + n) (used_sum_is es) ∙ sym (sum_by-cons used_at e es)

-- passes from seats and back
pub passes_back : (life : ℕ) (passes : List Pass) → AreOfLife life passes → map (pass_of life) (map seat_of passes) ≡ passes
passes_back life [] all = refl
passes_back life (p ∷ ps) all = let l = sym (all 0 p refl) in let r = passes_back life ps (λ k q at. all (suc k) q at) in (λ i. record { seat = p.seat; life = l i } ∷ r i)

module _ (sh : SharedState) (made used : ℕ) (is : IsShared sh made used) (passes : List Pass) (own : AreOwn sh passes) (all : AreOfLife sh.life passes) where
  own_at : (k : ℕ) (p : Pass) → get_elem? passes k ≡ some p → IsPassOf sh p
  own_at k p at = own k p at (all k p at)

  pub all_back : made_by sh ≤ length passes → AreAll sh.list (map seat_of passes)
  all_back enough = record {
    enough = (let l = len_map seat_of passes in omega arith);
    each = λ k s at. let m = at_mapped seat_of passes k s at in let o = own_at k m.0 m.1 in
        subst (λ (z : ListSeat). IsSeatOf sh.list z × Rested z) m.2 (o.of_list, (_, o.has_part));
  }

  module _ (owners spares : Owners) (apart : AreApart serial_meter sh.life (owners ++ spares)) (linked : AreLinked the_row.coded serial_meter (resting sh) (founding_of sh.list).linked.items (map seat_of passes) owners) where
    joined_owned : (e : Entry SerialState) (p : Pass) → IsPassOf sh p → IsJoined the_row.coded serial_meter p.seat e → IsOwned sh.life sh.policy e.slot e.caller e.part
    joined_owned e p o j = let tells = mine_tells (view p.seat) e.slot j.slot_is in let same = one_part p.seat o.part e.part o.has_part j.value in
        subst (λ (z : ℕ × ℕ × SerialState). IsOwned sh.life sh.policy z.0 z.1 z.2) (λ i. (tells.1 i, j.caller_is i, same i)) o.owned

    of_pass : (e : Entry SerialState) (k : ℕ) (s : ListSeat) → get_elem? (map seat_of passes) k ≡ some s → IsJoined the_row.coded serial_meter s e → (p : Pass) × (get_elem? passes k ≡ some p) × IsJoined the_row.coded serial_meter p.seat e
    of_pass e k s at j = let m = at_mapped seat_of passes k s at in (m.0, m.1, subst (λ (z : ListSeat). IsJoined the_row.coded serial_meter z e) (sym m.2) j)

    owned : (e : Entry SerialState) → IsAmong owners e → IsOwned sh.life sh.policy e.slot e.caller e.part
    owned e among = ⊎_elim
        (λ j. let p = of_pass e j.0 j.1 j.2 j.3 in joined_owned e p.0 (own_at j.0 p.0 p.1) p.2)
        (λ w. is.resting_are e w)
        (linked.known e among)

    abbrev settled : ArenaState
    settled = record { life = sh.life; policy = sh.policy; owners = owners; adopted = sh.adopted }

    pub settled_is : IsArena settled
    settled_is = record {
      born = is.born;
      policy = is.policy;
      owners = record {
        held = record {
          slots = differ_front (map slot owners) (map slot spares) (subst Differ (map-append slot owners spares) apart.slots);
          small = λ i e at. apart.small i e (at_more owners spares i e at);
          each = λ i e at. owned e (i, at);
        };
        callers = differ_front (map caller owners) (map caller spares) (subst Differ (map-append caller owners spares) apart.callers);
      };
      adopted = is.adopted;
    }

    pub settled_from : length passes ≡ made_by sh
        → ((k : ℕ) (s : ListSeat) → get_elem? (map seat_of passes) k ≡ some s → shown (view s) ≤ used_sum serial_meter owners)
        → IsSettledFrom sh passes settled
    settled_from count used_most = record {
      all = (all, count);
      life_is = refl;
      policy_is = refl;
      adopted_are = refl;
      joined = λ k slot p part at mine_is has. linked.valued k p.seat slot part (at_map seat_of passes k p at) mine_is has;
      rested = linked.wards_are;
      known = λ e among. ⊎_elim
          (λ j. let p = of_pass e j.0 j.1 j.2 j.3 in inl (j.0, p.0, p.1, p.2.slot_is, p.2.caller_is, p.2.value))
          (λ w. inr w)
          (linked.known e among);
      begun = linked.founded;
      seen = λ k p at. linked.seen k p.seat (at_map seat_of passes k p at);
      used = λ k p at. let u = used_most k p.seat (at_map seat_of passes k p at) in let s = used_sum_is owners in omega arith;
    }
