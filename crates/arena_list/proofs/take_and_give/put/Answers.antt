use Rattle.std.proofs.Common.{rules, arith, refl, ap, ◌∙◌, ℕ, ◌*◌, ◌+◌, [], ◌∷◌, Some, None}
use mathlib.Core.Option.{none}
use Rattle.atomic_table.specs.Table.{step}
use Rattle.arena_list.specs.declared.for_clauses.mark.Mark.{Mark}
use Rattle.arena_list.specs.declared.for_clauses.view.Hold.TheVariants.{Rests}
use Rattle.arena_list.specs.Words.Written.{value_at}
use Rattle.arena_list.specs.Rule.Founded.{meter}
use Rattle.arena_list.specs.Marks.OfParts.{marks, mark, marked_founding}
use Rattle.arena_list.specs.Calls.Seats.{view}
use Rattle.arena_list.specs.Steps.Tales.{Sat, claimed, gave, sole}
use Rattle.arena_list.proofs.Marks.Badges.{up, allows, tells, no_slot, one_empty, filled, some_out, lone, seated_laid, laid_view, seen}
use Rattle.arena_list.proofs.Marks.Marked.{fits_marked}
use Rattle.arena_list.proofs.Calls.SeatFacts.{filling, claim_step, claimed_none, front, give_step, gave_after, gave_more, gave_seen, seated_hold}
use Rattle.arena_list.proofs.Calls.Sums.{shown_given}
use Rattle.arena_list.proofs.take_and_give.put.Goals as goal

pub load-requires : goal.load-requires
load-requires g c = let o = c.args.seat.now.seated in let v = view c.args.seat.now in let k = c.args.words.now.key in let z = marked_founding g.row.V.coded (meter g.V.Part.owner_of g.V.Part.life_of g.V.Part.used_of) k in let n = c.args.seat.now.slot in let q = mark g.row.V.coded (meter g.V.Part.owner_of g.V.Part.life_of g.V.Part.used_of) c.args.part in (
  search rules,
  (let w = c.requires.list.1 in let s = o.slot_small in omega arith),
  allows g.row.V.coded (meter g.V.Part.owner_of g.V.Part.life_of g.V.Part.used_of) k _ _ c.take_up-own.result.me _ (λ n. n) (claimed marks (step 0 0 0 0 none)) (v, []) (up g.row.V.coded (meter g.V.Part.owner_of g.V.Part.life_of g.V.Part.used_of) c.take_up-own.result.me v c.take_up-own.ensures.me) (claim_step marks z _ _ _ o c.requires.out (omega arith)),
)

pub exchange-requires : goal.exchange-requires
exchange-requires g c = let o = c.args.seat.now.seated in let v = view c.args.seat.now in let k = c.args.words.now.key in let z = marked_founding g.row.V.coded (meter g.V.Part.owner_of g.V.Part.life_of g.V.Part.used_of) k in let n = c.args.seat.now.slot in let q = mark g.row.V.coded (meter g.V.Part.owner_of g.V.Part.life_of g.V.Part.used_of) c.args.part in
    let t = tells g.row.V.coded (meter g.V.Part.owner_of g.V.Part.life_of g.V.Part.used_of) (claimed marks (step 0 0 0 0 none)) c.take_up-own.result.me c.load.new.seat.me c.load.result (v, []) (up g.row.V.coded (meter g.V.Part.owner_of g.V.Part.life_of g.V.Part.used_of) c.take_up-own.result.me v c.take_up-own.ensures.me) c.load.ensures.2 in let l = claimed_none marks (seen g.row.V.coded (meter g.V.Part.owner_of g.V.Part.life_of g.V.Part.used_of) c.load.new.seat.me) o t in let e = one_empty g.row.V.coded (meter g.V.Part.owner_of g.V.Part.life_of g.V.Part.used_of) c.load.new.seat.me.1 (value_at n) (ap (λ x. x.1) l) in (search rules, front c.load.new.seat.me.1 (value_at n) None e)

pub unreachable-requires : goal.unreachable-requires
unreachable-requires g c = let o = c.args.seat.now.seated in let v = view c.args.seat.now in let k = c.args.words.now.key in let z = marked_founding g.row.V.coded (meter g.V.Part.owner_of g.V.Part.life_of g.V.Part.used_of) k in let n = c.args.seat.now.slot in let q = mark g.row.V.coded (meter g.V.Part.owner_of g.V.Part.life_of g.V.Part.used_of) c.args.part in
    let t = tells g.row.V.coded (meter g.V.Part.owner_of g.V.Part.life_of g.V.Part.used_of) (claimed marks (step 0 0 0 0 none)) c.take_up-own.result.me c.load.new.seat.me c.load.result (v, []) (up g.row.V.coded (meter g.V.Part.owner_of g.V.Part.life_of g.V.Part.used_of) c.take_up-own.result.me v c.take_up-own.ensures.me) c.load.ensures.2 in let l = claimed_none marks (seen g.row.V.coded (meter g.V.Part.owner_of g.V.Part.life_of g.V.Part.used_of) c.load.new.seat.me) o t in let e = one_empty g.row.V.coded (meter g.V.Part.owner_of g.V.Part.life_of g.V.Part.used_of) c.load.new.seat.me.1 (value_at n) (ap (λ x. x.1) l) in some_out g.row.V.coded (meter g.V.Part.owner_of g.V.Part.life_of g.V.Part.used_of) c.load.new.seat.me.1 (value_at n) _ c.exchange.result e c.exchange.ensures.2 c.in-Some.is

pub store-requires : goal.store-requires
store-requires g c = let o = c.args.seat.now.seated in let v = view c.args.seat.now in let k = c.args.words.now.key in let z = marked_founding g.row.V.coded (meter g.V.Part.owner_of g.V.Part.life_of g.V.Part.used_of) k in let n = c.args.seat.now.slot in let q = mark g.row.V.coded (meter g.V.Part.owner_of g.V.Part.life_of g.V.Part.used_of) c.args.part in
    let t = tells g.row.V.coded (meter g.V.Part.owner_of g.V.Part.life_of g.V.Part.used_of) (claimed marks (step 0 0 0 0 none)) c.take_up-own.result.me c.load.new.seat.me c.load.result (v, []) (up g.row.V.coded (meter g.V.Part.owner_of g.V.Part.life_of g.V.Part.used_of) c.take_up-own.result.me v c.take_up-own.ensures.me) c.load.ensures.2 in let l = claimed_none marks (seen g.row.V.coded (meter g.V.Part.owner_of g.V.Part.life_of g.V.Part.used_of) c.load.new.seat.me) o t in let e = one_empty g.row.V.coded (meter g.V.Part.owner_of g.V.Part.life_of g.V.Part.used_of) c.load.new.seat.me.1 (value_at n) (ap (λ x. x.1) l) in let w : Sat Mark = (filling marks (v, []), (value_at n, Some q) ∷ []) in let holds = ap (seen g.row.V.coded (meter g.V.Part.owner_of g.V.Part.life_of g.V.Part.used_of)) (filled g.row.V.coded (meter g.V.Part.owner_of g.V.Part.life_of g.V.Part.used_of) (value_at n) None (Some c.args.part) c.load.new.seat.me c.exchange.new.seat.me e c.exchange.ensures.3) ∙ (λ i. ((l i).0, (value_at n, Some q) ∷ [])) in (
      search rules,
      (let w = c.requires.list.1 in let s = o.slot_small in omega arith),
      allows g.row.V.coded (meter g.V.Part.owner_of g.V.Part.life_of g.V.Part.used_of) k _ _ c.exchange.new.seat.me _ (λ _. 2 * c.used-used.result + 1) (λ x r y. gave marks (step 0 0 0 0 none) x 0 y) w holds (give_step marks z _ _ _ _ w q o refl c.requires.more (fits_marked g.row.V.coded (meter g.V.Part.owner_of g.V.Part.life_of g.V.Part.used_of) k.life _ c.args.part c.requires.part) (omega arith) (ap (λ (u : ℕ). 2 * u + 1) c.used-used.ensures) c.requires.out),
    )

pub into_badge-requires : goal.into_badge-requires
into_badge-requires g c = let o = c.args.seat.now.seated in let v = view c.args.seat.now in let k = c.args.words.now.key in let z = marked_founding g.row.V.coded (meter g.V.Part.owner_of g.V.Part.life_of g.V.Part.used_of) k in let n = c.args.seat.now.slot in let q = mark g.row.V.coded (meter g.V.Part.owner_of g.V.Part.life_of g.V.Part.used_of) c.args.part in
    let t = tells g.row.V.coded (meter g.V.Part.owner_of g.V.Part.life_of g.V.Part.used_of) (claimed marks (step 0 0 0 0 none)) c.take_up-own.result.me c.load.new.seat.me c.load.result (v, []) (up g.row.V.coded (meter g.V.Part.owner_of g.V.Part.life_of g.V.Part.used_of) c.take_up-own.result.me v c.take_up-own.ensures.me) c.load.ensures.2 in let l = claimed_none marks (seen g.row.V.coded (meter g.V.Part.owner_of g.V.Part.life_of g.V.Part.used_of) c.load.new.seat.me) o t in let e = one_empty g.row.V.coded (meter g.V.Part.owner_of g.V.Part.life_of g.V.Part.used_of) c.load.new.seat.me.1 (value_at n) (ap (λ x. x.1) l) in let w : Sat Mark = (filling marks (v, []), (value_at n, Some q) ∷ []) in let holds = ap (seen g.row.V.coded (meter g.V.Part.owner_of g.V.Part.life_of g.V.Part.used_of)) (filled g.row.V.coded (meter g.V.Part.owner_of g.V.Part.life_of g.V.Part.used_of) (value_at n) None (Some c.args.part) c.load.new.seat.me c.exchange.new.seat.me e c.exchange.ensures.3) ∙ (λ i. ((l i).0, (value_at n, Some q) ∷ [])) in let u = tells g.row.V.coded (meter g.V.Part.owner_of g.V.Part.life_of g.V.Part.used_of) (λ x r y. gave marks (step 0 0 0 0 none) x 0 y) c.exchange.new.seat.me c.store.new.seat.me 0 w holds c.store.ensures.2 in let is = gave_after marks (step 0 0 0 0 none) 0 n q (v, []) w (seen g.row.V.coded (meter g.V.Part.owner_of g.V.Part.life_of g.V.Part.used_of) c.store.new.seat.me) refl o.slot_is u in no_slot g.row.V.coded (meter g.V.Part.owner_of g.V.Part.life_of g.V.Part.used_of) c.store.new.seat.me.1 (ap (λ x. x.1) is)

pub invariant_of-seat : goal.invariant_of-seat
invariant_of-seat g c = let o = c.args.seat.now.seated in let v = view c.args.seat.now in let k = c.args.words.now.key in let z = marked_founding g.row.V.coded (meter g.V.Part.owner_of g.V.Part.life_of g.V.Part.used_of) k in let n = c.args.seat.now.slot in let q = mark g.row.V.coded (meter g.V.Part.owner_of g.V.Part.life_of g.V.Part.used_of) c.args.part in
    let t = tells g.row.V.coded (meter g.V.Part.owner_of g.V.Part.life_of g.V.Part.used_of) (claimed marks (step 0 0 0 0 none)) c.take_up-own.result.me c.load.new.seat.me c.load.result (v, []) (up g.row.V.coded (meter g.V.Part.owner_of g.V.Part.life_of g.V.Part.used_of) c.take_up-own.result.me v c.take_up-own.ensures.me) c.load.ensures.2 in let l = claimed_none marks (seen g.row.V.coded (meter g.V.Part.owner_of g.V.Part.life_of g.V.Part.used_of) c.load.new.seat.me) o t in let e = one_empty g.row.V.coded (meter g.V.Part.owner_of g.V.Part.life_of g.V.Part.used_of) c.load.new.seat.me.1 (value_at n) (ap (λ x. x.1) l) in let w : Sat Mark = (filling marks (v, []), (value_at n, Some q) ∷ []) in let holds = ap (seen g.row.V.coded (meter g.V.Part.owner_of g.V.Part.life_of g.V.Part.used_of)) (filled g.row.V.coded (meter g.V.Part.owner_of g.V.Part.life_of g.V.Part.used_of) (value_at n) None (Some c.args.part) c.load.new.seat.me c.exchange.new.seat.me e c.exchange.ensures.3) ∙ (λ i. ((l i).0, (value_at n, Some q) ∷ [])) in let u = tells g.row.V.coded (meter g.V.Part.owner_of g.V.Part.life_of g.V.Part.used_of) (λ x r y. gave marks (step 0 0 0 0 none) x 0 y) c.exchange.new.seat.me c.store.new.seat.me 0 w holds c.store.ensures.2 in let is = gave_after marks (step 0 0 0 0 none) 0 n q (v, []) w (seen g.row.V.coded (meter g.V.Part.owner_of g.V.Part.life_of g.V.Part.used_of) c.store.new.seat.me) refl o.slot_is u in record {
      one = lone c.into_badge.result.views c.store.new.seat.me.0 c.into_badge.ensures.2;
      seated = seated_laid g.row.V.coded (meter g.V.Part.owner_of g.V.Part.life_of g.V.Part.used_of) c.into_badge.result.views c.store.new.seat.me c.into_badge.ensures.2
          (seated_hold marks (Rests q) _ (seen g.row.V.coded (meter g.V.Part.owner_of g.V.Part.life_of g.V.Part.used_of) c.store.new.seat.me) (ap (λ x. x.0.hands) is) (ap (λ x. x.0.seen) is) (ap (λ x. x.1) is) c.used-used.ensures (let u = c.used-used.ensures in let s = c.requires.part.used in omega arith) o);
    }

pub returns-clause-view : goal.returns-clause-view
returns-clause-view g c = let o = c.args.seat.now.seated in let v = view c.args.seat.now in let k = c.args.words.now.key in let z = marked_founding g.row.V.coded (meter g.V.Part.owner_of g.V.Part.life_of g.V.Part.used_of) k in let n = c.args.seat.now.slot in let q = mark g.row.V.coded (meter g.V.Part.owner_of g.V.Part.life_of g.V.Part.used_of) c.args.part in
    let t = tells g.row.V.coded (meter g.V.Part.owner_of g.V.Part.life_of g.V.Part.used_of) (claimed marks (step 0 0 0 0 none)) c.take_up-own.result.me c.load.new.seat.me c.load.result (v, []) (up g.row.V.coded (meter g.V.Part.owner_of g.V.Part.life_of g.V.Part.used_of) c.take_up-own.result.me v c.take_up-own.ensures.me) c.load.ensures.2 in let l = claimed_none marks (seen g.row.V.coded (meter g.V.Part.owner_of g.V.Part.life_of g.V.Part.used_of) c.load.new.seat.me) o t in let e = one_empty g.row.V.coded (meter g.V.Part.owner_of g.V.Part.life_of g.V.Part.used_of) c.load.new.seat.me.1 (value_at n) (ap (λ x. x.1) l) in let w : Sat Mark = (filling marks (v, []), (value_at n, Some q) ∷ []) in let holds = ap (seen g.row.V.coded (meter g.V.Part.owner_of g.V.Part.life_of g.V.Part.used_of)) (filled g.row.V.coded (meter g.V.Part.owner_of g.V.Part.life_of g.V.Part.used_of) (value_at n) None (Some c.args.part) c.load.new.seat.me c.exchange.new.seat.me e c.exchange.ensures.3) ∙ (λ i. ((l i).0, (value_at n, Some q) ∷ [])) in let u = tells g.row.V.coded (meter g.V.Part.owner_of g.V.Part.life_of g.V.Part.used_of) (λ x r y. gave marks (step 0 0 0 0 none) x 0 y) c.exchange.new.seat.me c.store.new.seat.me 0 w holds c.store.ensures.2 in let is = gave_after marks (step 0 0 0 0 none) 0 n q (v, []) w (seen g.row.V.coded (meter g.V.Part.owner_of g.V.Part.life_of g.V.Part.used_of) c.store.new.seat.me) refl o.slot_is u in laid_view g.row.V.coded (meter g.V.Part.owner_of g.V.Part.life_of g.V.Part.used_of) c.into_badge.result.views c.store.new.seat.me c.into_badge.ensures.2 ∙ ap (λ x. x.0) is

pub returns-clause-earlier : goal.returns-clause-earlier
returns-clause-earlier g c = let o = c.args.seat.now.seated in let v = view c.args.seat.now in let k = c.args.words.now.key in let z = marked_founding g.row.V.coded (meter g.V.Part.owner_of g.V.Part.life_of g.V.Part.used_of) k in let n = c.args.seat.now.slot in let q = mark g.row.V.coded (meter g.V.Part.owner_of g.V.Part.life_of g.V.Part.used_of) c.args.part in
    let t = tells g.row.V.coded (meter g.V.Part.owner_of g.V.Part.life_of g.V.Part.used_of) (claimed marks (step 0 0 0 0 none)) c.take_up-own.result.me c.load.new.seat.me c.load.result (v, []) (up g.row.V.coded (meter g.V.Part.owner_of g.V.Part.life_of g.V.Part.used_of) c.take_up-own.result.me v c.take_up-own.ensures.me) c.load.ensures.2 in let l = claimed_none marks (seen g.row.V.coded (meter g.V.Part.owner_of g.V.Part.life_of g.V.Part.used_of) c.load.new.seat.me) o t in let e = one_empty g.row.V.coded (meter g.V.Part.owner_of g.V.Part.life_of g.V.Part.used_of) c.load.new.seat.me.1 (value_at n) (ap (λ x. x.1) l) in let w : Sat Mark = (filling marks (v, []), (value_at n, Some q) ∷ []) in let holds = ap (seen g.row.V.coded (meter g.V.Part.owner_of g.V.Part.life_of g.V.Part.used_of)) (filled g.row.V.coded (meter g.V.Part.owner_of g.V.Part.life_of g.V.Part.used_of) (value_at n) None (Some c.args.part) c.load.new.seat.me c.exchange.new.seat.me e c.exchange.ensures.3) ∙ (λ i. ((l i).0, (value_at n, Some q) ∷ [])) in let u = tells g.row.V.coded (meter g.V.Part.owner_of g.V.Part.life_of g.V.Part.used_of) (λ x r y. gave marks (step 0 0 0 0 none) x 0 y) c.exchange.new.seat.me c.store.new.seat.me 0 w holds c.store.ensures.2 in let is = gave_after marks (step 0 0 0 0 none) 0 n q (v, []) w (seen g.row.V.coded (meter g.V.Part.owner_of g.V.Part.life_of g.V.Part.used_of) c.store.new.seat.me) refl o.slot_is u in
    shown_given v (sole c.into_badge.result.views) marks q (laid_view g.row.V.coded (meter g.V.Part.owner_of g.V.Part.life_of g.V.Part.used_of) c.into_badge.result.views c.store.new.seat.me c.into_badge.ensures.2 ∙ ap (λ x. x.0) is) (gave_more marks (step 0 0 0 0 none) 0 n q (v, []) w (seen g.row.V.coded (meter g.V.Part.owner_of g.V.Part.life_of g.V.Part.used_of) c.store.new.seat.me) refl o.slot_is u)

pub returns-clause-moment : goal.returns-clause-moment
returns-clause-moment g c = let o = c.args.seat.now.seated in let v = view c.args.seat.now in let k = c.args.words.now.key in let z = marked_founding g.row.V.coded (meter g.V.Part.owner_of g.V.Part.life_of g.V.Part.used_of) k in let n = c.args.seat.now.slot in let q = mark g.row.V.coded (meter g.V.Part.owner_of g.V.Part.life_of g.V.Part.used_of) c.args.part in
    let t = tells g.row.V.coded (meter g.V.Part.owner_of g.V.Part.life_of g.V.Part.used_of) (claimed marks (step 0 0 0 0 none)) c.take_up-own.result.me c.load.new.seat.me c.load.result (v, []) (up g.row.V.coded (meter g.V.Part.owner_of g.V.Part.life_of g.V.Part.used_of) c.take_up-own.result.me v c.take_up-own.ensures.me) c.load.ensures.2 in let l = claimed_none marks (seen g.row.V.coded (meter g.V.Part.owner_of g.V.Part.life_of g.V.Part.used_of) c.load.new.seat.me) o t in let e = one_empty g.row.V.coded (meter g.V.Part.owner_of g.V.Part.life_of g.V.Part.used_of) c.load.new.seat.me.1 (value_at n) (ap (λ x. x.1) l) in let w : Sat Mark = (filling marks (v, []), (value_at n, Some q) ∷ []) in let holds = ap (seen g.row.V.coded (meter g.V.Part.owner_of g.V.Part.life_of g.V.Part.used_of)) (filled g.row.V.coded (meter g.V.Part.owner_of g.V.Part.life_of g.V.Part.used_of) (value_at n) None (Some c.args.part) c.load.new.seat.me c.exchange.new.seat.me e c.exchange.ensures.3) ∙ (λ i. ((l i).0, (value_at n, Some q) ∷ [])) in let u = tells g.row.V.coded (meter g.V.Part.owner_of g.V.Part.life_of g.V.Part.used_of) (λ x r y. gave marks (step 0 0 0 0 none) x 0 y) c.exchange.new.seat.me c.store.new.seat.me 0 w holds c.store.ensures.2 in let is = gave_after marks (step 0 0 0 0 none) 0 n q (v, []) w (seen g.row.V.coded (meter g.V.Part.owner_of g.V.Part.life_of g.V.Part.used_of) c.store.new.seat.me) refl o.slot_is u in
    gave_seen marks (step 0 0 0 0 none) 0 n q (v, []) w (seen g.row.V.coded (meter g.V.Part.owner_of g.V.Part.life_of g.V.Part.used_of) c.store.new.seat.me) refl o.slot_is u
