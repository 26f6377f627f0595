use Rattle.std.proofs.Common.{rules, arith, ap, sym, subst, refl, eqb, length, ◌≡◌, ◌≢◌, ◌<◌, ◌∙◌, ◌+◌, ◌*◌, ◌/◌, ◌%◌, ◌^◌, []}
use mathlib.Core.Option.{none}
use mathlib.Core.Logic.{dite}
use native.Mathlib.Decide.{ℕ_discrete}
use prog.Atomic.{either}
use Rattle.arena_list.specs.declared.for_clauses.mark.Mark.{Mark}
use Rattle.arena_list.specs.declared.for_clauses.view.View.{View}
use Rattle.arena_list.specs.Words.Nodes.{Begins}
use Rattle.atomic_table.specs.Table.{step}
use Rattle.arena_list.specs.Rule.Founded.{meter}
use Rattle.arena_list.specs.Marks.OfParts.{marks, marked_founding}
use Rattle.arena_list.specs.Calls.Seats.{view}
use Rattle.arena_list.specs.Steps.After.{noted, looked}
use Rattle.arena_list.specs.Steps.Tales.{stored_node, tried_link}
use Rattle.arena_list.proofs.Marks.Badges.{up, allows, tells, no_slot, lone, seated_laid, laid_view, seen}
use Rattle.arena_list.proofs.Calls.SeatFacts.{note_step, link_step, seated_linked, seated_missed}
use Rattle.arena_list.proofs.list.ArenaList.try_link.Goals as goal

pub store-requires : goal.store-requires
store-requires g c = let o = c.args.seat.now.seated in let v = view c.args.seat.now in let k = c.args.self.now.table.shared.key in let z = marked_founding g.row.V.coded (meter g.V.Part.owner_of g.V.Part.life_of g.V.Part.used_of) k in let spare = o.linked_is ∙ c.requires.spare in (
  search rules,
  (let w = c.args.self.now.sized.0 in let s = o.slot_small in omega arith),
  allows g.row.V.coded (meter g.V.Part.owner_of g.V.Part.life_of g.V.Part.used_of) k _ _ c.take_up-own.result.me _ (λ _. c.args.seat.now.caller * 2 ^ 32 + c.args.seat.now.head % 2 ^ 32) (λ x r y. stored_node (step 0 0 0 0 none) x 0 y) (v, []) (up g.row.V.coded (meter g.V.Part.owner_of g.V.Part.life_of g.V.Part.used_of) c.take_up-own.result.me v c.take_up-own.ensures.me) (note_step marks z _ _ _ _ o spare refl refl),
)

pub compare_exchange-found-requires : goal.compare_exchange-found-requires
compare_exchange-found-requires g c = let o = c.args.seat.now.seated in let v = view c.args.seat.now in let k = c.args.self.now.table.shared.key in let z = marked_founding g.row.V.coded (meter g.V.Part.owner_of g.V.Part.life_of g.V.Part.used_of) k in let spare = o.linked_is ∙ c.requires.spare in let s = c.store.ensures.2 ∙ ap (λ x. (noted x.0, x.1)) (up g.row.V.coded (meter g.V.Part.owner_of g.V.Part.life_of g.V.Part.used_of) c.take_up-own.result.me v c.take_up-own.ensures.me) in (
  search rules,
  search rules,
  allows g.row.V.coded (meter g.V.Part.owner_of g.V.Part.life_of g.V.Part.used_of) k _ _ c.store.new.seat.me 0 (λ n. either (eqb n c.args.seat.now.head) ((c.args.seat.now.head / 2 ^ 32 + 1) * 2 ^ 32 + c.args.seat.now.slot + 1) n) (tried_link marks (step 0 0 c.args.seat.now.head 0 none)) (noted v, []) s (link_step marks z _ _ _ (noted v, []) o spare refl refl),
)

pub into_badge-requires : goal.into_badge-requires
into_badge-requires g c = let o = c.args.seat.now.seated in let v = view c.args.seat.now in let k = c.args.self.now.table.shared.key in let z = marked_founding g.row.V.coded (meter g.V.Part.owner_of g.V.Part.life_of g.V.Part.used_of) k in let spare = o.linked_is ∙ c.requires.spare in let s = c.store.ensures.2 ∙ ap (λ x. (noted x.0, x.1)) (up g.row.V.coded (meter g.V.Part.owner_of g.V.Part.life_of g.V.Part.used_of) c.take_up-own.result.me v c.take_up-own.ensures.me) in
    let t = tells g.row.V.coded (meter g.V.Part.owner_of g.V.Part.life_of g.V.Part.used_of) (tried_link marks (step 0 0 c.args.seat.now.head 0 none)) c.store.new.seat.me c.compare_exchange-found.new.seat.me c.compare_exchange-found.result (noted v, []) s c.compare_exchange-found.ensures.2 in let r = c.compare_exchange-found.result in
    no_slot g.row.V.coded (meter g.V.Part.owner_of g.V.Part.life_of g.V.Part.used_of) c.compare_exchange-found.new.seat.me.1 (dite (ℕ_discrete r c.args.seat.now.head) (λ (e : r ≡ c.args.seat.now.head). ap (λ x. x.1) (t.0 e).0) (λ (ne : r ≢ c.args.seat.now.head). ap (λ x. x.1) (t.1 ne).0.0))

pub invariant_of-seat : goal.invariant_of-seat
invariant_of-seat g c = let o = c.args.seat.now.seated in let v = view c.args.seat.now in let k = c.args.self.now.table.shared.key in let z = marked_founding g.row.V.coded (meter g.V.Part.owner_of g.V.Part.life_of g.V.Part.used_of) k in let spare = o.linked_is ∙ c.requires.spare in let s = c.store.ensures.2 ∙ ap (λ x. (noted x.0, x.1)) (up g.row.V.coded (meter g.V.Part.owner_of g.V.Part.life_of g.V.Part.used_of) c.take_up-own.result.me v c.take_up-own.ensures.me) in
    let t = tells g.row.V.coded (meter g.V.Part.owner_of g.V.Part.life_of g.V.Part.used_of) (tried_link marks (step 0 0 c.args.seat.now.head 0 none)) c.store.new.seat.me c.compare_exchange-found.new.seat.me c.compare_exchange-found.result (noted v, []) s c.compare_exchange-found.ensures.2 in let e = t.0 c.if-found-seat.true in record {
      one = lone c.into_badge.result.views c.compare_exchange-found.new.seat.me.0 c.into_badge.ensures.2;
      seated = seated_laid g.row.V.coded (meter g.V.Part.owner_of g.V.Part.life_of g.V.Part.used_of) c.into_badge.result.views c.compare_exchange-found.new.seat.me c.into_badge.ensures.2 (seated_linked marks (seen g.row.V.coded (meter g.V.Part.owner_of g.V.Part.life_of g.V.Part.used_of) c.compare_exchange-found.new.seat.me) _ o e.0 e.1 refl);
    }

pub invariant_of-seat-2 : goal.invariant_of-seat-2
invariant_of-seat-2 g c = let o = c.args.seat.now.seated in let v = view c.args.seat.now in let k = c.args.self.now.table.shared.key in let z = marked_founding g.row.V.coded (meter g.V.Part.owner_of g.V.Part.life_of g.V.Part.used_of) k in let spare = o.linked_is ∙ c.requires.spare in let s = c.store.ensures.2 ∙ ap (λ x. (noted x.0, x.1)) (up g.row.V.coded (meter g.V.Part.owner_of g.V.Part.life_of g.V.Part.used_of) c.take_up-own.result.me v c.take_up-own.ensures.me) in
    let t = tells g.row.V.coded (meter g.V.Part.owner_of g.V.Part.life_of g.V.Part.used_of) (tried_link marks (step 0 0 c.args.seat.now.head 0 none)) c.store.new.seat.me c.compare_exchange-found.new.seat.me c.compare_exchange-found.result (noted v, []) s c.compare_exchange-found.ensures.2 in record {
      one = lone c.into_badge.result.views c.compare_exchange-found.new.seat.me.0 c.into_badge.ensures.2;
      seated = seated_laid g.row.V.coded (meter g.V.Part.owner_of g.V.Part.life_of g.V.Part.used_of) c.into_badge.result.views c.compare_exchange-found.new.seat.me c.into_badge.ensures.2 (seated_missed marks (step 0 0 0 0 none) _ (noted v, []) (seen g.row.V.coded (meter g.V.Part.owner_of g.V.Part.life_of g.V.Part.used_of) c.compare_exchange-found.new.seat.me) o refl (t.1 c.if-found-seat.false).0);
    }

pub returns-then-found-seat-clause-linked : goal.returns-then-found-seat-clause-linked
returns-then-found-seat-clause-linked g c = let o = c.args.seat.now.seated in let v = view c.args.seat.now in let k = c.args.self.now.table.shared.key in let z = marked_founding g.row.V.coded (meter g.V.Part.owner_of g.V.Part.life_of g.V.Part.used_of) k in let spare = o.linked_is ∙ c.requires.spare in let s = c.store.ensures.2 ∙ ap (λ x. (noted x.0, x.1)) (up g.row.V.coded (meter g.V.Part.owner_of g.V.Part.life_of g.V.Part.used_of) c.take_up-own.result.me v c.take_up-own.ensures.me) in
    let t = tells g.row.V.coded (meter g.V.Part.owner_of g.V.Part.life_of g.V.Part.used_of) (tried_link marks (step 0 0 c.args.seat.now.head 0 none)) c.store.new.seat.me c.compare_exchange-found.new.seat.me c.compare_exchange-found.result (noted v, []) s c.compare_exchange-found.ensures.2 in let e = t.0 c.if-found-seat.true in λ _. (laid_view g.row.V.coded (meter g.V.Part.owner_of g.V.Part.life_of g.V.Part.used_of) c.into_badge.result.views c.compare_exchange-found.new.seat.me c.into_badge.ensures.2 ∙ ap (λ x. x.0) e.0, e.2)

pub returns-clause-longer : goal.returns-clause-longer
returns-clause-longer g c = let o = c.args.seat.now.seated in let v = view c.args.seat.now in let k = c.args.self.now.table.shared.key in let z = marked_founding g.row.V.coded (meter g.V.Part.owner_of g.V.Part.life_of g.V.Part.used_of) k in let spare = o.linked_is ∙ c.requires.spare in let s = c.store.ensures.2 ∙ ap (λ x. (noted x.0, x.1)) (up g.row.V.coded (meter g.V.Part.owner_of g.V.Part.life_of g.V.Part.used_of) c.take_up-own.result.me v c.take_up-own.ensures.me) in
    let t = tells g.row.V.coded (meter g.V.Part.owner_of g.V.Part.life_of g.V.Part.used_of) (tried_link marks (step 0 0 c.args.seat.now.head 0 none)) c.store.new.seat.me c.compare_exchange-found.new.seat.me c.compare_exchange-found.result (noted v, []) s c.compare_exchange-found.ensures.2 in let e = t.1 c.if-found-seat.false in let is = sym (laid_view g.row.V.coded (meter g.V.Part.owner_of g.V.Part.life_of g.V.Part.used_of) c.into_badge.result.views c.compare_exchange-found.new.seat.me c.into_badge.ensures.2) in
    λ _. subst (λ (w : View Mark). (w ≡ looked (noted v) w.seen) × Begins v.seen w.seen × (length v.seen < length w.seen)) is (ap (λ x. x.0) e.0.0, e.0.2, e.1)
