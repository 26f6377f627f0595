use Rattle.std.proofs.Common.{arith, sym, ap, ◌∙◌, ◌≡◌, ℕ, ◌+◌, length, subst, [], get_or, take}
use mathlib.Core.Option.{some}
use lib.ListN.{get_elem?}
use Rattle.atomic_table.specs.Table.{Splits}
use Rattle.arena_list.specs.declared.for_clauses.mark.Mark.{Mark}
use Rattle.arena_list.specs.declared.for_clauses.view.View.{View}
use Rattle.arena_list.specs.Words.Nodes.{head_of}
use Rattle.arena_list.specs.Rule.Founded.{meter, hand_from}
use Rattle.arena_list.specs.Marks.OfParts.{marks, marked_founding}
use Rattle.arena_list.specs.Rule.Holds.{Holds}
use Rattle.arena_list.specs.Steps.Tales.{dealt, undealt, sole}
use Rattle.arena_list.specs.Making.Made.{AreSeats}
use Rattle.arena_list.proofs.Marks.Badges.{lone, laid_view}
use Rattle.arena_list.proofs.Marks.Marked.{fit_marked, splits_seen, nodes_marked, hand_slot, hand_linked}
use Rattle.arena_list.proofs.Steps.Seats.{splits}
use Rattle.arena_list.proofs.Making.Dealing.{remaining, remaining_next, remaining_some, seated_new, new_view, seats_none, seats_more, at_zero, take_whole}
use Rattle.arena_list.proofs.make.deal.Goals as goal

pub loop-caller-init : goal.loop-caller-init
loop-caller-init g c = (c.requires.list.0, c.requires.first, subst (λ xs. AreSeats g.row.V.coded (meter g.V.Part.owner_of g.V.Part.life_of g.V.Part.used_of) c.args.words.now.key c.args.words.now.table_id [] [] xs) (sym c.requires.room.0) (seats_none g.row.V.coded (meter g.V.Part.owner_of g.V.Part.life_of g.V.Part.used_of) c.args.words.now.key c.args.words.now.table_id c.args.words.now.key.callers.items []), c.requires.room.1)

pub split_seat-seat-requires : goal.split_seat-seat-requires
split_seat-seat-requires g c = let k = c.args.words.now.key in let z = marked_founding g.row.V.coded (meter g.V.Part.owner_of g.V.Part.life_of g.V.Part.used_of) k in let i : ℕ = c.loop-caller.caller-index in let who : ℕ = get_or c.args.callers.now i 0 in
    let at : get_elem? k.callers.items i ≡ some who = ap (λ l. get_elem? l i) c.requires.key.2 ∙ at_zero c.args.callers.now i c.loop-caller-test.true in (
      c.loop-caller.invariant.0,
      (let w = c.requires.list.1 in omega arith),
      splits_seen g.row.V.coded (meter g.V.Part.owner_of g.V.Part.life_of g.V.Part.used_of) k c.loop-caller.first.id _ _ _ (subst (λ (v : View Mark). Splits (Holds marks z) c.loop-caller.first.id v (undealt v) (dealt v)) (sym (ap (λ x. x.0) c.loop-caller.invariant.1)) (splits marks z c.loop-caller.first.id (remaining z i) (remaining_some z i who at))),
    )

pub into_badge-requires : goal.into_badge-requires
into_badge-requires g c = ap (λ x. x.1) c.split_seat-seat.ensures.4

pub invariant_of-seat : goal.invariant_of-seat
invariant_of-seat g c = let k = c.args.words.now.key in let z = marked_founding g.row.V.coded (meter g.V.Part.owner_of g.V.Part.life_of g.V.Part.used_of) k in let i : ℕ = c.loop-caller.caller-index in let who : ℕ = get_or c.args.callers.now i 0 in
    let at : get_elem? k.callers.items i ≡ some who = ap (λ l. get_elem? l i) c.requires.key.2 ∙ at_zero c.args.callers.now i c.loop-caller-test.true in
    let me = c.split_seat-seat.ensures.4 ∙ (λ x. (dealt (c.loop-caller.invariant.1 x).0, [])) in let view_is = laid_view g.row.V.coded (meter g.V.Part.owner_of g.V.Part.life_of g.V.Part.used_of) c.into_badge.result.views c.split_seat-seat.result.me c.into_badge.ensures.2 ∙ ap (λ x. x.0) me in
    let keyed = c.requires.key in let e = c.slot_for-slot.ensures in record {
      one = lone c.into_badge.result.views c.split_seat-seat.result.me.0 c.into_badge.ensures.2;
      seated = seated_new marks z (fit_marked g.row.V.coded (meter g.V.Part.owner_of g.V.Part.life_of g.V.Part.used_of) k.life k.linked.items k.spare.items k.callers.items c.requires.fit) i who at _ _ _ (sole c.into_badge.result.views, []) (λ x. (view_is x, []))
          (e.0 ∙ (λ x. (hand_from (sym keyed.0 x) (sym keyed.1 x) who).slot) ∙ sym (hand_slot g.row.V.coded (meter g.V.Part.owner_of g.V.Part.life_of g.V.Part.used_of) k.linked.items k.spare.items who))
          (e.1 ∙ (λ x. (hand_from (sym keyed.0 x) (sym keyed.1 x) who).linked) ∙ sym (hand_linked g.row.V.coded (meter g.V.Part.owner_of g.V.Part.life_of g.V.Part.used_of) k.linked.items k.spare.items who))
          (c.requires.head ∙ ap head_of (sym (nodes_marked g.row.V.coded (meter g.V.Part.owner_of g.V.Part.life_of g.V.Part.used_of) k.linked.items)));
    }

pub loop-caller-preserved : goal.loop-caller-preserved
loop-caller-preserved g c = let k = c.args.words.now.key in let z = marked_founding g.row.V.coded (meter g.V.Part.owner_of g.V.Part.life_of g.V.Part.used_of) k in let i : ℕ = c.loop-caller.caller-index in let who : ℕ = get_or c.args.callers.now i 0 in
    let at : get_elem? k.callers.items i ≡ some who = ap (λ l. get_elem? l i) c.requires.key.2 ∙ at_zero c.args.callers.now i c.loop-caller-test.true in
    let me = c.split_seat-seat.ensures.4 ∙ (λ x. (dealt (c.loop-caller.invariant.1 x).0, [])) in let view_is = laid_view g.row.V.coded (meter g.V.Part.owner_of g.V.Part.life_of g.V.Part.used_of) c.into_badge.result.views c.split_seat-seat.result.me c.into_badge.ensures.2 ∙ ap (λ x. x.0) me in
    let step = c.split_seat-seat.ensures in (
      step.0 ∙ c.loop-caller.invariant.0,
      step.2 ∙ (λ x. (undealt (c.loop-caller.invariant.1 x).0, (c.loop-caller.invariant.1 x).1)) ∙ (λ x. (remaining_next z i who at x, [])),
      subst (λ xs. AreSeats g.row.V.coded (meter g.V.Part.owner_of g.V.Part.life_of g.V.Part.used_of) k c.args.words.now.table_id (take (i + 1) k.callers.items) [] xs) (sym c.in_default.ensures.items)
          (seats_more g.row.V.coded (meter g.V.Part.owner_of g.V.Part.life_of g.V.Part.used_of) k c.args.words.now.table_id k.callers.items [] i who c.loop-caller.seats.items _ at c.loop-caller.invariant.2 (c.into_badge.ensures.0 ∙ step.3 ∙ c.loop-caller.invariant.0)
          (new_view marks z (fit_marked g.row.V.coded (meter g.V.Part.owner_of g.V.Part.life_of g.V.Part.used_of) k.life k.linked.items k.spare.items k.callers.items c.requires.fit) i who at (sole c.into_badge.result.views) view_is)),
      (let a = c.loop-caller.invariant.3 in let b = c.push.ensures.capacity in omega arith),
    )

pub returns : goal.returns
returns g c = let k = c.args.words.now.key in subst (λ l. AreSeats g.row.V.coded (meter g.V.Part.owner_of g.V.Part.life_of g.V.Part.used_of) k c.args.words.now.table_id l [] c.loop-caller.seats.items) (take_whole k.callers.items c.loop-caller.caller-index (let a = c.loop-caller-test.false in let b = ap length c.requires.key.2 in omega arith)) c.loop-caller.invariant.2
