use Rattle.std.proofs.Common.{◌++◌, ◌∷◌, [], length, map, reverse, sym, ap, ◌∙◌, arith, subst}
use lib.ListN.{get_elem?}
use Rattle.std.proofs.lemmas.List.{length-append}
use Rattle.arena_list.specs.Rule.Founded.{meter}
use Rattle.arena_list.specs.Closing.Closed.{hand_of, slots_of}
use Rattle.arena_list.proofs.Steps.Seats.{at_end_of}
use Rattle.arena_list.specs.declared.for_clauses.mark.Mark.{Mark}
use Rattle.arena_list.specs.declared.for_clauses.view.View.{View}
use Rattle.arena_list.specs.Marks.OfParts.{marks, marked_founding}
use Rattle.arena_list.specs.Steps.Tales.{both}
use Rattle.arena_list.proofs.Marks.Badges.{laid_view}
use Rattle.arena_list.proofs.Marks.Marked.{joins_seen}
use Rattle.arena_list.proofs.Steps.Joining.{joins}
use Rattle.arena_list.proofs.Making.Filling.{no_items}
use Rattle.arena_list.proofs.Closing.Gathering.{IsGathering, slots_few, gather_first, gather_more, all_gone, next_there}
use Rattle.arena_list.proofs.close.gather.Goals as goal

pub loop-next-init : goal.loop-next-init
loop-next-init g c = let rest = c.pop.new.self.items in let s = c.in-Some.last in let pop = c.in-Some.ensures.items in
    let there = ap (λ l. get_elem? l (length rest)) pop ∙ at_end_of rest s in let spares = c.note.ensures.items ∙ ap (λ l. l ++ slots_of (s ∷ [])) c.requires.room.0 in (
      c.into_seat-all.ensures.0 ∙ c.requires.list (length rest) s there,
      (let a = ap length spares in let b = slots_few s in let l = ap length pop ∙ length-append rest (s ∷ []) in let r = c.requires.room.1 in let n = c.note.ensures.room in omega arith),
      subst (λ (v : View Mark). IsGathering c.args.seats.items rest c.note.new.spare_slots.items v) (laid_view g.row.V.coded (meter g.V.Part.owner_of g.V.Part.life_of g.V.Part.used_of) s.badge.views c.into_seat-all.result.me c.into_seat-all.ensures.2) (gather_first c.args.seats.items rest s c.note.new.spare_slots.items pop spares),
      c.into_seat-all.ensures.3,
    )

pub join_seat-requires : goal.join_seat-requires
join_seat-requires g c = let o = c.loop-next.invariant.2 in let s = c.in-Some-pop.next in let rest = c.pop-in-loop-next.new.self.items in let pop = c.in-Some-pop.ensures.items in
    let there = next_there c.args.seats.items c.loop-next.seats.items rest s c.loop-next.spare_slots.items c.loop-next.all.me.0 o pop in (
      c.loop-next.invariant.0,
      c.into_seat.ensures.0 ∙ c.requires.list (length rest) s there,
      c.into_seat.ensures.3,
      (let w = c.requires.words in omega arith),
      joins_seen g.row.V.coded (meter g.V.Part.owner_of g.V.Part.life_of g.V.Part.used_of) c.args.words.now.key c.loop-next.all.id c.loop-next.all.me.0 c.into_seat.result.id c.into_seat.result.me.0 _ _ (joins marks (marked_founding g.row.V.coded (meter g.V.Part.owner_of g.V.Part.life_of g.V.Part.used_of) c.args.words.now.key) c.loop-next.all.id c.into_seat.result.id c.loop-next.all.me.0 c.into_seat.result.me.0 o.some_hand),
    )

pub loop-next-preserved : goal.loop-next-preserved
loop-next-preserved g c = let o = c.loop-next.invariant.2 in let s = c.in-Some-pop.next in let rest = c.pop-in-loop-next.new.self.items in let pop = c.in-Some-pop.ensures.items in let n = c.note-in-Some-pop.ensures in (
  c.join_seat.ensures.0 ∙ c.loop-next.invariant.0,
  (let a = ap length n.items ∙ length-append c.loop-next.spare_slots.items (slots_of (s ∷ [])) in let b = slots_few s in let l = ap length pop ∙ length-append rest (s ∷ []) in let r = c.loop-next.invariant.1 in let k = n.room in omega arith),
  gather_more c.args.seats.items c.loop-next.seats.items rest s c.loop-next.spare_slots.items c.note-in-Some-pop.new.spare_slots.items c.loop-next.all.me.0 c.join_seat.new.seat.me.0 o pop n.items
      (ap (λ x. x.0) c.join_seat.ensures.2 ∙ ap (both c.loop-next.all.me.0) (sym (laid_view g.row.V.coded (meter g.V.Part.owner_of g.V.Part.life_of g.V.Part.used_of) s.badge.views c.into_seat.result.me c.into_seat.ensures.2))),
  ap (λ x. x.1) c.join_seat.ensures.2 ∙ c.loop-next.invariant.3,
)

pub returns-clause-hands : goal.returns-clause-hands
returns-clause-hands g c = let o = c.loop-next.invariant.2 in
    let none_left = no_items c.loop-next.seats.items (let a = c.in_default-pop.ensures.cases.0 in let b = c.loop-next.seats.ok.0 in omega arith) in
    let gone = all_gone c.args.seats.items c.loop-next.seats.items c.loop-next.spare_slots.items c.loop-next.all.me.0 o none_left in o.hands ∙ ap (λ l. reverse (map hand_of l)) (sym gone)

pub returns-clause-told : goal.returns-clause-told
returns-clause-told g c = λ k s at. let o = c.loop-next.invariant.2 in
    let none_left = no_items c.loop-next.seats.items (let a = c.in_default-pop.ensures.cases.0 in let b = c.loop-next.seats.ok.0 in omega arith) in
    let gone = all_gone c.args.seats.items c.loop-next.seats.items c.loop-next.spare_slots.items c.loop-next.all.me.0 o none_left in o.told k s (ap (λ l. get_elem? l k) (sym gone) ∙ at)

pub returns-clause-sizes : goal.returns-clause-sizes
returns-clause-sizes g c = λ k s at. let o = c.loop-next.invariant.2 in
    let none_left = no_items c.loop-next.seats.items (let a = c.in_default-pop.ensures.cases.0 in let b = c.loop-next.seats.ok.0 in omega arith) in
    let gone = all_gone c.args.seats.items c.loop-next.seats.items c.loop-next.spare_slots.items c.loop-next.all.me.0 o none_left in o.sizes k s (ap (λ l. get_elem? l k) (sym gone) ∙ at)

pub returns-clause-slots : goal.returns-clause-slots
returns-clause-slots g c = let o = c.loop-next.invariant.2 in
    let none_left = no_items c.loop-next.seats.items (let a = c.in_default-pop.ensures.cases.0 in let b = c.loop-next.seats.ok.0 in omega arith) in
    let gone = all_gone c.args.seats.items c.loop-next.seats.items c.loop-next.spare_slots.items c.loop-next.all.me.0 o none_left in o.slots ∙ ap (λ l. reverse (slots_of l)) (sym gone)
