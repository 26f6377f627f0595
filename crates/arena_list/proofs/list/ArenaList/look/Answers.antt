use Rattle.std.proofs.Common.{rules, ap, []}
use mathlib.Core.Option.{none}
use Rattle.atomic_table.specs.Table.{step}
use Rattle.arena_list.specs.Rule.Founded.{meter}
use Rattle.arena_list.specs.Marks.OfParts.{marks, marked_founding}
use Rattle.arena_list.specs.Calls.Seats.{view}
use Rattle.arena_list.specs.Steps.Tales.{saw_head}
use Rattle.arena_list.proofs.Marks.Badges.{up, allows, tells, told, no_slot, lone, seated_laid, seen}
use Rattle.arena_list.proofs.Steps.Keeps.{looks}
use Rattle.arena_list.proofs.Calls.SeatFacts.{seated_look}
use Rattle.arena_list.proofs.list.ArenaList.look.Goals as goal

pub load-seat-requires : goal.load-seat-requires
load-seat-requires g c = let o = c.args.seat.now.seated in let v = view c.args.seat.now in let k = c.args.self.now.table.shared.key in
    (search rules, search rules, allows g.row.V.coded (meter g.V.Part.owner_of g.V.Part.life_of g.V.Part.used_of) k _ _ c.take_up-own.result.me 0 (λ n. n) (saw_head marks (step 0 0 0 0 none)) (v, []) (up g.row.V.coded (meter g.V.Part.owner_of g.V.Part.life_of g.V.Part.used_of) c.take_up-own.result.me v c.take_up-own.ensures.me) (looks marks (marked_founding g.row.V.coded (meter g.V.Part.owner_of g.V.Part.life_of g.V.Part.used_of) k) _ _ (v, []) o.one))

pub into_badge-requires : goal.into_badge-requires
into_badge-requires g c = let o = c.args.seat.now.seated in let v = view c.args.seat.now in let t = tells g.row.V.coded (meter g.V.Part.owner_of g.V.Part.life_of g.V.Part.used_of) (saw_head marks (step 0 0 0 0 none)) c.take_up-own.result.me c.load-seat.new.seat.me c.load-seat.result (v, []) (up g.row.V.coded (meter g.V.Part.owner_of g.V.Part.life_of g.V.Part.used_of) c.take_up-own.result.me v c.take_up-own.ensures.me) c.load-seat.ensures.2 in let free = no_slot g.row.V.coded (meter g.V.Part.owner_of g.V.Part.life_of g.V.Part.used_of) c.load-seat.new.seat.me.1 (ap (λ y. y.1) t.0) in free

pub invariant_of-seat : goal.invariant_of-seat
invariant_of-seat g c = let o = c.args.seat.now.seated in let v = view c.args.seat.now in let t = tells g.row.V.coded (meter g.V.Part.owner_of g.V.Part.life_of g.V.Part.used_of) (saw_head marks (step 0 0 0 0 none)) c.take_up-own.result.me c.load-seat.new.seat.me c.load-seat.result (v, []) (up g.row.V.coded (meter g.V.Part.owner_of g.V.Part.life_of g.V.Part.used_of) c.take_up-own.result.me v c.take_up-own.ensures.me) c.load-seat.ensures.2 in let free = no_slot g.row.V.coded (meter g.V.Part.owner_of g.V.Part.life_of g.V.Part.used_of) c.load-seat.new.seat.me.1 (ap (λ y. y.1) t.0) in record {
  one = lone c.into_badge.result.views c.load-seat.new.seat.me.0 c.into_badge.ensures.2;
  seated = seated_laid g.row.V.coded (meter g.V.Part.owner_of g.V.Part.life_of g.V.Part.used_of) c.into_badge.result.views c.load-seat.new.seat.me c.into_badge.ensures.2 (seated_look marks (step 0 0 0 0 none) _ (seen g.row.V.coded (meter g.V.Part.owner_of g.V.Part.life_of g.V.Part.used_of) c.load-seat.new.seat.me) t o);
}

pub returns-clause-view : goal.returns-clause-view
returns-clause-view g c = let o = c.args.seat.now.seated in let v = view c.args.seat.now in let t = tells g.row.V.coded (meter g.V.Part.owner_of g.V.Part.life_of g.V.Part.used_of) (saw_head marks (step 0 0 0 0 none)) c.take_up-own.result.me c.load-seat.new.seat.me c.load-seat.result (v, []) (up g.row.V.coded (meter g.V.Part.owner_of g.V.Part.life_of g.V.Part.used_of) c.take_up-own.result.me v c.take_up-own.ensures.me) c.load-seat.ensures.2 in let free = no_slot g.row.V.coded (meter g.V.Part.owner_of g.V.Part.life_of g.V.Part.used_of) c.load-seat.new.seat.me.1 (ap (λ y. y.1) t.0) in
    let n = told g.row.V.coded (meter g.V.Part.owner_of g.V.Part.life_of g.V.Part.used_of) (saw_head marks (step 0 0 0 0 none)) c.take_up-own.result.me c.load-seat.new.seat.me c.load-seat.result v c.into_badge.result.views c.take_up-own.ensures.me c.into_badge.ensures.2 (free) c.load-seat.ensures.2 in ap (λ x. x.0) n.0

pub returns-clause-seen : goal.returns-clause-seen
returns-clause-seen g c = let o = c.args.seat.now.seated in let v = view c.args.seat.now in let t = tells g.row.V.coded (meter g.V.Part.owner_of g.V.Part.life_of g.V.Part.used_of) (saw_head marks (step 0 0 0 0 none)) c.take_up-own.result.me c.load-seat.new.seat.me c.load-seat.result (v, []) (up g.row.V.coded (meter g.V.Part.owner_of g.V.Part.life_of g.V.Part.used_of) c.take_up-own.result.me v c.take_up-own.ensures.me) c.load-seat.ensures.2 in let free = no_slot g.row.V.coded (meter g.V.Part.owner_of g.V.Part.life_of g.V.Part.used_of) c.load-seat.new.seat.me.1 (ap (λ y. y.1) t.0) in
    let n = told g.row.V.coded (meter g.V.Part.owner_of g.V.Part.life_of g.V.Part.used_of) (saw_head marks (step 0 0 0 0 none)) c.take_up-own.result.me c.load-seat.new.seat.me c.load-seat.result v c.into_badge.result.views c.take_up-own.ensures.me c.into_badge.ensures.2 (free) c.load-seat.ensures.2 in (n.2, n.3)

pub returns-clause-head : goal.returns-clause-head
returns-clause-head g c = let o = c.args.seat.now.seated in let v = view c.args.seat.now in let t = tells g.row.V.coded (meter g.V.Part.owner_of g.V.Part.life_of g.V.Part.used_of) (saw_head marks (step 0 0 0 0 none)) c.take_up-own.result.me c.load-seat.new.seat.me c.load-seat.result (v, []) (up g.row.V.coded (meter g.V.Part.owner_of g.V.Part.life_of g.V.Part.used_of) c.take_up-own.result.me v c.take_up-own.ensures.me) c.load-seat.ensures.2 in let free = no_slot g.row.V.coded (meter g.V.Part.owner_of g.V.Part.life_of g.V.Part.used_of) c.load-seat.new.seat.me.1 (ap (λ y. y.1) t.0) in
    let n = told g.row.V.coded (meter g.V.Part.owner_of g.V.Part.life_of g.V.Part.used_of) (saw_head marks (step 0 0 0 0 none)) c.take_up-own.result.me c.load-seat.new.seat.me c.load-seat.result v c.into_badge.result.views c.take_up-own.ensures.me c.into_badge.ensures.2 (free) c.load-seat.ensures.2 in n.1

pub returns-clause-moment : goal.returns-clause-moment
returns-clause-moment g c = let o = c.args.seat.now.seated in let v = view c.args.seat.now in let t = tells g.row.V.coded (meter g.V.Part.owner_of g.V.Part.life_of g.V.Part.used_of) (saw_head marks (step 0 0 0 0 none)) c.take_up-own.result.me c.load-seat.new.seat.me c.load-seat.result (v, []) (up g.row.V.coded (meter g.V.Part.owner_of g.V.Part.life_of g.V.Part.used_of) c.take_up-own.result.me v c.take_up-own.ensures.me) c.load-seat.ensures.2 in let free = no_slot g.row.V.coded (meter g.V.Part.owner_of g.V.Part.life_of g.V.Part.used_of) c.load-seat.new.seat.me.1 (ap (λ y. y.1) t.0) in
    let n = told g.row.V.coded (meter g.V.Part.owner_of g.V.Part.life_of g.V.Part.used_of) (saw_head marks (step 0 0 0 0 none)) c.take_up-own.result.me c.load-seat.new.seat.me c.load-seat.result v c.into_badge.result.views c.take_up-own.ensures.me c.into_badge.ensures.2 (free) c.load-seat.ensures.2 in n.4
