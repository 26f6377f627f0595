use Rattle.std.proofs.Common.{rules, ap, arith, [], ◌+◌}
use mathlib.Core.Option.{none}
use Rattle.atomic_table.specs.Table.{step}
use Rattle.arena_list.specs.Rule.Founded.{meter}
use Rattle.arena_list.specs.Marks.OfParts.{marks, marked_founding}
use Rattle.arena_list.specs.Calls.Seats.{view}
use Rattle.arena_list.specs.Steps.Tales.{saw_node}
use Rattle.arena_list.proofs.Marks.Badges.{up, allows, tells, told, no_slot, lone, seated_laid, seen}
use Rattle.arena_list.proofs.Steps.Keeps.{reads}
use Rattle.arena_list.proofs.Calls.SeatFacts.{seated_count}
use Rattle.arena_list.proofs.list.ArenaList.read_node.Goals as goal

pub load-node-requires : goal.load-node-requires
load-node-requires g c = let o = c.args.seat.now.seated in let v = view c.args.seat.now in let k = c.args.self.now.table.shared.key in
    (search rules, (let w = c.args.self.now.sized.0 in let s = c.requires.slot in omega arith), allows g.row.V.coded (meter g.V.Part.owner_of g.V.Part.life_of g.V.Part.used_of) k _ _ c.take_up-own.result.me _ (λ n. n) (saw_node (step 0 (8 + c.args.slot) 0 0 none)) (v, []) (up g.row.V.coded (meter g.V.Part.owner_of g.V.Part.life_of g.V.Part.used_of) c.take_up-own.result.me v c.take_up-own.ensures.me) (reads marks (marked_founding g.row.V.coded (meter g.V.Part.owner_of g.V.Part.life_of g.V.Part.used_of) k) _ _ _ (v, []) o.one))

pub into_badge-requires : goal.into_badge-requires
into_badge-requires g c = let o = c.args.seat.now.seated in let v = view c.args.seat.now in let t = tells g.row.V.coded (meter g.V.Part.owner_of g.V.Part.life_of g.V.Part.used_of) (saw_node (step 0 (8 + c.args.slot) 0 0 none)) c.take_up-own.result.me c.load-node.new.seat.me c.load-node.result (v, []) (up g.row.V.coded (meter g.V.Part.owner_of g.V.Part.life_of g.V.Part.used_of) c.take_up-own.result.me v c.take_up-own.ensures.me) c.load-node.ensures.2 in let free = no_slot g.row.V.coded (meter g.V.Part.owner_of g.V.Part.life_of g.V.Part.used_of) c.load-node.new.seat.me.1 (ap (λ y. y.1) t.0) in free

pub invariant_of-seat : goal.invariant_of-seat
invariant_of-seat g c = let o = c.args.seat.now.seated in let v = view c.args.seat.now in let t = tells g.row.V.coded (meter g.V.Part.owner_of g.V.Part.life_of g.V.Part.used_of) (saw_node (step 0 (8 + c.args.slot) 0 0 none)) c.take_up-own.result.me c.load-node.new.seat.me c.load-node.result (v, []) (up g.row.V.coded (meter g.V.Part.owner_of g.V.Part.life_of g.V.Part.used_of) c.take_up-own.result.me v c.take_up-own.ensures.me) c.load-node.ensures.2 in let free = no_slot g.row.V.coded (meter g.V.Part.owner_of g.V.Part.life_of g.V.Part.used_of) c.load-node.new.seat.me.1 (ap (λ y. y.1) t.0) in record {
  one = lone c.into_badge.result.views c.load-node.new.seat.me.0 c.into_badge.ensures.2;
  seated = seated_laid g.row.V.coded (meter g.V.Part.owner_of g.V.Part.life_of g.V.Part.used_of) c.into_badge.result.views c.load-node.new.seat.me c.into_badge.ensures.2 (seated_count marks (seen g.row.V.coded (meter g.V.Part.owner_of g.V.Part.life_of g.V.Part.used_of) c.load-node.new.seat.me) t.0 o);
}

pub returns-clause-view : goal.returns-clause-view
returns-clause-view g c = let o = c.args.seat.now.seated in let v = view c.args.seat.now in let t = tells g.row.V.coded (meter g.V.Part.owner_of g.V.Part.life_of g.V.Part.used_of) (saw_node (step 0 (8 + c.args.slot) 0 0 none)) c.take_up-own.result.me c.load-node.new.seat.me c.load-node.result (v, []) (up g.row.V.coded (meter g.V.Part.owner_of g.V.Part.life_of g.V.Part.used_of) c.take_up-own.result.me v c.take_up-own.ensures.me) c.load-node.ensures.2 in let free = no_slot g.row.V.coded (meter g.V.Part.owner_of g.V.Part.life_of g.V.Part.used_of) c.load-node.new.seat.me.1 (ap (λ y. y.1) t.0) in
    let n = told g.row.V.coded (meter g.V.Part.owner_of g.V.Part.life_of g.V.Part.used_of) (saw_node (step 0 (8 + c.args.slot) 0 0 none)) c.take_up-own.result.me c.load-node.new.seat.me c.load-node.result v c.into_badge.result.views c.take_up-own.ensures.me c.into_badge.ensures.2 (free) c.load-node.ensures.2 in ap (λ x. x.0) n.0

pub returns-clause-node : goal.returns-clause-node
returns-clause-node g c = let o = c.args.seat.now.seated in let v = view c.args.seat.now in let t = tells g.row.V.coded (meter g.V.Part.owner_of g.V.Part.life_of g.V.Part.used_of) (saw_node (step 0 (8 + c.args.slot) 0 0 none)) c.take_up-own.result.me c.load-node.new.seat.me c.load-node.result (v, []) (up g.row.V.coded (meter g.V.Part.owner_of g.V.Part.life_of g.V.Part.used_of) c.take_up-own.result.me v c.take_up-own.ensures.me) c.load-node.ensures.2 in let free = no_slot g.row.V.coded (meter g.V.Part.owner_of g.V.Part.life_of g.V.Part.used_of) c.load-node.new.seat.me.1 (ap (λ y. y.1) t.0) in
    let n = told g.row.V.coded (meter g.V.Part.owner_of g.V.Part.life_of g.V.Part.used_of) (saw_node (step 0 (8 + c.args.slot) 0 0 none)) c.take_up-own.result.me c.load-node.new.seat.me c.load-node.result v c.into_badge.result.views c.take_up-own.ensures.me c.into_badge.ensures.2 (free) c.load-node.ensures.2 in λ k o at is. n.1 k o at (omega arith)
