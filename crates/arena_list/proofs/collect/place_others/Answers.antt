use Rattle.std.proofs.Common.{arith}
use Rattle.arena_list.proofs.Making.Filling.{no_items}
use Rattle.arena_list.proofs.Closing.Collecting.{place_starts, place_vacant, place_goes, place_ends}
use Rattle.arena_list.proofs.collect.place_others.Goals as goal

pub loop-other-init : goal.loop-other-init
loop-other-init g c = place_starts c.args.others.items c.args.parts.now.items

pub put-requires : goal.put-requires
put-requires g c = place_vacant c.args.others.items c.loop-other.others.items c.pop.new.self.items c.args.parts.now.items c.loop-other.parts.items c.in-Some.other c.loop-other.invariant c.in-Some.ensures.items c.requires.apart c.requires.vacant

pub loop-other-preserved : goal.loop-other-preserved
loop-other-preserved g c = place_goes c.args.others.items c.loop-other.others.items c.pop.new.self.items c.args.parts.now.items c.loop-other.parts.items c.in-Some.other c.loop-other.invariant c.in-Some.ensures.items c.requires.apart c.requires.vacant c.put.new.parts.items c.put.ensures

pub returns : goal.returns
returns g c = place_ends c.args.others.items c.loop-other.others.items c.args.parts.now.items c.loop-other.parts.items (no_items c.loop-other.others.items (let a = c.in_default.ensures.cases.0 in let b = c.loop-other.others.ok.0 in omega arith)) c.loop-other.invariant
