use Rattle.std.proofs.Common.{refl, arith, subst, ◌∙◌, ◌≡◌, ℕ}
use Rattle.arena_list.specs.Calls.Outcomes.{IsSumming}
use Rattle.arena_list.specs.Marks.OfParts.{marks}
use Rattle.arena_list.specs.Calls.Seats.{view}
use Rattle.arena_list.proofs.Calls.Walks.{sees_after, head_parts}
use Rattle.arena_list.proofs.Calls.Sums.{sum_starts, sum_node, sum_goes, sum_ends}
use Rattle.arena_list.proofs.list.ArenaList.sizes.Goals as goal

pub loop-left-init : goal.loop-left-init
loop-left-init g c = let e = c.look-head.ensures in let old = view c.args.seat.now in let v = view c.look-head.new.seat in let M = marks in let sees = sees_after old v e.view e.seen.1 in
    let parts = head_parts old v e.view _ e.seen.1 e.head in (refl, sum_starts M v sees _ _ parts.0 parts.1)

pub read_node-node-requires-clause-slot : goal.read_node-node-requires-clause-slot
read_node-node-requires-clause-slot g c = let e = c.look-head.ensures in let old = view c.args.seat.now in let v = view c.look-head.new.seat in let M = marks in let sees = sees_after old v e.view e.seen.1 in
    let t = sum_node M v sees _ _ _ _ c.loop-left.invariant.1 c.loop-left-test.true in let a = t.2 in let b = t.3 in omega arith

pub read_size-requires-clause-slot : goal.read_size-requires-clause-slot
read_size-requires-clause-slot g c = let e = c.look-head.ensures in let old = view c.args.seat.now in let v = view c.look-head.new.seat in let M = marks in let sees = sees_after old v e.view e.seen.1 in
    let t = sum_node M v sees _ _ _ _ c.loop-left.invariant.1 c.loop-left-test.true in let a = t.2 in let b = t.3 in omega arith

pub loop-left-preserved : goal.loop-left-preserved
loop-left-preserved g c = let e = c.look-head.ensures in let old = view c.args.seat.now in let v = view c.look-head.new.seat in let M = marks in let sees = sees_after old v e.view e.seen.1 in let n = c.read_node-node.ensures in let r = c.read_size.ensures in
    (r.list ∙ (n.list ∙ c.loop-left.invariant.0), sum_goes M v sees (view c.loop-left.seat) (view c.read_node-node.new.seat) _ _ _ _ _ _ _ c.loop-left.invariant.1 c.loop-left-test.true n.view n.node refl r.view r.more r.here r.own r.small r.moment)

pub returns-clause-summed : goal.returns-clause-summed
returns-clause-summed g c = let e = c.look-head.ensures in let old = view c.args.seat.now in let v = view c.look-head.new.seat in let M = marks in let sees = sees_after old v e.view e.seen.1 in
    let none_left : c.loop-left.left ≡ 0 = (let a = c.loop-left-test.false in omega arith) in
    sum_ends M v sees old (view c.loop-left.seat) c.loop-left.link c.loop-left.sum e.view e.seen.0 e.moment
    (subst (λ (n : ℕ). IsSumming M v (view c.loop-left.seat) n c.loop-left.link c.loop-left.sum) none_left c.loop-left.invariant.1)

pub returns-clause-small : goal.returns-clause-small
returns-clause-small g c = let e = c.look-head.ensures in let sees = sees_after (view c.args.seat.now) (view c.look-head.new.seat) e.view e.seen.1 in let few = sees.few in let small = c.loop-left.invariant.1.small in omega arith
