use Rattle.std.proofs.Common.{ℕ, refl, arith, sym, subst, ◌∙◌}
use Rattle.arena_list.specs.Marks.OfParts.{marks}
use Rattle.arena_list.specs.Calls.Outcomes.{IsWalking}
use Rattle.arena_list.specs.Calls.Seats.{view}
use Rattle.arena_list.proofs.Calls.SeatFacts.{seen_own}
use Rattle.arena_list.proofs.Calls.Walks.{sees_after, head_parts, walk_starts, walk_node, walk_goes, walk_finds, walk_ends, walk_who}
use Rattle.arena_list.proofs.list.ArenaList.find.Goals as goal

pub loop-left-init : goal.loop-left-init
loop-left-init g c = let e = c.look-head.ensures in let old = view c.args.seat.now in let v = view c.look-head.new.seat in
    let parts = head_parts old v e.view _ e.seen.1 e.head in (refl, walk_starts v (sees_after old v e.view e.seen.1) _ _ parts.0 parts.1)

pub read_node-node-requires-clause-slot : goal.read_node-node-requires-clause-slot
read_node-node-requires-clause-slot g c = let e = c.look-head.ensures in let old = view c.args.seat.now in let v = view c.look-head.new.seat in
    let t = walk_node v (sees_after old v e.view e.seen.1) _ _ _ c.loop-left.invariant.1 c.loop-left-test.true in let a = t.2 in let b = t.3 in omega arith

pub overflow_cast-result : goal.overflow_cast-result
overflow_cast-result g c = let e = c.look-head.ensures in let old = view c.args.seat.now in let v = view c.look-head.new.seat in
    let t = walk_node v (sees_after old v e.view e.seen.1) _ _ _ c.loop-left.invariant.1 c.loop-left-test.true in let a = t.2 in let b = t.3 in omega arith

pub returns-then-node-seat-clause-found : goal.returns-then-node-seat-clause-found
returns-then-node-seat-clause-found g c = let e = c.look-head.ensures in let r = c.read_node-node.ensures in let old = view c.args.seat.now in let v = view c.look-head.new.seat in
    let own = c.read_node-node.new.seat.seated.caller_is ∙ walk_who v _ _ _ _ c.loop-left.invariant.1 r.view in
    walk_finds v (sees_after old v e.view e.seen.1) marks old _ _ _ _ _ _ e.view e.seen.0 e.moment c.loop-left.invariant.1 c.loop-left-test.true r.view r.node (c.if-node-seat.true ∙ own) refl (seen_own marks c.read_node-node.new.seat.seated)

pub loop-left-preserved : goal.loop-left-preserved
loop-left-preserved g c = let e = c.look-head.ensures in let r = c.read_node-node.ensures in let old = view c.args.seat.now in let v = view c.look-head.new.seat in
    let own = c.read_node-node.new.seat.seated.caller_is ∙ walk_who v _ _ _ _ c.loop-left.invariant.1 r.view in
    (r.list ∙ c.loop-left.invariant.0, walk_goes v (sees_after old v e.view e.seen.1) _ _ _ _ _ c.loop-left.invariant.1 c.loop-left-test.true r.view r.node (λ is. c.if-node-seat.false (is ∙ sym own)))

pub returns-clause-found : goal.returns-clause-found
returns-clause-found g c = let e = c.look-head.ensures in let old = view c.args.seat.now in let v = view c.look-head.new.seat in
    walk_ends v (sees_after old v e.view e.seen.1) marks old _ _ e.view e.seen.0 e.moment (subst (λ (left : ℕ). IsWalking v (view c.loop-left.seat) left c.loop-left.link) (let h = c.loop-left-test.false in omega arith) c.loop-left.invariant.1) (seen_own marks c.loop-left.seat.seated)
