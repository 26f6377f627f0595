use Rattle.std.proofs.Common.{subst, arith}
use Rattle.ts_arena.proofs.Finding.{at_index}
use Rattle.parse_pool.specs.Phased.{AreCollected}
use Rattle.parse_pool.proofs.Collecting.{none_collected, one_collected}
use Rattle.parse_pool.proofs.collect.collect.Goals as goal

-- drafts, not checked: the names of the steps may differ
pub loop-i-init : goal.loop-i-init
loop-i-init c = (c.requires.some, omega arith, omega arith, omega arith, c.requires.room.1, none_collected c.args.workers.now c.args.messages.now.items c.requires.room.0)

pub message-msg-requires : goal.message-msg-requires
message-msg-requires c =
    let inv = c.loop-i.invariant in let w = c.index-workers-worker.result in
    c.requires.covered c.loop-i.worker c.loop-i.turn w (at_index c.args.workers.now c.loop-i.worker w inv.0 c.index-workers-worker.is) (omega (arith, inv.1, c.loop-i-test.true))

pub loop-i-preserved : goal.loop-i-preserved
loop-i-preserved c =
    let inv = c.loop-i.invariant in let w = c.index-workers-worker.result in let m = c.message-msg.ensures in let n = c.next_turn-next.ensures in (
      n.below,
      omega (arith, inv.1, n.next),
      omega (arith, inv.2, n.slow),
      omega (arith, c.loop-i-test.true),
      omega (arith, inv.4, c.add.ensures.capacity),
      one_collected c.args.workers.now c.loop-i.messages.items c.add.new.messages.items c.loop-i.i c.message-msg.result c.add.ensures.added inv.5
          (record { worker = c.loop-i.worker; turn = c.loop-i.turn; is = inv.1; state = w; there = at_index c.args.workers.now c.loop-i.worker w inv.0 c.index-workers-worker.is; result = m.0; at = m.1; msg_is = m.2 }),
    )

pub returns : goal.returns
returns c = let inv = c.loop-i.invariant in subst (λ n. AreCollected c.args.workers.now n c.loop-i.messages.items) (omega (arith, inv.3, c.loop-i-test.false)) inv.5
