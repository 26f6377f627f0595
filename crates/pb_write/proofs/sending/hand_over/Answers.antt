use Rattle.std.proofs.Common.{arith}
use Rattle.std.proofs.lemmas.List.{take_rest}
use Rattle.pb_write.proofs.Taken.{took_more, Counts-trans, counts_piece}
use Rattle.pb_write.proofs.sending.hand_over.Goals as goal

pub loop-done-preserved : goal.loop-done-preserved
loop-done-preserved g c = record {
  within = omega (arith, c.in_ok-count.ensures.bound);
  taken = took_more _ (g.S.Sink.taken c.loop-done.sink) _ c.args.bytes.now _ c.loop-done.done c.in_ok-count.count (take_rest c.args.bytes.now c.loop-done.done) c.loop-done.invariant.taken c.in_ok-count.ensures.bytes;
  counted = Counts-trans (g.S.Sink.taken c.args.sink.now) (g.S.Sink.taken c.loop-done.sink) (g.S.Sink.taken c.write.new.self) c.args.taken.now c.loop-done.taken c.saturating_add.result c.loop-done.invariant.counted
      (counts_piece (g.S.Sink.taken c.loop-done.sink) (g.S.Sink.taken c.write.new.self) _ c.loop-done.taken c.saturating_add.result c.in_ok-count.count c.in_ok-count.ensures.bytes c.in_ok-count.ensures.bound c.saturating_add.ensures);
  faults = omega (arith, c.in_ok-count.ensures.cause.never_falls);
}
