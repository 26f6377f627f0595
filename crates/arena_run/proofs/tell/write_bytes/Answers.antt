use Rattle.std.proofs.Common.{arith}
use Rattle.std.proofs.lemmas.List.{take_rest}
use Rattle.pb_write.proofs.Taken.{took_more}
use Rattle.arena_run.proofs.tell.write_bytes.Goals as goal

pub loop-done-preserved : goal.loop-done-preserved
loop-done-preserved g c = record {
  within = omega (arith, c.in_ok-done.ensures.bound);
  taken = took_more _ (g.E.Sink.taken c.loop-done.err) _ c.args.bytes.now _ c.loop-done.done c.in_ok-done.field-0 (take_rest c.args.bytes.now c.loop-done.done) c.loop-done.invariant.taken c.in_ok-done.ensures.bytes;
  faults = omega (arith, c.in_ok-done.ensures.cause.never_falls);
}
