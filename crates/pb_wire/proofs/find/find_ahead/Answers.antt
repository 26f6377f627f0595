use Rattle.std.proofs.Common.{arith}
use Rattle.pb_wire.proofs.Window.{window_read}
use Rattle.pb_wire.proofs.find.find_ahead.Goals as goal

pub returns-then-count-end-clause-found : goal.returns-then-count-end-clause-found
returns-then-count-end-clause-found c =
    window_read c.args.bytes.now c.args.start c.args.end c.args.most c.in-Some.value c.in-Some.count c.in-Some.ensures (omega arith) (omega arith) c.requires.start
