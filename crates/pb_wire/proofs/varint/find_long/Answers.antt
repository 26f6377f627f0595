use Rattle.std.proofs.Common.{refl, arith}
use Rattle.pb_wire.proofs.Reading.{read_more, read_last, read_cut}
use Rattle.pb_wire.proofs.varint.find_long.Goals as goal

pub returns-then-byte-lt128-clause-found : goal.returns-then-byte-lt128-clause-found
returns-then-byte-lt128-clause-found c =
    read_last c.args.bytes.now c.args.start c.args.most c.loop-i.i c.loop-i.value c.from.result _ c.loop-i.invariant (omega arith) (omega arith) c.if-byte-lt128.true c.from.ensures refl

pub loop-i-preserved : goal.loop-i-preserved
loop-i-preserved c =
    read_more c.args.bytes.now c.args.start c.args.most c.loop-i.i c.loop-i.value c.from.result c.loop-i.invariant (omega arith) (omega arith) c.if-byte-lt128.false c.from.ensures

pub returns-clause-found : goal.returns-clause-found
returns-clause-found c = read_cut c.args.bytes.now c.args.start c.args.most c.loop-i.i c.loop-i.value c.loop-i.invariant (omega arith)
