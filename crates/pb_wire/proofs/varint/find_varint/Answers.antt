use Rattle.std.proofs.Common.{◌≤◌, get_or, arith}
use Rattle.pb_wire.proofs.Reading.{read_first, read_second}
use Rattle.pb_wire.proofs.varint.find_varint.Goals as goal
use Rattle.pb_wire.proofs.varint.find_varint.Goals.{else-start-bytes-via-then-start-bytes+else-bytes-start-lt128, else-start-bytes-via-else-start-bytes}

pub returns-then-bytes-start-lt128-clause-found : goal.returns-then-bytes-start-lt128-clause-found
returns-then-bytes-start-lt128-clause-found c = read_first c.args.bytes.now c.args.start c.args.most c.from.result (omega arith) c.if-start-bytes.true c.from.ensures (omega arith)

pub returns-then-bytes-start-lt128-2-clause-found : goal.returns-then-bytes-start-lt128-2-clause-found
returns-then-bytes-start-lt128-2-clause-found c =
    let big : 128 ≤ get_or c.args.bytes.now c.args.start 0 = elim c.else-start-bytes.branch [
      | else-start-bytes-via-then-start-bytes+else-bytes-start-lt128 w ↦ w.if-bytes-start-lt128.false
      | else-start-bytes-via-else-start-bytes w ↦ absurd (omega (arith, w.if-start-bytes.false, c.if-bytes-start-ge2.true))
    ] in
    read_second c.args.bytes.now c.args.start c.args.most _ c.requires.some (omega (arith, c.if-bytes-start-ge2.true)) big c.if-bytes-start-lt128-2.true (omega (arith, c.from-then-bytes-start-lt128-2.ensures, c.from-then-bytes-start-lt128-2-2.ensures))
