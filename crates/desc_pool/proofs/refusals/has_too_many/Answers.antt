use Rattle.std.proofs.Common.{length, sym, ap, arith}
use Rattle.std.proofs.lemmas.Bool.{lt-ltb}
use Rattle.desc_pool.specs.Refusals.{all_messages}
use Rattle.desc_pool.proofs.Firsts.{some_messages}
use Rattle.desc_pool.proofs.refusals.has_too_many.Goals as goal

pub returns-then-count-room : goal.returns-then-count-room
returns-then-count-room c =
    let some = some_messages c.args.files.now c.loop-file.file-index c.file-item.result c.loop-file-test.true c.file-item.is in
    let count = ap length c.as_slice-count.ensures in
    let inv = c.loop-file.invariant in
    sym (lt-ltb 4096 (length (all_messages c.args.files.now)) (omega (arith, some, count, inv, c.if-count-room.true)))
