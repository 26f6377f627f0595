use Rattle.std.proofs.Common.{drop, arith, length-drop}
use Rattle.pb_parse.proofs.NumberLaws.{bytes_cut}
use Rattle.pb_parse.proofs.number.eight_at.Goals as goal

pub returns-then-bytes-at-lt8 : goal.returns-then-bytes-at-lt8
returns-then-bytes-at-lt8 c = bytes_cut 8 c.args.at (drop c.args.at c.args.bytes.now) (omega (arith, length-drop c.args.at c.args.bytes.now))
