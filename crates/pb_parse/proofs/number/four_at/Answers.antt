use Rattle.std.proofs.Common.{drop, arith, length-drop}
use Rattle.pb_parse.proofs.NumberLaws.{bytes_cut}
use Rattle.pb_parse.proofs.number.four_at.Goals as goal

pub returns-then-bytes-at-lt4 : goal.returns-then-bytes-at-lt4
returns-then-bytes-at-lt4 c = bytes_cut 4 c.args.at (drop c.args.at c.args.bytes.now) (omega (arith, length-drop c.args.at c.args.bytes.now))
