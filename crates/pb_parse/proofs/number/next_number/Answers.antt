use Rattle.std.proofs.Common.{drop, arith, length-drop}
use Rattle.pb_schema.specs.Kinds.{value_type_of}
use Rattle.pb_parse.proofs.NumberLaws.{small_kept}
use Rattle.pb_parse.proofs.number.next_number.Goals as goal

pub returns-in-Some : goal.returns-in-Some
returns-in-Some c = λ coding is.
    let found = c.in-Some.ensures.0 in
    let own = small_kept coding (value_type_of c.args.kind) c.args.at (drop c.args.at c.args.bytes.now) c.in-Some.found.0 c.in-Some.found.1 (c.requires.plain c.if-plain.true) is found c.in-Some.ensures.1 in
    (own.0, found.some, omega (arith, found.within, length-drop c.args.at c.args.bytes.now, c.requires.at), own.1, own.2)
