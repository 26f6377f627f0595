-- No type before the one that is looked at has the name.
use Rattle.pb_schema.specs.Names.{NoneBelow}
use Rattle.pb_schema.proofs.schema.Schema.find.Given as goal

abbrev pub invariant-loop-i : goal.invariant-loop-i
invariant-loop-i l = NoneBelow l.self l.name l.i
