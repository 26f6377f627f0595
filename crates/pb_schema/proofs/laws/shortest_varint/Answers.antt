-- Each clause is a law of proofs/VarintLaws.
use Rattle.pb_schema.specs.Varint.{value_bytes}
use Rattle.pb_schema.proofs.Steps.{length-varint_of}
use Rattle.pb_schema.proofs.VarintLaws.{varint_of_is, varint_of_shortest}
use Rattle.pb_schema.proofs.laws.shortest_varint.Goals as goal

pub returns-clause-spells : goal.returns-clause-spells
returns-clause-spells c = λ v h. varint_of_is v value_bytes h (length-varint_of v)

pub returns-clause-shortest : goal.returns-clause-shortest
returns-clause-shortest c = λ s v p. varint_of_shortest s value_bytes v p
