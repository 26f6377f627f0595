-- Each clause is a law of proofs/VarintLaws.
use Rattle.pb_schema.proofs.VarintLaws.{one_varint, varint_at_found, varint_at_exact}
use Rattle.pb_schema.proofs.laws.one_varint.Goals as goal

pub returns-clause-only : goal.returns-clause-only
returns-clause-only c = one_varint

pub returns-clause-exact : goal.returns-clause-exact
returns-clause-exact c = λ most s v n. (varint_at_found most s v n, varint_at_exact most s v n)
