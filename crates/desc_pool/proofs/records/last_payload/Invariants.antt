use Rattle.std.proofs.Common.{◌≡◌}
use Rattle.std.specs.Option.{option_map}
use Rattle.desc_pool.specs.Payloads.{last_payload}
use Rattle.desc_pool.proofs.Gathering.{shown}
use Rattle.desc_pool.proofs.records.last_payload.Given as goal

abbrev pub invariant-loop-record : goal.invariant-loop-record
invariant-loop-record l = option_map (λ payload. payload.now) l.last ≡ last_payload l.number l.wire (shown l.bytes l.records l.record-index)
