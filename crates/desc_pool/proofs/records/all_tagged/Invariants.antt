use Rattle.std.proofs.Common.{◌≡◌, take}
use Rattle.std.specs.Prelude.{◌==◌, ◌&&◌, filter}
use Rattle.desc_pool.proofs.records.all_tagged.Given as goal

abbrev pub invariant-loop-record : goal.invariant-loop-record
invariant-loop-record l = l.found.items ≡ filter (λ r. r.number == l.number && r.wire == l.wire) (take l.record-index l.records)
