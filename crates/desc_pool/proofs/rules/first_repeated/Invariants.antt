use Rattle.std.specs.BTreeMap.{get}
use Rattle.std.specs.Ordering.{nat_cmp}
use Rattle.desc_pool.proofs.Repeated.{NotedTo}
use Rattle.desc_pool.proofs.rules.first_repeated.Given as goal

abbrev pub invariant-loop-field : goal.invariant-loop-field
invariant-loop-field l = NotedTo l.message.fields l.field-index (get nat_cmp l.numbers)
