use Rattle.desc_pool.proofs.Members.{CountedTo}
use Rattle.desc_pool.proofs.rules.count_members.Given as goal

abbrev pub invariant-loop-field : goal.invariant-loop-field
invariant-loop-field l = CountedTo l.optional_alone l.message l.field-index l.counts.items
