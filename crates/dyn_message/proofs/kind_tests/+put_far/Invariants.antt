-- There are fewer fields to set.
use Rattle.dyn_message.proofs.kind_tests.+put_far.Given as goal

abbrev pub decreases-put_far : goal.decreases-put_far
decreases-put_far g l = l.more
