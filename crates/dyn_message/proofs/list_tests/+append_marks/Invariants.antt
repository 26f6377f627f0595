-- There are fewer marks to append.
use Rattle.dyn_message.proofs.list_tests.+append_marks.Given as goal

abbrev pub decreases-append_marks : goal.decreases-append_marks
decreases-append_marks g l = l.more
