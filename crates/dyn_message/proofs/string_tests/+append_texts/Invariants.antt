-- There are fewer texts to append.
use Rattle.dyn_message.proofs.string_tests.+append_texts.Given as goal

abbrev pub decreases-append_texts : goal.decreases-append_texts
decreases-append_texts g l = l.more
