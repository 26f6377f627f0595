use Rattle.std.specs.String.{string_bytes}
use Rattle.std.proofs.Common.{map, subst}
use Rattle.arena_run.specs.Words.{IsReadFrom}
use Rattle.arena_run.proofs.WordForms.{asks_for, read_form, other_gen, words_other}
use Rattle.arena_run.proofs.words.cat_words.Goals as goal

pub returns-in-Cat-clause-workers : goal.returns-in-Cat-clause-workers
returns-in-Cat-clause-workers c =
    let words = map string_bytes c.args.words.now in
    asks_for words c.in-Cat.set.now c.in-Cat.type_name.now c.in-Cat.frames.now c.in-Cat.workers (subst (IsReadFrom words) c.in-Cat.is c.in-Some.ensures.read)

pub returns-in-Gen-clause-by_words : goal.returns-in-Gen-clause-by_words
returns-in-Gen-clause-by_words c =
    let words = map string_bytes c.args.words.now in
    let read = subst (IsReadFrom words) c.in-Gen.is c.in-Some.ensures.read in
    words_other words (read_form words c.in-Some.command c.in-Some.ensures.read) (other_gen words _ _ _ read.3)
