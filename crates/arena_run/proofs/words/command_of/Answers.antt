use Rattle.std.specs.String.{string_bytes}
use Rattle.std.proofs.Common.{◌≡◌, sym, ◌∙◌}
use Rattle.std.specs.Prelude.{codes}
use Rattle.arena_run.proofs.WordForms.{same_bytes, four_words, five_words, six_words, if_none, no_run_form}
use Rattle.arena_run.proofs.words.command_of.Goals as goal

pub returns-in_ok-workers-in-len5-clause-read : goal.returns-in_ok-workers-in-len5-clause-read
returns-in_ok-workers-in-len5-clause-read c =
    let cat : string_bytes c.command-item-then-words-lt6.result ≡ codes "cat" = same_bytes _ _ _ c.as_str-then-words-lt6.ensures.value (sym c.eq-then-words-lt6.ensures ∙ c.if-eq-2.true) in
    let are = five_words string_bytes c.args.words.now c.command-item-then-words-lt6.result c.set-item.result c.type_name-item.result c.frames-item.result c.workers-item-then-words-lt6.result c.in-len5.len_at_least c.in-len5.len_below
    c.command-item-then-words-lt6.is c.set-item.is c.type_name-item.is c.frames-item.is c.workers-item-then-words-lt6.is in
    (string_bytes c.workers-item-then-words-lt6.result, cc (are, cat, c.as_str-in-len5.ensures.value, c.as_str-in-len5-2.ensures.value, c.as_str-in-len5-3.ensures.value), c.in_ok-workers-in-len5.ensures)

pub returns-in_ok-workers-in-len6-clause-read : goal.returns-in_ok-workers-in-len6-clause-read
returns-in_ok-workers-in-len6-clause-read c =
    let run : string_bytes c.command-item-then-words-lt7.result ≡ codes "run" = same_bytes _ _ _ c.as_str-then-words-lt7.ensures.value (sym c.eq-then-words-lt7.ensures ∙ c.if-eq-3.true) in
    let are = six_words string_bytes c.args.words.now c.command-item-then-words-lt7.result c.set-item-then-words-lt7.result c.type_name-item-then-words-lt7.result c.frames-item-then-words-lt7.result c.script-item.result c.workers-item-then-words-lt7.result c.in-len6.len_at_least c.in-len6.len_below
    c.command-item-then-words-lt7.is c.set-item-then-words-lt7.is c.type_name-item-then-words-lt7.is c.frames-item-then-words-lt7.is c.script-item.is c.workers-item-then-words-lt7.is in
    (string_bytes c.workers-item-then-words-lt7.result, cc (are, run, c.as_str-in-len6.ensures.value, c.as_str-in-len6-2.ensures.value, c.as_str-in-len6-3.ensures.value, c.as_str-in-len6-4.ensures.value), c.in_ok-workers-in-len6.ensures)

pub returns-in_err-workers-in-len6-clause-no_form : goal.returns-in_err-workers-in-len6-clause-no_form
returns-in_err-workers-in-len6-clause-no_form c =
    if_none c.from_residual-in_err-workers-in-len6.result _
    (no_run_form _ _ _ _ _ _ _ (six_words string_bytes c.args.words.now c.command-item-then-words-lt7.result c.set-item-then-words-lt7.result c.type_name-item-then-words-lt7.result c.frames-item-then-words-lt7.result c.script-item.result c.workers-item-then-words-lt7.result c.in-len6.len_at_least c.in-len6.len_below
    c.command-item-then-words-lt7.is c.set-item-then-words-lt7.is c.type_name-item-then-words-lt7.is c.frames-item-then-words-lt7.is c.script-item.is c.workers-item-then-words-lt7.is) c.in_err-workers-in-len6.ensures)

pub returns-in_ok-workers-in-len4-clause-read : goal.returns-in_ok-workers-in-len4-clause-read
returns-in_ok-workers-in-len4-clause-read c =
    let gen : string_bytes c.command-item.result ≡ codes "gen" = same_bytes _ _ _ c.as_str.ensures.value (sym c.eq.ensures ∙ c.if-eq.true) in
    let are = four_words string_bytes c.args.words.now c.command-item.result c.seed-item.result c.count-item.result c.workers-item.result c.in-len4.len_at_least c.in-len4.len_below c.command-item.is c.seed-item.is c.count-item.is c.workers-item.is in
    (string_bytes c.seed-item.result, string_bytes c.count-item.result, string_bytes c.workers-item.result, cc (are, gen), c.in_ok-seed-in-len4.ensures, c.in_ok-count-in-len4.ensures, c.in_ok-workers-in-len4.ensures)
