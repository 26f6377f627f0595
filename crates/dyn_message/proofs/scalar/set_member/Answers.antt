use Rattle.std.proofs.Common.{◌≡◌, true, false, cond, None, Some, sym, ap, ◌∙◌}
use Rattle.msg_layout.specs.Layout.{entry_among}
use Rattle.msg_layout.specs.Words.{is_word_at}
use Rattle.dyn_message.proofs.Cases.{member_by_word, no_member_set}
use Rattle.dyn_message.proofs.scalar.set_member.Goals as goal

pub returns-in_default : goal.returns-in_default
returns-in_default c = sym (no_member_set c.args.layout.now c.args.oneof c.args.bytes.now c.in_default.ensures)

pub returns-then-is_word_at : goal.returns-then-is_word_at
returns-then-is_word_at c =
    let n = c.word_at-number.result in
    let entry = c.in-Some-find.entry in
    let found : Some entry ≡ entry_among c.args.layout.now.entries n = cc (c.find.ensures, c.in-Some-find.is) in
    let here : is_word_at c.in-Some.at entry.mark ≡ true = cc (c.is_word_at.ensures, c.if-is_word_at.true) in
    sym (member_by_word c.args.layout.now c.args.oneof c.in-Some.at n c.args.bytes.now (Some entry) c.requires.apart c.in-Some.ensures c.word_at-number.ensures found ∙ ap (λ b. cond b n 0) here)

pub returns-else-is_word_at : goal.returns-else-is_word_at
returns-else-is_word_at c =
    let n = c.word_at-number.result in
    let entry = c.in-Some-find.entry in
    let found : Some entry ≡ entry_among c.args.layout.now.entries n = cc (c.find.ensures, c.in-Some-find.is) in
    let here : is_word_at c.in-Some.at entry.mark ≡ false = cc (c.is_word_at.ensures, c.if-is_word_at.false) in
    sym (member_by_word c.args.layout.now c.args.oneof c.in-Some.at n c.args.bytes.now (Some entry) c.requires.apart c.in-Some.ensures c.word_at-number.ensures found ∙ ap (λ b. cond b n 0) here)

pub returns-in-None : goal.returns-in-None
returns-in-None c =
    let n = c.word_at-number.result in
    let found : None ≡ entry_among c.args.layout.now.entries n = cc (c.find.ensures, c.in-None.is) in
    sym (member_by_word c.args.layout.now c.args.oneof c.in-Some.at n c.args.bytes.now None c.requires.apart c.in-Some.ensures c.word_at-number.ensures found)
