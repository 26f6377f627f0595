use Rattle.std.proofs.Common.{◌∙◌, sym, ap, ltb, ◌&&◌}
use Rattle.std.specs.Prelude.{slice_index}
use Rattle.desc_pool.proofs.Members.{bad_index, bad_list, alone_or_not}
use Rattle.desc_pool.proofs.rules.is_bad_member.Goals as goal

pub returns-then-oneof-counts : goal.returns-then-oneof-counts
returns-then-oneof-counts c = λ message p. bad_index message c.args.counts.now c.args.field.now c.args.oneof p c.if-oneof-counts.true

pub returns-then-is_repeated : goal.returns-then-is_repeated
returns-then-is_repeated c = λ message p. bad_list message c.args.field.now c.args.oneof (sym c.is_repeated.ensures ∙ c.if-is_repeated.true)

pub returns-then-field : goal.returns-then-field
returns-then-field c =
    λ message p.
    sym (ap (λ b. b && ltb 1 (slice_index c.args.counts.now c.args.oneof)) c.if-field.true)
    ∙ alone_or_not message c.args.counts.now c.args.field.now c.args.oneof p c.if-oneof-counts.false (sym c.is_repeated.ensures ∙ c.if-is_repeated.false)

pub returns-else-field : goal.returns-else-field
returns-else-field c =
    λ message p.
    c.if-field.false
    ∙ (sym (ap (λ b. b && ltb 1 (slice_index c.args.counts.now c.args.oneof)) c.if-field.false)
    ∙ alone_or_not message c.args.counts.now c.args.field.now c.args.oneof p c.if-oneof-counts.false (sym c.is_repeated.ensures ∙ c.if-is_repeated.false))
