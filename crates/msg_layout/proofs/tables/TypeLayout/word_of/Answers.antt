use Rattle.std.proofs.Common.{◌+◌, ◌*◌, subst, arith}
use Rattle.msg_layout.specs.Layout.{Layout}
use Rattle.msg_layout.specs.Words.{HasNoMember, IsWordOf}
use Rattle.msg_layout.proofs.WordLaws.{no_members}
use Rattle.msg_layout.proofs.tables.TypeLayout.word_of.Goals as goal

pub returns-else-oneof-self : goal.returns-else-oneof-self
returns-else-oneof-self c =
    let t = c.self.inside in
    subst (λ (layout : Layout). HasNoMember layout c.args.oneof) c.self.view_is (no_members t.words t.oneofs t.unknown c.args.oneof t.entries.items c.if-oneof-self.false c.self.invariant.2)

pub returns-then-oneof-self : goal.returns-then-oneof-self
returns-then-oneof-self c =
    let has = c.self.invariant.2 in
    subst (λ (layout : Layout). IsWordOf layout c.args.oneof (c.self.inside.words + 4 * c.args.oneof)) c.self.view_is
    (record { within = omega (arith, has.within, c.if-oneof-self.true); members = has.words c.args.oneof })

pub overflow_mul-result : goal.overflow_mul-result
overflow_mul-result c = omega (arith, c.self.invariant.2.within, c.self.invariant.2.small, c.if-oneof-self.true)

pub overflow_add-result : goal.overflow_add-result
overflow_add-result c = omega (arith, c.self.invariant.2.within, c.self.invariant.2.small, c.if-oneof-self.true)
