-- The type at the place that is looked at has the name or has it not, and those before it have it not.
use Rattle.std.proofs.Common.{◌∙◌, refl, sym, ap, below_more}
use Rattle.pb_schema.specs.declared.schema.MessageType.{MessageType}
use Rattle.pb_schema.specs.Names.{HasName, NoneBelow}
use Rattle.pb_schema.proofs.NameLaws.{named, not_named, none_at_all, if_it_fits, none_or_past}
use Rattle.pb_schema.proofs.schema.Schema.find.Goals as goal

pub loop-i-preserved : goal.loop-i-preserved
loop-i-preserved c =
    below_more _ _
    c.loop-i.invariant
    (not_named c.args.self.now c.items-types.result.now c.items-types.ensures c.args.name.now c.loop-i.i c.index-types-i.result c.loop-i-test.true c.index-types-i.is
    (λ e. let yes = c.is.ensures.1 (ap (λ (t : MessageType). t.name) (sym c.index-types-i.is) ∙ e) in cc))

has_it : (c : goal.After-ok) → HasName c.args.self.now c.args.name.now c.loop-i.i
has_it c =
    named c.args.self.now c.items-types.result.now c.items-types.ensures c.args.name.now c.loop-i.i c.index-types-i.result c.loop-i-test.true c.index-types-i.is
    (ap (λ (t : MessageType). t.name) c.index-types-i.is ∙ c.is.ensures.0 c.if-is.true)

pub returns-then-is-clause-found : goal.returns-then-is-clause-found
returns-then-is-clause-found c = if_it_fits (HasName c.args.self.now c.args.name.now) c.loop-i.i c.try_from.result c.ok.result c.ok.ensures.value c.try_from.ensures (has_it c)

pub returns-then-is-clause-first : goal.returns-then-is-clause-first
returns-then-is-clause-first c = if_it_fits (NoneBelow c.args.self.now c.args.name.now) c.loop-i.i c.try_from.result c.ok.result c.ok.ensures.value c.try_from.ensures c.loop-i.invariant

pub returns-then-is-clause-none : goal.returns-then-is-clause-none
returns-then-is-clause-none c = none_or_past c.args.self.now c.args.name.now c.loop-i.i c.try_from.result c.ok.result c.ok.ensures.value c.try_from.ensures (has_it c) c.loop-i.invariant

pub returns-clause-none : goal.returns-clause-none
returns-clause-none c =
    ((λ _ k _. none_at_all c.args.self.now c.items-types.result.now c.items-types.ensures c.args.name.now c.loop-i.i c.loop-i-test.false c.loop-i.invariant k), (λ _. refl))
