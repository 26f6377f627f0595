use Rattle.std.proofs.Common.{rules, ◌≡◌, [], sym, ◌∙◌, subst, arith}
use Rattle.desc_pool.proofs.Reading.{ReadTo, read_none, never_bad, one_more, read_all}
use Rattle.desc_pool.proofs.records.read_records.Goals as goal

pub loop-at-init : goal.loop-at-init
loop-at-init c =
    let none : c.new-records.result.items ≡ [] = search rules in
    subst (ReadTo c.args.descriptor c.args.depth c.args.bytes.now 0) (sym none) (read_none c.args.descriptor c.args.depth c.args.bytes.now c.requires.sound)

pub unreachable-requires : goal.unreachable-requires
unreachable-requires c =
    never_bad c.args.descriptor c.args.depth c.args.bytes.now c.loop-at.at c.loop-at.records.items c.in_default.field-0 c.loop-at.invariant c.loop-at-test.true (sym c.in_default.is ∙ c.read_record.ensures.exact)

pub loop-at-preserved : goal.loop-at-preserved
loop-at-preserved c =
    subst (ReadTo c.args.descriptor c.args.depth c.args.bytes.now c.in-Ok.record.end) (sym c.in_ok-push.ensures.items)
    (one_more c.args.descriptor c.args.depth c.args.bytes.now c.loop-at.at c.loop-at.records.items c.in-Ok.record c.loop-at.invariant c.loop-at-test.true c.in-Ok.ensures.exact c.in-Ok.ensures.bound.2 (omega (arith, c.in-Ok.ensures.bound)))

pub returns-clause-records : goal.returns-clause-records
returns-clause-records c = read_all c.args.descriptor c.args.depth c.args.bytes.now c.loop-at.at c.loop-at.records.items c.loop-at.invariant (omega (arith, c.loop-at-test.false))
