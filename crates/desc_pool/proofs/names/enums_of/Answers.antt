use Rattle.std.specs.BTreeMap.{get_by_text}
use Rattle.desc_pool.proofs.Naming.{enum_more}
use Rattle.desc_pool.proofs.names.enums_of.Goals as goal

pub loop-decl-preserved : goal.loop-decl-preserved
loop-decl-preserved c =
    enum_more c.args.names.now c.loop-decl.decl-index c.decl-item.result c.as_str.result.now (get_by_text c.loop-decl.enums) (get_by_text c.put.new.table) (c.loop-decl-test.true, c.decl-item.is) c.as_str.ensures c.if-decl.false c.in_ok-put.ensures c.loop-decl.invariant
