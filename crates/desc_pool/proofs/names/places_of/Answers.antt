use Rattle.std.specs.BTreeMap.{get_by_text}
use Rattle.desc_pool.proofs.Naming.{place_skip, place_more}
use Rattle.desc_pool.proofs.names.places_of.Goals as goal

pub loop-decl-preserved-then-not-decl : goal.loop-decl-preserved-then-not-decl
loop-decl-preserved-then-not-decl c =
    place_skip c.args.names.now c.loop-decl.decl-index c.decl-item.result (get_by_text c.loop-decl.places) c.loop-decl.place (c.loop-decl-test.true, c.decl-item.is) c.if-not-decl.true c.loop-decl.invariant

pub loop-decl-preserved : goal.loop-decl-preserved
loop-decl-preserved c =
    place_more c.args.names.now c.loop-decl.decl-index c.decl-item.result c.as_str.result.now (get_by_text c.loop-decl.places) (get_by_text c.put.new.table) c.loop-decl.place (c.loop-decl-test.true, c.decl-item.is) c.as_str.ensures c.if-not-decl.false c.in_ok-put.ensures c.loop-decl.invariant
