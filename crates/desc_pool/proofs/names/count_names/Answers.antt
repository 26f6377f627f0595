use Rattle.std.proofs.Common.{◌∙◌, take, sym, ap, arith, length-take-le}
use Rattle.std.specs.BTreeMap.{get_by_text}
use Rattle.std.specs.Option.{unwrap_or}
use Rattle.desc_pool.proofs.Naming.{count_more, times_few}
use Rattle.desc_pool.proofs.names.count_names.Goals as goal

pub overflow_add-count : goal.overflow_add-count
overflow_add-count c =
    let same = c.count_of-count.ensures ∙ c.loop-decl.invariant c.as_str.result.now in
    let few = times_few c.as_str.result.now (take c.loop-decl.decl-index c.args.names.now) in
    let size = length-take-le c.loop-decl.decl-index c.args.names.now (omega (arith, c.loop-decl-test.true)) in
    omega (arith, same, few, size, c.loop-decl-test.true)

pub loop-decl-preserved : goal.loop-decl-preserved
loop-decl-preserved c =
    count_more c.args.names.now c.loop-decl.decl-index c.decl-item.result c.as_str-in-loop-decl.result.now c.count_of-count.result (get_by_text c.loop-decl.counts) (get_by_text c.put.new.table) (c.loop-decl-test.true, c.decl-item.is) c.as_str-in-loop-decl.ensures
    (c.count_of-count.ensures ∙ ap (λ s. unwrap_or (get_by_text c.loop-decl.counts s) 0) (c.as_str.ensures ∙ sym c.as_str-in-loop-decl.ensures)) c.in_ok-put.ensures c.loop-decl.invariant
