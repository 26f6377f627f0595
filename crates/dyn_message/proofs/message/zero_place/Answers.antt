use Rattle.std.proofs.Common.{◌∙◌, arith}
use Rattle.std.proofs.lemmas.List.{take-replicate}
use Rattle.dyn_message.proofs.Empty.{zeros_here}
use Rattle.dyn_message.proofs.message.zero_place.Goals as goal

pub loop-at-preserved : goal.loop-at-preserved
loop-at-preserved g c =
    let inv = c.loop-at.invariant in
    let was = inv.rewritten in
    let wrote = c.write.ensures in
    record {
      within = omega (arith, c.min-count.ensures, inv.within);
      size = inv.size;
      rewritten = record {
        key = wrote.key ∙ was.key;
        here = zeros_here _ _ _ c.loop-at.at c.min-count.result c.args.place.len _ (take-replicate c.min-count.result 64 0 (omega (arith, c.min-count.ensures))) (omega (arith, c.min-count.ensures, inv.within)) inv.size was.here wrote.here;
        others = λ q differs. wrote.others q differs ∙ was.others q differs;
        still_live = λ q live. wrote.still_live q (was.still_live q live);
        count = wrote.count ∙ was.count;
        space = wrote.space ∙ was.space;
        buffers = wrote.buffers ∙ was.buffers;
        blocks = λ region. wrote.blocks region ∙ was.blocks region;
      };
    }
