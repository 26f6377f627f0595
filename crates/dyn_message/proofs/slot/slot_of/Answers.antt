use Rattle.std.proofs.Common.{◌≡◌, ◌+◌, ◌*◌, length, ap, ◌∙◌, ◌++◌, arith}
use Rattle.std.proofs.lemmas.Grind.{common_steps}
use Rattle.std.proofs.lemmas.Slice.{take-put_mid}
use Rattle.dyn_message.proofs.Words.{one_word_more, all_words}
use Rattle.dyn_message.proofs.slot.slot_of.Goals as goal

pub loop-i-preserved : goal.loop-i-preserved
loop-i-preserved c =
    let i = c.loop-i.i in
    let bytes = c.copy_from_slice.new.self in
    let four : length bytes ≡ 4 = ap length (c.copy_from_slice.ensures.after ∙ c.to_le_bytes.ensures) in
    record {
      count = c.loop-i.invariant.count;
      fits = c.loop-i.invariant.fits;
      size = grind (arith, common_steps);
      written = take-put_mid (4 * i) _ c.loop-i.slot bytes (4 * (i + 1)) (omega (arith, four)) (omega (arith, c.loop-i.invariant.size))
          ∙ (ap (λ bs. bs ++ bytes) c.loop-i.invariant.written ∙ one_word_more c.args.words bytes i (omega arith) (c.copy_from_slice.ensures.after ∙ c.to_le_bytes.ensures));
    }

pub returns : goal.returns
returns c = all_words c.args.words c.loop-i.slot c.loop-i.i (omega (arith, c.loop-i-test.false, c.loop-i.auto.i-end)) c.loop-i.invariant.count c.loop-i.invariant.size c.loop-i.invariant.fits c.loop-i.invariant.written
