use Rattle.std.proofs.Common.{subst, arith}
use Rattle.msg_layout.specs.Sound.{MarkWithin}
use Rattle.dyn_message.proofs.Entries.{found_fits}
use Rattle.dyn_message.proofs.rewrite.mark_set.Goals as goal

pub set_bit-requires-clause-within : goal.set_bit-requires-clause-within
set_bit-requires-clause-within g c =
    let fits = found_fits c.args.layout.now _ c.args.entry c.requires.sound c.requires.found in
    let within = subst (MarkWithin c.args.layout.now.unknown) c.in-Bit.is fits.mark in
    omega (arith, within, c.requires.len, c.requires.sound.unknown)

pub zero_other-requires-clause-within : goal.zero_other-requires-clause-within
zero_other-requires-clause-within g c =
    let fits = found_fits c.args.layout.now _ c.args.entry c.requires.sound c.requires.found in
    let within = subst (MarkWithin c.args.layout.now.unknown) c.in-Word.is fits.mark in
    omega (arith, within, c.requires.len, c.requires.sound.unknown)

pub set_word-requires-clause-within : goal.set_word-requires-clause-within
set_word-requires-clause-within g c =
    let fits = found_fits c.args.layout.now _ c.args.entry c.requires.sound c.requires.found in
    let within = subst (MarkWithin c.args.layout.now.unknown) c.in-Word.is fits.mark in
    omega (arith, within, c.requires.len, c.requires.sound.unknown)
