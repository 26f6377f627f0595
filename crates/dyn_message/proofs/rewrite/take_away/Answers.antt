use Rattle.std.proofs.Common.{subst, arith}
use Rattle.msg_layout.specs.Sound.{MarkWithin}
use Rattle.dyn_message.proofs.Entries.{found_fits}
use Rattle.dyn_message.proofs.rewrite.take_away.Goals as goal

pub zero_slot-requires-clause-within : goal.zero_slot-requires-clause-within
zero_slot-requires-clause-within g c =
    let fits = found_fits c.args.layout.now _ c.args.entry c.requires.sound c.requires.found in
    omega (arith, fits.within, c.requires.len)

pub set_word-requires-clause-within : goal.set_word-requires-clause-within
set_word-requires-clause-within g c =
    let fits = found_fits c.args.layout.now _ c.args.entry c.requires.sound c.requires.found in
    let within = subst (MarkWithin c.args.layout.now.unknown) c.in-Word.is fits.mark in
    omega (arith, within, c.requires.len, c.requires.sound.unknown)
