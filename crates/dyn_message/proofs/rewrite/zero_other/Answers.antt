use Rattle.std.proofs.Common.{sym, ◌∙◌, arith}
use Rattle.dyn_message.proofs.Entries.{found_fits}
use Rattle.dyn_message.proofs.rewrite.zero_other.Goals as goal

pub zero_slot-requires-clause-within : goal.zero_slot-requires-clause-within
zero_slot-requires-clause-within g c =
    let fits = found_fits c.args.layout.now _ c.in-Some.other c.requires.sound (sym c.find.ensures ∙ c.in-Some.is) in
    omega (arith, fits.within, c.requires.len)
