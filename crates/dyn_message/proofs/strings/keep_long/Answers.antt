use Rattle.std.proofs.Common.{refl}
use Rattle.dyn_message.proofs.HeldBytes.{long_made}
use Rattle.dyn_message.proofs.strings.keep_long.Goals as goal

pub returns-in-Ok-clause-kept : goal.returns-in-Ok-clause-kept
returns-in-Ok-clause-kept g c =
    let M = g.M.Memory in
    long_made (M.places c.args.mem.now) (M.places c.keep_copy.new.self) (M.buffers c.args.mem.now) (M.buffers c.keep_copy.new.self) c.in-Ok.buffer c.buffer_slot.result c.args.bytes.now _ c.in-Ok.ensures.fresh c.in-Ok.ensures.value refl c.requires.many c.buffer_slot.ensures.buffer c.buffer_slot.ensures.zero c.buffer_slot.ensures.count c.buffer_slot.ensures.form
