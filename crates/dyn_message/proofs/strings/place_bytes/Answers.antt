use Rattle.std.proofs.Common.{refl}
use Rattle.dyn_message.proofs.HeldBytes.{short_made}
use Rattle.dyn_message.proofs.strings.place_bytes.Goals as goal

pub returns-clause-kept : goal.returns-clause-kept
returns-clause-kept g c =
    let M = g.M.Memory in
    short_made (M.places c.args.mem.now) (M.places c.place.new.self) (M.places c.write.new.self) (M.buffers c.args.mem.now) (M.buffers c.write.new.self) c.in_ok-place.place c.place_slot.result c.args.bytes.now _ c.in_ok-place.ensures.fresh c.in_ok-place.ensures.len c.in_ok-place.ensures.zeros c.write.ensures.here refl c.requires.some c.requires.few c.place_slot.ensures.place c.place_slot.ensures.count c.place_slot.ensures.form
