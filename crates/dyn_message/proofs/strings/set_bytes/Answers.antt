use Rattle.std.proofs.Common.{ap, ◌∙◌, [], ◌∷◌, rules}
use Rattle.std.specs.Option.{option_map}
use Rattle.std.specs.FinMap as map
use Rattle.msg_layout.specs.Layout.{Layout}
use Rattle.dyn_message.specs.Feet.{InPlace}
use Rattle.dyn_message.specs.Writes.{marked}
use Rattle.dyn_message.proofs.Setting.{bytes_are_set, write_keeps}
use Rattle.dyn_message.proofs.Changing.{grown, rewritten}
use Rattle.dyn_message.proofs.strings.set_bytes.Goals as goal

pub returns-clause-set : goal.returns-clause-set
returns-clause-set g c =
    let M = g.M.Memory in
    let one = c.entry_in-entry.result in
    let first = c.mark_set.ensures in
    let second = c.set_slot.ensures in
    let grows = c.keep_bytes.ensures.grows in
    bytes_are_set c.args.types.now c.record_is_there.ensures.lawful (M.places c.args.mem.now) (M.places c.keep_bytes.new.mem) (M.places c.mark_set.new.mem) (M.places c.set_slot.new.mem) (M.buffers c.args.mem.now) (M.buffers c.keep_bytes.new.mem) (M.buffers c.mark_set.new.mem) (M.buffers c.set_slot.new.mem)
    c.args.msg c.args.field c.args.bytes.now c.in_ok-slot.slot one c.entry_in-entry.ensures.found c.entry_in-entry.ensures.number c.ranges.field.fits c.entry_in-entry.ensures.field c.requires.field c.requires.short (search rules)
    c.in_ok-slot.ensures.kept grows.rest grows.buffers
    (first.here ∙ ap (λ (l : Layout). option_map (marked l.entries one) (map.get (M.places c.keep_bytes.new.mem) c.args.msg.place)) c.of_type.ensures)
    second.here
    (write_keeps _ _ _ _ c.args.msg.place first.others first.buffers)
    (write_keeps _ _ _ _ c.args.msg.place second.others second.buffers)

pub returns-clause-changes : goal.returns-clause-changes
returns-clause-changes g c =
    let M = g.M.Memory in
    rewritten M.key M.places M.buffers M.blocks 1 1 c.args.msg.place _ c.args.mem.now c.mark_set.new.mem c.set_slot.new.mem
    (rewritten M.key M.places M.buffers M.blocks 1 1 c.args.msg.place _ c.args.mem.now c.keep_bytes.new.mem c.mark_set.new.mem
    (grown M.key M.places M.buffers M.blocks 1 1 (InPlace c.args.msg.place ∷ []) c.args.mem.now c.keep_bytes.new.mem c.keep_bytes.ensures.grows)
    c.mark_set.ensures)
    c.set_slot.ensures
