use Rattle.std.proofs.Common.{ap, ◌∙◌}
use Rattle.std.specs.Option.{option_map}
use Rattle.std.specs.FinMap as map
use Rattle.msg_layout.specs.Layout.{Layout}
use Rattle.dyn_message.specs.Writes.{marked}
use Rattle.dyn_message.proofs.Setting.{number_is_set, write_keeps}
use Rattle.dyn_message.proofs.by_entry.set_scalar_by.Goals as goal

pub returns-clause-set : goal.returns-clause-set
returns-clause-set g c =
    let M = g.M.Memory in
    let one = c.args.entry in
    let first = c.mark_set.ensures in
    let second = c.set_number.ensures in
    number_is_set c.args.types.now c.record_is_there.ensures.lawful (M.places c.args.mem.now) (M.places c.mark_set.new.mem) (M.places c.set_number.new.mem) (M.buffers c.args.mem.now) (M.buffers c.mark_set.new.mem) (M.buffers c.set_number.new.mem)
    c.args.msg c.args.field c.args.bits one c.requires.entry c.entry_is_there.ensures.number c.ranges.field.fits c.entry_is_there.ensures.field c.requires.field
    (first.here ∙ ap (λ (l : Layout). option_map (marked l.entries one) (map.get (M.places c.args.mem.now) c.args.msg.place)) c.of_type.ensures)
    second.here
    (write_keeps _ _ _ _ c.args.msg.place first.others first.buffers)
    (write_keeps _ _ _ _ c.args.msg.place second.others second.buffers)
