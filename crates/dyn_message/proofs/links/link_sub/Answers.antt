use Rattle.std.proofs.Common.{ap, ◌∙◌, rules}
use Rattle.std.specs.Option.{option_map}
use Rattle.std.specs.FinMap as map
use Rattle.arena_mem.specs.Places.{splice}
use Rattle.msg_layout.specs.Layout.{Layout, layout_of}
use Rattle.dyn_message.specs.Feet.{InPlace}
use Rattle.std.proofs.Common.{[], ◌∷◌}
use Rattle.dyn_message.specs.Writes.{marked}
use Rattle.dyn_message.proofs.Opening.{has_field}
use Rattle.dyn_message.proofs.Setting.{two_writes, write_keeps, keeps_join}
use Rattle.dyn_message.proofs.Linking.{link_stands}
use Rattle.dyn_message.proofs.links.link_sub.Goals as goal

pub returns-clause-linked : goal.returns-clause-linked
returns-clause-linked g c = λ t feet u own st child_st separate.
    let M = g.M.Memory in
    let one = c.entry_in-entry.result in
    let schema = c.args.types.now in
    let has = has_field schema c.args.msg.type_no c.args.field one.field c.requires.field c.entry_in-entry.ensures.field in
    let first = c.mark_set.ensures in
    let second = c.set_slot.ensures in
    link_stands schema c.record_is_there.ensures.lawful (M.places c.args.mem.now) (M.places c.set_slot.new.mem) (M.buffers c.args.mem.now) (M.buffers c.set_slot.new.mem) c.args.msg c.args.field one c.entry_in-entry.ensures.found c.entry_in-entry.ensures.number has.0 c.ranges.field.fits
    (keeps_join _ (M.places c.mark_set.new.mem) _ _ (M.buffers c.mark_set.new.mem) _ (InPlace c.args.msg.place ∷ []) (write_keeps _ _ _ _ c.args.msg.place first.others first.buffers) (write_keeps _ _ _ _ c.args.msg.place second.others second.buffers))
    t feet u own c.args.child c.link_slot.result st child_st separate has.1 (search rules) c.link_slot.ensures
    (two_writes _ _ _ (marked (layout_of schema c.args.msg.type_no).entries one) (splice one.slot c.link_slot.result)
    (first.here ∙ ap (λ (l : Layout). option_map (marked l.entries one) (map.get (M.places c.args.mem.now) c.args.msg.place)) c.of_type.ensures)
    second.here)
