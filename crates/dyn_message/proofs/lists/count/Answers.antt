use Rattle.std.proofs.Common.{◌∙◌}
use Rattle.dyn_message.proofs.Opening.{has_field}
use Rattle.dyn_message.proofs.ListLaws.{open_list}
use Rattle.dyn_message.proofs.lists.count.Goals as goal

pub returns : goal.returns
returns g c = λ t feet st.
    let one = c.entry_in-entry.result in
    let has = has_field c.args.types.now c.args.msg.type_no c.args.field one.field c.requires.field c.entry_in-entry.ensures.field in
    c.list_at.ensures.count
    ∙ (open_list c.args.types.now c.record_is_there.ensures.lawful (g.M.Memory.places c.args.mem.now) (g.M.Memory.buffers c.args.mem.now) c.args.msg c.args.field one c.read.result.now
    c.entry_in-entry.ensures.found c.entry_in-entry.ensures.number has.0 c.read.ensures.value t feet st).counted
