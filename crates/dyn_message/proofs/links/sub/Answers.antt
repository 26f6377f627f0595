use Rattle.std.proofs.Common.{◌≡◌, false}
use Rattle.pb_schema.specs.HeldAt.{held_at}
use Rattle.pb_schema.specs.Tree.{Nothing}
use Rattle.dyn_message.specs.Links.{HasSub, IsLinkRead, link_set}
use Rattle.dyn_message.proofs.Opening.{has_field, record_is}
use Rattle.dyn_message.proofs.Linking.{match_map, sub_there, sub_unset}
use Rattle.dyn_message.proofs.links.sub.Goals as goal

pub returns : goal.returns
returns g c = λ t feet st.
    let one = c.entry_in-entry.result in
    let schema = c.args.types.now in
    let places = g.M.Memory.places c.args.mem.now in
    let buffers = g.M.Memory.buffers c.args.mem.now in
    let has = has_field schema c.args.msg.type_no c.args.field one.field c.requires.field c.entry_in-entry.ensures.field in
    let was = record_is schema places buffers c.args.msg t feet st in
    match_map (link_set one was.bytes ≡ false) (held_at schema c.args.msg.type_no c.args.field t ≡ Nothing) (IsLinkRead one was.bytes) (HasSub schema places buffers c.args.msg t feet c.args.field) c.child_at.result
    (λ unset. sub_unset schema c.record_is_there.ensures.lawful places buffers c.args.msg c.args.field one c.entry_in-entry.ensures.found c.entry_in-entry.ensures.number has.0 t feet st was.bytes was.there has.1 unset)
    (λ child read. sub_there schema c.record_is_there.ensures.lawful places buffers c.args.msg c.args.field one c.entry_in-entry.ensures.found c.entry_in-entry.ensures.number has.0 t feet st was.bytes was.there child read)
    (c.child_at.ensures was.bytes was.there)
