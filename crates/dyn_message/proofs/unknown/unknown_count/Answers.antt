use Rattle.std.proofs.Common.{◌≡◌, ◌∙◌, ap}
use Rattle.msg_layout.specs.Layout.{Layout, layout_of}
use Rattle.dyn_message.specs.Slots.{part, word}
use Rattle.dyn_message.proofs.Appending.{count_is}
use Rattle.dyn_message.proofs.UnknownLaws.{open_unknown}
use Rattle.dyn_message.proofs.unknown.unknown_count.Goals as goal

pub returns : goal.returns
returns g c = λ t feet st.
    let M = g.M.Memory in
    let at_is : c.unknown-at.result ≡ (layout_of c.args.types.now c.args.msg.type_no).unknown = c.unknown-at.ensures ∙ ap (λ (l : Layout). l.unknown) c.of_type.ensures in
    let o = open_unknown c.args.types.now (M.places c.args.mem.now) (M.buffers c.args.mem.now) c.args.msg c.read.result.now t feet st c.read.ensures.value in
    c.list_at.ensures.count ∙ ap (λ at. word 4 (part at 24 c.read.result.now)) at_is ∙ count_is _ _ _ _ o.own o.holds
