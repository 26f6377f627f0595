use Rattle.std.proofs.Common.{ap, ◌∙◌}
use Rattle.msg_layout.specs.Layout.{Layout}
use Rattle.dyn_message.specs.Fields.{first_set}
use Rattle.dyn_message.proofs.Empty.{case_opened}
use Rattle.dyn_message.proofs.scalar.case_of.Goals as goal

pub returns : goal.returns
returns g c = λ t feet st.
    c.set_member.ensures ∙ ap (λ (l : Layout). first_set c.args.oneof c.read.result.now l.entries) c.of_type.ensures
    ∙ case_opened c.args.types.now (g.M.Memory.places c.args.mem.now) (g.M.Memory.buffers c.args.mem.now) c.args.msg c.args.oneof c.read.result.now t feet st c.read.ensures.value
