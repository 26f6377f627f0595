use Rattle.dyn_message.proofs.OneShape.{message_one}
use Rattle.dyn_message.proofs.laws.one_shape_stands.Goals as goal

pub returns : goal.returns
returns c = λ schema places buffers msg t u feet others one other.
    message_one schema places buffers msg.type_no msg.place u t others feet other.message one.message
