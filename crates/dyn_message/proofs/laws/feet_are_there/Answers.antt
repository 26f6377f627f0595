use Rattle.dyn_message.proofs.There.{message_there}
use Rattle.dyn_message.proofs.laws.feet_are_there.Goals as goal

pub returns : goal.returns
returns c = λ schema places buffers msg t feet st. message_there schema places buffers msg.type_no msg.place t feet st.message
