use Rattle.std.proofs.Common.{arith}
use Rattle.dyn_message.proofs.Bounded.{few_message}
use Rattle.dyn_message.proofs.laws.feet_are_few.Goals as goal

pub returns : goal.returns
returns c = λ schema places buffers msg t feet st. omega (arith, few_message schema places buffers msg.type_no msg.place t feet st.message)
