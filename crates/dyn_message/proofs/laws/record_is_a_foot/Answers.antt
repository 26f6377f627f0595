use Rattle.dyn_message.proofs.Opening.{record_among}
use Rattle.dyn_message.proofs.laws.record_is_a_foot.Goals as goal

pub returns : goal.returns
returns c = λ schema places buffers msg t feet st. record_among schema places buffers msg t feet st
