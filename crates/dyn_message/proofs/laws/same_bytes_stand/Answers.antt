use Rattle.dyn_message.proofs.SameBytes.{message_same}
use Rattle.dyn_message.proofs.laws.same_bytes_stand.Goals as goal

pub returns : goal.returns
returns c = λ schema places places' buffers buffers' msg t feet st same.
    record { message = message_same schema places places' buffers buffers' msg.type_no msg.place t feet same st.message; once = st.once }
