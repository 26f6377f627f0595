use Rattle.std.proofs.Common.{sym, ◌∙◌}
use Rattle.dyn_message.specs.Feet.{foot_bytes}
use Rattle.dyn_message.proofs.SameBytes.{message_same}
use Rattle.dyn_message.proofs.There.{message_there}
use Rattle.dyn_message.proofs.Messages.{some_value}
use Rattle.dyn_message.proofs.laws.strangers_change_nothing.Goals as goal

pub returns : goal.returns
returns c = λ schema places places' buffers buffers' msg t feet others st keeps separate.
    record {
      message = message_same schema places places' buffers buffers' msg.type_no msg.place t feet
          (λ foot among.
          let was = some_value (foot_bytes places buffers foot) (message_there schema places buffers msg.type_no msg.place t feet st.message foot among) in
          keeps foot was.0 (separate foot among) was.1 ∙ sym was.1)
          st.message;
      once = st.once;
    }
