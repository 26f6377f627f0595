use Rattle.msg_merge.proofs.Standing.{standing_by_cards}
use Rattle.msg_merge.proofs.laws.standing_messages_hold_by_cards.Goals as goal

pub returns : goal.returns
returns c = λ schema places buffers msg t feet lawful stand. standing_by_cards schema places buffers msg t feet lawful stand
