use Rattle.std.proofs.Common.{◌≡◌, ℕ, zero, suc, refl, List, sym, ◌∙◌, ⊎_elim, arith}
use Rattle.std.proofs.lemmas.Option.{none-some}
use Rattle.dyn_message.specs.Feet.{Foot, times, IsAmong, foot_bytes}
use Rattle.dyn_message.proofs.There.{message_there}
use Rattle.dyn_message.proofs.Messages.{some_value}
use Rattle.dyn_message.proofs.laws.separate_messages_stay.Goals as goal

none_among : (foot : Foot) (now : List Foot) → (IsAmong foot now → ⊥) → (n : ℕ) → n ≡ times foot now → times foot now ≡ 0
none_among foot now none zero is = sym is
none_among foot now none (suc n) is = absurd (none (omega (arith, is)))

pub returns : goal.returns
returns c = λ schema places buffers msg t feet before now st separate from foot among.
    none_among foot now (λ there.
    let was = some_value (foot_bytes places buffers foot) (message_there schema places buffers msg.type_no msg.place t feet st.message foot among) in
    ⊎_elim
    (λ old. omega (arith, old, separate foot among))
    (λ fresh. none-some was.0 (sym fresh ∙ was.1))
    (from foot there))
    (times foot now) refl
