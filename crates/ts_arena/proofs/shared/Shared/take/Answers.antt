use Rattle.std.proofs.Common.{ℕ, sym, subst, ap}
use Rattle.serial_arena.specs.Serial.{SerialState}
use Rattle.arena_list.specs.declared.for_clauses.mark.Mark.{Mark}
use Rattle.arena_list.specs.declared.for_clauses.view.View.{View}
use Rattle.arena_list.specs.Rule.Views.{who}
use Rattle.ts_arena.specs.Arena.{IsOwned}
use Rattle.ts_arena.proofs.Settled.{one_part}
use Rattle.ts_arena.proofs.shared.Shared.take.Goals as goal

pub returns-clause-part : goal.returns-clause-part
returns-clause-part c = λ s has. one_part c.args.seat.now c.take_slot.result s c.take_slot.ensures.value has

pub returns-clause-owned : goal.returns-clause-owned
returns-clause-owned c = let p = c.requires.part in let same = one_part c.args.seat.now p.0 c.take_slot.result p.1 c.take_slot.ensures.value in
    subst (λ (z : ℕ × SerialState). IsOwned c.args.self.now.life c.args.self.now.policy c.args.slot z.0 z.1) (λ i. (sym (ap (λ (v : View Mark). who v) c.take_slot.ensures.view) i, same i)) p.2
