use Rattle.std.proofs.Common.{sym, ◌∙◌}
use Rattle.serial_arena.proofs.Names.{used_is}
use Rattle.serial_arena.proofs.States.{state_serial, state_used}
use Rattle.serial_arena.proofs.arena.SerialArena.space_used.Goals as goal

pub returns-clause-serial : goal.returns-clause-serial
returns-clause-serial c = state_serial _ _ _ _ _ _ _ _ _ _ c.self.view_is c.self.invariant

pub returns-clause-places : goal.returns-clause-places
returns-clause-places c = state_used _ _ _ _ _ _ _ _ _ _ c.self.view_is c.self.invariant ∙ sym (used_is c.args.self.now (state_serial _ _ _ _ _ _ _ _ _ _ c.self.view_is c.self.invariant).laid)
