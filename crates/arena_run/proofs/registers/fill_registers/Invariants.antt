use Rattle.std.proofs.Common.{◌≡◌, ◌≤◌, length, take, vec_capacity}
use Rattle.pb_script.specs.Registers.{cat_registers}
use Rattle.arena_run.proofs.registers.fill_registers.Given as goal

abbrev pub invariant-loop-message : goal.invariant-loop-message
invariant-loop-message l =
    (l.registers.items ≡ cat_registers (take l.message-index l.messages)) × (length l.registers.items ≡ l.message-index) × (length l.messages ≤ vec_capacity l.registers)
