use Rattle.std.proofs.Common.{sym, subst}
use Rattle.arena_run.specs.Lives.{HeapsFit}
use Rattle.arena_run.proofs.Ending.{no_heaps}
use Rattle.arena_run.proofs.program.write_out.Goals as goal

pub returns-clause-heaps : goal.returns-clause-heaps
returns-clause-heaps g c = subst HeapsFit (sym c.fill_registers.ensures) (no_heaps c.deref-2.result.now)
