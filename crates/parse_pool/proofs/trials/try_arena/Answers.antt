use Rattle.std.proofs.Common.{sym, ap, subst, arith}
use Rattle.ts_arena.specs.Arena.{ArenaState}
use Rattle.parse_pool.specs.Starting.{AreEmpty}
use Rattle.parse_pool.proofs.trials.try_arena.Goals as goal

pub parse_phase-side-requires-clause-fit : goal.parse_phase-side-requires-clause-fit
parse_phase-side-requires-clause-fit g c κs within = λ k cache at life.
    let none = subst AreEmpty (sym c.as_mut_slice.ensures.value) c.in_ok-caches.ensures.empty k cache at in
    absurd (omega (arith, none, life, ap (λ (a : ArenaState). a.life) c.new-arena.ensures))
