use Rattle.std.proofs.Common.{[], None, refl, sym, subst}
use Rattle.ts_arena.specs.Sides.{HoldsPasses}
use Rattle.arena_run.specs.Lives.{EndsSide}
use Rattle.ts_arena.proofs.OneByOne.{gains_none}
use Rattle.arena_run.proofs.Ending.{tells_none, want_of_memory}
use Rattle.arena_run.proofs.outcome.end_side.Goals as goal

pub settle-requires : goal.settle-requires
settle-requires g c = record { own = λ k p there of_life. (subst HoldsPasses c.in-Unsettled.is c.requires).0 k p there }

pub returns-clause-ended : goal.returns-clause-ended
returns-clause-ended g c =
    let holds = subst HoldsPasses c.in-Unsettled.is c.requires in
    record {
      told = [];
      ends = subst (λ side. EndsSide side None []) (sym c.in-Unsettled.is) (want_of_memory c.in-Unsettled.shared c.in-Unsettled.passes.items c.in-Err.field-0.0 holds.0 holds.1 c.in-Err.ensures.refused.2, refl);
      gained = gains_none (g.W.CleanupWatch.told c.args.watch.now);
      tells = tells_none (g.W.CleanupWatch.told c.args.watch.now) (g.W.CleanupWatch.room c.args.watch.now);
    }
