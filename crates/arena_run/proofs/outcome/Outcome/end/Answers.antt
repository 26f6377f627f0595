use Rattle.arena_run.proofs.Ending.{ended_in_turn}
use Rattle.arena_run.proofs.outcome.Outcome.end.Goals as goal

pub returns-clause-told : goal.returns-clause-told
returns-clause-told g c =
    let W = g.W.CleanupWatch in
    let heaps = c.end_regions-heaps in
    let outcome = c.args.self in
    ended_in_turn outcome.registers.items outcome.a outcome.b c.end_side-a.result c.end_side-b.result (W.told c.args.watch.now) (W.told heaps.new.watch) (W.told c.end_side-a.new.watch) (W.told c.end_side-b.new.watch)
    (W.room c.args.watch.now) (W.room heaps.new.watch) (W.room c.end_side-a.new.watch) heaps.ensures.told heaps.ensures.tells heaps.ensures.room c.end_side-a.ensures.room c.end_side-a.ensures.ended c.end_side-b.ensures.ended
