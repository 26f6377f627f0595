use Rattle.std.proofs.Common.{◌+◌, ◌^◌, ◌<◌, ap, subst, ◌∙◌}
use Rattle.std.specs.Prelude.{IsSome}
use Rattle.cleanup_list.specs.Told.{Gains, HasRoom}
use Rattle.serial_arena.specs.Serial.{SerialState, used_of}
use Rattle.ts_arena.specs.Arena.{registered_of}
use Rattle.ts_arena.specs.Ending.{part_told}
use Rattle.ts_arena.proofs.OneByOne.{ending_goes}
use Rattle.ts_arena.proofs.ending.end_all.Goals as goal

pub loop-item-preserved : goal.loop-item-preserved
loop-item-preserved g c = let is = c.into_part.ensures in let e = c.end_part.ensures in let told = g.W.CleanupWatch.told in let room = g.W.CleanupWatch.room in
    ending_goes g.P.Holder.part_of (told c.args.watch.now) (told c.loop-item.watch) (told c.end_part.new.watch) (room c.args.watch.now) (room c.loop-item.watch) (room c.end_part.new.watch)
    c.args.sums.now c.loop-item.sums c.end_part.new.sums c.args.items.items c.loop-item.items.items c.pop.new.self.items c.in-Some.item c.loop-item.invariant c.in-Some.ensures.items
    (subst (λ (p : SerialState). Gains (told c.loop-item.watch) (told c.end_part.new.watch) (part_told p)) is e.told)
    (subst (λ (p : SerialState). HasRoom (told c.loop-item.watch) (room c.loop-item.watch) (registered_of p) → IsSome (told c.end_part.new.watch)) is e.tells)
    e.room
    (e.registered ∙ ap (λ (p : SerialState). c.loop-item.sums.registered + registered_of p) is)
    (e.cleaned ∙ ap (λ (p : SerialState). c.loop-item.sums.cleaned + registered_of p) is)
    (e.used ∙ ap (λ (p : SerialState). c.loop-item.sums.used + used_of p) is)
    (subst (λ (p : SerialState). registered_of p < 2 ^ 64) is e.small.0)
    (subst (λ (p : SerialState). used_of p < 2 ^ 64) is e.small.1)
