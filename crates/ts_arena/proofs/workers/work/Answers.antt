use Rattle.std.proofs.Common.{set, sym, subst, ◌∙◌, length-set, Option}
use Rattle.std.proofs.lemmas.List.Elements.{All-set}
use Rattle.life_ids.specs.Cache.{CacheState}
use Rattle.ts_arena.specs.declared.pass.Pass.{Pass}
use Rattle.ts_arena.specs.Ready.{IsReady}
use Rattle.ts_arena.proofs.workers.work.Goals as goal

pub returns : goal.returns
returns c = let sh = c.args.shared.now in let seats = c.args.seats.now in let at = c.args.at in let out = c.replace-seat.new.dest in record {
  count = length-set (set seats at out) at c.work_with.result ∙ length-set seats at out;
  all = All-set (IsReady sh) (set seats at out) at c.work_with.result c.work_with.ensures
      (All-set (IsReady sh) seats at out (subst (λ (s : Option (Pass × CacheState)). IsReady sh s) (sym c.replace-seat.ensures.after) tt) c.requires.ready.all);
}
