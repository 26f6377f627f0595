use Rattle.std.proofs.Common.{sym, ◌∙◌, arith}
use Rattle.ts_arena.proofs.Sharing.{asked_then, asked_else}
use Rattle.ts_arena.proofs.share.count_asked.Goals as goal
use Rattle.ts_arena.proofs.share.count_asked.Goals.{then-not-is_owner, else-not-is_owner}

pub loop-who-preserved : goal.loop-who-preserved
loop-who-preserved c = let os = c.args.owners.now in let cs = c.args.callers.now in let i = c.loop-who.who-index in let low = c.loop-who-test.true in
    elim c.if-not-is_owner.branch [
      | then-not-is_owner w ↦ let m = asked_then os cs i low (sym c.is_owner.ensures ∙ w.if-not-is_owner.true) in let a = w.asked-is in let b = c.loop-who.invariant in (omega arith, omega arith)
      | else-not-is_owner w ↦ let m = asked_else os cs i low (sym c.is_owner.ensures ∙ w.if-not-is_owner.false) in let a = w.asked-is in let b = c.loop-who.invariant in (omega arith, omega arith)
    ]
