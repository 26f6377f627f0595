use Rattle.std.proofs.Common.{List, ℕ, ◌+◌, take, get_or, sym, ap, subst, ◌≤◌, ◌<◌, arith}
use Rattle.msg_layout.specs.Find.{Tells}
use Rattle.msg_layout.proofs.FindLaws.{past_end_entry, tells_more, tells_past}
use Rattle.msg_layout.proofs.find.near_table.Goals as goal
use Rattle.msg_layout.proofs.find.near_table.Goals.{then-number-len, else-number-len}

pub loop-i-preserved : goal.loop-i-preserved
loop-i-preserved c =
    elim c.if-number-len.branch [
      | then-number-len w ↦
          subst (λ (table : List ℕ). Tells c.args.entries.now table (take (c.loop-i.i + 1) c.args.entries.now)) (sym (ap (λ v. v.items) w.near-is))
          (tells_more c.args.entries.now c.requires.ascending c.loop-i.near.items c.loop-i.i past_end_entry c.loop-i-test.true c.loop-i.invariant
          (let within : (get_or c.args.entries.now c.loop-i.i past_end_entry).field.number < c.len.result = w.if-number-len.true in omega (arith, within, c.loop-i.near.ok.0)))
      | else-number-len w ↦
          subst (λ (table : List ℕ). Tells c.args.entries.now table (take (c.loop-i.i + 1) c.args.entries.now)) (sym (ap (λ v. v.items) w.near-is))
          (tells_past c.args.entries.now c.loop-i.near.items c.loop-i.i past_end_entry c.loop-i-test.true c.loop-i.invariant
          (let past : c.len.result ≤ (get_or c.args.entries.now c.loop-i.i past_end_entry).field.number = w.if-number-len.false in omega (arith, past, c.loop-i.near.ok.0)))
    ]
