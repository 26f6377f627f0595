use Rattle.std.proofs.Common.{◌++◌, arith}
use Rattle.std.proofs.lemmas.List.{length-append}
use Rattle.arena_list.specs.Words.Core.{slot_count}
use Rattle.arena_list.specs.Rule.Founded.{slot}
use Rattle.arena_list.proofs.Words.Few.{len_map}
use Rattle.ts_arena.specs.Sharing.{slots_with}
use Rattle.ts_arena.proofs.Finding.{all_there}
use Rattle.ts_arena.proofs.share.least_free.Goals as goal

pub unreachable-requires : goal.unreachable-requires
unreachable-requires c = let xs = slots_with c.args.owners.now c.args.spares.now in
    let a = all_there slot_count xs (λ q low. c.loop-slot.invariant q (let e = c.loop-slot-test.false in omega arith)) in
    let l = len_map slot (c.args.owners.now ++ c.args.spares.now) in let m = length-append c.args.owners.now c.args.spares.now in let r = c.requires in absurd (omega arith)
