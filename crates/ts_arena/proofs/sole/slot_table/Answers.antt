use Rattle.std.proofs.Common.{◌∙◌, arith}
use Rattle.arena_list.proofs.Words.Lists.{at_below}
use Rattle.ts_arena.proofs.Finding.{at_index}
use Rattle.ts_arena.proofs.Spots.{len_set}
use Rattle.ts_arena.proofs.Entering.{few_slots, table_more}
use Rattle.ts_arena.proofs.sole.slot_table.Goals as goal

pub overflow_cast-table : goal.overflow_cast-table
overflow_cast-table c = let few = few_slots c.args.owners.now c.requires.slots c.requires.small in let low = c.loop-at-test.true in omega arith

pub loop-at-preserved : goal.loop-at-preserved
loop-at-preserved c = let e = c.index-owners-at.result in record {
  long = len_set c.loop-at.table e.slot c.loop-at.at ∙ c.loop-at.invariant.long;
  done = table_more c.args.owners.now c.requires.slots c.requires.small c.loop-at.table c.loop-at.at e c.loop-at.invariant.long (at_index c.args.owners.now c.loop-at.at e c.loop-at-test.true c.index-owners-at.is) c.loop-at.invariant.done;
}

pub returns : goal.returns
returns c = record { each = λ k x at. c.loop-at.invariant.done k x (let low = at_below c.args.owners.now k x at in let all = c.loop-at-test.false in omega arith) at }

pub bounds-table-entry : goal.bounds-table-entry
bounds-table-entry c = let e = c.index-owners-at.result in let small = c.requires.small c.loop-at.at e (at_index c.args.owners.now c.loop-at.at e c.loop-at-test.true c.index-owners-at.is) in let long = c.loop-at.invariant.long in omega arith
