use Rattle.std.proofs.Common.{◌≢◌, sym, arith}
use Rattle.serial_arena.specs.Serial.{SerialState}
use Rattle.arena_list.specs.declared.entry.Entry.{Entry}
use Rattle.arena_list.proofs.Calls.Searches.{and_here, and_all}
use Rattle.ts_arena.proofs.Finding.{found, missing}
use Rattle.ts_arena.proofs.share.has_slot.Goals as goal

pub returns-then-entry-slot : goal.returns-then-entry-slot
returns-then-entry-slot c = sym (found (λ (x : Entry SerialState). x.slot) c.args.entries.now c.args.slot _ c.entry-item.result c.loop-entry-test.true c.entry-item.is c.if-entry-slot.true)

pub loop-entry-preserved : goal.loop-entry-preserved
loop-entry-preserved c = and_here (λ (x : Entry SerialState). x.slot ≢ c.args.slot) c.args.entries.now c.loop-entry.entry-index c.entry-item.result c.loop-entry-test.true c.entry-item.is c.loop-entry.invariant c.if-entry-slot.false

pub returns : goal.returns
returns c = sym (missing (λ (x : Entry SerialState). x.slot) c.args.entries.now c.args.slot (and_all (λ (x : Entry SerialState). x.slot ≢ c.args.slot) c.args.entries.now c.loop-entry.entry-index (let a = c.loop-entry-test.false in omega arith) c.loop-entry.invariant))
