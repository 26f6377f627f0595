use Rattle.std.proofs.Common.{◌≢◌, sym, arith}
use Rattle.serial_arena.specs.Serial.{SerialState}
use Rattle.arena_list.specs.declared.entry.Entry.{Entry}
use Rattle.arena_list.proofs.Calls.Searches.{and_here, and_all}
use Rattle.ts_arena.proofs.Finding.{found, missing}
use Rattle.ts_arena.proofs.share.is_owner.Goals as goal

pub returns-then-entry-who : goal.returns-then-entry-who
returns-then-entry-who c = sym (found (λ (x : Entry SerialState). x.caller) c.args.owners.now c.args.who _ c.entry-item.result c.loop-entry-test.true c.entry-item.is c.if-entry-who.true)

pub loop-entry-preserved : goal.loop-entry-preserved
loop-entry-preserved c = and_here (λ (x : Entry SerialState). x.caller ≢ c.args.who) c.args.owners.now c.loop-entry.entry-index c.entry-item.result c.loop-entry-test.true c.entry-item.is c.loop-entry.invariant c.if-entry-who.false

pub returns : goal.returns
returns c = sym (missing (λ (x : Entry SerialState). x.caller) c.args.owners.now c.args.who (and_all (λ (x : Entry SerialState). x.caller ≢ c.args.who) c.args.owners.now c.loop-entry.entry-index (let a = c.loop-entry-test.false in omega arith) c.loop-entry.invariant))
