use Rattle.std.proofs.Common.{◌≢◌}
use Rattle.serial_arena.specs.Serial.{SerialState}
use Rattle.arena_list.specs.declared.entry.Entry.{Entry}
use Rattle.arena_list.proofs.Calls.Searches.{and_here, and_all}
use Rattle.ts_arena.proofs.Finding.{missing}
use Rattle.ts_arena.proofs.sole.owner_place.Goals as goal

pub loop-at-preserved : goal.loop-at-preserved
loop-at-preserved c = and_here (λ (x : Entry SerialState). x.caller ≢ c.args.who) c.args.owners.now c.loop-at.at c.index-owners-at.result c.loop-at-test.true c.index-owners-at.is c.loop-at.invariant c.if-entry-who.false

pub returns-clause-none : goal.returns-clause-none
returns-clause-none c = missing (λ (x : Entry SerialState). x.caller) c.args.owners.now c.args.who (and_all (λ (x : Entry SerialState). x.caller ≢ c.args.who) c.args.owners.now c.loop-at.at c.loop-at-test.false c.loop-at.invariant)
