use Rattle.std.proofs.Common.{◌≤◌, length, vec_capacity}
use Rattle.arena_list.specs.Rule.Founded.{meter}
use Rattle.arena_list.proofs.Making.Filling.{IsFilling}
use Rattle.arena_list.proofs.make.fill.Given as goal

abbrev pub invariant-loop-entry : goal.invariant-loop-entry
invariant-loop-entry g l = (vec_capacity l.initial.others ≤ vec_capacity l.others) × IsFilling g.row.V.coded (meter g.V.Part.owner_of g.V.Part.life_of g.V.Part.used_of) l.words.key l.words.table_id l.initial.entries.items l.entries.items l.earlier.items l.initial.others.items l.others.items (vec_capacity l.others) l.seats.items

abbrev pub decreases-loop-entry : goal.decreases-loop-entry
decreases-loop-entry g l = length l.entries.items
