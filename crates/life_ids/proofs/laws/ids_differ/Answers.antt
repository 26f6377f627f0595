use Rattle.life_ids.proofs.PlainWords.{below, from_one, seats, one_batch, taken_apart, ascend, room}
use Rattle.life_ids.proofs.laws.ids_differ.Goals as goal

pub returns-clause-below : goal.returns-clause-below
returns-clause-below c = below

pub returns-clause-from_one : goal.returns-clause-from_one
returns-clause-from_one c = from_one

pub returns-clause-seats : goal.returns-clause-seats
returns-clause-seats c = seats

pub returns-clause-batches : goal.returns-clause-batches
returns-clause-batches c = one_batch

pub returns-clause-taken : goal.returns-clause-taken
returns-clause-taken c = taken_apart

pub returns-clause-ascend : goal.returns-clause-ascend
returns-clause-ascend c = ascend

pub returns-clause-room : goal.returns-clause-room
returns-clause-room c = room
