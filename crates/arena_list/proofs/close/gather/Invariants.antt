use Rattle.std.proofs.Common.{◌≡◌, ◌+◌, ◌≤◌, [], length, vec_capacity}
use Rattle.arena_list.proofs.Closing.Gathering.{IsGathering}
use Rattle.arena_list.proofs.close.gather.Given as goal

abbrev pub invariant-loop-next : goal.invariant-loop-next
invariant-loop-next g l = (l.all.table_id ≡ l.words.table_id) × (length l.spare_slots.items + length l.seats.items ≤ vec_capacity l.spare_slots) × IsGathering l.fn.seats.items l.seats.items l.spare_slots.items l.all.me.0 × (l.all.me.1 ≡ [])

abbrev pub decreases-loop-next : goal.decreases-loop-next
decreases-loop-next g l = length l.seats.items
