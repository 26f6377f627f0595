use Rattle.std.proofs.Common.{◌≡◌, ℕ, ◌+◌, ◌/◌, ◌<◌, ◌≤◌, false, true, length, vec_capacity}
use Rattle.std.specs.Prelude.{slice_index_or}
use Rattle.std.specs.Slots.{slots_items, slots_filled, slots_len}
use mathlib.Core.Option.{some}
use lib.ListN.{get_elem?}
use Rattle.arena_list.proofs.close.empty.Given as goal
use Rattle.arena_list.specs.Words.Core.{slot_count}
use Rattle.arena_list.specs.Words.Written.{value_at, value_count}

abbrev pub invariant-loop-place : goal.invariant-loop-place
invariant-loop-place g l = (slots_items l.closed.slots ≡ slots_items l.initial.closed.slots) × (slots_len l.closed.slots ≡ value_count) × (l.closed.words ≡ l.initial.closed.words) × (length l.parts.items ≡ (l.place + 7) / 8) × (slot_count ≤ vec_capacity l.parts)
    × ((k : ℕ) (x : _) → get_elem? l.parts.items k ≡ some x → get_elem? (slots_items l.initial.closed.slots) (value_at k) ≡ some x)
    × ((k : ℕ) → k < l.place → slice_index_or (slots_filled l.closed.slots) k false ≡ false)
    × ((k : ℕ) → l.place ≤ k → k < value_count → slice_index_or (slots_filled l.closed.slots) k false ≡ true)
