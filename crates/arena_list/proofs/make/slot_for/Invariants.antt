use Rattle.std.proofs.Common.{◌≡◌, ◌≢◌, ℕ, ◌<◌}
use mathlib.Core.Option.{some}
use lib.ListN.{get_elem?}
use Rattle.arena_list.proofs.make.slot_for.Given as goal

abbrev pub invariant-loop-entry : goal.invariant-loop-entry
invariant-loop-entry g l = (k : ℕ) (e : _) → k < l.entry-index → get_elem? l.linked k ≡ some e → e.caller ≢ l.caller

abbrev pub invariant-loop-other : goal.invariant-loop-other
invariant-loop-other g l = ((k : ℕ) (e : _) → get_elem? l.linked k ≡ some e → e.caller ≢ l.caller) × ((k : ℕ) (e : _) → k < l.other-index → get_elem? l.spare k ≡ some e → e.caller ≢ l.caller)
