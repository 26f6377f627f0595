use Rattle.std.proofs.Common.{◌≡◌, ℕ, length, None}
use mathlib.Core.Option.{some}
use lib.ListN.{get_elem?}
use Rattle.arena_list.proofs.close.free_parts.Given as goal

abbrev pub invariant-loop-part : goal.invariant-loop-part
invariant-loop-part g l = (k : ℕ) (x : _) → get_elem? l.parts.items k ≡ some x → x ≡ None

abbrev pub decreases-loop-part : goal.decreases-loop-part
decreases-loop-part g l = length l.parts.items
