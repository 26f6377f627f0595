use Rattle.std.proofs.Common.{◌≡◌, length}
use Rattle.std.specs.Prelude.{All}
use Rattle.arena_list.specs.Rule.Founded.{meter}
use Rattle.arena_list.specs.Calls.Seats.{IsHome}
use Rattle.arena_list.specs.contracts.tests.Counter.{the_row}
use Rattle.arena_list.specs.declared.tests.Counter.{Counter}
use Rattle.arena_list.proofs.tests.side_by_side.Given as goal

abbrev pub invariant-loop-slot : goal.invariant-loop-slot
invariant-loop-slot g l = (length l.slice ≡ length l.initial.slice) × All (IsHome the_row.coded (meter (λ (x : Counter). x.owner) (λ (x : Counter). x.life) (λ (x : Counter). x.used)) l.list) l.slice
