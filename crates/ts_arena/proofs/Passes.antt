-- Passes and seats, moved one into the other.
use Rattle.std.proofs.Common.{◌≡◌, ℕ, List, ◌++◌, map, reverse}
use Rattle.arena_list.specs.declared.list.ListSeat.{ListSeat}
use Rattle.ts_arena.specs.declared.pass.Pass.{Pass}
use Rattle.ts_arena.specs.Passes.{pass_of}

abbrev pub seat_of : Pass → ListSeat
seat_of p = p.seat

-- the last seats were made passes, the last first
abbrev pub AreMadeOf : List ListSeat → List ListSeat → ℕ → List Pass → Type 0
AreMadeOf all left life passes = map (pass_of life) all ≡ map (pass_of life) left ++ reverse passes

-- the seats of the last passes were taken, the last first
abbrev pub AreTaken : List Pass → List Pass → List ListSeat → Type 0
AreTaken all left seats = map seat_of all ≡ map seat_of left ++ reverse seats
