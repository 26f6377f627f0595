-- What the end of a region tells, and what a watch has been told.
use Rattle.std.specs.Prelude.{◌≡◌, ◌+◌, ◌≤◌, ℕ, zero, suc, List, [], ◌∷◌, ◌++◌, Option, None, Some, length, ⊤}

-- a cleanup that was run: the life and the region that it was registered in, and its number there
abbrev pub Triple : Type 0
Triple = ℕ × ℕ × ℕ

-- the n cleanups of a region, from the last number down to 0
abbrev pub block : ℕ → ℕ → ℕ → List Triple
block life region zero = []
block life region (suc n) = (life, region, n) ∷ block life region n

-- a watch that tells its list told it before, and the list gained exactly these
abbrev pub Gains : Option (List Triple) → Option (List Triple) → List Triple → Type 0
Gains before None triples = ⊤
Gains None (Some now) triples = ⊥
Gains (Some before) (Some now) triples = now ≡ before ++ triples

-- a watch that tells its list has room for so many triples more
abbrev pub HasRoom : Option (List Triple) → ℕ → ℕ → Type 0
HasRoom None room more = ⊥
HasRoom (Some told) room more = length told + more ≤ room
