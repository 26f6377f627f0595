-- How kept byte strings lie in rows of bytes.
use Rattle.std.specs.Prelude.{◌≡◌, ◌+◌, ◌-◌, ◌<◌, ◌≤◌, ℕ, List, [], ◌∷◌, length, take, drop, get_or, ⊤}
use Rattle.serial_arena.specs.declared.kept.KeptBytes.{KeptBytes}
use Rattle.serial_arena.specs.declared.kept.KeptBytes.TheVariants.{Own, Shared}

abbrev pub row_at : List (List ℕ) → ℕ → List ℕ
row_at rows k = get_or rows k []

abbrev pub newest_row : List (List ℕ) → List ℕ
newest_row rows = row_at rows (length rows - 1)

-- the byte string that lies there: a row of its own, or a part of a chunk
abbrev pub bytes_of : List (List ℕ) → List (List ℕ) → KeptBytes → List ℕ
bytes_of own chunks (Own number) = row_at own number
bytes_of own chunks (Shared chunk start len) = take len (drop start (row_at chunks chunk))

-- there is such a row, or such a part
abbrev pub LiesIn : List (List ℕ) → List (List ℕ) → KeptBytes → Type 0
LiesIn own chunks (Own number) = number < length own
LiesIn own chunks (Shared chunk start len) = (chunk < length chunks) × (start + len ≤ length (row_at chunks chunk))

abbrev pub AllLieIn : List (List ℕ) → List (List ℕ) → List KeptBytes → Type 0
AllLieIn own chunks [] = ⊤
AllLieIn own chunks (item ∷ items) = LiesIn own chunks item × AllLieIn own chunks items

-- each row is still there, and begins with what it was
pub record GoesOnAs (old new : List (List ℕ)) : Type 0 where
  pub no_fewer : length old ≤ length new
  pub front : (k : ℕ) → k < length old → take (length (row_at old k)) (row_at new k) ≡ row_at old k
