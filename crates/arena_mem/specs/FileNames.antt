-- The names that stand beside files: the one picked last and the one blamed for the last fault.
use Rattle.std.specs.Prelude.{ℕ, List, Option}

-- each name as its bytes, and nothing where there is none yet
pub record Names : Type 0 where
  pub picked : Option (List ℕ)
  pub blamed : Option (List ℕ)
