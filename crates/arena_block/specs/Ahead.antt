-- What stands of a block behind what is filled.
use Rattle.std.specs.Prelude.{◌≡◌, ◌-◌, ◌≤◌, ℕ, List, length, drop, replicate}

-- the bytes are filled to there, and zeroed behind it, up to the size at most
pub record IsZeroed (size filled : ℕ) (bytes : List ℕ) : Type 0 where
  pub there : filled ≤ length bytes
  pub within : length bytes ≤ size
  pub zeros : drop filled bytes ≡ replicate (length bytes - filled) 0
