-- Numbers at a place of some bytes, as they are found there.
use Rattle.std.specs.Prelude.{◌≡◌, ◌+◌, ◌-◌, ◌<◌, ◌≤◌, ◌^◌, ℕ, List, length, take, Option, Ok, Err, MatchOption}
use Rattle.pb_schema.specs.declared.wire_fault.WireFault.{WireFault}
use Rattle.pb_schema.specs.Kinds.{ValueType, Scalar}
use Rattle.pb_schema.specs.Form.{read_scalar}
use Rattle.pb_schema.specs.TreeOf.{number_in}

-- a number of this wire type at the front of some bytes that begin at `at`, with the place behind it
pub record IsFound (wire at : ℕ) (s : List ℕ) (number behind : ℕ) : Type 0 where
  pub read : read_scalar wire at s ≡ Ok (behind - at)
  pub some : at < behind
  pub within : behind ≤ at + length s
  pub value : number ≡ number_in wire (take (behind - at) s)

-- that, or none where no whole number stands there
abbrev pub IsFoundOrNone : ℕ → ℕ → List ℕ → Option (ℕ × ℕ) → Type 0
IsFoundOrNone wire at s o =
    MatchOption o ((fault : WireFault) × (read_scalar wire at s ≡ Err fault)) (λ found. IsFound wire at s found.0 found.1)

-- the pattern of a number by what values of a type are
abbrev pub kept_by : ValueType → ℕ → ℕ
kept_by (Scalar coding) v = coding.kept v
kept_by _ v = v

-- a number below 2^14 is written as a varint, and is its own pattern
abbrev pub KeepsSmall : ValueType → Type 0
KeepsSmall (Scalar coding) = (coding.wire ≡ 0) × ((v : ℕ) → v < 2 ^ 14 → (coding.kept v ≡ v) × (v < coding.patterns))
KeepsSmall _ = ⊥
