-- What a message stands on: places and buffers of a memory, each of them once.
use Rattle.std.specs.Prelude.{◌≡◌, ◌⊎◌, ◌+◌, ◌≤◌, ℕ, Bool, false, ◌&&◌, ◌==◌, if◌then◌else◌, List, [], ◌∷◌, ◌++◌, Option, None, Some, IsSome}
use Rattle.std.specs.FinMap as map
use Rattle.arena_mem.specs.declared.place.Place.{Place}
use Rattle.arena_mem.specs.declared.place.Buffer.{Buffer}
use Rattle.arena_mem.specs.Places.{Places, Buffers}

-- a place, or a kept buffer
pub data Foot : Type 0 where
  InPlace : Place → Foot
  InBuffer : Buffer → Foot

-- COUNTING

abbrev pub same_place : Place → Place → Bool
same_place p q = p.region == q.region && p.block == q.block && p.offset == q.offset && p.len == q.len

abbrev pub same_buffer : Buffer → Buffer → Bool
same_buffer a b = a.region == b.region && a.number == b.number

abbrev pub same_foot : Foot → Foot → Bool
same_foot (InPlace p) (InPlace q) = same_place p q
same_foot (InBuffer a) (InBuffer b) = same_buffer a b
same_foot _ _ = false

-- how often a foot stands in a list of feet
abbrev pub times : Foot → List Foot → ℕ
times foot [] = 0
times foot (other ∷ feet) = (if same_foot foot other then 1 else 0) + times foot feet

-- it stands in the list
abbrev pub IsAmong : Foot → List Foot → Type 0
IsAmong foot feet = 1 ≤ times foot feet

-- each stands there once
abbrev pub Once : List Foot → Type 0
Once feet = (foot : Foot) → times foot feet ≤ 1

-- none stands in both
abbrev pub Separate : List Foot → List Foot → Type 0
Separate feet others = (foot : Foot) → IsAmong foot feet → times foot others ≡ 0

-- IN A MEMORY

-- the bytes at a foot, where it is live or kept
abbrev pub foot_bytes : Places → Buffers → Foot → Option (List ℕ)
foot_bytes places buffers (InPlace p) = map.get places p
foot_bytes places buffers (InBuffer b) = map.get buffers b

-- each of these is live or kept
abbrev pub AreThere : Places → Buffers → List Foot → Type 0
AreThere places buffers feet = (foot : Foot) → IsAmong foot feet → IsSome (foot_bytes places buffers foot)

-- two memories have the same bytes at these feet
abbrev pub SameAt : Places → Buffers → Places → Buffers → List Foot → Type 0
SameAt places buffers places' buffers' feet =
    (foot : Foot) → IsAmong foot feet → foot_bytes places' buffers' foot ≡ foot_bytes places buffers foot

-- what stands on none of these feet keeps its bytes
abbrev pub KeepsOthers : Places → Buffers → Places → Buffers → List Foot → Type 0
KeepsOthers places buffers places' buffers' feet =
    (foot : Foot) (was : List ℕ) → times foot feet ≡ 0 → foot_bytes places buffers foot ≡ Some was
    → foot_bytes places' buffers' foot ≡ Some was

-- each of these feet was one of the first feet, or was neither live nor kept
abbrev pub OldOrFresh : Places → Buffers → List Foot → List Foot → Type 0
OldOrFresh places buffers before feet =
    (foot : Foot) → IsAmong foot feet → IsAmong foot before ⊎ (foot_bytes places buffers foot ≡ None)

-- a list of feet in two parts, one for each of two things that stand side by side
pub record Split (First Second : List Foot → Type 0) (feet : List Foot) : Type 0 where
  pub own : List Foot
  pub rest : List Foot
  pub are : feet ≡ own ++ rest
  pub first : First own
  pub second : Second rest
