-- The slot of a list: where its elements lie. The rules are this project's own.
use Rattle.std.specs.Prelude.{◌≡◌, ◌*◌, ◌^◌, ◌<◌, ◌≤◌, ℕ, ⊤, zero, suc, List, [], ◌∷◌, length, Some}
use Rattle.std.specs.FinMap as map
use Rattle.arena_mem.specs.Places.{Places, round8}
use Rattle.pb_schema.specs.Meter.{rooms}
use Rattle.dyn_message.specs.Feet.{Foot, InPlace}
use Rattle.dyn_message.specs.Slots.{word, place_in, IsZero}

-- the most elements of a list
abbrev pub most_elements : ℕ
most_elements = 2 ^ 26

-- the room before the one that has been doubled so often is too small for so many elements
abbrev pub IsLeastRoom : ℕ → ℕ → Type 0
IsLeastRoom zero count = ⊤
IsLeastRoom (suc doublings) count = rooms doublings < count

-- so many elements of a size at the front of a placement, which has room for 4, 8, 16 and so on, the least that is
-- enough, rounded up; the elements are what `Elements` says of the placement's bytes and of what they stand on
pub record IsArray (Elements : List ℕ → List Foot → Type 0) (places : Places) (size count : ℕ) (slot : List ℕ) (feet : List Foot) : Type 0 where
  pub form : word 5 slot ≡ 3
  pub counted : word 4 slot ≡ count
  pub some : 1 ≤ count
  pub most : count ≤ most_elements
  pub doublings : ℕ
  pub enough : count ≤ rooms doublings
  pub least : IsLeastRoom doublings count
  pub room : word 3 slot ≡ round8 (rooms doublings * size)
  pub bytes : List ℕ
  pub there : map.get places (place_in slot) ≡ Some bytes
  pub len : length bytes ≡ word 3 slot
  pub behind : List Foot
  pub feet_are : feet ≡ InPlace (place_in slot) ∷ behind
  pub elements : Elements bytes behind

-- a list without elements is a slot of zeros
pub data HoldsArray (Elements : List ℕ → List Foot → Type 0) (places : Places) (size count : ℕ) (slot : List ℕ) (feet : List Foot) : Type 0 where
  NoElements : count ≡ 0 → IsZero 24 slot → feet ≡ [] → HoldsArray Elements places size count slot feet
  Elements : IsArray Elements places size count slot feet → HoldsArray Elements places size count slot feet
