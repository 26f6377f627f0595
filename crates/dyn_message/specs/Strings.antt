-- The slot of a text or bytes: where the bytes lie. The rules are this project's own.
use Rattle.std.specs.Prelude.{◌≡◌, ◌≤◌, ℕ, List, [], ◌∷◌, length, take, Some, None}
use Rattle.std.specs.FinMap as map
use Rattle.arena_mem.specs.Places.{Places, Buffers, round8}
use Rattle.dyn_message.specs.Feet.{Foot, InPlace, InBuffer, IsAmong, Once, foot_bytes}
use Rattle.dyn_message.specs.Slots.{word, place_in, buffer_in, IsZero}

-- 1 to 15 bytes at the front of a placement, which has their length rounded up
pub record IsShort (places : Places) (slot bytes : List ℕ) : Type 0 where
  pub form : word 5 slot ≡ 1
  pub count : word 4 slot ≡ length bytes
  pub some : 1 ≤ length bytes
  pub few : length bytes ≤ 15
  pub room : word 3 slot ≡ round8 (length bytes)
  pub was : List ℕ
  pub there : map.get places (place_in slot) ≡ Some was
  pub front : take (length bytes) was ≡ bytes

-- 16 bytes and more are a kept buffer
pub record IsLong (buffers : Buffers) (slot bytes : List ℕ) : Type 0 where
  pub form : word 5 slot ≡ 2
  pub zero : word 3 slot ≡ 0
  pub count : word 4 slot ≡ length bytes
  pub many : 16 ≤ length bytes
  pub there : map.get buffers (buffer_in slot) ≡ Some bytes

-- the slot of some bytes, and what they stand on: no bytes are a slot of zeros
pub data HoldsBytes (places : Places) (buffers : Buffers) (slot bytes : List ℕ) (feet : List Foot) : Type 0 where
  NoBytes : bytes ≡ [] → IsZero 24 slot → feet ≡ [] → HoldsBytes places buffers slot bytes feet
  ShortBytes : IsShort places slot bytes → feet ≡ InPlace (place_in slot) ∷ [] → HoldsBytes places buffers slot bytes feet
  LongBytes : IsLong buffers slot bytes → feet ≡ InBuffer (buffer_in slot) ∷ [] → HoldsBytes places buffers slot bytes feet

-- a slot holds these bytes on places and buffers that were neither live nor kept
pub record IsKeptAnew (places : Places) (buffers : Buffers) (places' : Places) (buffers' : Buffers) (slot bytes : List ℕ) : Type 0 where
  pub feet : List Foot
  pub holds : HoldsBytes places' buffers' slot bytes feet
  pub fresh : (foot : Foot) → IsAmong foot feet → foot_bytes places buffers foot ≡ None
  pub once : Once feet
