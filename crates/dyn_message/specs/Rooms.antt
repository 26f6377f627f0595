-- How a list gets room for one element more.
use Rattle.std.specs.Prelude.{◌≡◌, ◌⊎◌, ◌||◌, ◌==◌, ◌+◌, ◌*◌, ◌<◌, ◌≤◌, ℕ, ⊤, Bool, List, length, take, Some, None}
use Rattle.std.specs.FinMap as map
use Rattle.arena_mem.specs.declared.place.Place.{Place}
use Rattle.std.specs.Option.{option_map}
use Rattle.arena_mem.specs.Places.{Places, Buffers, IsLive, KeepsRest, round8, splice, bytes_at}
use Rattle.pb_schema.specs.Meter.{rooms}
use Rattle.msg_layout.specs.Slots.{array_slot}
use Rattle.dyn_message.specs.Feet.{Foot}
use Rattle.dyn_message.specs.Slots.{part, word, place_in}
use Rattle.dyn_message.specs.Arrays.{IsLeastRoom, HoldsArray, most_elements}

-- the slot of a list in the record at a place, from this byte on
abbrev pub list_slot : Places → Place → ℕ → List ℕ
list_slot places p at = part at array_slot (bytes_at places p)

-- the slot of a list tells this place of its elements, and that there are so many
pub record IsListAt (places : Places) (p : Place) (at : ℕ) (array : Place) (count : ℕ) : Type 0 where
  pub place : array ≡ place_in (list_slot places p at)
  pub counted : count ≡ word 4 (list_slot places p at)

-- a list that isn't full of the most elements there may be
pub record MayGrow (places : Places) (size : ℕ) (slot : List ℕ) : Type 0 where
  pub feet : List Foot
  pub holds : HoldsArray (λ bytes behind. ⊤) places size (word 4 slot) slot feet
  pub few : word 4 slot < most_elements

-- the place of a list's elements from now on: it has room for one more, and those that there were lie at its front; it
-- is the place from before, or wasn't live
pub record IsRoom (old new : Places) (size : ℕ) (slot : List ℕ) (count : ℕ) (array : Place) : Type 0 where
  pub counted : count ≡ word 4 slot
  pub bytes : List ℕ
  pub there : map.get new array ≡ Some bytes
  pub len : length bytes ≡ array.len
  pub doublings : ℕ
  pub enough : count + 1 ≤ rooms doublings
  pub least : IsLeastRoom doublings (count + 1)
  pub room : array.len ≡ round8 (rooms doublings * size)
  pub front : take (count * size) bytes ≡ take (count * size) (bytes_at old (place_in slot))
  pub from : ((array ≡ place_in slot) × (1 ≤ count)) ⊎ (map.get old array ≡ None)

-- so many elements are all that a place of this length is for
abbrev pub is_full : ℕ → ℕ → ℕ → Bool
is_full len count size = count == 4 || count * size == len

-- an element was put behind those of the list whose slot lies in the record at a place from this byte on: room was made,
-- the element written, and then the slot
pub record IsAppended (places places' : Places) (p : Place) (at : ℕ) (element : List ℕ) : Type 0 where
  pub count : ℕ
  pub array : Place
  pub slot : List ℕ
  pub mid : Places
  pub written : Places
  pub room : IsRoom places mid (length element) (list_slot places p at) count array
  pub keeps : KeepsRest places mid
  pub put : map.get written array ≡ option_map (splice (count * length element) element) (map.get mid array)
  pub put_else : (q : Place) → (q ≡ array → ⊥) → map.get written q ≡ map.get mid q
  pub slot_long : length slot ≡ array_slot
  pub slot_place : place_in slot ≡ array
  pub slot_count : word 4 slot ≡ count + 1
  pub slot_form : word 5 slot ≡ 3
  pub told : map.get places' p ≡ option_map (splice at slot) (map.get written p)
  pub told_else : (q : Place) → (q ≡ p → ⊥) → map.get places' q ≡ map.get written q

-- so many places more at most, and what was live is; the first four arguments are the memory's own members
pub record GrowsBy {S K : Type 0} (key_of : S → K) (places_of : S → Places) (buffers_of : S → Buffers) (blocks_of : S → ℕ → ℕ) (most : ℕ) (old new : S) : Type 0 where
  pub key : key_of new ≡ key_of old
  pub still_live : (q : Place) → IsLive (places_of old) q → IsLive (places_of new) q
  pub buffers : buffers_of new ≡ buffers_of old
  pub no_fewer : map.len (places_of old) ≤ map.len (places_of new)
  pub few : map.len (places_of new) ≤ map.len (places_of old) + most
  pub no_fewer_blocks : (region : ℕ) → blocks_of old region ≤ blocks_of new region
  pub few_blocks : (region : ℕ) → blocks_of new region ≤ blocks_of old region + most
