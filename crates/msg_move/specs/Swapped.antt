-- Two messages that changed places.
use Rattle.std.specs.Prelude.{◌≡◌, ℕ, List, ◌∷◌, ◌++◌, take, drop, Some}
use Rattle.std.specs.FinMap as map
use Rattle.arena_mem.specs.declared.place.Place.{Place}
use Rattle.arena_mem.specs.Places.{Places, Buffers, IsLive, splice, used}
use Rattle.pb_schema.specs.declared.schema.Schema.{Schema}
use Rattle.pb_schema.specs.Tree.{Shape}
use Rattle.dyn_message.specs.declared.msg_ref.MsgRef.{MsgRef}
use Rattle.dyn_message.specs.Feet.{Foot, InPlace, Separate}
use Rattle.dyn_message.specs.Slots.{part}
use Rattle.dyn_message.specs.Stands.{Stands}

-- what a message stands on, but with another record in front
abbrev pub with_record : Place → List Foot → List Foot
with_record place feet = InPlace place ∷ drop 1 feet

-- each of two messages stands for what the other one stood for, on its own record and on what the other had behind its
pub record AreSwapped (schema : Schema) (places' : Places) (buffers' : Buffers) (one two : MsgRef) (t : Shape) (feet : List Foot) (u : Shape) (own : List Foot) : Type 0 where
  pub first : Stands schema places' buffers' one u (with_record one.place own)
  pub second : Stands schema places' buffers' two t (with_record two.place feet)
  pub separate : Separate (with_record one.place own) (with_record two.place feet)

-- BYTES. Callers need none of these words.

-- the first bytes are those of the other list
abbrev pub front_of : ℕ → List ℕ → List ℕ → List ℕ
front_of at own other = take at other ++ drop at own

-- the eight bytes from here on are those of the other list
abbrev pub with_part : ℕ → List ℕ → List ℕ → List ℕ
with_part at own other = splice at (part at 8 other) own

-- the bytes at two places became what `change` makes of each place's own bytes and of the other's, and nothing else
-- changed
pub record Exchanged {S K : Type 0} (key_of : S → K) (places_of : S → Places) (buffers_of : S → Buffers) (blocks_of : S → ℕ → ℕ) (one two : Place) (change : List ℕ → List ℕ → List ℕ) (old new : S) : Type 0 where
  pub key : key_of new ≡ key_of old
  pub first : (b c : List ℕ) → map.get (places_of old) one ≡ Some b → map.get (places_of old) two ≡ Some c → map.get (places_of new) one ≡ Some (change b c)
  pub second : (b c : List ℕ) → map.get (places_of old) one ≡ Some b → map.get (places_of old) two ≡ Some c → map.get (places_of new) two ≡ Some (change c b)
  pub others : (q : Place) → (q ≡ one → ⊥) → (q ≡ two → ⊥) → map.get (places_of new) q ≡ map.get (places_of old) q
  pub still_live : (q : Place) → IsLive (places_of old) q → IsLive (places_of new) q
  pub count : map.len (places_of new) ≡ map.len (places_of old)
  pub space : used (places_of new) ≡ used (places_of old)
  pub buffers : buffers_of new ≡ buffers_of old
  pub blocks : (region : ℕ) → blocks_of new region ≡ blocks_of old region
