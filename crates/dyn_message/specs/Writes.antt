-- What writes make of a record's bytes. Callers need none of these words: they see what a message stands for.
use Rattle.std.specs.Prelude.{◌≡◌, ◌*◌, ◌/◌, ◌%◌, ◌^◌, ◌==◌, ◌&&◌, not, ℕ, List, [], ◌∷◌, ◌++◌, drop, replicate, Option, None, Some, slice_index, bit_or, if◌then◌else◌}
use Rattle.std.specs.Int.{w32, to_le_bytes, bytes_low_first}
use Rattle.std.specs.Option.{option_map}
use Rattle.std.specs.FinMap as map
use Rattle.arena_mem.specs.declared.place.Place.{Place}
use Rattle.arena_mem.specs.Places.{Places, Buffers, IsLive, splice, used}
use Rattle.msg_layout.specs.declared.entry.Entry.{Entry}
use Rattle.msg_layout.specs.declared.entry.Mark.{Mark}
use Rattle.msg_layout.specs.declared.entry.Mark.TheVariants as marks
use Rattle.msg_layout.specs.Slots.{slot_bytes}
use Rattle.msg_layout.specs.Layout.{entry_among}
use Rattle.msg_layout.specs.Words.{is_word_at}
use Rattle.dyn_message.specs.Slots.{word}

-- the bytes at one live place became what `change` makes of them, and nothing else changed
pub record Rewritten {S K : Type 0} (key_of : S → K) (places_of : S → Places) (buffers_of : S → Buffers) (blocks_of : S → ℕ → ℕ) (p : Place) (change : List ℕ → List ℕ) (old new : S) : Type 0 where
  pub key : key_of new ≡ key_of old
  pub here : map.get (places_of new) p ≡ option_map change (map.get (places_of old) p)
  pub others : (q : Place) → (q ≡ p → ⊥) → map.get (places_of new) q ≡ map.get (places_of old) q
  pub still_live : (q : Place) → IsLive (places_of old) q → IsLive (places_of new) q
  pub count : map.len (places_of new) ≡ map.len (places_of old)
  pub space : used (places_of new) ≡ used (places_of old)
  pub buffers : buffers_of new ≡ buffers_of old
  pub blocks : (region : ℕ) → blocks_of new region ≡ blocks_of old region

-- a number in so many bytes, the lowest first
abbrev pub number_bytes : ℕ → ℕ → List ℕ
number_bytes count p = bytes_low_first 0 count p

abbrev pub with_bit : ℕ → List ℕ → List ℕ
with_bit bit bytes = splice (bit / 8) (bit_or (slice_index bytes (bit / 8)) (1 * 2 ^ (bit % 8) % 2 ^ 8) ∷ []) bytes

abbrev pub with_word : ℕ → ℕ → List ℕ → List ℕ
with_word at n bytes = splice at (to_le_bytes w32 n) bytes

abbrev pub with_zeros : Entry → List ℕ → List ℕ
with_zeros entry bytes = splice entry.slot (replicate (slot_bytes entry.field) 0) bytes

-- the slot of another field than the one with this number is zeroed, where its mark is the word at this place
abbrev pub zeroed : ℕ → ℕ → Option Entry → List ℕ → List ℕ
zeroed at number None bytes = bytes
zeroed at number (Some other) bytes =
    if is_word_at at other.mark && not (other.field.number == number) then with_zeros other bytes else bytes

-- the member of a oneof that is set, but for the one with this number, is so no more, as far as its slot tells
abbrev pub without_other : List Entry → ℕ → ℕ → List ℕ → List ℕ
without_other entries number at bytes = zeroed at number (entry_among entries (word 0 (drop at bytes))) bytes

-- a field is marked as set; the member of its oneof that was set is so no more
abbrev pub marked_by : List Entry → ℕ → Mark → List ℕ → List ℕ
marked_by entries number marks.Unmarked bytes = bytes
marked_by entries number (marks.Bit bit) bytes = with_bit bit bytes
marked_by entries number (marks.Word at) bytes = with_word at number (without_other entries number at bytes)

abbrev pub marked : List Entry → Entry → List ℕ → List ℕ
marked entries entry bytes = marked_by entries entry.field.number entry.mark bytes

-- a field is marked as unset, where its mark is a word
abbrev pub unmarked_by : Mark → List ℕ → List ℕ
unmarked_by (marks.Word at) bytes = with_word at 0 bytes
unmarked_by _ bytes = bytes

-- a field is unset
abbrev pub taken : Entry → List ℕ → List ℕ
taken entry bytes = unmarked_by entry.mark (with_zeros entry bytes)

-- a field is marked as set and has this slot
abbrev pub put : List Entry → Entry → List ℕ → List ℕ → List ℕ
put entries entry slot bytes = splice entry.slot slot (marked entries entry bytes)

-- the first bytes are zeros
abbrev pub zeros_to : ℕ → List ℕ → List ℕ
zeros_to at bytes = replicate at 0 ++ drop at bytes
