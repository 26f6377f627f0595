-- What the bytes of a record have for a field: its slot, and what its mark tells. The rules are this project's own.
use Rattle.std.specs.Prelude.{◌≡◌, ◌+◌, ◌*◌, ◌/◌, ◌%◌, ◌^◌, ◌==◌, ℕ, ⊤, Bool, List, [], ◌∷◌, take, drop, replicate, Option, None, Some, IsTrue, IsFalse, slice_index}
use Rattle.std.specs.Int.{w32, from_le_bytes}
use Rattle.arena_mem.specs.declared.place.Place.{Place}
use Rattle.arena_mem.specs.declared.place.Buffer.{Buffer}
use Rattle.msg_layout.specs.declared.entry.Entry.{Entry}
use Rattle.msg_layout.specs.declared.entry.Mark.{Mark}
use Rattle.msg_layout.specs.declared.entry.Mark.TheVariants as marks
use Rattle.msg_layout.specs.Slots.{slot_bytes}

-- so many bytes from a place on
abbrev pub part : ℕ → ℕ → List ℕ → List ℕ
part at count bytes = take count (drop at bytes)

-- the number that bytes spell, the lowest byte first
abbrev pub number_in : List ℕ → ℕ
number_in [] = 0
number_in (b ∷ bytes) = b + 256 * number_in bytes

-- the word of four bytes with this index
unfoldable pub word : ℕ → List ℕ → ℕ
word i slot = from_le_bytes w32 (part (4 * i) 4 slot)

-- the place in words 0 to 3
abbrev pub place_in : List ℕ → Place
place_in slot = record { region = word 0 slot; block = word 1 slot; offset = word 2 slot; len = word 3 slot }

-- the buffer in words 0 to 2
abbrev pub buffer_in : List ℕ → Buffer
buffer_in slot = record { region = word 0 slot; number = word 1 slot + 2 ^ 32 * word 2 slot }

-- so many zeros
abbrev pub IsZero : ℕ → List ℕ → Type 0
IsZero count slot = slot ≡ replicate count 0

-- FIELDS

-- the bytes of a field's slot
unfoldable pub slot_in : Entry → List ℕ → List ℕ
slot_in entry bytes = part entry.slot (slot_bytes entry.field) bytes

-- the bit with this number is set
abbrev pub bit_in : ℕ → List ℕ → Bool
bit_in bit bytes = slice_index bytes (bit / 8) / 2 ^ (bit % 8) % 2 == 1

-- whether the mark of the field with this number tells that it is set, where the mark tells it
abbrev pub told_by : ℕ → Mark → List ℕ → Option Bool
told_by number marks.Unmarked bytes = None
told_by number (marks.Bit bit) bytes = Some (bit_in bit bytes)
told_by number (marks.Word at) bytes = Some (word 0 (drop at bytes) == number)

unfoldable pub told_in : Entry → List ℕ → Option Bool
told_in entry bytes = told_by entry.field.number entry.mark bytes

-- the mark doesn't tell that the field is unset
abbrev pub MayBeSet : Option Bool → Type 0
MayBeSet None = ⊤
MayBeSet (Some told) = IsTrue told

-- the mark doesn't tell that the field is set
abbrev pub MayBeUnset : Option Bool → Type 0
MayBeUnset None = ⊤
MayBeUnset (Some told) = IsFalse told

-- whether a field is set: the mark tells it, or else the slot does
abbrev pub set_by : Option Bool → Bool → Bool
set_by None slot_tells = slot_tells
set_by (Some told) slot_tells = told
