-- What the record of a message has for its fields: slots of five sizes, presence bits and the words of oneofs. The rules
-- are this project's own.
use Rattle.std.specs.Prelude.{◌+◌, ◌*◌, ◌/◌, ℕ, Bool, true, false, ◌&&◌, not, if◌then◌else◌, List, [], ◌∷◌}
use Rattle.pb_schema.specs.declared.kind.Card.{Card}
use Rattle.pb_schema.specs.declared.kind.Card.TheVariants as cards
use Rattle.pb_schema.specs.declared.kind.FieldType.{FieldType}
use Rattle.pb_schema.specs.declared.schema.MessageType.{MessageType}
use Rattle.pb_schema.specs.Kinds.{ValueType, Nested, value_type_of, slot_of}
use Rattle.pb_schema.specs.Cards.{is_repeated}
use Rattle.pb_schema.specs.Meter.{round8}

-- SLOTS

-- the bytes of an array's slot, which the unknown bytes of a message have too
abbrev pub array_slot : ℕ
array_slot = 24

-- the bytes of a field's slot
abbrev pub slot_bytes : FieldType → ℕ
slot_bytes field = if is_repeated field.card then array_slot else slot_of (value_type_of field.kind)

-- the bytes of a field's slot, where their number passes a test
abbrev pub bytes_if : (ℕ → Bool) → FieldType → ℕ
bytes_if test field = if test (slot_bytes field) then slot_bytes field else 0

-- the bytes of all those slots of some fields
abbrev pub bytes_where : (ℕ → Bool) → List FieldType → ℕ
bytes_where test [] = 0
bytes_where test (field ∷ fields) = bytes_if test field + bytes_where test fields

-- BITS AND WORDS IN FRONT

abbrev pub is_message : ValueType → Bool
is_message (Nested type_no) = true
is_message _ = false

abbrev pub is_explicit : Card → Bool
is_explicit cards.Explicit = true
is_explicit _ = false

-- a field has a bit where nothing but that tells its default from none; of a message the slot tells it
abbrev pub has_bit : FieldType → Bool
has_bit field = is_explicit field.card && not (is_message (value_type_of field.kind))

-- how many bits some fields have
abbrev pub bit_count : List FieldType → ℕ
bit_count [] = 0
bit_count (field ∷ fields) = (if has_bit field then 1 else 0) + bit_count fields

-- the bytes of the words with the bits, 32 bits a word
abbrev pub bit_bytes : MessageType → ℕ
bit_bytes type = (bit_count type.fields + 31) / 32 * 4

-- the bytes in front of all slots: the bits and then a word of four bytes for each oneof, up to a multiple of 8
abbrev pub front_bytes : MessageType → ℕ
front_bytes type = round8 (bit_bytes type + 4 * type.oneofs)
