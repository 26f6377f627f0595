-- The record of a message: where it has the slots of its fields. Its own rules, as told in docs/MESSAGES.md.
use Rattle.std.specs.Prelude.{◌≡◌, ◌+◌, ◌*◌, ◌^◌, ◌<◌, ℕ, ⊤, zero, suc, nat_lt, ◌==◌, if◌then◌else◌, List, [], ◌∷◌, ◌++◌, Option, None, Some, slice_index}
use Rattle.pb_schema.specs.declared.kind.Card.{Card}
use Rattle.pb_schema.specs.declared.kind.Card.TheVariants as cards
use Rattle.pb_schema.specs.declared.kind.FieldType.{FieldType}
use Rattle.pb_schema.specs.declared.schema.MessageType.{MessageType}
use Rattle.pb_schema.specs.declared.schema.Schema.{Schema}
use Rattle.pb_schema.specs.Meter.{round8}
use Rattle.msg_layout.specs.declared.entry.Entry.{Entry}
use Rattle.msg_layout.specs.declared.entry.Mark.{Mark}
use Rattle.msg_layout.specs.declared.entry.Mark.TheVariants as marks
use Rattle.msg_layout.specs.Slots.{array_slot, slot_bytes, bytes_where, has_bit, bit_count, bit_bytes, front_bytes}

-- the fields' entries by ascending number, the offset of the unknown bytes' slot, and the bytes of the whole record
pub record Layout : Type 0 where
  pub entries : List Entry
  pub unknown : ℕ
  pub size : ℕ

-- SLOTS

-- where slots of so many bytes begin: behind what stands in front, the unknown bytes' slot, and all greater slots
abbrev pub slots_start : MessageType → ℕ → ℕ
slots_start type bytes = front_bytes type + array_slot + bytes_where (λ other. nat_lt bytes other) type.fields

-- the slot of a field, behind those of the same size of the fields before it
abbrev pub slot_at : MessageType → List FieldType → FieldType → ℕ
slot_at type before field =
    slots_start type (slot_bytes field) + bytes_where (λ other. other == slot_bytes field) before

-- for each size the next slot of that size behind the slots of these fields
abbrev pub SlotsAfter : MessageType → List FieldType → List ℕ → Type 0
SlotsAfter type before next =
    (field : FieldType) → slice_index next (slot_bytes field) ≡ slot_at type before field

-- MARKS

-- a member of a oneof has the word of the oneof, behind so many bytes with bits
abbrev pub word_of : ℕ → Card → Mark
word_of bytes (cards.Member oneof) = marks.Word (bytes + 4 * oneof)
word_of bytes _ = marks.Unmarked

-- the offset of the word of a member's oneof has 32 bits
abbrev pub WordFits : ℕ → Card → Type 0
WordFits bytes (cards.Member oneof) = bytes + 4 * oneof < 2 ^ 32
WordFits bytes _ = ⊤

-- the mark of a field, where there are so many bytes with bits, and so many bits of the fields before it
abbrev pub mark_with : ℕ → ℕ → FieldType → Mark
mark_with bytes bits field = if has_bit field then marks.Bit bits else word_of bytes field.card

-- bits are counted from the lowest one of the first word
abbrev pub mark_at : MessageType → List FieldType → FieldType → Mark
mark_at type before field = mark_with (bit_bytes type) (bit_count before) field

-- LAYOUTS

-- the entry of a field that stands behind these
abbrev pub entry_at : MessageType → List FieldType → FieldType → Entry
entry_at type before field =
    record { field = field; slot = slot_at type before field; mark = mark_at type before field }

-- the entries of fields, the first of which stands behind these
abbrev pub entries_from : MessageType → List FieldType → List FieldType → List Entry
entries_from type before [] = []
entries_from type before (field ∷ fields) =
    entry_at type before field ∷ entries_from type (before ++ field ∷ []) fields

-- no slot has 0 bytes, so that those would begin where all slots end
abbrev pub layout_of_type : MessageType → Layout
layout_of_type type =
    record {
      entries = entries_from type [] type.fields;
      unknown = front_bytes type;
      size = round8 (slots_start type 0);
    }

abbrev pub no_layout : Layout
no_layout = record { entries = []; unknown = 0; size = 0 }

abbrev pub layout_among : List MessageType → ℕ → Layout
layout_among [] type_no = no_layout
layout_among (type ∷ types) zero = layout_of_type type
layout_among (type ∷ types) (suc type_no) = layout_among types type_no

-- the layout of the type with this number
abbrev pub layout_of : Schema → ℕ → Layout
layout_of schema type_no = layout_among schema.types type_no

-- the entry of the field with this number among some entries
abbrev pub entry_among : List Entry → ℕ → Option Entry
entry_among [] number = None
entry_among (entry ∷ entries) number =
    if entry.field.number == number then Some entry else entry_among entries number

-- the entry of a type's field with this number
abbrev pub entry_of : Schema → ℕ → ℕ → Option Entry
entry_of schema type_no number = entry_among (layout_of schema type_no).entries number
