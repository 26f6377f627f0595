-- Text that is put down from its end to its start, and what has to stand where it is read from.
use Rattle.std.specs.Prelude.{◌≡◌, ◌+◌, ◌≤◌, ◌<◌, ◌^◌, ◌==◌, ℕ, Bool, false, not, List, [], ◌∷◌, ◌++◌, length, None, if◌then◌else◌}
use Rattle.pb_schema.specs.declared.kind.Card.TheVariants as cards
use Rattle.pb_schema.specs.declared.kind.FieldType.{FieldType}
use Rattle.pb_schema.specs.Kinds.{ValueType, Scalar, Nested, value_type_of}
use Rattle.pb_schema.specs.Cards.{is_repeated}
use Rattle.pb_schema.specs.Text.{field_tag, spelled_text}
use Rattle.pb_schema.specs.Varint.{varint_of}
use Rattle.msg_layout.specs.declared.entry.Entry.{Entry}
use Rattle.msg_layout.specs.Slots.{slot_bytes, array_slot, is_message}
use Rattle.msg_layout.specs.Sound.{MarkWithin}
use Rattle.dyn_message.specs.Slots.{word, number_in, part, place_in, slot_in, told_in, set_by}
use Rattle.dyn_message.specs.Stands.{IsSingle}

-- TARGETS

-- what is held, which may be any of some texts, has this text in front afterwards, where the whole isn't too long
abbrev pub Gains : (List ℕ → Type 0) → (List ℕ → Type 0) → List ℕ → Type 0
Gains Before After text = (s : List ℕ) → Before s → length (text ++ s) < 2 ^ 63 → After (text ++ s)

-- RECORDS

-- the slot and the mark of a field lie in a record; no mark tells a field only where it has no presence, or is a message
pub record IsEntryIn (entry : Entry) (bytes : List ℕ) : Type 0 where
  pub slot : entry.slot + slot_bytes entry.field ≤ length bytes
  pub mark : MarkWithin (length bytes) entry.mark
  pub small : length bytes < 2 ^ 25
  pub number : entry.field.number < 2 ^ 29
  pub untold : told_in entry bytes ≡ None → IsSingle entry.field.card
      → is_message (value_type_of entry.field.kind) ≡ false → entry.field.card ≡ cards.Implicit

-- the slot of a single value isn't that of none
abbrev pub slot_tells : ValueType → List ℕ → Bool
slot_tells (Scalar coding) slot = not (number_in slot == 0)
slot_tells (Nested type_no) slot = not ((place_in slot).len == 0)
slot_tells _ slot = not (word 5 slot == 0)

-- the field of one value is set
abbrev pub is_held : Entry → List ℕ → Bool
is_held entry bytes = set_by (told_in entry bytes) (slot_tells (value_type_of entry.field.kind) (slot_in entry bytes))

-- the field holds something: a list an element, and any other a value
abbrev pub holds_some : Entry → List ℕ → Bool
holds_some entry bytes = if is_repeated entry.field.card then not (word 4 (part entry.slot array_slot bytes) == 0) else is_held entry bytes

-- what stands before each value of a list: nothing where they are packed, and else the tag
abbrev pub front_of : Bool → FieldType → List ℕ
front_of packed field = if packed then [] else field_tag field

-- the fields of some entries
abbrev pub fields_in : List Entry → List FieldType
fields_in [] = []
fields_in (entry ∷ entries) = entry.field ∷ fields_in entries

-- NUMBERS

-- the number that is written for a pattern
abbrev pub spelled_by : ValueType → ℕ → ℕ
spelled_by (Scalar coding) p = coding.spelled p
spelled_by _ p = p

-- a number below 2^14 is written as a varint of its pattern
abbrev pub SpellsSmall : ValueType → Type 0
SpellsSmall type = (p : ℕ) → p < 2 ^ 14 → spelled_text type p ≡ varint_of p
