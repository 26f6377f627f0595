-- What every layout keeps: slots and marks lie in the record, and those of different fields have no byte in common.
use Rattle.std.specs.Prelude.{◌≡◌, ◌≢◌, ◌↔◌, ◌⊎◌, ◌+◌, ◌/◌, ◌%◌, ◌^◌, ◌<◌, ◌≤◌, ℕ, ⊤, List, [], ◌∷◌, All}
use Rattle.pb_schema.specs.declared.kind.Card.{Card}
use Rattle.pb_schema.specs.declared.kind.Card.TheVariants as cards
use Rattle.msg_layout.specs.declared.entry.Entry.{Entry}
use Rattle.msg_layout.specs.declared.entry.Mark.{Mark}
use Rattle.msg_layout.specs.declared.entry.Mark.TheVariants as marks
use Rattle.msg_layout.specs.Slots.{array_slot, slot_bytes}
use Rattle.msg_layout.specs.Layout.{Layout}

-- R of each two elements, the earlier one first
abbrev pub EachTwo : {X : Type 0} → (X → X → Type 0) → List X → Type 0
EachTwo R [] = ⊤
EachTwo R (x ∷ xs) = All (R x) xs × EachTwo R xs

-- a bit or a word lies in these bytes
abbrev pub MarkWithin : ℕ → Mark → Type 0
MarkWithin bytes marks.Unmarked = ⊤
MarkWithin bytes (marks.Bit bit) = bit / 8 < bytes
MarkWithin bytes (marks.Word offset) = offset + 4 ≤ bytes

-- a field's slot lies behind the unknown bytes' slot and in the record, its mark in front of both
pub record FitsIn (layout : Layout) (entry : Entry) : Type 0 where
  pub behind : layout.unknown + array_slot ≤ entry.slot
  pub within : entry.slot + slot_bytes entry.field ≤ layout.size
  pub mark : MarkWithin layout.unknown entry.mark

-- two bits differ, a bit lies in front of a word, and two words are one or have no byte in common
abbrev pub MarksApart : Mark → Mark → Type 0
MarksApart (marks.Bit one) (marks.Bit other) = one ≢ other
MarksApart (marks.Bit bit) (marks.Word offset) = bit / 8 < offset
MarksApart (marks.Word offset) (marks.Bit bit) = bit / 8 < offset
MarksApart (marks.Word one) (marks.Word other) = (one ≡ other) ⊎ (one + 4 ≤ other) ⊎ (other + 4 ≤ one)
MarksApart _ _ = ⊤

-- members have one word exactly where they are members of one oneof
abbrev pub OneWord : Card → Card → Mark → Mark → Type 0
OneWord (cards.Member one) (cards.Member other) mark mark' = (one ≡ other) ↔ (mark ≡ mark')
OneWord _ _ mark mark' = ⊤

-- two fields, the one of the lower number first
pub record Beside (one other : Entry) : Type 0 where
  pub numbers : one.field.number < other.field.number
  pub slots : (one.slot + slot_bytes one.field ≤ other.slot) ⊎ (other.slot + slot_bytes other.field ≤ one.slot)
  pub marks : MarksApart one.mark other.mark
  pub oneofs : OneWord one.field.card other.field.card one.mark other.mark

pub record IsSound (layout : Layout) : Type 0 where
  pub entries : All (FitsIn layout) layout.entries
  pub apart : EachTwo Beside layout.entries
  pub unknown : layout.unknown + array_slot ≤ layout.size
  pub rounded : (layout.unknown % 8 ≡ 0) × (layout.size % 8 ≡ 0)
  pub small : layout.size < 2 ^ 25
