-- The words of oneofs: which fields have the word of a oneof, and where it lies.
use Rattle.std.specs.Prelude.{◌≡◌, ◌+◌, ◌*◌, ◌^◌, ◌<◌, ◌≤◌, ℕ, ⊤, Bool, false, ◌==◌, List, All}
use Rattle.pb_schema.specs.declared.kind.Card.{Card}
use Rattle.pb_schema.specs.declared.kind.Card.TheVariants as cards
use Rattle.pb_schema.specs.Cards.{is_member}
use Rattle.msg_layout.specs.declared.entry.Entry.{Entry}
use Rattle.msg_layout.specs.declared.entry.Mark.{Mark}
use Rattle.msg_layout.specs.declared.entry.Mark.TheVariants as marks
use Rattle.msg_layout.specs.Layout.{Layout}

-- the mark is the word at this place
abbrev pub is_word_at : ℕ → Mark → Bool
is_word_at at (marks.Word there) = there == at
is_word_at at _ = false

-- a field has the word at this place exactly where it is a member of the oneof
abbrev pub HasWord : ℕ → ℕ → Entry → Type 0
HasWord oneof at entry = is_word_at at entry.mark ≡ is_member oneof entry.field.card

-- the word of a oneof lies at this place, in front of all slots
pub record IsWordOf (layout : Layout) (oneof at : ℕ) : Type 0 where
  pub within : at + 4 ≤ layout.unknown
  pub members : All (HasWord oneof at) layout.entries

-- no field is a member of the oneof
abbrev pub HasNoMember : Layout → ℕ → Type 0
HasNoMember layout oneof = All (λ (entry : Entry). is_member oneof entry.field.card ≡ false) layout.entries

-- a member's oneof is one of so many
abbrev pub MemberBelow : ℕ → Card → Type 0
MemberBelow oneofs (cards.Member oneof) = oneof < oneofs
MemberBelow oneofs _ = ⊤

-- so many words lie one behind the other from this place on, in front of all slots, one for each oneof that has members
pub record HasWords (start oneofs unknown : ℕ) (entries : List Entry) : Type 0 where
  pub words : (oneof : ℕ) → All (HasWord oneof (start + 4 * oneof)) entries
  pub members : All (λ (entry : Entry). MemberBelow oneofs entry.field.card) entries
  pub within : start + 4 * oneofs ≤ unknown
  pub small : unknown ≤ 2 ^ 25
