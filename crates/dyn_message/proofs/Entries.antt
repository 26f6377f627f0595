-- The entries of a layout: each is found by its number, and is apart from all others.
use Rattle.std.proofs.Common.{◌≡◌, ◌≢◌, ◌⊎◌, ◌+◌, ◌≤◌, ℕ, zero, suc, Bool, true, false, cond, eqb, List, [], ◌∷◌, ◌++◌, Some, true≢false, refl, sym, ap, ◌∙◌, subst, inl, inr, ⊎_elim, arith}
use Rattle.std.specs.List.{AllByRecursion}
use Rattle.std.specs.Option.{option_map}
use borrow.Author.Tests.{eq-eqb}
use Rattle.std.proofs.lemmas.Bool.{eqb-true, cases_Bool}
use Rattle.std.proofs.lemmas.Option.{none-some, same_Some}
use Rattle.std.proofs.lemmas.List.Elements.{recursion_from_All}
use Rattle.pb_schema.specs.declared.kind.Card.{Card}
use Rattle.pb_schema.specs.declared.kind.Card.TheVariants as cards
use Rattle.pb_schema.specs.declared.kind.FieldType.{FieldType}
use Rattle.pb_schema.specs.declared.schema.MessageType.{MessageType}
use Rattle.pb_schema.specs.declared.schema.Schema.{Schema}
use Rattle.pb_schema.specs.Fits.{fields_among, fields_of}
use Rattle.pb_schema.specs.HeldAt.{field_among}
use Rattle.msg_layout.specs.declared.entry.Entry.{Entry}
use Rattle.msg_layout.specs.declared.entry.Mark.{Mark}
use Rattle.msg_layout.specs.declared.entry.Mark.TheVariants as marks
use Rattle.msg_layout.specs.Slots.{slot_bytes, bit_bytes, bit_count}
use Rattle.msg_layout.specs.Layout.{Layout, entries_from, entry_among, layout_of, layout_among, mark_with}
use Rattle.msg_layout.specs.Sound.{EachTwo, FitsIn, MarksApart, OneWord, Beside, IsSound}
use Rattle.dyn_message.proofs.Focus.{fields_in, NumbersDiffer}

-- FINDING

pub among_all : (P : Entry → Type 0) (entries : List Entry) (number : ℕ) (entry : Entry) → AllByRecursion P entries → entry_among entries number ≡ Some entry → P entry × (entry.field.number ≡ number)
among_all P [] number entry all found = absurd (none-some entry found)
among_all P (first ∷ entries) number entry all found = ⊎_elim
    (λ same. let is = same_Some first entry (ap (λ b. cond b (Some first) (entry_among entries number)) (sym same) ∙ found) in
    (subst P is all.0, ap (λ (e : Entry). e.field.number) (sym is) ∙ eqb-true first.field.number number same))
    (λ other. among_all P entries number entry all.1 (ap (λ b. cond b (Some first) (entry_among entries number)) (sym other) ∙ found))
    (cases_Bool (eqb first.field.number number))

any : (entries : List Entry) → AllByRecursion (λ (entry : Entry). Unit {0}) entries
any [] = tt
any (entry ∷ entries) = (tt, any entries)

pub found_number : (entries : List Entry) (number : ℕ) (entry : Entry) → entry_among entries number ≡ Some entry → entry.field.number ≡ number
found_number entries number entry found = (among_all (λ entry. Unit {0}) entries number entry (any entries) found).1

pub found_again : (entries : List Entry) (number : ℕ) (entry : Entry) → entry_among entries number ≡ Some entry → entry_among entries entry.field.number ≡ Some entry
found_again entries number entry found = ap (entry_among entries) (found_number entries number entry found) ∙ found

pub found_fits : (layout : Layout) (number : ℕ) (entry : Entry) → IsSound layout → entry_among layout.entries number ≡ Some entry → FitsIn layout entry
found_fits layout number entry sound found = (among_all (FitsIn layout) layout.entries number entry (recursion_from_All (FitsIn layout) layout.entries sound.entries) found).0

pub all_fit : (layout : Layout) → IsSound layout → AllByRecursion (FitsIn layout) layout.entries
all_fit layout sound = recursion_from_All (FitsIn layout) layout.entries sound.entries

-- an entry is found exactly where its field is
pub same_found : (entries : List Entry) (number : ℕ) → field_among (fields_in entries) number ≡ option_map (λ (entry : Entry). entry.field) (entry_among entries number)
same_found [] number = refl
same_found (entry ∷ entries) number = pick (eqb entry.field.number number) (same_found entries number)
  where
    pick : (t : Bool) → field_among (fields_in entries) number ≡ option_map (λ (entry : Entry). entry.field) (entry_among entries number)
        → cond t (Some entry.field) (field_among (fields_in entries) number) ≡ option_map (λ (entry : Entry). entry.field) (cond t (Some entry) (entry_among entries number))
    pick true more = refl
    pick false more = more

fields_from : (type : MessageType) (before fields : List FieldType) → fields_in (entries_from type before fields) ≡ fields
fields_from type before [] = refl
fields_from type before (field ∷ fields) = ap (λ more. field ∷ more) (fields_from type (before ++ field ∷ []) fields)

fields_of_layout : (types : List MessageType) (type_no : ℕ) → fields_in (layout_among types type_no).entries ≡ fields_among types type_no
fields_of_layout [] type_no = refl
fields_of_layout (type ∷ types) zero = fields_from type [] type.fields
fields_of_layout (type ∷ types) (suc type_no) = fields_of_layout types type_no

pub fields_laid : (schema : Schema) (type_no : ℕ) → fields_in (layout_of schema type_no).entries ≡ fields_of schema type_no
fields_laid schema type_no = fields_of_layout schema.types type_no

-- MARKS

-- the mark is the one of the field, behind some bits
pub record Suits (entry : Entry) : Type 0 where
  pub bytes : ℕ
  pub bits : ℕ
  pub mark : entry.mark ≡ mark_with bytes bits entry.field

suit_from : (type : MessageType) (before fields : List FieldType) → AllByRecursion Suits (entries_from type before fields)
suit_from type before [] = tt
suit_from type before (field ∷ fields) = (record { bytes = bit_bytes type; bits = bit_count before; mark = refl }, suit_from type (before ++ field ∷ []) fields)

suit_among : (types : List MessageType) (type_no : ℕ) → AllByRecursion Suits (layout_among types type_no).entries
suit_among [] type_no = tt
suit_among (type ∷ types) zero = suit_from type [] type.fields
suit_among (type ∷ types) (suc type_no) = suit_among types type_no

pub all_suit : (schema : Schema) (type_no : ℕ) → AllByRecursion Suits (layout_of schema type_no).entries
all_suit schema type_no = suit_among schema.types type_no

-- APART

-- two fields with different numbers
pub record IsApart (one other : Entry) : Type 0 where
  pub slots : (one.slot + slot_bytes one.field ≤ other.slot) ⊎ (other.slot + slot_bytes other.field ≤ one.slot)
  pub marks : MarksApart one.mark other.mark
  pub oneofs : OneWord one.field.card other.field.card one.mark other.mark

pub record ApartFrom (one entry : Entry) : Type 0 where
  pub itself : entry.field.number ≡ one.field.number → entry ≡ one
  pub else : entry.field.number ≢ one.field.number → IsApart one entry

swapped : {A B : Type 0} → A ⊎ B → B ⊎ A
swapped s = ⊎_elim inr inl s

marks_swap : (one other : Mark) → MarksApart one other → MarksApart other one
marks_swap (marks.Bit a) (marks.Bit b) h = λ e. h (sym e)
marks_swap (marks.Bit a) (marks.Word b) h = h
marks_swap (marks.Word a) (marks.Bit b) h = h
marks_swap (marks.Word a) (marks.Word b) h = ⊎_elim (λ e. inl (sym e)) (λ more. inr (swapped more)) h
marks_swap marks.Unmarked marks.Unmarked h = h
marks_swap marks.Unmarked (marks.Bit b) h = h
marks_swap marks.Unmarked (marks.Word b) h = h
marks_swap (marks.Bit a) marks.Unmarked h = h
marks_swap (marks.Word a) marks.Unmarked h = h

word_swap : (a b : Card) (x y : Mark) → OneWord a b x y → OneWord b a y x
word_swap (cards.Member a) (cards.Member b) x y h = (λ e. sym (h.0 (sym e)), λ e. sym (h.1 (sym e)))
word_swap cards.Implicit cards.Implicit x y h = h
word_swap cards.Implicit cards.Explicit x y h = h
word_swap cards.Implicit (cards.Member b) x y h = h
word_swap cards.Implicit (cards.Repeated q) x y h = h
word_swap cards.Explicit cards.Implicit x y h = h
word_swap cards.Explicit cards.Explicit x y h = h
word_swap cards.Explicit (cards.Member b) x y h = h
word_swap cards.Explicit (cards.Repeated q) x y h = h
word_swap (cards.Repeated p) cards.Implicit x y h = h
word_swap (cards.Repeated p) cards.Explicit x y h = h
word_swap (cards.Repeated p) (cards.Member b) x y h = h
word_swap (cards.Repeated p) (cards.Repeated q) x y h = h
word_swap (cards.Member a) cards.Implicit x y h = h
word_swap (cards.Member a) cards.Explicit x y h = h
word_swap (cards.Member a) (cards.Repeated p) x y h = h

pub numbers_differ : (entries : List Entry) → EachTwo Beside entries → NumbersDiffer entries
numbers_differ [] each = tt
numbers_differ (entry ∷ entries) each = (differ entries (recursion_from_All (Beside entry) entries each.0), numbers_differ entries each.1)
  where
    differ : (others : List Entry) → AllByRecursion (Beside entry) others → AllByRecursion (λ other. other.field.number ≢ entry.field.number) others
    differ [] all = tt
    differ (other ∷ others) all = (λ e. omega (arith, all.0.numbers, e), differ others all.1)

pub apart_from : (entries : List Entry) (one : Entry) → EachTwo Beside entries → entry_among entries one.field.number ≡ Some one → AllByRecursion (ApartFrom one) entries
apart_from [] one each found = tt
apart_from (entry ∷ entries) one each found = ⊎_elim
    (λ same. let is = same_Some entry one (ap (λ b. cond b (Some entry) (entry_among entries one.field.number)) (sym same) ∙ found) in (
      record { itself = λ _. is; else = λ differs. absurd (differs (eqb-true entry.field.number one.field.number same)) },
      subst (λ e. AllByRecursion (ApartFrom e) entries) is (behind entries (recursion_from_All (Beside entry) entries each.0)),
    ))
    (λ other. let later = ap (λ b. cond b (Some entry) (entry_among entries one.field.number)) (sym other) ∙ found in
    let beside = (among_all (Beside entry) entries one.field.number one (recursion_from_All (Beside entry) entries each.0) later).0 in (
      record {
        itself = λ same. absurd (true≢false (sym (eq-eqb _ _ same) ∙ other));
        else = λ _. record { slots = swapped beside.slots; marks = marks_swap _ _ beside.marks; oneofs = word_swap _ _ _ _ beside.oneofs };
      },
      apart_from entries one each.1 later,
    ))
    (cases_Bool (eqb entry.field.number one.field.number))
  where
    behind : (others : List Entry) → AllByRecursion (Beside entry) others → AllByRecursion (ApartFrom entry) others
    behind [] all = tt
    behind (other ∷ others) all = (
      record {
        itself = λ same. absurd (omega (arith, all.0.numbers, same));
        else = λ _. record { slots = all.0.slots; marks = all.0.marks; oneofs = all.0.oneofs };
      },
      behind others all.1,
    )
