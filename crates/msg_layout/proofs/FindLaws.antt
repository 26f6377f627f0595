-- Entries by their numbers.
use Rattle.std.proofs.Common.{◌≡◌, ◌≢◌, ℕ, zero, suc, ◌+◌, ◌<◌, ◌≤◌, false, cond, List, [], ◌∷◌, ◌++◌, length, get_or, take, eqb, Some, None, refl, sym, ap, subst, ◌∙◌, inl, inr, arith, eq-eqb, add-one, get_or-set_other, get_or-set_same}
use Rattle.std.specs.List.{AllPairs}
use Rattle.std.proofs.Math.ListN.{set, length-set}
use Rattle.std.proofs.lemmas.Bool.{cases_eq, cases_lt}
use Rattle.std.proofs.lemmas.Bool.Decides.{eqb_tells}
use Rattle.std.proofs.lemmas.List.{take_more, get_or-take, length-take-le}
use Rattle.std.proofs.lemmas.Option.{slice_get-get_or}
use Rattle.msg_layout.specs.declared.entry.Entry.{Entry}
use Rattle.msg_layout.specs.declared.entry.Mark.TheVariants as marks
use Rattle.msg_layout.proofs.LayoutLaws.{past_end}
use Rattle.pb_schema.specs.declared.kind.FieldType.{FieldType}
use Rattle.pb_schema.specs.declared.schema.MessageType.{MessageType}
use Rattle.pb_schema.specs.Lawful.{TypeAllowed}
use Rattle.msg_layout.specs.Layout.{entry_among, entries_from}
use Rattle.msg_layout.proofs.SoundLaws.{type_is_sound}
use Rattle.msg_layout.specs.Sound.{EachTwo, Beside}
use Rattle.msg_layout.specs.Find.{AreAscending, entry_by_place, Tells}

ne-eqb : (a b : ℕ) → a ≢ b → eqb a b ≡ false
ne-eqb a b h =
    elim (eqb_tells a b) [
      | inl same ↦ absurd (h same.1)
      | inr differ ↦ differ.0
    ]

-- what reading past the end of entries would give
abbrev pub past_end_entry : Entry
past_end_entry = record { field = past_end; slot = 0; mark = marks.Unmarked }

-- what is read within a list doesn't hang on what is read past its end
same_there : {X : Type 0} (xs : List X) (i : ℕ) (d e : X) → i < length xs → get_or xs i d ≡ get_or xs i e
same_there [] i d e h = absurd (omega (arith, h))
same_there (x ∷ xs) zero d e h = refl
same_there (x ∷ xs) (suc i) d e h = same_there xs i d e (omega (arith, h))

pub each_two_pairs : {X : Type 0} (R : X → X → Type 0) (xs : List X) → EachTwo R xs → AllPairs R xs
each_two_pairs R [] h i j d l m = absurd (omega (arith, m))
each_two_pairs R (x ∷ xs) h zero zero d l m = absurd (omega (arith, l))
each_two_pairs R (x ∷ xs) h zero (suc j) d l m = h.0 j d (omega (arith, m))
each_two_pairs R (x ∷ xs) h (suc i) zero d l m = absurd (omega (arith, l))
each_two_pairs R (x ∷ xs) h (suc i) (suc j) d l m = each_two_pairs R xs h.1 i j d (omega (arith, l)) (omega (arith, m))

pub none_among : (entries : List Entry) (number : ℕ) → ((k : ℕ) (d : Entry) → k < length entries → (get_or entries k d).field.number ≢ number) → entry_among entries number ≡ None
none_among [] number h = refl
none_among (entry ∷ entries) number h =
    ap (λ b. cond b (Some entry) (entry_among entries number)) (ne-eqb entry.field.number number (h 0 entry (omega arith)))
    ∙ none_among entries number (λ k d l. h (suc k) d (omega (arith, l)))

pub found_among : (entries : List Entry) (i : ℕ) (d : Entry) (number : ℕ) → i < length entries → (get_or entries i d).field.number ≡ number → ((k : ℕ) (d : Entry) → k < i → (get_or entries k d).field.number ≢ number)
    → entry_among entries number ≡ Some (get_or entries i d)
found_among [] i d number h e before = absurd (omega (arith, h))
found_among (entry ∷ entries) zero d number h e before = ap (λ b. cond b (Some entry) (entry_among entries number)) (eq-eqb entry.field.number number e)
found_among (entry ∷ entries) (suc i) d number h e before =
    ap (λ b. cond b (Some entry) (entry_among entries number)) (ne-eqb entry.field.number number (before 0 entry (omega arith)))
    ∙ found_among entries i d number (omega (arith, h)) e (λ k d l. before (suc k) d (omega (arith, l)))

-- HALVING

number_there : (entries : List Entry) (i : ℕ) (d e : Entry) → i < length entries → (get_or entries i d).field.number ≡ (get_or entries i e).field.number
number_there entries i d e h = ap (λ (x : Entry). x.field.number) (same_there entries i d e h)

pub less_next : (entries : List Entry) → AreAscending entries → (middle : ℕ) (d : Entry) (number : ℕ) → middle < length entries → (get_or entries middle d).field.number < number
    → (k : ℕ) (e : Entry) → k < middle + 1 → (get_or entries k e).field.number < number
less_next entries up middle d number h l k e m =
    elim (cases_lt k middle) [
      | inl before ↦ omega (arith, up k middle e before h, number_there entries middle d e h, l)
      | inr past ↦
          let at : k ≡ middle = omega (arith, past, m) in
          let same = ap (λ i. (get_or entries i e).field.number) at in
          omega (arith, same, number_there entries middle d e h, l)
    ]

pub greater_next : (entries : List Entry) → AreAscending entries → (middle : ℕ) (d : Entry) (number : ℕ) → middle < length entries → number < (get_or entries middle d).field.number
    → (k : ℕ) (e : Entry) → middle ≤ k → k < length entries → number < (get_or entries k e).field.number
greater_next entries up middle d number h l k e m n =
    elim (cases_lt middle k) [
      | inl past ↦ omega (arith, up middle k e past n, number_there entries middle d e h, l)
      | inr no_more ↦
          let at : k ≡ middle = omega (arith, no_more, m) in
          let same = ap (λ i. (get_or entries i e).field.number) at in
          omega (arith, same, number_there entries middle d e h, l)
    ]

pub found_ascending : (entries : List Entry) → AreAscending entries → (i : ℕ) (d : Entry) (number : ℕ) → i < length entries → (get_or entries i d).field.number ≡ number → Some (get_or entries i d) ≡ entry_among entries number
found_ascending entries up i d number h e =
    sym (found_among entries i d number h e (λ k f l same. absurd (omega (arith, up k i f l h, number_there entries i d f h, e, same))))

pub none_left : (entries : List Entry) (number low high : ℕ) → high ≤ low → ((k : ℕ) (d : Entry) → k < low → (get_or entries k d).field.number < number)
    → ((k : ℕ) (d : Entry) → high ≤ k → k < length entries → number < (get_or entries k d).field.number) → None ≡ entry_among entries number
none_left entries number low high order less greater =
    sym (none_among entries number (λ k d h same.
    elim (cases_lt k low) [
      | inl before ↦ absurd (omega (arith, less k d before, same))
      | inr past ↦ absurd (omega (arith, greater k d (omega (arith, past, order)) h, same))
    ]))

-- THE TABLE

among_others : (entries : List Entry) (entry : Entry) (number : ℕ) → entry.field.number ≢ number → entry_among (entries ++ entry ∷ []) number ≡ entry_among entries number
among_others [] entry number h = ap (λ b. cond b (Some entry) None) (ne-eqb entry.field.number number h)
among_others (first ∷ entries) entry number h = ap (λ rest. cond (eqb first.field.number number) (Some first) rest) (among_others entries entry number h)

taken_number : (entries : List Entry) → AreAscending entries → (i : ℕ) (d : Entry) → i < length entries → entry_among (take (i + 1) entries) (get_or entries i d).field.number ≡ Some (get_or entries i d)
taken_number entries up i d h =
    let taken = take_more entries i d h in
    let len : length (take (i + 1) entries) ≡ i + 1 = length-take-le (i + 1) entries (omega (arith, h)) in
    let here : get_or (take (i + 1) entries) i d ≡ get_or entries i d = get_or-take (i + 1) entries i d (omega arith) in
    found_among (take (i + 1) entries) i d (get_or entries i d).field.number (omega (arith, len)) (ap (λ (x : Entry). x.field.number) here)
    (λ k f l same.
    let there : get_or (take (i + 1) entries) k f ≡ get_or entries k f = get_or-take (i + 1) entries k f (omega (arith, l)) in
    let numbers = ap (λ (x : Entry). x.field.number) there in
    absurd (omega (arith, numbers, up k i f l h, number_there entries i d f h, same)))
    ∙ ap Some here

pub tells_more : (entries : List Entry) → AreAscending entries → (table : List ℕ) (i : ℕ) (d : Entry) → i < length entries → Tells entries table (take i entries) → (get_or entries i d).field.number < length table
    → Tells entries (set table (get_or entries i d).field.number (i + 1)) (take (i + 1) entries)
tells_more entries up table i d h tells within number l =
    elim (cases_eq number (get_or entries i d).field.number) [
      | inl same ↦ at_same same
      | inr differ ↦ at_other differ
    ]
  where
    at_same : number ≡ (get_or entries i d).field.number → entry_by_place entries (get_or (set table (get_or entries i d).field.number (i + 1)) number 0) ≡ entry_among (take (i + 1) entries) number
    at_same e =
        let here : get_or (set table (get_or entries i d).field.number (i + 1)) number 0 ≡ suc i =
        ap (λ n. get_or (set table (get_or entries i d).field.number (i + 1)) n 0) e ∙ get_or-set_same table (get_or entries i d).field.number (i + 1) 0 within ∙ add-one i in
        ap (entry_by_place entries) here ∙ slice_get-get_or entries i d h ∙ sym (taken_number entries up i d h) ∙ ap (entry_among (take (i + 1) entries)) (sym e)

    at_other : number ≢ (get_or entries i d).field.number → entry_by_place entries (get_or (set table (get_or entries i d).field.number (i + 1)) number 0) ≡ entry_among (take (i + 1) entries) number
    at_other e =
        let here = get_or-set_other table (get_or entries i d).field.number number (i + 1) 0 e in
        let inside : number < length table = omega (arith, length-set {A = ℕ}, l) in
        ap (entry_by_place entries) here ∙ tells number inside
        ∙ sym (among_others (take i entries) (get_or entries i d) number (λ same. e (sym same))) ∙ ap (λ all. entry_among all number) (sym (take_more entries i d h))

pub tells_past : (entries : List Entry) (table : List ℕ) (i : ℕ) (d : Entry) → i < length entries → Tells entries table (take i entries) → length table ≤ (get_or entries i d).field.number → Tells entries table (take (i + 1) entries)
tells_past entries table i d h tells past number l =
    tells number l ∙ sym (among_others (take i entries) (get_or entries i d) number (λ same. absurd (omega (arith, same, past, l))))
    ∙ ap (λ all. entry_among all number) (sym (take_more entries i d h))

-- THE ENTRIES OF A TYPE

length_entries : (type : MessageType) (before fields : List FieldType) → length (entries_from type before fields) ≡ length fields
length_entries type before [] = refl
length_entries type before (field ∷ fields) = ap suc (length_entries type (before ++ field ∷ []) fields)

all_ascending : (entries : List Entry) → EachTwo Beside entries → AreAscending entries
all_ascending entries apart i j d l h = (each_two_pairs Beside entries apart i j d l h).numbers

-- entries that are those of a type
pub ascending_entries : (type : MessageType) → (types : ℕ) × TypeAllowed types type → (entries : List Entry) → entries ≡ entries_from type [] type.fields → AreAscending entries
ascending_entries type (types, allowed) entries e = subst AreAscending (sym e) (all_ascending (entries_from type [] type.fields) (type_is_sound types type allowed).apart)

pub few_entries : (type : MessageType) → (types : ℕ) × TypeAllowed types type → (entries : List Entry) → entries ≡ entries_from type [] type.fields → length entries ≤ 512
few_entries type (types, allowed) entries e = omega (arith, ap length e, length_entries type [] type.fields, allowed.size)
