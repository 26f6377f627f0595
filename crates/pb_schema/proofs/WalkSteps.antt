-- Steps of a reader of records: what the definition says one record on.
use Rattle.std.proofs.Common.{◌≡◌, ◌≢◌, ℕ, zero, suc, ◌+◌, ◌-◌, ◌≤◌, List, [], ◌∷◌, length, drop, Bool, true, false, Result, Ok, Err, refl, ap, ◌∙◌, arith, eqb}
use Rattle.std.proofs.lemmas.Bool.{eq-eqb, ne_eqb}
use Rattle.pb_schema.specs.declared.kind.FieldType.{FieldType}
use Rattle.pb_schema.specs.declared.schema.Schema.{Schema}
use Rattle.pb_schema.specs.declared.wire_fault.WireKind.TheVariants.{GroupEnd}
use Rattle.pb_schema.specs.declared.wire_fault.WireFault.{WireFault}
use Rattle.pb_schema.specs.Reads.{fault, ◌>>=◌}
use Rattle.pb_schema.specs.Form.{Form, form_at}
use Rattle.pb_schema.specs.Walk.{Inside, Stop, Deeper, read_group, read_plain, read_held, ends, walk, walk_left, deeper_left}

-- bytes that are skipped are dropped
pub walk-skip : (schema : Schema) (deeper : Deeper) (inside : Inside) (skip at : ℕ) (s : List ℕ) → skip ≤ length s → walk schema deeper inside at skip s ≡ walk schema deeper inside (at + skip) 0 (drop skip s)
walk-skip schema deeper inside zero at s h = ap (λ n. walk schema deeper inside n 0 s) here
  where
    here : at ≡ at + 0
    here = omega arith
walk-skip schema deeper inside (suc skip) at [] h = absurd (omega (arith, h))
walk-skip schema deeper inside (suc skip) at (b ∷ s) h =
    let here : suc at + skip ≡ at + suc skip = omega arith in
    walk-skip schema deeper inside skip (suc at) s (omega (arith, h)) ∙ ap (λ n. walk schema deeper inside n 0 (drop skip s)) here

-- what the form of the record at the front makes of the walk
abbrev pub after_whole : Schema → Deeper → Inside → ℕ → List ℕ → Result Form WireFault → Result Stop WireFault
after_whole schema deeper inside at s r = r >>= λ whole. walk schema deeper inside (suc at) (whole.size - 1) s

abbrev pub after_ends : Schema → Deeper → Inside → ℕ → ℕ → List ℕ → Form → Bool → Result Stop WireFault
after_ends schema deeper inside at b s form is_end = elim is_end [ true ↦ Ok (at, at + form.size) | false ↦ after_whole schema deeper inside at s (read_held schema deeper inside.fields at (b ∷ s) form) ]

abbrev pub after_form : Schema → Deeper → Inside → ℕ → ℕ → List ℕ → Result Form WireFault → Result Stop WireFault
after_form schema deeper inside at b s r = r >>= λ form. after_ends schema deeper inside at b s form (ends inside.group form)

walk_front : (schema : Schema) (deeper : Deeper) (inside : Inside) (at b : ℕ) (s : List ℕ) → walk schema deeper inside at 0 (b ∷ s) ≡ after_form schema deeper inside at b s (form_at at (b ∷ s))
walk_front schema deeper inside at b s = refl

-- the form has a fault
pub walk_fault : (schema : Schema) (deeper : Deeper) (inside : Inside) (at : ℕ) (s : List ℕ) (d : WireFault) → s ≢ [] → form_at at s ≡ Err d → walk schema deeper inside at 0 s ≡ Err d
walk_fault schema deeper inside at [] d some e = absurd (some refl)
walk_fault schema deeper inside at (b ∷ s) d some e = ap (after_form schema deeper inside at b s) e

-- the record is the end of the group
pub walk_ends : (schema : Schema) (deeper : Deeper) (inside : Inside) (at : ℕ) (s : List ℕ) (form : Form) → s ≢ [] → form_at at s ≡ Ok form → ends inside.group form ≡ true → walk schema deeper inside at 0 s ≡ Ok (at, at + form.size)
walk_ends schema deeper inside at [] form some e is_end = absurd (some refl)
walk_ends schema deeper inside at (b ∷ s) form some e is_end = ap (after_form schema deeper inside at b s) e ∙ ap (after_ends schema deeper inside at b s form) is_end

-- what the record holds has a fault
pub walk_held_fault : (schema : Schema) (deeper : Deeper) (inside : Inside) (at : ℕ) (s : List ℕ) (form : Form) (d : WireFault) → s ≢ [] → form_at at s ≡ Ok form → ends inside.group form ≡ false → read_held schema deeper inside.fields at s form ≡ Err d → walk schema deeper inside at 0 s ≡ Err d
walk_held_fault schema deeper inside at [] form d some e goes_on held = absurd (some refl)
walk_held_fault schema deeper inside at (b ∷ s) form d some e goes_on held =
    ap (after_form schema deeper inside at b s) e
    ∙ (ap (after_ends schema deeper inside at b s form) goes_on ∙ ap (after_whole schema deeper inside at s) held)

-- the record is whole, and the walk goes on behind it
pub walk_more : (schema : Schema) (deeper : Deeper) (inside : Inside) (at : ℕ) (s : List ℕ) (form whole : Form) → form_at at s ≡ Ok form → ends inside.group form ≡ false → read_held schema deeper inside.fields at s form ≡ Ok whole → 1 ≤ whole.size → whole.size ≤ length s → walk schema deeper inside at 0 s ≡ walk schema deeper inside (at + whole.size) 0 (drop whole.size s)
walk_more schema deeper inside at [] form whole e goes_on held some fits = absurd (omega (arith, some, fits))
walk_more schema deeper inside at (b ∷ s) form whole e goes_on held some fits =
    let here : suc at + (whole.size - 1) ≡ at + whole.size = omega (arith, some) in
    let behind : suc (whole.size - 1) ≡ whole.size = omega (arith, some) in
    ap (after_form schema deeper inside at b s) e
    ∙ (ap (after_ends schema deeper inside at b s form) goes_on
    ∙ (ap (after_whole schema deeper inside at s) held
    ∙ (walk-skip schema deeper inside (whole.size - 1) (suc at) s (omega (arith, fits))
    ∙ (ap (λ n. walk schema deeper inside n 0 (drop (whole.size - 1) s)) here
    ∙ ap (λ n. walk schema deeper inside (at + whole.size) 0 (drop n (b ∷ s))) behind))))

-- WHAT A RECORD HOLDS

abbrev pub if_end : Schema → Deeper → List FieldType → ℕ → List ℕ → Form → Bool → Result Form WireFault
if_end schema deeper fields at s form is_end = elim is_end [ true ↦ fault GroupEnd at | false ↦ read_plain schema deeper fields at s form ]

abbrev pub if_start : Schema → Deeper → List FieldType → ℕ → List ℕ → Form → Bool → Result Form WireFault
if_start schema deeper fields at s form is_start = elim is_start [
  | true ↦ read_group schema deeper fields at s form
  | false ↦ if_end schema deeper fields at s form (eqb form.wire 4)
]

held_cases : (schema : Schema) (deeper : Deeper) (fields : List FieldType) (at : ℕ) (s : List ℕ) (form : Form) → read_held schema deeper fields at s form ≡ if_start schema deeper fields at s form (eqb form.wire 3)
held_cases schema deeper fields at s form = refl

-- an end tag where no group ends
pub held_end : (schema : Schema) (deeper : Deeper) (fields : List FieldType) (at : ℕ) (s : List ℕ) (form : Form) → form.wire ≡ 4 → read_held schema deeper fields at s form ≡ fault GroupEnd at
held_end schema deeper fields at s form e =
    ap (if_start schema deeper fields at s form) (ne_eqb form.wire 3 (λ three. absurd (omega (arith, three, e)))) ∙ ap (if_end schema deeper fields at s form) (eq-eqb form.wire 4 e)

-- a group
pub held_group : (schema : Schema) (deeper : Deeper) (fields : List FieldType) (at : ℕ) (s : List ℕ) (form : Form) → form.wire ≡ 3 → read_held schema deeper fields at s form ≡ read_group schema deeper fields at s form
held_group schema deeper fields at s form e = ap (if_start schema deeper fields at s form) (eq-eqb form.wire 3 e)

-- any other record
pub held_plain : (schema : Schema) (deeper : Deeper) (fields : List FieldType) (at : ℕ) (s : List ℕ) (form : Form) → form.wire ≢ 3 → form.wire ≢ 4 → read_held schema deeper fields at s form ≡ read_plain schema deeper fields at s form
held_plain schema deeper fields at s form no_start no_end =
    ap (if_start schema deeper fields at s form) (ne_eqb form.wire 3 no_start) ∙ ap (if_end schema deeper fields at s form) (ne_eqb form.wire 4 no_end)

-- one level deeper
pub walk_left_is : (schema : Schema) (left tag : ℕ) (inside : Inside) (at : ℕ) (s : List ℕ) → walk_left schema left tag inside at s ≡ walk schema (deeper_left schema left) inside at 0 s
walk_left_is schema zero tag inside at s = refl
walk_left_is schema (suc left) tag inside at s = refl
