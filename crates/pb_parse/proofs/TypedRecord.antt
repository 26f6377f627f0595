-- A record that is read at a type is the record that is read without one, whose payload is then looked at: the form and the depth of groups come first, and only then what the field has to hold.
use Rattle.std.proofs.Common.{◌≡◌, ◌≢◌, ℕ, ◌+◌, List, [], take, drop, Bool, true, false, eqb, Result, Ok, Err, refl, sym, ap, ◌∙◌}
use Rattle.std.proofs.lemmas.Bool.{eqb-true, eq-eqb, false≢true}
use Rattle.pb_schema.specs.declared.kind.FieldType.{FieldType}
use Rattle.pb_schema.specs.declared.schema.Schema.{Schema}
use Rattle.pb_schema.specs.declared.wire_fault.WireFault.{WireFault}
use Rattle.pb_schema.specs.Reads.{◌>>=◌}
use Rattle.pb_schema.specs.Form.{Form, form_at}
use Rattle.pb_schema.specs.Record.{record_of}
use Rattle.pb_schema.specs.Fits.{Contents, contents_of, no_types}
use Rattle.pb_schema.specs.Walk.{in_group, Stop, closed, read_contents, read_held, deeper_left, record_left}
use Rattle.pb_schema.proofs.FitsLaws.{group_holds_anything}
use Rattle.pb_schema.proofs.FaultLaws.{group_same, same_held}
use Rattle.pb_schema.proofs.WalkSteps.{held_end, held_group, held_plain}

-- what a record that is whole has to hold
abbrev pub then_contents : Schema → ℕ → List FieldType → ℕ → List ℕ → Form → Result Form WireFault
then_contents schema left fields at s whole =
    read_contents schema (deeper_left schema left) at (at + whole.payload) (take whole.payload_len (drop whole.payload s)) (contents_of schema fields (record_of whole s))
    >>= λ _. Ok whole

not_wire : (a b : ℕ) → eqb a b ≡ false → a ≢ b
not_wire a b differ same = absurd (false≢true (sym differ ∙ eq-eqb a b same))

-- a group holds anything
group_then : (schema : Schema) (left : ℕ) (fields : List FieldType) (at : ℕ) (s : List ℕ) (whole : Form) → whole.wire ≡ 3 → then_contents schema left fields at s whole ≡ Ok whole
group_then schema left fields at s whole three =
    ap (λ (c : Contents). read_contents schema (deeper_left schema left) at (at + whole.payload) (take whole.payload_len (drop whole.payload s)) c >>= λ _. Ok whole) (group_holds_anything schema fields (record_of whole s) three)

closed_then : (schema : Schema) (left : ℕ) (fields : List FieldType) (at : ℕ) (s : List ℕ) (form : Form) → form.wire ≡ 3 → (r : Result Stop WireFault) → (r >>= λ stop. Ok (closed form at stop)) ≡ (r >>= (λ stop. Ok (closed form at stop)) >>= then_contents schema left fields at s)
closed_then schema left fields at s form three (Ok stop) = sym (group_then schema left fields at s (closed form at stop) three)
closed_then schema left fields at s form three (Err d) = refl

pub typed_held : (schema : Schema) (left : ℕ) (fields : List FieldType) (at : ℕ) (s : List ℕ) (form : Form)
    → read_held schema (deeper_left schema left) fields at s form ≡ (read_held no_types (deeper_left no_types left) [] at s form >>= then_contents schema left fields at s)
typed_held schema left fields at s form = pick (eqb form.wire 3) refl
  where
    bare : Result Form WireFault
    bare = read_held no_types (deeper_left no_types left) [] at s form

    plain : eqb form.wire 3 ≡ false → (u : Bool) → eqb form.wire 4 ≡ u → read_held schema (deeper_left schema left) fields at s form ≡ (read_held no_types (deeper_left no_types left) [] at s form >>= then_contents schema left fields at s)
    plain start true end =
        let four = eqb-true form.wire 4 end in
        held_end schema (deeper_left schema left) fields at s form four ∙ sym (ap (λ r. r >>= then_contents schema left fields at s) (held_end no_types (deeper_left no_types left) [] at s form four))
    plain start false end =
        let no_start = not_wire form.wire 3 start in
        let no_end = not_wire form.wire 4 end in
        held_plain schema (deeper_left schema left) fields at s form no_start no_end
        ∙ sym (ap (λ r. r >>= then_contents schema left fields at s) (held_plain no_types (deeper_left no_types left) [] at s form no_start no_end))

    pick : (t : Bool) → eqb form.wire 3 ≡ t → read_held schema (deeper_left schema left) fields at s form ≡ (read_held no_types (deeper_left no_types left) [] at s form >>= then_contents schema left fields at s)
    pick true start =
        let three = eqb-true form.wire 3 start in
        let group = held_group no_types (deeper_left no_types left) [] at s form three in
        group_same schema (deeper_left schema left) fields at s form start
        ∙ (same_held schema left at s form
        ∙ (group
        ∙ (closed_then schema left fields at s form three (deeper_left no_types left at (in_group [] form.number) (at + form.payload) (drop form.payload s))
        ∙ sym (ap (λ r. r >>= then_contents schema left fields at s) group))))
    pick false start = plain start (eqb form.wire 4) refl

pub typed_left : (schema : Schema) (left : ℕ) (fields : List FieldType) (at : ℕ) (s : List ℕ)
    → record_left schema left fields at s ≡ (record_left no_types left [] at s >>= then_contents schema left fields at s)
typed_left schema left fields at s = pick (form_at at s)
  where
    pick : (r : Result Form WireFault) → (r >>= λ form. read_held schema (deeper_left schema left) fields at s form) ≡ (r >>= (λ form. read_held no_types (deeper_left no_types left) [] at s form) >>= then_contents schema left fields at s)
    pick (Ok form) = typed_held schema left fields at s form
    pick (Err d) = refl
