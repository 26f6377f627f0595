-- Records as they are found without a type: what stands in one that isn't a group, and runs of them.
use Rattle.std.proofs.Common.{◌≡◌, ◌≢◌, ℕ, zero, suc, ◌+◌, ◌≤◌, List, [], ◌∷◌, ◌++◌, take, drop, Bool, true, false, eqb, Result, Ok, Err, refl, sym, ap, ◌∙◌, subst, arith, append-nil}
use Rattle.std.proofs.lemmas.Bool.{eqb-true, false≢true}
use Rattle.pb_schema.specs.declared.kind.FieldType.{FieldType}
use Rattle.pb_schema.specs.declared.schema.Schema.{Schema}
use Rattle.pb_schema.specs.declared.wire_fault.WireKind.TheVariants.{GroupEnd}
use Rattle.pb_schema.specs.declared.wire_fault.WireFault.{WireFault}
use Rattle.pb_schema.specs.Reads.{◌>>=◌}
use Rattle.pb_schema.specs.Form.{Form, form_at, read_payload, read_scalar}
use Rattle.pb_schema.specs.Record.{Record, record_of}
use Rattle.pb_schema.specs.Records.{Records, Spans, IsRecord, AreRecords}
use Rattle.pb_schema.specs.Fits.{no_types, takes}
use Rattle.pb_schema.specs.Walk.{Stop, in_group, closed, read_held, deeper_left}
use Rattle.pb_schema.proofs.FormLaws.{not_ok, same_ok, bind_ok, form_ok}
use Rattle.pb_schema.proofs.FitsLaws.{no_group_taken}
use Rattle.pb_schema.proofs.RecordsFront.{spells_with}
use Rattle.pb_schema.proofs.SoundRecords.{spans_join}
use Rattle.pb_schema.proofs.WalkSteps.{held_end, held_group, held_plain}
use Rattle.pb_parse.specs.Reading.{untyped}
use Rattle.pb_parse.proofs.FieldFound.{other_number}
use Rattle.pb_parse.proofs.RecordSteps.{record_found}

-- NO GROUP

closed_wire : (start form : Form) (at : ℕ) (r : Result Stop WireFault) → (r >>= λ stop. Ok (closed start at stop)) ≡ Ok form → start.wire ≡ form.wire
closed_wire start form at (Ok stop) e = ap (λ (f : Form). f.wire) (same_ok (closed start at stop) form e)
closed_wire start form at (Err d) e = not_ok d form e

plain_held : (left at : ℕ) (s : List ℕ) (start form : Form) → form.wire ≢ 3 → read_held no_types (deeper_left no_types left) [] at s start ≡ Ok form → start ≡ form
plain_held left at s start form other e = pick (eqb start.wire 3) refl
  where
    ended : eqb start.wire 3 ≡ false → (t : Bool) → eqb start.wire 4 ≡ t → start ≡ form
    ended differ true end = not_ok (record { kind = GroupEnd; byte = at }) form (sym (held_end no_types (deeper_left no_types left) [] at s start (eqb-true start.wire 4 end)) ∙ e)
    ended differ false plain = same_ok start form (sym (held_plain no_types (deeper_left no_types left) [] at s start (other_number start.wire 3 differ) (other_number start.wire 4 plain)) ∙ e)

    pick : (t : Bool) → eqb start.wire 3 ≡ t → start ≡ form
    pick true group =
        let three = eqb-true start.wire 3 group in
        let wire = closed_wire start form at (deeper_left no_types left at (in_group [] start.number) (at + start.payload) (drop start.payload s)) (sym (held_group no_types (deeper_left no_types left) [] at s start three) ∙ e) in
        absurd (other (sym wire ∙ three))
    pick false differ = ended differ (eqb start.wire 4) refl

-- a record that isn't a group has its own form
pub plain_form : (left at : ℕ) (s : List ℕ) (form : Form) → untyped left at s ≡ Ok form → form.wire ≢ 3 → form_at at s ≡ Ok form
plain_form left at s form e other =
    bind_ok (form_at at s) (λ form. read_held no_types (deeper_left no_types left) [] at s form) form e
    λ start was held. was ∙ ap Ok (plain_held left at s start form other held)

-- what a field takes isn't a group
pub no_group : (schema : Schema) (field : FieldType) (r : Record) → takes schema field r ≡ true → r.wire ≢ 3
no_group schema field r takes_it three = absurd (false≢true (sym (no_group_taken schema field r three) ∙ takes_it))

-- its payload stands behind the tag, up to the end of the record
pub found_for : (schema : Schema) (left at : ℕ) (s : List ℕ) (field : FieldType) (form : Form) → untyped left at s ≡ Ok form → takes schema field (record_of form s) ≡ true → (1 ≤ form.payload) × (form.payload + form.payload_len ≡ form.size)
found_for schema left at s field form e takes_it =
    form_ok at s form (plain_form left at s form e (no_group schema field (record_of form s) takes_it))
    λ p. (omega (arith, p.payload_is, p.tag.some), omega (arith, p.size_is))

-- VALUES

abbrev AloneIs : ℕ → ℕ → List ℕ → ℕ × ℕ → Type 0
AloneIs wire at t part = (read_scalar wire at t ≡ Ok part.1) × (part.0 ≡ 0)

alone_is : (wire at : ℕ) (t : List ℕ) (part : ℕ × ℕ) → (read_scalar wire at t >>= λ n. Ok (0, n)) ≡ Ok part → AloneIs wire at t part
alone_is wire at t part e =
    bind_ok (read_scalar wire at t) _ part e
    λ n was is.
    let whole : ◌≡◌ {A = ℕ × ℕ} (0, n) part = same_ok (0, n) part is in
    (was ∙ ap Ok (ap (λ (p : ℕ × ℕ). p.1) whole), sym (ap (λ (p : ℕ × ℕ). p.0) whole))

value_alone : (wire at : ℕ) (t : List ℕ) (part : ℕ × ℕ) → wire ≢ 2 → read_payload wire at t ≡ Ok part → AloneIs wire at t part
value_alone zero at t part other e = alone_is 0 at t part e
value_alone (suc zero) at t part other e = alone_is 1 at t part e
value_alone (suc (suc zero)) at t part other e = absurd (other refl)
value_alone (suc (suc (suc wire))) at t part other e = alone_is (suc (suc (suc wire))) at t part e

-- a payload without a length in front of it is the whole value
pub found_value : (left at : ℕ) (s : List ℕ) (form : Form) → untyped left at s ≡ Ok form → form.wire ≢ 3 → form.wire ≢ 2 → read_scalar form.wire (at + form.payload) (drop form.payload s) ≡ Ok form.payload_len
found_value left at s form e no_start no_length =
    form_ok at s form (plain_form left at s form e no_start)
    λ p.
    let alone = value_alone form.wire (at + p.tag_size) (drop p.tag_size s) (p.front, form.payload_len) no_length p.part in
    let here : p.tag_size ≡ form.payload = omega (arith, alone.1, p.payload_is) in
    subst (λ n. read_scalar form.wire (at + n) (drop n s) ≡ Ok form.payload_len) here alone.0

-- RUNS

record_wider : (A B : List ℕ → Type 0) → ((s : List ℕ) → A s → B s) → (r : Record) → IsRecord A r → IsRecord B r
record_wider A B wider r p = (p.0, p.1, p.2, spells_with A B r.number r.wire r.payload p.1 p.3 (λ wire inner. wider r.payload inner), p.4)

spans_wider : (A B : List ℕ → Type 0) → ((s : List ℕ) → A s → B s) → (rs : List Record) (s : List ℕ) → Spans A rs s → Spans B rs s
spans_wider A B wider [] s p = p
spans_wider A B wider (r ∷ rs) s p = (p.0, record_wider A B wider r p.1, p.2, spans_wider A B wider rs p.0 p.3)

-- what is cut into records with some levels is so with more
records_wider : (levels more : ℕ) (s : List ℕ) → AreRecords levels s → AreRecords (levels + more) s
records_wider zero more s p = absurd p
records_wider (suc levels) more s p =
    let next : suc (levels + more) ≡ suc levels + more = omega arith in
    subst (λ n. AreRecords n s) next (p.0, spans_wider (AreRecords levels) (AreRecords (levels + more)) (records_wider levels more) p.0 s p.1)

-- records and one more behind them
pub piece_more : (left at : ℕ) (x s : List ℕ) (form : Form) → ((rs : List Record) × Records x rs) → untyped left at s ≡ Ok form → (rs : List Record) × Records (x ++ take form.size s) rs
piece_more left at x s form piece e =
    let found = record_found no_types left [] at s form e in
    let r = record_of form s in
    let levels = piece.1.0 in
    let turned : left + levels ≡ levels + left = omega arith in
    let before = spans_wider (AreRecords levels) (AreRecords (levels + left)) (records_wider levels left) piece.0 x piece.1.1 in
    let next = subst (λ n. IsRecord (AreRecords n) r) turned (record_wider (AreRecords left) (AreRecords (left + levels)) (records_wider left levels) r found.is) in
    (piece.0 ++ (r ∷ []), (levels + left, spans_join (AreRecords (levels + left)) piece.0 (r ∷ []) x r.span before ([], next, sym (append-nil r.span), refl)))
