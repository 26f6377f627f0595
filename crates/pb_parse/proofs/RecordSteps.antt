-- Reading a message one record on: whether what is left has a fault, and what it makes of the message.
use Rattle.std.proofs.Common.{◌≡◌, ◌≢◌, ℕ, zero, suc, ◌+◌, ◌≤◌, List, [], ◌∷◌, ◌++◌, length, take, drop, true, false, Some, Result, Ok, Err, refl, sym, ap, ◌∙◌, arith, append-nil, append_assoc, take-append-drop}
use Rattle.std.specs.List.{fold}
use Rattle.std.proofs.lemmas.Bool.{cond-true, cond-false}
use Rattle.pb_schema.specs.declared.kind.FieldType.{FieldType}
use Rattle.pb_schema.specs.declared.schema.Schema.{Schema}
use Rattle.pb_schema.specs.declared.wire_fault.WireKind.TheVariants.{TooDeep}
use Rattle.pb_schema.specs.declared.wire_fault.WireFault.{WireFault}
use Rattle.pb_schema.specs.Reads.{◌>>=◌, fault}
use Rattle.pb_schema.specs.Form.{Form, form_at}
use Rattle.pb_schema.specs.Record.{Record, record_of}
use Rattle.pb_schema.specs.Records.{RecordsWithin}
use Rattle.pb_schema.specs.Fits.{Contents, Anything, Message, fields_of, is_taken, takes, contents_in, contents_of}
use Rattle.pb_schema.specs.Walk.{Stop, in_message, walk, deeper_left, record_left, read_held, read_contents}
use Rattle.pb_schema.specs.HeldAt.{field_at, held_at, with_held}
use Rattle.pb_schema.specs.Tree.{Shape, HeldListWith, fields_held, unknown_held}
use Rattle.pb_schema.specs.Tree as tree
use Rattle.pb_schema.specs.TreeOf.{or_none, records_in, unknown_in, unknown_of}
use Rattle.pb_schema.specs.ShapeOf.{piece}
use Rattle.pb_schema.specs.Put.{put, taken_put}
use Rattle.pb_schema.specs.Lawful.{Lawful}
use Rattle.pb_schema.proofs.FormLaws.{bind_ok}
use Rattle.pb_schema.proofs.FaultLaws.{held_untyped}
use Rattle.pb_schema.proofs.RecordsFound.{each_found, RecordFound}
use Rattle.pb_schema.proofs.RecordsFront.{records_of_spans}
use Rattle.pb_schema.proofs.SoundRecords.{walk_sound}
use Rattle.pb_schema.proofs.WalkSteps.{walk_fault, walk_held_fault, walk_more, walk_left_is}
use Rattle.pb_parse.specs.Reading.{read_left, onto_left, finished, walked, untyped}
use Rattle.pb_parse.proofs.TypedRecord.{then_contents, typed_left}
use Rattle.pb_parse.proofs.FieldFound.{taken_among, contents_found, contents_none}
use Rattle.pb_parse.proofs.PutSteps.{put_taken, put_left}

-- WHOLE PAYLOADS

-- before the first record
pub begun : (schema : Schema) (left : ℕ) (fields : List FieldType) (t : Shape) (s : List ℕ) → read_left schema left fields t s ≡ finished schema left fields t [] s
unfolding read_left finished onto_left
begun schema zero fields (tree.Message held unknown) s = refl
begun schema (suc left) fields (tree.Message held unknown) s = refl

-- behind the last, where nothing was unknown
pub ended_none : (schema : Schema) (left : ℕ) (fields : List FieldType) (t : Shape) → finished schema left fields t [] [] ≡ t
unfolding finished
ended_none schema left fields (tree.Message held unknown) = ap (tree.Message held) (append-nil unknown)

-- and where something was
pub ended_some : (schema : Schema) (left : ℕ) (fields : List FieldType) (t : Shape) (unknown : List ℕ) → 1 ≤ length unknown → finished schema left fields t unknown [] ≡ tree.Message (fields_held t) (unknown_held t ++ unknown ∷ [])
unfolding finished
ended_some schema left fields t [] some = absurd (omega (arith, some))
ended_some schema left fields t (b ∷ unknown) some = ap (λ u. tree.Message (fields_held t) (unknown_held t ++ piece (b ∷ u))) (append-nil unknown)

-- THE WALK

pub walk_end : (schema : Schema) (left : ℕ) (fields : List FieldType) (at : ℕ) → walked schema left fields at [] ≡ Ok (at, at)
unfolding walked
walk_end schema left fields at = refl

-- the record at the front has a fault
pub walk_bad : (schema : Schema) (left : ℕ) (fields : List FieldType) (at : ℕ) (s : List ℕ) (d : WireFault) → s ≢ [] → record_left schema left fields at s ≡ Err d → walked schema left fields at s ≡ Err d
unfolding walked
walk_bad schema left fields at s d some e = pick (form_at at s) refl e
  where
    pick : (r : Result Form WireFault) → form_at at s ≡ r → (r >>= λ form. read_held schema (deeper_left schema left) fields at s form) ≡ Err d → walk schema (deeper_left schema left) (in_message fields) at 0 s ≡ Err d
    pick (Ok form) was held = walk_held_fault schema (deeper_left schema left) (in_message fields) at s form d some was refl held
    pick (Err own) was is = let same : ◌≡◌ {A = WireFault} own d = cc in walk_fault schema (deeper_left schema left) (in_message fields) at s own some was ∙ ap Err same

-- bytes of the record at the front are there
pub record_found : (schema : Schema) (left : ℕ) (fields : List FieldType) (at : ℕ) (s : List ℕ) (form : Form) → record_left schema left fields at s ≡ Ok form → RecordFound left s form
record_found schema left fields at s form e =
    bind_ok (form_at at s) (λ form. read_held schema (deeper_left schema left) fields at s form) form e
    λ start was held. each_found left at s start form was (held_untyped schema left fields at s start form _ refl held)

-- and it is whole
pub walk_on : (schema : Schema) (left : ℕ) (fields : List FieldType) (at : ℕ) (s : List ℕ) (form : Form) → record_left schema left fields at s ≡ Ok form → walked schema left fields at s ≡ walked schema left fields (at + form.size) (drop form.size s)
unfolding walked
walk_on schema left fields at s form e =
    let found = record_found schema left fields at s form e in
    bind_ok (form_at at s) (λ form. read_held schema (deeper_left schema left) fields at s form) form e
    λ start was held. walk_more schema (deeper_left schema left) (in_message fields) at s start form was refl held found.some found.within

-- AT A TYPE AND WITHOUT ONE

abbrev then_by : Schema → ℕ → ℕ → List ℕ → Form → Contents → Result Form WireFault
then_by schema left at s form c = read_contents schema (deeper_left schema left) at (at + form.payload) (record_of form s).payload c >>= λ _. Ok form

pub untyped_bad : (schema : Schema) (left : ℕ) (fields : List FieldType) (at : ℕ) (s : List ℕ) (d : WireFault) → untyped left at s ≡ Err d → record_left schema left fields at s ≡ Err d
untyped_bad schema left fields at s d e = typed_left schema left fields at s ∙ ap (λ r. r >>= then_contents schema left fields at s) e

-- the record that is whole without a type has to hold this
pub untyped_then : (schema : Schema) (left : ℕ) (fields : List FieldType) (at : ℕ) (s : List ℕ) (form : Form) (c : Contents) → untyped left at s ≡ Ok form → contents_of schema fields (record_of form s) ≡ c → record_left schema left fields at s ≡ (read_contents schema (deeper_left schema left) at (at + form.payload) (record_of form s).payload c >>= λ _. Ok form)
untyped_then schema left fields at s form c e holds =
    typed_left schema left fields at s ∙ (ap (λ r. r >>= then_contents schema left fields at s) e ∙ ap (then_by schema left at s form) holds)

pub other_whole : (schema : Schema) (left : ℕ) (fields : List FieldType) (at : ℕ) (s : List ℕ) (form : Form) → untyped left at s ≡ Ok form → is_taken schema fields (record_of form s) ≡ false → record_left schema left fields at s ≡ Ok form
other_whole schema left fields at s form e untaken = untyped_then schema left fields at s form Anything e (contents_none schema fields (record_of form s) untaken)

pub taken_is : (schema : Schema) (left type_no number at : ℕ) (s : List ℕ) (field : FieldType) (form : Form) → field_at schema type_no number ≡ Some field → takes schema field (record_of form s) ≡ true → untyped left at s ≡ Ok form
    → record_left schema left (fields_of schema type_no) at s ≡ (read_contents schema (deeper_left schema left) at (at + form.payload) (record_of form s).payload (contents_in field (record_of form s)) >>= λ _. Ok form)
taken_is schema left type_no number at s field form found takes_it e =
    untyped_then schema left (fields_of schema type_no) at s form (contents_in field (record_of form s)) e (contents_found schema (fields_of schema type_no) number field (record_of form s) found takes_it)

-- a message where no level is left, and where some are
pub deep_none : (schema : Schema) (tag at : ℕ) (payload : List ℕ) (inner : ℕ) → read_contents schema (deeper_left schema 0) tag at payload (Message inner) ≡ fault TooDeep tag
deep_none schema tag at payload inner = refl

pub deep_some : (schema : Schema) (left tag at : ℕ) (payload : List ℕ) (inner : ℕ) → read_contents schema (deeper_left schema (suc left)) tag at payload (Message inner) ≡ (walked schema left (fields_of schema inner) at payload >>= λ stop. Ok stop.1)
unfolding walked
deep_some schema left tag at payload inner = ap (λ r. r >>= λ stop. Ok stop.1) (walk_left_is schema left tag (in_message (fields_of schema inner)) at payload)

-- ONE RECORD MORE

-- bytes without a fault are records
pub walked_records : (schema : Schema) (left : ℕ) (fields : List FieldType) (at : ℕ) (s : List ℕ) (stop : Stop) → walked schema left fields at s ≡ Ok stop → (rs : List Record) × RecordsWithin left s rs
unfolding walked
walked_records schema left fields at s stop e = let sound = walk_sound schema left fields 0 at s stop e in (sound.rs, sound.are)

-- the first of the records
pub records_next : (schema : Schema) (left : ℕ) (fields : List FieldType) (at next : ℕ) (s : List ℕ) (form : Form) (stop : Stop) → record_left schema left fields at s ≡ Ok form → walked schema left fields next (drop form.size s) ≡ Ok stop
    → records_in left s ≡ record_of form s ∷ records_in left (drop form.size s)
records_next schema left fields at next s form stop e rest =
    let found = record_found schema left fields at s form e in
    let behind = walked_records schema left fields next (drop form.size s) stop rest in
    let r = record_of form s in
    ap or_none (records_of_spans left (r ∷ behind.0) s (drop form.size s, found.is, sym (take-append-drop form.size s), behind.1))
    ∙ sym (ap (λ o. r ∷ or_none o) (records_of_spans left behind.0 (drop form.size s) behind.1))

-- what one record makes of a message: its fields, and its unknown bytes
abbrev with_rest : Schema → ℕ → List FieldType → HeldListWith (List (List ℕ)) → List (List ℕ) → List ℕ → List Record → Shape
with_rest schema left fields held pieces unknown rs =
    tree.Message (fold (put schema [] (onto_left schema left) fields) held rs) (pieces ++ piece (unknown ++ unknown_of schema fields rs))

pub finished_next : (schema : Schema) (left : ℕ) (fields : List FieldType) (t : Shape) (unknown : List ℕ) (at next : ℕ) (s : List ℕ) (form : Form) (stop : Stop) → record_left schema left fields at s ≡ Ok form → walked schema left fields next (drop form.size s) ≡ Ok stop
    → finished schema left fields t unknown s
    ≡ finished schema left fields (tree.Message (put schema [] (onto_left schema left) fields (fields_held t) (record_of form s)) (unknown_held t)) (unknown ++ unknown_in schema fields (record_of form s)) (drop form.size s)
unfolding finished
finished_next schema left fields t unknown at next s form stop e rest =
    let r = record_of form s in
    let rs = records_in left (drop form.size s) in
    ap (with_rest schema left fields (fields_held t) (unknown_held t) unknown) (records_next schema left fields at next s form stop e rest)
    ∙ ap (λ u. tree.Message (fold (put schema [] (onto_left schema left) fields) (put schema [] (onto_left schema left) fields (fields_held t) r) rs) (unknown_held t ++ piece u))
    (sym (append_assoc unknown (unknown_in schema fields r) (unknown_of schema fields rs)))

-- a field takes the record
pub taken_goes : (schema : Schema) (left type_no number : ℕ) (field : FieldType) (t : Shape) (unknown : List ℕ) (at next : ℕ) (s : List ℕ) (form : Form) (stop : Stop) → Lawful schema → field_at schema type_no number ≡ Some field → takes schema field (record_of form s) ≡ true
    → record_left schema left (fields_of schema type_no) at s ≡ Ok form → walked schema left (fields_of schema type_no) next (drop form.size s) ≡ Ok stop
    → finished schema left (fields_of schema type_no) t unknown s
    ≡ finished schema left (fields_of schema type_no) (with_held schema type_no number (taken_put schema [] (onto_left schema left) field (held_at schema type_no number t) (record_of form s) field.card) t) unknown (drop form.size s)
taken_goes schema left type_no number field t unknown at next s form stop lawful found takes_it e rest =
    let fields = fields_of schema type_no in
    let r = record_of form s in
    let known : unknown_in schema fields r ≡ [] = cond-true (is_taken schema fields r) [] r.span (taken_among schema fields number field r found takes_it) in
    finished_next schema left fields t unknown at next s form stop e rest
    ∙ (ap (λ u. finished schema left fields (tree.Message (put schema [] (onto_left schema left) fields (fields_held t) r) (unknown_held t)) (unknown ++ u) (drop form.size s)) known
    ∙ (ap (λ u. finished schema left fields (tree.Message (put schema [] (onto_left schema left) fields (fields_held t) r) (unknown_held t)) u (drop form.size s)) (append-nil unknown)
    ∙ ap (λ held. finished schema left fields (tree.Message held (unknown_held t)) unknown (drop form.size s)) (put_taken schema [] (onto_left schema left) type_no number field r t lawful found takes_it)))

-- no field takes it
pub other_goes : (schema : Schema) (left : ℕ) (fields : List FieldType) (t : Shape) (unknown : List ℕ) (at next : ℕ) (s : List ℕ) (form : Form) (stop : Stop) → is_taken schema fields (record_of form s) ≡ false → record_left schema left fields at s ≡ Ok form → walked schema left fields next (drop form.size s) ≡ Ok stop
    → finished schema left fields t unknown s ≡ finished schema left fields t (unknown ++ take form.size s) (drop form.size s)
other_goes schema left fields t unknown at next s form stop untaken e rest =
    let r = record_of form s in
    let span : unknown_in schema fields r ≡ r.span = cond-false (is_taken schema fields r) [] r.span untaken in
    finished_next schema left fields t unknown at next s form stop e rest
    ∙ (ap (λ u. finished schema left fields (tree.Message (put schema [] (onto_left schema left) fields (fields_held t) r) (unknown_held t)) (unknown ++ u) (drop form.size s)) span
    ∙ (ap (λ held. finished schema left fields (tree.Message held (unknown_held t)) (unknown ++ r.span) (drop form.size s)) (put_left schema [] (onto_left schema left) fields (fields_held t) r untaken)
    ∙ ap (λ u. finished schema left fields u (unknown ++ r.span) (drop form.size s)) (same_parts t)))
  where
    same_parts : (t : Shape) → tree.Message (fields_held t) (unknown_held t) ≡ t
    same_parts (tree.Message held unknown) = refl
