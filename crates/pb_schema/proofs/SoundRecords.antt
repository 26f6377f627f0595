-- What a payload without a fault is: records, each of which holds what its field takes; and bytes that are such records have no fault, wherever they begin.
use Rattle.std.proofs.Common.{◌≡◌, ◌≢◌, ℕ, zero, suc, ◌+◌, ◌-◌, List, [], ◌∷◌, ◌++◌, length, take, drop, Bool, true, false, cond, eqb, Result, Ok, Err, refl, sym, ap, ◌∙◌, subst, arith, length-append, take-append-drop, append_assoc}
use Rattle.std.proofs.lemmas.Bool.{false≢true, eq-eqb, eqb-true}
use Rattle.std.proofs.lemmas.List.{drop_at}
use Rattle.std.specs.Str.{is_utf8}
use Rattle.pb_schema.specs.declared.kind.FieldType.{FieldType}
use Rattle.pb_schema.specs.declared.schema.Schema.{Schema}
use Rattle.pb_schema.specs.declared.wire_fault.WireKind.TheVariants.{GroupEnd, TooDeep, NotUtf8}
use Rattle.pb_schema.specs.declared.wire_fault.WireFault.{WireFault}
use Rattle.pb_schema.specs.Varint.{value_bytes}
use Rattle.pb_schema.specs.Reads.{fault, ◌>>=◌}
use Rattle.pb_schema.specs.Fits.{Contents, Anything, Numbers, Utf8, Message, no_types, contents_of, fields_of}
use Rattle.pb_schema.specs.Form.{Form, form_at, read_scalar, read_varint}
use Rattle.pb_schema.specs.Walk.{in_message, Stop, Deeper, numbers_end, read_contents, read_held, walk, deeper_left}
use Rattle.pb_schema.specs.Records.{Record, Spans, AreRecords, RecordsWithin, record_of}
use Rattle.pb_schema.proofs.FormLaws.{not_ok, same_ok, bind_ok, read_varint_ok, read_varint_some, read_bytes_ok, read_bytes_of}
use Rattle.pb_schema.proofs.WalkSteps.{after_ends, if_end, if_start, held_end, held_plain, walk_more, walk_left_is}
use Rattle.pb_schema.proofs.RecordsFound.{each_found}
use Rattle.pb_schema.proofs.RecordsFront.{each_front, record_size}
use Rattle.pb_schema.proofs.FaultLaws.{same_held, group_same, held_untyped}
use Rattle.pb_schema.proofs.Runs.{Each, each_join}

-- something that is there
abbrev pub Finds : {A : Type 0} → Result A WireFault → Type 0
Finds {A} r = (x : A) × (r ≡ Ok x)

-- a record holds what its field takes
abbrev pub Holds : Schema → ℕ → List FieldType → Record → Type 0
Holds schema left fields r = r.wire ≢ 3 → (tag : ℕ) × (at : ℕ) × Finds (read_contents schema (deeper_left schema left) tag at r.payload (contents_of schema fields r))

-- TO RECORDS

not_three : (a b : ℕ) → eqb a b ≡ false → a ≢ b
not_three a b differ same = absurd (false≢true (sym differ ∙ eq-eqb a b same))

held_holds : (schema : Schema) (left : ℕ) (fields : List FieldType) (at : ℕ) (s : List ℕ) (form whole : Form) (t u : Bool) → eqb form.wire 3 ≡ t → eqb form.wire 4 ≡ u → read_held schema (deeper_left schema left) fields at s form ≡ Ok whole → (t ≡ false → form ≡ whole) × (t ≡ false → Finds (read_contents schema (deeper_left schema left) at (at + form.payload) (take form.payload_len (drop form.payload s)) (contents_of schema fields (record_of form s))))
held_holds schema left fields at s form whole true u start end e = (λ f. absurd (false≢true (sym f)), λ f. absurd (false≢true (sym f)))
held_holds schema left fields at s form whole false true start end e =
    let is = sym (ap (if_end schema (deeper_left schema left) fields at s form) end) ∙ (sym (ap (if_start schema (deeper_left schema left) fields at s form) start) ∙ e) in
    not_ok (record { kind = GroupEnd; byte = at }) whole is
held_holds schema left fields at s form whole false false start end e =
    let is = sym (ap (if_end schema (deeper_left schema left) fields at s form) end) ∙ (sym (ap (if_start schema (deeper_left schema left) fields at s form) start) ∙ e) in
    bind_ok (read_contents schema (deeper_left schema left) at (at + form.payload) (take form.payload_len (drop form.payload s)) (contents_of schema fields (record_of form s))) (λ _. Ok form) whole is
    λ x was same. (λ f. same_ok form whole same, λ f. (x, was))

held_wire : (schema : Schema) (left : ℕ) (fields : List FieldType) (at : ℕ) (s : List ℕ) (form whole : Form) → read_held schema (deeper_left schema left) fields at s form ≡ Ok whole → whole.wire ≢ 3 → eqb form.wire 3 ≡ false
held_wire schema left fields at s form whole e other = cases (eqb form.wire 3) refl
  where
    closed_wire : (r : Result Stop WireFault) → (r >>= λ stop. Ok (record form { payload_len = stop.0 - (at + form.payload); size = stop.1 - at })) ≡ Ok whole → form.wire ≡ whole.wire
    closed_wire (Ok stop) is = ap (λ (f : Form). f.wire) (same_ok (record form { payload_len = stop.0 - (at + form.payload); size = stop.1 - at }) whole is)
    closed_wire (Err d) is = not_ok d whole is

    cases : (t : Bool) → eqb form.wire 3 ≡ t → t ≡ false
    cases false start = refl
    cases true start =
        let wire = closed_wire _ (sym (ap (if_start schema (deeper_left schema left) fields at s form) start) ∙ e) in
        absurd (other (sym wire ∙ eqb-true form.wire 3 start))

pub record_holds : (schema : Schema) (left : ℕ) (fields : List FieldType) (at : ℕ) (s : List ℕ) (form whole : Form) → read_held schema (deeper_left schema left) fields at s form ≡ Ok whole → Holds schema left fields (record_of whole s)
record_holds schema left fields at s form whole e = λ other.
    let plain = held_wire schema left fields at s form whole e other in
    let parts = held_holds schema left fields at s form whole (eqb form.wire 3) (eqb form.wire 4) refl refl e in
    let same = parts.0 plain in
    (at, at + form.payload, subst (λ (f : Form). Finds (read_contents schema (deeper_left schema left) at (at + form.payload) (take f.payload_len (drop f.payload s)) (contents_of schema fields (record_of f s)))) same (parts.1 plain))

-- the records of a walk
pub record Sound (schema : Schema) (left : ℕ) (fields : List FieldType) (s : List ℕ) : Type 0 where
  pub rs : List Record
  pub are : RecordsWithin left s rs
  pub hold : Each (Holds schema left fields) rs

pub walk_sound : (schema : Schema) (left : ℕ) (fields : List FieldType) (skip at : ℕ) (s : List ℕ) (stop : Stop) → walk schema (deeper_left schema left) (in_message fields) at skip s ≡ Ok stop → Sound schema left fields (drop skip s)
walk_sound schema left fields zero at [] stop e = record { rs = []; are = refl; hold = tt }
walk_sound schema left fields (suc skip) at [] stop e = record { rs = []; are = refl; hold = tt }
walk_sound schema left fields (suc skip) at (b ∷ s) stop e = walk_sound schema left fields skip (suc at) s stop e
walk_sound schema left fields zero at (b ∷ s) stop e =
    bind_ok (form_at at (b ∷ s)) (λ form. after_ends schema (deeper_left schema left) (in_message fields) at b s form false) stop e
    λ form was is.
    bind_ok (read_held schema (deeper_left schema left) fields at (b ∷ s) form) (λ whole. walk schema (deeper_left schema left) (in_message fields) (suc at) (whole.size - 1) s) stop is
    λ whole held more.
    let found = each_found left at (b ∷ s) form whole was (held_untyped schema left fields at (b ∷ s) form whole (eqb form.wire 3) refl held) in
    let size : suc (whole.size - 1) ≡ whole.size = omega (arith, found.some) in
    let rest = walk_sound schema left fields (whole.size - 1) (suc at) s stop more in
    record {
      rs = record_of whole (b ∷ s) ∷ rest.rs;
      are = (drop whole.size (b ∷ s), found.is, sym (take-append-drop whole.size (b ∷ s)), subst (λ n. RecordsWithin left (drop n (b ∷ s)) rest.rs) size rest.are);
      hold = (record_holds schema left fields at (b ∷ s) form whole held, rest.hold);
    }

-- AND BACK

scalar_anywhere : (wire at at2 : ℕ) (s : List ℕ) (n : ℕ) → read_scalar wire at s ≡ Ok n → read_scalar wire at2 s ≡ Ok n
scalar_anywhere zero at at2 s n e =
    bind_ok (read_varint value_bytes at s) _ n e
    λ found was is.
    ap (λ r. r >>= λ value. Ok value.1) (read_varint_some value_bytes at2 s found.0 found.1 (read_varint_ok value_bytes at s found was)) ∙ is
scalar_anywhere (suc zero) at at2 s n e = read_bytes_ok 8 at s n e λ same fits. read_bytes_of 8 at2 s fits ∙ ap Ok same
scalar_anywhere (suc (suc zero)) at at2 s n e = e
scalar_anywhere (suc (suc (suc zero))) at at2 s n e = e
scalar_anywhere (suc (suc (suc (suc zero)))) at at2 s n e = e
scalar_anywhere (suc (suc (suc (suc (suc zero))))) at at2 s n e = read_bytes_ok 4 at s n e λ same fits. read_bytes_of 4 at2 s fits ∙ ap Ok same
scalar_anywhere (suc (suc (suc (suc (suc (suc wire)))))) at at2 s n e = e

numbers_anywhere : (wire at at2 skip : ℕ) (s : List ℕ) → Finds (numbers_end wire at skip s) → Finds (numbers_end wire at2 skip s)
numbers_anywhere wire at at2 skip [] found = (at2, refl)
numbers_anywhere wire at at2 (suc skip) (b ∷ s) found = numbers_anywhere wire (suc at) (suc at2) skip s found
numbers_anywhere wire at at2 zero (b ∷ s) found =
    bind_ok (read_scalar wire at (b ∷ s)) (λ n. numbers_end wire (suc at) (n - 1) s) found.0 found.1
    λ n was is.
    let rest = numbers_anywhere wire (suc at) (suc at2) (n - 1) s (found.0, is) in
    (rest.0, ap (λ r. r >>= λ n. numbers_end wire (suc at2) (n - 1) s) (scalar_anywhere wire at at2 (b ∷ s) n was) ∙ rest.1)

-- what a payload is doesn't depend on where it begins
abbrev pub Anywhere : Schema → ℕ → Type 0
Anywhere schema left = (c : Contents) (tag at tag2 at2 : ℕ) (payload : List ℕ) → Finds (read_contents schema (deeper_left schema left) tag at payload c) → Finds (read_contents schema (deeper_left schema left) tag2 at2 payload c)

text_anywhere : (at at2 : ℕ) (b : Bool) → Finds (cond b (Ok at) (fault NotUtf8 at)) → Finds (cond b (Ok at2) (fault NotUtf8 at2))
text_anywhere at at2 true found = (at2, refl)
text_anywhere at at2 false found = not_ok (record { kind = NotUtf8; byte = at }) found.0 found.1

-- a record at the front is read
pub typed_held : (schema : Schema) (left : ℕ) (fields : List FieldType) (at : ℕ) (s : List ℕ) (form whole : Form) → Anywhere schema left → read_held no_types (deeper_left no_types left) [] at s form ≡ Ok whole → Holds schema left fields (record_of whole s) → read_held schema (deeper_left schema left) fields at s form ≡ Ok whole
typed_held schema left fields at s form whole anywhere e holds = cases (eqb form.wire 3) refl
  where
    untyped : read_held schema (deeper_left schema left) [] at s form ≡ Ok whole
    untyped = same_held schema left at s form ∙ e

    plain : eqb form.wire 3 ≡ false → (u : Bool) → eqb form.wire 4 ≡ u → read_held schema (deeper_left schema left) fields at s form ≡ Ok whole
    plain start true end = not_ok (record { kind = GroupEnd; byte = at }) whole (sym (held_end schema (deeper_left schema left) [] at s form (eqb-true form.wire 4 end)) ∙ untyped)
    plain start false end =
        let no_start = not_three form.wire 3 start in
        let parts = held_holds schema left [] at s form whole (eqb form.wire 3) (eqb form.wire 4) refl refl untyped in
        let same : form ≡ whole = parts.0 start in
        let held = holds (λ three. no_start (ap (λ (f : Form). f.wire) same ∙ three)) in
        let here = subst (λ (f : Form). Finds (read_contents schema (deeper_left schema left) held.0 held.1 (take f.payload_len (drop f.payload s)) (contents_of schema fields (record_of f s)))) (sym same) held.2 in
        let there = anywhere (contents_of schema fields (record_of form s)) held.0 held.1 at (at + form.payload) (take form.payload_len (drop form.payload s)) here in
        held_plain schema (deeper_left schema left) fields at s form no_start (not_three form.wire 4 end) ∙ (ap (λ r. r >>= λ _. Ok form) there.1 ∙ ap Ok same)

    cases : (t : Bool) → eqb form.wire 3 ≡ t → read_held schema (deeper_left schema left) fields at s form ≡ Ok whole
    cases true start = group_same schema (deeper_left schema left) fields at s form start ∙ untyped
    cases false start = plain start (eqb form.wire 4) refl

sound_walk_at : (schema : Schema) (left : ℕ) (fields : List FieldType) → Anywhere schema left → (rs : List Record) (at : ℕ) (s : List ℕ) → RecordsWithin left s rs → Each (Holds schema left fields) rs → Finds (walk schema (deeper_left schema left) (in_message fields) at 0 s)
sound_walk_at schema left fields anywhere [] at s are hold = ((at, at), ap (walk schema (deeper_left schema left) (in_message fields) at 0) are)
sound_walk_at schema left fields anywhere (r ∷ rs) at s are hold =
    let rest = are.0 in
    let front = each_front left at s rest r are.1 are.2 in
    let whole = front.whole in
    let held = typed_held schema left fields at s front.form whole anywhere front.held (subst (Holds schema left fields) (sym front.is) hold.0) in
    let some = record_size left r are.1 in
    let behind : drop whole.size s ≡ rest = ap (λ n. drop n s) front.size ∙ (ap (drop (length r.span)) are.2 ∙ drop_at r.span rest (length r.span) refl) in
    let more = sound_walk_at schema left fields anywhere rs (at + whole.size) rest are.3 hold.1 in (
      more.0,
      walk_more schema (deeper_left schema left) (in_message fields) at s front.form whole front.form_is refl held (omega (arith, front.size, some)) (omega (arith, front.size, ap length are.2, length-append r.span rest))
          ∙ (ap (walk schema (deeper_left schema left) (in_message fields) (at + whole.size) 0) behind ∙ more.1),
    )

-- a message one level deeper
pub deeper_is : {P : Type 0} (schema : Schema) (deeper : Deeper) (tag at : ℕ) (payload : List ℕ) (type_no : ℕ) → Finds (read_contents schema deeper tag at payload (Message type_no)) → (Finds (deeper tag (in_message (fields_of schema type_no)) at payload) → P) → P
deeper_is schema deeper tag at payload type_no found k =
    bind_ok (deeper tag (in_message (fields_of schema type_no)) at payload) (λ stop. Ok stop.1) found.0 found.1 λ stop was is. k (stop, was)

pub anywhere : (schema : Schema) (left : ℕ) → Anywhere schema left
anywhere schema left Anything tag at tag2 at2 payload found = (at2, refl)
anywhere schema left (Numbers wire) tag at tag2 at2 payload found = numbers_anywhere wire at at2 0 payload found
anywhere schema left Utf8 tag at tag2 at2 payload found = text_anywhere at at2 (is_utf8 payload) found
anywhere schema zero (Message type_no) tag at tag2 at2 payload found =
    deeper_is schema (deeper_left schema 0) tag at payload type_no found λ stop. not_ok (record { kind = TooDeep; byte = tag }) stop.0 stop.1
anywhere schema (suc left) (Message type_no) tag at tag2 at2 payload found =
    deeper_is schema (deeper_left schema (suc left)) tag at payload type_no found
    λ stop.
    let sound = walk_sound schema left (fields_of schema type_no) 0 at payload stop.0 (sym (walk_left_is schema left tag (in_message (fields_of schema type_no)) at payload) ∙ stop.1) in
    let again = sound_walk_at schema left (fields_of schema type_no) (anywhere schema left) sound.rs at2 payload sound.are sound.hold in
    (again.0.1, ap (λ r. r >>= λ stop. Ok stop.1) (walk_left_is schema left tag2 (in_message (fields_of schema type_no)) at2 payload ∙ again.1))

pub sound_walk : (schema : Schema) (left : ℕ) (fields : List FieldType) (at : ℕ) (s : List ℕ) → Sound schema left fields s → Finds (walk schema (deeper_left schema left) (in_message fields) at 0 s)
sound_walk schema left fields at s p = sound_walk_at schema left fields (anywhere schema left) p.rs at s p.are p.hold

-- ONE BEHIND THE OTHER

pub spans_join : (A : List ℕ → Type 0) (xs ys : List Record) (s t : List ℕ) → Spans A xs s → Spans A ys t → Spans A (xs ++ ys) (s ++ t)
spans_join A [] ys s t p q = subst (Spans A ys) (sym (ap (λ x. x ++ t) p)) q
spans_join A (x ∷ xs) ys s t p q = (p.0 ++ t, p.1, ap (λ x. x ++ t) p.2 ∙ append_assoc x.span p.0 t, spans_join A xs ys p.0 t p.3 q)

pub sound_join : (schema : Schema) (left : ℕ) (fields : List FieldType) (s t : List ℕ) → Sound schema left fields s → Sound schema left fields t → Sound schema left fields (s ++ t)
sound_join schema left fields s t p q = record {
  rs = p.rs ++ q.rs;
  are = spans_join (AreRecords left) p.rs q.rs s t p.are q.are;
  hold = each_join (Holds schema left fields) p.rs q.rs p.hold q.hold;
}
