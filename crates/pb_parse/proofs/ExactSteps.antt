-- The exact reader, one record on: the fault that is told is the walk's.
use Rattle.std.proofs.Common.{◌≡◌, ◌≢◌, ℕ, zero, suc, ◌+◌, ◌-◌, ◌<◌, ◌≤◌, List, [], ◌∷◌, length, take, drop, cond, None, Some, Result, Ok, Err, refl, sym, ap, ◌∙◌, arith, drop-drop, length-drop}
use Rattle.std.specs.Str.{is_utf8}
use Rattle.std.proofs.lemmas.List.{at_drop_all}
use Rattle.std.proofs.lemmas.Option.{none-some, same_Some}
use Rattle.pb_schema.specs.declared.schema.Schema.{Schema}
use Rattle.pb_schema.specs.declared.wire_fault.WireKind.TheVariants.{NotUtf8}
use Rattle.pb_schema.specs.declared.wire_fault.WireFault.{WireFault}
use Rattle.pb_schema.specs.Reads.{fault, fault_read, read_map, ◌>>=◌}
use Rattle.pb_schema.specs.Form.{Form, read_scalar}
use Rattle.pb_schema.specs.Record.{record_of}
use Rattle.pb_schema.specs.Fits.{Contents, Message, contents_of, fields_of, no_types}
use Rattle.pb_schema.specs.Walk.{Stop, in_message, numbers_end, read_contents, walk_left, deeper_left, record_left}
use Rattle.pb_schema.specs.Broken.{most_levels}
use Rattle.pb_schema.proofs.WalkSteps.{walk_left_is}
use Rattle.pb_wire.specs.declared.wire_record.WireRecord.{WireRecord}
use Rattle.pb_wire.specs.PlacedRecord.{placed, record_in}
use Rattle.pb_wire.proofs.Walking.{read_ok, read_err}
use Rattle.pb_parse.specs.declared.contents.Contents.{Contents as Way}
use Rattle.pb_parse.specs.declared.contents.Contents.TheVariants as ways
use Rattle.pb_parse.specs.Contents.{meant, contents_at}
use Rattle.pb_parse.specs.Reading.{walked, untyped}
use Rattle.pb_parse.proofs.ContentsLaws.{contents_same}
use Rattle.pb_parse.proofs.NumberSteps.{numbers_step, numbers_bad}
use Rattle.pb_parse.proofs.RecordSteps.{untyped_bad, untyped_then, walk_bad, walk_end, walk_on}

-- FAULTS

err_of : {A : Type 0} (r : Result A WireFault) (d : WireFault) → Some d ≡ fault_read r → r ≡ Err d
err_of (Ok x) d e = absurd (none-some d (sym e))
err_of (Err own) d e = ap Err (sym (same_Some d own e))

ok_of : {A : Type 0} (r : Result A WireFault) → None ≡ fault_read r → (x : A) × (r ≡ Ok x)
ok_of (Ok x) e = (x, refl)
ok_of (Err own) e = absurd (none-some own e)

pub fault_then : {A B : Type 0} (r : Result A WireFault) (f : A → B) → fault_read r ≡ fault_read (r >>= λ x. Ok (f x))
fault_then (Ok x) f = refl
fault_then (Err d) f = refl

-- NUMBERS

some_left : (bytes : List ℕ) (at : ℕ) → at < length bytes → drop at bytes ≢ []
some_left bytes at h e = absurd (omega (arith, h, length-drop at bytes, ap length e))

-- numbers from a place on
abbrev pub numbers_from : List ℕ → ℕ → ℕ → Result ℕ WireFault
numbers_from bytes wire at = numbers_end wire at 0 (drop at bytes)

scalar_of : (r : Result ℕ WireFault) (at end : ℕ) → Ok end ≡ read_map (λ n. at + n) r → (n : ℕ) × (r ≡ Ok n) × (end ≡ at + n)
scalar_of (Ok n) at end e = let same : end ≡ at + n = cc in (n, refl, same)
scalar_of (Err d) at end e = absurd (never e)
  where
    never : ◌≡◌ {A = Result ℕ WireFault} (Ok end) (Err d) → ⊥
    never e = cc

pub numbers_on : (bytes : List ℕ) (wire at end : ℕ) → Ok end ≡ read_map (λ n. at + n) (read_scalar wire at (drop at bytes)) → at < end → end ≤ length bytes → numbers_from bytes wire at ≡ numbers_from bytes wire end
numbers_on bytes wire at end e more fits =
    let read = scalar_of (read_scalar wire at (drop at bytes)) at end e in
    let n = read.0 in
    numbers_step wire at (drop at bytes) n read.1 (omega (arith, read.2, more)) (omega (arith, read.2, fits, length-drop at bytes))
    ∙ (ap (numbers_end wire (at + n) 0) (drop-drop n at bytes) ∙ ap (numbers_from bytes wire) (sym read.2))

pub numbers_fault : (bytes : List ℕ) (wire at : ℕ) (d : WireFault) → at < length bytes → Err d ≡ read_map (λ n. at + n) (read_scalar wire at (drop at bytes)) → numbers_from bytes wire at ≡ Err d
numbers_fault bytes wire at d some e = numbers_bad wire at (drop at bytes) d (some_left bytes at some) (read_err (λ n. at + n) (read_scalar wire at (drop at bytes)) d e)

pub numbers_over : (bytes : List ℕ) (wire at : ℕ) → length bytes ≤ at → numbers_from bytes wire at ≡ Ok at
numbers_over bytes wire at past = at_drop_all (numbers_end wire at 0) bytes at past

-- MESSAGES

-- a message from a place on
abbrev pub message_from : Schema → List ℕ → ℕ → ℕ → ℕ → Result Stop WireFault
message_from schema bytes type_no left at = walk_left schema left 0 (in_message (fields_of schema type_no)) at (drop at bytes)

walk_is : (schema : Schema) (bytes : List ℕ) (type_no left at : ℕ) → message_from schema bytes type_no left at ≡ walked schema left (fields_of schema type_no) at (drop at bytes)
unfolding walked
walk_is schema bytes type_no left at = walk_left_is schema left 0 (in_message (fields_of schema type_no)) at (drop at bytes)

-- the levels that are left by the depth
levels_left : (left : ℕ) → left ≤ 100 → most_levels - (100 - left) ≡ left
levels_left left h = omega (arith, h)

pub record_here : (bytes : List ℕ) (left at : ℕ) → left ≤ 100 → record_in (100 - left) at bytes ≡ read_map (placed at) (untyped left at (drop at bytes))
record_here bytes left at h = ap (λ n. read_map (placed at) (record_left no_types n [] at (drop at bytes))) (levels_left left h)

pub message_over : (schema : Schema) (bytes : List ℕ) (type_no left at : ℕ) → length bytes ≤ at → message_from schema bytes type_no left at ≡ Ok (at, at)
message_over schema bytes type_no left at past =
    walk_is schema bytes type_no left at
    ∙ (at_drop_all (walked schema left (fields_of schema type_no) at) bytes at past ∙ walk_end schema left (fields_of schema type_no) at)

-- no record stands there
pub message_bad : (schema : Schema) (bytes : List ℕ) (type_no left at : ℕ) (d : WireFault) → left ≤ 100 → at < length bytes → Err d ≡ record_in (100 - left) at bytes → message_from schema bytes type_no left at ≡ Err d
message_bad schema bytes type_no left at d h some e =
    let s = drop at bytes in
    let fields = fields_of schema type_no in
    let none = read_err (placed at) (untyped left at s) d (e ∙ record_here bytes left at h) in
    walk_is schema bytes type_no left at ∙ walk_bad schema left fields at s d (some_left bytes at some) (untyped_bad schema left fields at s d none)

-- the payload of the record that was found
abbrev pub found_contents : Schema → List ℕ → ℕ → WireRecord → Contents → Result ℕ WireFault
found_contents schema bytes left w c = read_contents schema (deeper_left schema left) w.start w.payload (take w.payload_len (drop w.payload bytes)) c

-- the same by its form
contents_here : (schema : Schema) (bytes : List ℕ) (type_no left at : ℕ) (w : WireRecord) (form : Form) (c : Contents) → w ≡ placed at form → c ≡ contents_at schema type_no w.number w.wire
    → (found_contents schema bytes left w c ≡ read_contents schema (deeper_left schema left) at (at + form.payload) (record_of form (drop at bytes)).payload c) × (contents_of schema (fields_of schema type_no) (record_of form (drop at bytes)) ≡ c)
contents_here schema bytes type_no left at w form c there is = (
  ap (λ (x : WireRecord). found_contents schema bytes left x c) there
      ∙ ap (λ s. read_contents schema (deeper_left schema left) at (at + form.payload) (take form.payload_len s) c) (sym (drop-drop form.payload at bytes)),
  contents_same schema (fields_of schema type_no) (record_of form (drop at bytes)) _ (sym (ap (λ (x : WireRecord). x.number) there)) (sym (ap (λ (x : WireRecord). x.wire) there)) ∙ sym is,
)

abbrev whole_then : Schema → ℕ → Form → Result ℕ WireFault → Result Form WireFault
whole_then schema left form r = r >>= λ _. Ok form

-- its payload isn't what it has to be
pub message_held_bad : (schema : Schema) (bytes : List ℕ) (type_no left at : ℕ) (w : WireRecord) (c : Contents) (d : WireFault) → left ≤ 100 → at < length bytes → Ok w ≡ record_in (100 - left) at bytes → c ≡ contents_at schema type_no w.number w.wire
    → Some d ≡ fault_read (found_contents schema bytes left w c) → message_from schema bytes type_no left at ≡ Err d
message_held_bad schema bytes type_no left at w c d h some e is bad =
    let s = drop at bytes in
    let fields = fields_of schema type_no in
    let front = read_ok (untyped left at s) at w (e ∙ record_here bytes left at h) in
    let form = front.form in
    let here = contents_here schema bytes type_no left at w form c front.there is in
    walk_is schema bytes type_no left at
    ∙ walk_bad schema left fields at s d (some_left bytes at some)
    (untyped_then schema left fields at s form c front.is here.1 ∙ ap (whole_then schema left form) (sym here.0 ∙ err_of (found_contents schema bytes left w c) d bad))

-- or it is
pub message_on : (schema : Schema) (bytes : List ℕ) (type_no left at : ℕ) (w : WireRecord) (c : Contents) → left ≤ 100 → Ok w ≡ record_in (100 - left) at bytes → c ≡ contents_at schema type_no w.number w.wire
    → None ≡ fault_read (found_contents schema bytes left w c) → message_from schema bytes type_no left at ≡ message_from schema bytes type_no left w.end
message_on schema bytes type_no left at w c h e is sound =
    let s = drop at bytes in
    let fields = fields_of schema type_no in
    let front = read_ok (untyped left at s) at w (e ∙ record_here bytes left at h) in
    let form = front.form in
    let here = contents_here schema bytes type_no left at w form c front.there is in
    let ok = ok_of (found_contents schema bytes left w c) sound in
    let whole : record_left schema left fields at s ≡ Ok form = untyped_then schema left fields at s form c front.is here.1 ∙ ap (whole_then schema left form) (sym here.0 ∙ ok.1) in
    let end : w.end ≡ at + form.size = ap (λ (x : WireRecord). x.end) front.there in
    walk_is schema bytes type_no left at
    ∙ (walk_on schema left fields at s form whole
    ∙ (ap (walked schema left fields (at + form.size)) (drop-drop form.size at bytes)
    ∙ (sym (walk_is schema bytes type_no left (at + form.size)) ∙ ap (message_from schema bytes type_no left) (sym end))))

-- A MESSAGE IN A PAYLOAD

pub deep_message : (schema : Schema) (left tag at : ℕ) (payload : List ℕ) (inner : ℕ) → 1 ≤ left → fault_read (walk_left schema (left - 1) 0 (in_message (fields_of schema inner)) at payload) ≡ fault_read (read_contents schema (deeper_left schema left) tag at payload (Message inner))
deep_message schema zero tag at payload inner some = absurd (omega (arith, some))
deep_message schema (suc left) tag at payload inner some =
    let one : suc left - 1 ≡ left = omega arith in
    ap (λ n. fault_read (walk_left schema n 0 (in_message (fields_of schema inner)) at payload)) one
    ∙ (ap fault_read (walk_left_is schema left 0 (in_message (fields_of schema inner)) at payload ∙ sym (walk_left_is schema left tag (in_message (fields_of schema inner)) at payload))
    ∙ fault_then (walk_left schema left tag (in_message (fields_of schema inner)) at payload) (λ stop. stop.1))

-- A PAYLOAD IN THE BYTES

slice_inside : (p n : ℕ) (bytes : List ℕ) → p + n ≤ length bytes → drop p (take (p + n) bytes) ≡ take n (drop p bytes)
slice_inside zero n bytes h = let same : 0 + n ≡ n = omega arith in ap (λ k. take k bytes) same
slice_inside (suc p) n [] h = absurd (omega (arith, h))
slice_inside (suc p) n (b ∷ s) h =
    let same : suc p + n ≡ suc (p + n) = omega arith in
    ap (λ k. drop (suc p) (take k (b ∷ s))) same ∙ slice_inside p n s (omega (arith, h))

-- what each way of a payload's contents is read as
pub numbers_held : (schema : Schema) (left : ℕ) (w : WireRecord) (bytes : List ℕ) (way : Way) (wire : ℕ) → way ≡ ways.Numbers wire → w.payload + w.payload_len ≤ length bytes
    → fault_read (numbers_end wire w.payload 0 (drop w.payload (take (w.payload + w.payload_len) bytes))) ≡ fault_read (found_contents schema bytes left w (meant way))
numbers_held schema left w bytes way wire is within =
    ap (λ s. fault_read (numbers_end wire w.payload 0 s)) (slice_inside w.payload w.payload_len bytes within)
    ∙ sym (ap (λ x. fault_read (found_contents schema bytes left w (meant x))) is)

pub text_held : (schema : Schema) (left : ℕ) (w : WireRecord) (bytes : List ℕ) (way : Way) → way ≡ ways.Text → w.payload + w.payload_len ≤ length bytes
    → fault_read (cond (is_utf8 (drop w.payload (take (w.payload + w.payload_len) bytes))) (Ok w.payload) (fault NotUtf8 w.payload)) ≡ fault_read (found_contents schema bytes left w (meant way))
text_held schema left w bytes way is within =
    ap (λ s. fault_read (cond (is_utf8 s) (Ok w.payload) (fault NotUtf8 w.payload))) (slice_inside w.payload w.payload_len bytes within)
    ∙ sym (ap (λ x. fault_read (found_contents schema bytes left w (meant x))) is)

pub message_held : (schema : Schema) (left : ℕ) (w : WireRecord) (bytes : List ℕ) (way : Way) (inner : ℕ) → way ≡ ways.Message inner → left ≢ 0 → w.payload + w.payload_len ≤ length bytes
    → fault_read (walk_left schema (left - 1) 0 (in_message (fields_of schema inner)) w.payload (drop w.payload (take (w.payload + w.payload_len) bytes))) ≡ fault_read (found_contents schema bytes left w (meant way))
message_held schema left w bytes way inner is some within =
    ap (λ s. fault_read (walk_left schema (left - 1) 0 (in_message (fields_of schema inner)) w.payload s)) (slice_inside w.payload w.payload_len bytes within)
    ∙ (deep_message schema left w.start w.payload (take w.payload_len (drop w.payload bytes)) inner (omega (arith, some))
    ∙ sym (ap (λ x. fault_read (found_contents schema bytes left w (meant x))) is))
