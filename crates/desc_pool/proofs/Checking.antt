-- Records of a descriptor message, one after another: what the definition says one record on.
use Rattle.std.proofs.Common.{◌≡◌, ◌≢◌, ℕ, zero, suc, ◌+◌, ◌-◌, ◌<◌, ◌≤◌, List, [], ◌∷◌, length, take, drop, Bool, true, false, cond, eqb, None, Some, Result, Ok, Err, refl, sym, ap, ◌∙◌, subst, arith, drop-drop, length-drop}
use Rattle.std.proofs.lemmas.Bool.{false≢true, eqb-true, eq-eqb}
use Rattle.std.proofs.Math.ListN.{drop_of_length-le}
use Rattle.std.proofs.lemmas.Option.{none-some}
use Rattle.std.specs.Str.{is_utf8}
use Rattle.pb_schema.specs.declared.kind.FieldType.{FieldType}
use Rattle.pb_schema.specs.declared.schema.Schema.{Schema}
use Rattle.pb_schema.specs.declared.wire_fault.WireKind.TheVariants.{GroupEnd, NotUtf8, TooDeep}
use Rattle.pb_schema.specs.declared.wire_fault.WireFault.{WireFault}
use Rattle.pb_schema.specs.Reads.{◌>>=◌, read_map, fault_read, fault}
use Rattle.pb_schema.specs.Record.{Record, record_of}
use Rattle.pb_schema.specs.Form.{Form, form_at}
use Rattle.pb_schema.specs.Fits.{Contents, Anything, Utf8, Message, no_types, fields_of, contents_of, takes, contents_in}
use Rattle.pb_schema.specs.Walk.{in_message, Stop, closed, read_contents, read_held, walk, walk_left, deeper_left, record_left}
use Rattle.pb_schema.proofs.FormLaws.{not_ok, same_ok, bind_ok}
use Rattle.pb_schema.proofs.WalkSteps.{held_end, held_group, held_plain, walk_fault, walk_held_fault, walk_more, walk_left_is}
use Rattle.pb_schema.proofs.FitsLaws.{group_holds_anything}
use Rattle.pb_schema.proofs.FaultLaws.{same_held, group_same, walk_ok}
use Rattle.pb_wire.specs.declared.wire_record.WireRecord.{WireRecord}
use Rattle.pb_wire.specs.PlacedRecord.{placed, record_in}
use Rattle.pb_wire.proofs.Walking.{read_ok, read_err}
use Rattle.desc_pool.specs.declared.descriptor.Descriptor.{Descriptor}
use Rattle.desc_pool.specs.declared.descriptor.Descriptor.TheVariants as descriptors
use Rattle.desc_pool.specs.Descriptors.{descriptor_schema, fields_read, type_of}
use Rattle.desc_pool.specs.Contents.{contents_at}
use Rattle.desc_pool.specs.Payloads.{record_at}

-- THE SAME RECORD AT A TYPE

not_three : (a b : ℕ) → eqb a b ≡ false → a ≢ b
not_three a b differ same = absurd (false≢true (sym differ ∙ eq-eqb a b same))

-- what a record that is read without a type is read as at a type
abbrev typed : Schema → ℕ → List FieldType → ℕ → List ℕ → Form → Result Form WireFault
typed schema left fields at s whole =
    read_contents schema (deeper_left schema left) at (at + whole.payload) (take whole.payload_len (drop whole.payload s)) (contents_of schema fields (record_of whole s)) >>= λ _. Ok whole

held_typed : (schema : Schema) (left : ℕ) (fields : List FieldType) (at : ℕ) (s : List ℕ) (form whole : Form) → read_held no_types (deeper_left no_types left) [] at s form ≡ Ok whole → read_held schema (deeper_left schema left) fields at s form ≡ typed schema left fields at s whole
held_typed schema left fields at s form whole e = by_start (eqb form.wire 3) refl
  where
    by_end : eqb form.wire 3 ≡ false → (t : Bool) → eqb form.wire 4 ≡ t → read_held schema (deeper_left schema left) fields at s form ≡ typed schema left fields at s whole
    by_end start true end =
        not_ok (record { kind = GroupEnd; byte = at }) whole (sym (held_end no_types (deeper_left no_types left) [] at s form (eqb-true form.wire 4 end)) ∙ e)
    by_end start false end =
        let same : form ≡ whole = same_ok form whole (sym (held_plain no_types (deeper_left no_types left) [] at s form (not_three form.wire 3 start) (not_three form.wire 4 end)) ∙ e) in
        held_plain schema (deeper_left schema left) fields at s form (not_three form.wire 3 start) (not_three form.wire 4 end)
        ∙ ap (typed schema left fields at s) same

    by_start : (t : Bool) → eqb form.wire 3 ≡ t → read_held schema (deeper_left schema left) fields at s form ≡ typed schema left fields at s whole
    by_start false start = by_end start (eqb form.wire 4) refl
    by_start true start =
        let three = eqb-true form.wire 3 start in
        let wire : whole.wire ≡ 3 =
        bind_ok (deeper_left no_types left at (record { fields = []; group = Some form.number }) (at + form.payload) (drop form.payload s)) (λ stop. Ok (closed form at stop)) whole (sym (held_group no_types (deeper_left no_types left) [] at s form three) ∙ e)
        (λ stop was is. sym (ap (λ (f : Form). f.wire) (same_ok (closed form at stop) whole is)) ∙ three) in
        group_same schema (deeper_left schema left) fields at s form start
        ∙ (same_held schema left at s form
        ∙ (e ∙ sym (ap (λ c. read_contents schema (deeper_left schema left) at (at + whole.payload) (take whole.payload_len (drop whole.payload s)) c >>= λ _. Ok whole) (group_holds_anything schema fields (record_of whole s) wire))))

-- a fault of a record without a type is one at a type
held_fault : (schema : Schema) (left : ℕ) (fields : List FieldType) (at : ℕ) (s : List ℕ) (form : Form) (d : WireFault) → read_held no_types (deeper_left no_types left) [] at s form ≡ Err d → read_held schema (deeper_left schema left) fields at s form ≡ Err d
held_fault schema left fields at s form d e = by_start (eqb form.wire 3) refl
  where
    by_end : eqb form.wire 3 ≡ false → (t : Bool) → eqb form.wire 4 ≡ t → read_held schema (deeper_left schema left) fields at s form ≡ Err d
    by_end start true end =
        let four = eqb-true form.wire 4 end in
        held_end schema (deeper_left schema left) fields at s form four ∙ (sym (held_end no_types (deeper_left no_types left) [] at s form four) ∙ e)
    by_end start false end =
        not_ok d form (sym e ∙ held_plain no_types (deeper_left no_types left) [] at s form (not_three form.wire 3 start) (not_three form.wire 4 end))

    by_start : (t : Bool) → eqb form.wire 3 ≡ t → read_held schema (deeper_left schema left) fields at s form ≡ Err d
    by_start false start = by_end start (eqb form.wire 4) refl
    by_start true start = group_same schema (deeper_left schema left) fields at s form start ∙ (same_held schema left at s form ∙ e)

-- THE RECORDS FROM A PLACE ON

abbrev pub walk_from : Schema → ℕ → List FieldType → List ℕ → ℕ → Result Stop WireFault
walk_from schema left fields bytes at = walk_left schema left 0 (in_message fields) at (drop at bytes)

not_empty : (bytes : List ℕ) (at : ℕ) → at < length bytes → drop at bytes ≢ []
not_empty bytes at h e = absurd (omega (arith, h, length-drop at bytes, ap length e))

bind_err : {A B P : Type 0} (r : Result A WireFault) (f : A → Result B WireFault) (d : WireFault) → (r >>= f) ≡ Err d → (r ≡ Err d → P) → ((x : A) → r ≡ Ok x → f x ≡ Err d → P) → P
bind_err (Ok x) f d e k l = l x refl e
bind_err (Err c) f d e k l = k (err_any c d e)
  where
    err_any : {A B : Type 0} (c d : WireFault) → ◌≡◌ {A = Result B WireFault} (Err c) (Err d) → ◌≡◌ {A = Result A WireFault} (Err c) (Err d)
    err_any c d e = ap (λ x. Err x) (let P : c ≡ d = cc in P)

-- the record has a fault
pub record_bad : (schema : Schema) (left : ℕ) (fields : List FieldType) (bytes : List ℕ) (at : ℕ) (d : WireFault) → at < length bytes → Err d ≡ read_map (placed at) (record_left no_types left [] at (drop at bytes)) → walk_from schema left fields bytes at ≡ Err d
record_bad schema left fields bytes at d h e =
    let s = drop at bytes in
    let some = not_empty bytes at h in
    walk_left_is schema left 0 (in_message fields) at s
    ∙ bind_err (form_at at s) (λ form. read_held no_types (deeper_left no_types left) [] at s form) d (read_err (placed at) (record_left no_types left [] at s) d e)
    (λ form_bad. walk_fault schema (deeper_left schema left) (in_message fields) at s d some form_bad)
    (λ form was held_bad. walk_held_fault schema (deeper_left schema left) (in_message fields) at s form d some was refl (held_fault schema left fields at s form d held_bad))

-- what is known of a record that was read
record Known (schema : Schema) (left : ℕ) (fields : List FieldType) (bytes : List ℕ) (at : ℕ) (w : WireRecord) : Type 0 where
  form : Form
  whole : Form
  is : form_at at (drop at bytes) ≡ Ok form
  held : read_held schema (deeper_left schema left) fields at (drop at bytes) form ≡ typed schema left fields at (drop at bytes) whole
  there : w ≡ placed at whole

known : (schema : Schema) (left : ℕ) (fields : List FieldType) (bytes : List ℕ) (at : ℕ) (w : WireRecord) → Ok w ≡ read_map (placed at) (record_left no_types left [] at (drop at bytes)) → Known schema left fields bytes at w
known schema left fields bytes at w e =
    let s = drop at bytes in
    let read = read_ok (record_left no_types left [] at s) at w e in
    bind_ok (form_at at s) (λ form. read_held no_types (deeper_left no_types left) [] at s form) read.form read.is
    λ form was held. record { form = form; whole = read.form; is = was; held = held_typed schema left fields at s form read.form held; there = read.there }

-- the record as it stands in all bytes
pub record_there : (bytes : List ℕ) (at : ℕ) (whole : Form) → record_at bytes (placed at whole) ≡ record_of whole (drop at bytes)
record_there bytes at whole =
    let size : at + whole.size - at ≡ whole.size = omega arith in
    ap (λ s. record { number = whole.number; wire = whole.wire; payload = take whole.payload_len s; span = take (at + whole.size - at) (drop at bytes) }) (sym (drop-drop whole.payload at bytes))
    ∙ ap (λ n. record { number = whole.number; wire = whole.wire; payload = take whole.payload_len (drop whole.payload (drop at bytes)); span = take n (drop at bytes) }) size

abbrev contents_read : Schema → ℕ → List FieldType → List ℕ → ℕ → WireRecord → Result ℕ WireFault
contents_read schema left fields bytes at w =
    read_contents schema (deeper_left schema left) at w.payload (record_at bytes w).payload (contents_of schema fields (record_at bytes w))

typed_there : (schema : Schema) (left : ℕ) (fields : List FieldType) (bytes : List ℕ) (at : ℕ) (whole : Form) → typed schema left fields at (drop at bytes) whole ≡ (contents_read schema left fields bytes at (placed at whole) >>= λ _. Ok whole)
typed_there schema left fields bytes at whole =
    ap (λ (r : Record). read_contents schema (deeper_left schema left) at (at + whole.payload) r.payload (contents_of schema fields r) >>= λ _. Ok whole) (sym (record_there bytes at whole))

-- the record holds what it has to
pub record_good : (schema : Schema) (left : ℕ) (fields : List FieldType) (bytes : List ℕ) (at : ℕ) (w : WireRecord) (n : ℕ) → at < w.end → w.end ≤ length bytes → Ok w ≡ read_map (placed at) (record_left no_types left [] at (drop at bytes)) → contents_read schema left fields bytes at w ≡ Ok n → walk_from schema left fields bytes at ≡ walk_from schema left fields bytes w.end
record_good schema left fields bytes at w n some within e good =
    let s = drop at bytes in
    let k = known schema left fields bytes at w e in
    let whole = k.whole in
    let end : w.end ≡ at + whole.size = ap (λ (x : WireRecord). x.end) k.there in
    let held = k.held ∙ (typed_there schema left fields bytes at whole ∙ (ap (λ x. contents_read schema left fields bytes at x >>= λ _. Ok whole) (sym k.there) ∙ ap (λ r. r >>= λ _. Ok whole) good)) in
    walk_left_is schema left 0 (in_message fields) at s
    ∙ (walk_more schema (deeper_left schema left) (in_message fields) at s k.form whole k.is refl held (omega (arith, some, end)) (omega (arith, some, within, end, length-drop at bytes))
    ∙ (ap (walk schema (deeper_left schema left) (in_message fields) (at + whole.size) 0) (drop-drop whole.size at bytes)
    ∙ (ap (λ m. walk schema (deeper_left schema left) (in_message fields) m 0 (drop m bytes)) (sym end)
    ∙ sym (walk_left_is schema left 0 (in_message fields) w.end (drop w.end bytes)))))

-- what it holds has a fault
pub contents_bad : (schema : Schema) (left : ℕ) (fields : List FieldType) (bytes : List ℕ) (at : ℕ) (w : WireRecord) (d : WireFault) → at < length bytes → Ok w ≡ read_map (placed at) (record_left no_types left [] at (drop at bytes)) → contents_read schema left fields bytes at w ≡ Err d → walk_from schema left fields bytes at ≡ Err d
contents_bad schema left fields bytes at w d h e bad =
    let s = drop at bytes in
    let k = known schema left fields bytes at w e in
    let whole = k.whole in
    let held = k.held ∙ (typed_there schema left fields bytes at whole ∙ (ap (λ x. contents_read schema left fields bytes at x >>= λ _. Ok whole) (sym k.there) ∙ ap (λ r. r >>= λ _. Ok whole) bad)) in
    walk_left_is schema left 0 (in_message fields) at s
    ∙ walk_held_fault schema (deeper_left schema left) (in_message fields) at s k.form d (not_empty bytes at h) k.is refl held

-- no more records
pub walk_over : (schema : Schema) (left : ℕ) (fields : List FieldType) (bytes : List ℕ) (at : ℕ) → length bytes ≤ at → walk_from schema left fields bytes at ≡ Ok (at, at)
walk_over schema left fields bytes at h =
    walk_left_is schema left 0 (in_message fields) at (drop at bytes) ∙ ap (walk schema (deeper_left schema left) (in_message fields) at 0) (drop_of_length-le bytes {i = at} h)

-- DESCRIPTOR MESSAGES

-- what a record has to hold follows from its number and its wire type
pub contents_same : (schema : Schema) (fields : List FieldType) (number wire : ℕ) (payload span : List ℕ) → contents_of schema fields (record { number = number; wire = wire; payload = payload; span = span }) ≡ contents_of schema fields (record { number = number; wire = wire; payload = []; span = [] })
contents_same schema [] number wire payload span = refl
contents_same schema (field ∷ fields) number wire payload span =
    ap (λ c. cond (takes schema field (record { number = number; wire = wire; payload = []; span = [] })) (contents_in field (record { number = number; wire = wire; payload = []; span = [] })) c) (contents_same schema fields number wire payload span)

pub fields_are : (descriptor : Descriptor) → fields_of descriptor_schema (type_of descriptor) ≡ fields_read descriptor
fields_are descriptors.Set = refl
fields_are descriptors.File = refl
fields_are descriptors.Message = refl
fields_are descriptors.Field = refl
fields_are descriptors.FieldOptions = refl
fields_are descriptors.MessageOptions = refl
fields_are descriptors.Oneof = refl
fields_are descriptors.Enumeration = refl
fields_are descriptors.EnumValue = refl

pub contents_is : (descriptor : Descriptor) (bytes : List ℕ) (w : WireRecord) (c : Contents) → c ≡ contents_at descriptor w.number w.wire → contents_of descriptor_schema (fields_read descriptor) (record_at bytes w) ≡ c
contents_is descriptor bytes w c e = contents_same descriptor_schema (fields_read descriptor) w.number w.wire (record_at bytes w).payload (record_at bytes w).span ∙ sym e

abbrev pub set_walk : ℕ → Descriptor → List ℕ → ℕ → Result Stop WireFault
set_walk left descriptor bytes at = walk_from descriptor_schema left (fields_read descriptor) bytes at

abbrev pub IsRecordHere : ℕ → List ℕ → ℕ → WireRecord → Type 0
IsRecordHere left bytes at w = Ok w ≡ record_in (100 - left) at bytes

left_is : (left : ℕ) → left ≤ 100 → 100 - (100 - left) ≡ left
left_is left h = omega (arith, h)

read_here : (left : ℕ) (bytes : List ℕ) (at : ℕ) (r : Result WireRecord WireFault) → left ≤ 100 → r ≡ record_in (100 - left) at bytes → r ≡ read_map (placed at) (record_left no_types left [] at (drop at bytes))
read_here left bytes at r h e = e ∙ ap (λ n. read_map (placed at) (record_left no_types n [] at (drop at bytes))) (left_is left h)

pub step_bad : (left : ℕ) (descriptor : Descriptor) (bytes : List ℕ) (at : ℕ) (d : WireFault) → left ≤ 100 → at < length bytes → Err d ≡ record_in (100 - left) at bytes → set_walk left descriptor bytes at ≡ Err d
step_bad left descriptor bytes at d few h e = record_bad descriptor_schema left (fields_read descriptor) bytes at d h (read_here left bytes at (Err d) few e)

pub step_anything : (left : ℕ) (descriptor : Descriptor) (bytes : List ℕ) (at : ℕ) (w : WireRecord) → left ≤ 100 → at < w.end → w.end ≤ length bytes → IsRecordHere left bytes at w → Anything ≡ contents_at descriptor w.number w.wire → set_walk left descriptor bytes at ≡ set_walk left descriptor bytes w.end
step_anything left descriptor bytes at w few some within e c =
    record_good descriptor_schema left (fields_read descriptor) bytes at w w.payload some within (read_here left bytes at (Ok w) few e)
    (ap (read_contents descriptor_schema (deeper_left descriptor_schema left) at w.payload (record_at bytes w).payload) (contents_is descriptor bytes w Anything c))

pub step_text : (left : ℕ) (descriptor : Descriptor) (bytes : List ℕ) (at : ℕ) (w : WireRecord) → left ≤ 100 → at < w.end → w.end ≤ length bytes → IsRecordHere left bytes at w → Utf8 ≡ contents_at descriptor w.number w.wire → is_utf8 (record_at bytes w).payload ≡ true → set_walk left descriptor bytes at ≡ set_walk left descriptor bytes w.end
step_text left descriptor bytes at w few some within e c utf8 =
    record_good descriptor_schema left (fields_read descriptor) bytes at w w.payload some within (read_here left bytes at (Ok w) few e)
    (ap (read_contents descriptor_schema (deeper_left descriptor_schema left) at w.payload (record_at bytes w).payload) (contents_is descriptor bytes w Utf8 c)
    ∙ ap (λ b. cond b (Ok w.payload) (fault NotUtf8 w.payload)) utf8)

pub step_no_text : (left : ℕ) (descriptor : Descriptor) (bytes : List ℕ) (at : ℕ) (w : WireRecord) → left ≤ 100 → at < length bytes → IsRecordHere left bytes at w → Utf8 ≡ contents_at descriptor w.number w.wire → is_utf8 (record_at bytes w).payload ≡ false → set_walk left descriptor bytes at ≡ fault NotUtf8 w.payload
step_no_text left descriptor bytes at w few h e c utf8 =
    contents_bad descriptor_schema left (fields_read descriptor) bytes at w (record { kind = NotUtf8; byte = w.payload }) h (read_here left bytes at (Ok w) few e)
    (ap (read_contents descriptor_schema (deeper_left descriptor_schema left) at w.payload (record_at bytes w).payload) (contents_is descriptor bytes w Utf8 c)
    ∙ ap (λ b. cond b (Ok w.payload) (fault NotUtf8 w.payload)) utf8)

pub step_too_deep : (left : ℕ) (descriptor inner : Descriptor) (bytes : List ℕ) (at : ℕ) (w : WireRecord) → left ≡ 0 → at < length bytes → IsRecordHere left bytes at w → Message (type_of inner) ≡ contents_at descriptor w.number w.wire → set_walk left descriptor bytes at ≡ fault TooDeep at
step_too_deep zero descriptor inner bytes at w none h e c =
    contents_bad descriptor_schema 0 (fields_read descriptor) bytes at w (record { kind = TooDeep; byte = at }) h (read_here 0 bytes at (Ok w) (omega arith) e)
    (ap (read_contents descriptor_schema (deeper_left descriptor_schema 0) at w.payload (record_at bytes w).payload) (contents_is descriptor bytes w (Message (type_of inner)) c))
step_too_deep (suc left) descriptor inner bytes at w none h e c = absurd (omega (arith, none))

-- the walk over a message one level deeper
nested_is : (left : ℕ) (inner : Descriptor) (bytes : List ℕ) (at : ℕ) (w : WireRecord) (r : Result Stop WireFault) → set_walk left inner (take (w.payload + w.payload_len) bytes) w.payload ≡ r → drop w.payload (take (w.payload + w.payload_len) bytes) ≡ (record_at bytes w).payload → read_contents descriptor_schema (deeper_left descriptor_schema (suc left)) at w.payload (record_at bytes w).payload (Message (type_of inner)) ≡ (r >>= λ stop. Ok stop.1)
nested_is left inner bytes at w r e cut =
    let payload = (record_at bytes w).payload in
    ap (λ fields. walk_left descriptor_schema left at (in_message fields) w.payload payload >>= λ stop. Ok stop.1) (fields_are inner)
    ∙ (ap (λ r. r >>= λ stop. Ok stop.1) (walk_left_is descriptor_schema left at (in_message (fields_read inner)) w.payload payload ∙ sym (walk_left_is descriptor_schema left 0 (in_message (fields_read inner)) w.payload payload))
    ∙ ap (λ r. r >>= λ stop. Ok stop.1) (ap (walk_left descriptor_schema left 0 (in_message (fields_read inner)) w.payload) (sym cut) ∙ e))

pub step_nested : (left : ℕ) (descriptor inner : Descriptor) (bytes : List ℕ) (at : ℕ) (w : WireRecord) → 1 ≤ left → left ≤ 100 → at < w.end → w.end ≤ length bytes → IsRecordHere left bytes at w → Message (type_of inner) ≡ contents_at descriptor w.number w.wire
    → drop w.payload (take (w.payload + w.payload_len) bytes) ≡ (record_at bytes w).payload → fault_read (set_walk (left - 1) inner (take (w.payload + w.payload_len) bytes) w.payload) ≡ None → set_walk left descriptor bytes at ≡ set_walk left descriptor bytes w.end
step_nested zero descriptor inner bytes at w more few some within e c cut sound = absurd (omega (arith, more))
step_nested (suc left) descriptor inner bytes at w more few some within e c cut sound =
    let one_less : suc left - 1 ≡ left = omega arith in
    let found = walk_ok (set_walk left inner (take (w.payload + w.payload_len) bytes) w.payload) (subst (λ n. fault_read (set_walk n inner (take (w.payload + w.payload_len) bytes) w.payload) ≡ None) one_less sound) in
    record_good descriptor_schema (suc left) (fields_read descriptor) bytes at w found.0.1 some within (read_here (suc left) bytes at (Ok w) few e)
    (ap (read_contents descriptor_schema (deeper_left descriptor_schema (suc left)) at w.payload (record_at bytes w).payload) (contents_is descriptor bytes w (Message (type_of inner)) c)
    ∙ nested_is left inner bytes at w (Ok found.0) found.1 cut)

walk_err : (r : Result Stop WireFault) (d : WireFault) → fault_read r ≡ Some d → r ≡ Err d
walk_err (Ok stop) d e = absurd (none-some d e)
walk_err (Err c) d e = ap (λ x. Err x) (let P : c ≡ d = cc in P)

pub step_nested_bad : (left : ℕ) (descriptor inner : Descriptor) (bytes : List ℕ) (at : ℕ) (w : WireRecord) (d : WireFault) → 1 ≤ left → left ≤ 100 → at < length bytes → IsRecordHere left bytes at w → Message (type_of inner) ≡ contents_at descriptor w.number w.wire
    → drop w.payload (take (w.payload + w.payload_len) bytes) ≡ (record_at bytes w).payload → fault_read (set_walk (left - 1) inner (take (w.payload + w.payload_len) bytes) w.payload) ≡ Some d → set_walk left descriptor bytes at ≡ Err d
step_nested_bad zero descriptor inner bytes at w d more few h e c cut bad = absurd (omega (arith, more))
step_nested_bad (suc left) descriptor inner bytes at w d more few h e c cut bad =
    let one_less : suc left - 1 ≡ left = omega arith in
    contents_bad descriptor_schema (suc left) (fields_read descriptor) bytes at w d h (read_here (suc left) bytes at (Ok w) few e)
    (ap (read_contents descriptor_schema (deeper_left descriptor_schema (suc left)) at w.payload (record_at bytes w).payload) (contents_is descriptor bytes w (Message (type_of inner)) c)
    ∙ nested_is left inner bytes at w (Err d) (walk_err (set_walk left inner (take (w.payload + w.payload_len) bytes) w.payload) d (subst (λ n. fault_read (set_walk n inner (take (w.payload + w.payload_len) bytes) w.payload) ≡ Some d) one_less bad)) cut)
