-- The records of a descriptor message without a fault, one after another.
use Rattle.std.proofs.Common.{◌≡◌, ◌≢◌, ℕ, zero, suc, ◌+◌, ◌-◌, ◌<◌, ◌≤◌, List, [], ◌∷◌, ◌++◌, length, drop, map, true, None, Ok, Err, refl, sym, ap, ◌∙◌, subst, arith, drop-drop, length-drop, length-append, append_assoc, append-nil}
use Rattle.std.specs.Prelude.{All}
use Rattle.std.specs.Str.{is_utf8}
use Rattle.std.proofs.Math.ListN.{drop_of_length-le}
use Rattle.std.proofs.lemmas.List.{drop_at, map-append}
use Rattle.std.proofs.lemmas.List.Elements.{All-nil, All-cons, All-append}
use Rattle.pb_schema.specs.declared.kind.FieldType.{FieldType}
use Rattle.pb_schema.specs.declared.schema.Schema.{Schema}
use Rattle.pb_schema.specs.declared.wire_fault.WireKind.TheVariants.{NotUtf8, TooDeep}
use Rattle.pb_schema.specs.declared.wire_fault.WireFault.{WireFault}
use Rattle.pb_schema.specs.Reads.{read_map}
use Rattle.pb_schema.specs.Record.{Record}
use Rattle.pb_schema.specs.Records.{IsRecord, AreRecords, RecordsWithin}
use Rattle.pb_schema.specs.Fits.{Contents, Anything, Utf8, Message, fields_of, contents_of}
use Rattle.pb_schema.specs.Walk.{in_message, read_contents, deeper_left}
use Rattle.pb_schema.specs.Broken.{broken_of, most_levels}
use Rattle.pb_schema.specs.TreeOf.{records_in}
use Rattle.pb_schema.proofs.FormLaws.{not_ok, same_ok, tested_ok}
use Rattle.pb_schema.proofs.WalkSteps.{walk_left_is}
use Rattle.pb_schema.proofs.FitsLaws.{group_holds_anything}
use Rattle.pb_schema.proofs.RecordsFront.{record_size}
use Rattle.pb_schema.proofs.OneRecord.{record_read}
use Rattle.pb_schema.proofs.Runs.{Each}
use Rattle.pb_schema.proofs.SoundRecords.{Finds, Holds, Sound, walk_sound, deeper_is}
use Rattle.pb_schema.proofs.FittedLaws.{no_fault_sound, sound_unbroken, sound_records}
use Rattle.pb_wire.specs.declared.wire_record.WireRecord.{WireRecord}
use Rattle.pb_wire.specs.PlacedRecord.{placed, record_in}
use Rattle.desc_pool.specs.declared.descriptor.Descriptor.{Descriptor}
use Rattle.desc_pool.specs.Descriptors.{descriptor_schema, fields_read, type_of}
use Rattle.desc_pool.specs.Contents.{contents_at}
use Rattle.desc_pool.specs.Payloads.{record_at, IsSound, IsRead}
use Rattle.desc_pool.proofs.Checking.{record_there, contents_same, fields_are}

-- the record in front of sound bytes, and what stands behind it
record Front (schema : Schema) (left : ℕ) (fields : List FieldType) (s : List ℕ) (rs : List Record) : Type 0 where
  r : Record
  rest : List ℕ
  is : IsRecord (AreRecords left) r
  cut : s ≡ r.span ++ rest
  holds : Holds schema left fields r
  sound : Sound schema left fields rest
  all : rs ≡ r ∷ sound.rs

front : (schema : Schema) (left : ℕ) (fields : List FieldType) (s : List ℕ) (rs : List Record) → RecordsWithin left s rs → Each (Holds schema left fields) rs → s ≢ [] → Front schema left fields s rs
front schema left fields s [] are hold some = absurd (some are)
front schema left fields s (r ∷ rs) are hold some = record {
  r = r;
  rest = are.0;
  is = are.1;
  cut = are.2;
  holds = hold.0;
  sound = record { rs = rs; are = are.3; hold = hold.1 };
  all = refl;
}

-- WHAT A RECORD HOLDS

abbrev fields_in : Descriptor → List FieldType
fields_in descriptor = fields_of descriptor_schema (type_of descriptor)

contents_here : (descriptor : Descriptor) (r : Record) (c : Contents) → contents_at descriptor r.number r.wire ≡ c → contents_of descriptor_schema (fields_in descriptor) r ≡ c
contents_here descriptor r c e =
    ap (λ fields. contents_of descriptor_schema fields r) (fields_are descriptor)
    ∙ (contents_same descriptor_schema (fields_read descriptor) r.number r.wire r.payload r.span ∙ e)

no_group : (descriptor : Descriptor) (r : Record) (c : Contents) → contents_of descriptor_schema (fields_in descriptor) r ≡ c → (Anything ≡ c → ⊥) → r.wire ≢ 3
no_group descriptor r c e other three = absurd (other (sym (group_holds_anything descriptor_schema (fields_in descriptor) r three) ∙ e))

anything_utf8 : Anything ≡ Utf8 → ⊥
anything_utf8 e = cc

anything_message : (type_no : ℕ) → Anything ≡ Message type_no → ⊥
anything_message type_no e = cc

text_held : (descriptor : Descriptor) (left : ℕ) (r : Record) → Holds descriptor_schema left (fields_in descriptor) r → contents_at descriptor r.number r.wire ≡ Utf8 → is_utf8 r.payload ≡ true
text_held descriptor left r holds e =
    let is = contents_here descriptor r Utf8 e in
    let found = holds (no_group descriptor r Utf8 is anything_utf8) in
    let read = sym (ap (read_contents descriptor_schema (deeper_left descriptor_schema left) found.0 found.1 r.payload) is) ∙ found.2.1 in
    tested_ok (is_utf8 r.payload) found.1 found.2.0 (record { kind = NotUtf8; byte = found.1 }) read λ yes same. yes

message_sound : (schema : Schema) (left tag at : ℕ) (payload : List ℕ) (type_no depth : ℕ) → left ≡ most_levels - depth → Finds (read_contents schema (deeper_left schema left) tag at payload (Message type_no)) → (depth < most_levels) × (broken_of schema type_no (depth + 1) payload ≡ None)
message_sound schema zero tag at payload type_no depth e found =
    deeper_is schema (deeper_left schema 0) tag at payload type_no found λ stop. not_ok (record { kind = TooDeep; byte = tag }) stop.0 stop.1
message_sound schema (suc left) tag at payload type_no depth e found =
    deeper_is schema (deeper_left schema (suc left)) tag at payload type_no found
    λ stop.
    let fields = fields_of schema type_no in
    let sound = walk_sound schema left fields 0 at payload stop.0 (sym (walk_left_is schema left tag (in_message fields) at payload) ∙ stop.1) in
    let one_less : left ≡ most_levels - (depth + 1) = omega (arith, e) in
    (omega (arith, e), sound_unbroken schema type_no (depth + 1) payload (subst (λ n. Sound schema n fields payload) one_less sound))

nested_held : (descriptor : Descriptor) (depth : ℕ) (r : Record) → Holds descriptor_schema (most_levels - depth) (fields_in descriptor) r → (inner : Descriptor) → contents_at descriptor r.number r.wire ≡ Message (type_of inner) → (depth < most_levels) × IsSound inner (depth + 1) r.payload
nested_held descriptor depth r holds inner e =
    let is = contents_here descriptor r (Message (type_of inner)) e in
    let found = holds (no_group descriptor r (Message (type_of inner)) is (anything_message (type_of inner))) in
    let left = most_levels - depth in
    message_sound descriptor_schema left found.0 found.1 r.payload (type_of inner) depth refl
    (found.2.0, sym (ap (read_contents descriptor_schema (deeper_left descriptor_schema left) found.0 found.1 r.payload) is) ∙ found.2.1)

-- ONE RECORD MORE

-- so far these records were found, and what follows has no fault
pub record ReadTo (descriptor : Descriptor) (depth : ℕ) (bytes : List ℕ) (at : ℕ) (found : List WireRecord) : Type 0 where
  pub within : at ≤ length bytes
  pub rest : Sound descriptor_schema (most_levels - depth) (fields_of descriptor_schema (type_of descriptor)) (drop at bytes)
  pub records : map (record_at bytes) found ++ rest.rs ≡ records_in (most_levels - depth) bytes
  pub read : All (IsRead descriptor depth bytes) found

pub read_none : (descriptor : Descriptor) (depth : ℕ) (bytes : List ℕ) → IsSound descriptor depth bytes → ReadTo descriptor depth bytes 0 []
read_none descriptor depth bytes sound =
    let rest = no_fault_sound descriptor_schema (type_of descriptor) depth bytes sound in
    record {
      within = omega arith;
      rest = rest;
      records = sym (sound_records descriptor_schema (most_levels - depth) (fields_in descriptor) bytes rest);
      read = All-nil (IsRead descriptor depth bytes);
    }

not_empty : (bytes : List ℕ) (at : ℕ) → at < length bytes → drop at bytes ≢ []
not_empty bytes at h e = absurd (omega (arith, h, length-drop at bytes, ap length e))

front_here : (descriptor : Descriptor) (depth : ℕ) (bytes : List ℕ) (at : ℕ) (found : List WireRecord) → (p : ReadTo descriptor depth bytes at found) → at < length bytes → Front descriptor_schema (most_levels - depth) (fields_in descriptor) (drop at bytes) p.rest.rs
front_here descriptor depth bytes at found p h =
    front descriptor_schema (most_levels - depth) (fields_in descriptor) (drop at bytes) p.rest.rs p.rest.are p.rest.hold (not_empty bytes at h)

pub never_bad : (descriptor : Descriptor) (depth : ℕ) (bytes : List ℕ) (at : ℕ) (found : List WireRecord) (d : WireFault) → ReadTo descriptor depth bytes at found → at < length bytes → Err d ≡ record_in depth at bytes → ⊥
never_bad descriptor depth bytes at found d p h e =
    let f = front_here descriptor depth bytes at found p h in
    let q = record_read (most_levels - depth) at (drop at bytes) f.rest f.r f.is f.cut in
    not_ok d (placed at q.0) (e ∙ ap (read_map (placed at)) q.1)

pub one_more : (descriptor : Descriptor) (depth : ℕ) (bytes : List ℕ) (at : ℕ) (found : List WireRecord) (w : WireRecord) → ReadTo descriptor depth bytes at found → at < length bytes → Ok w ≡ record_in depth at bytes → w.end ≤ length bytes → w.payload + w.payload_len ≤ length bytes
    → ReadTo descriptor depth bytes w.end (found ++ w ∷ [])
one_more descriptor depth bytes at found w p h e within inside =
    let left = most_levels - depth in
    let s = drop at bytes in
    let f = front_here descriptor depth bytes at found p h in
    let q = record_read left at s f.rest f.r f.is f.cut in
    let whole = q.0 in
    let there : w ≡ placed at whole = same_ok w (placed at whole) (e ∙ ap (read_map (placed at)) q.1) in
    let is : record_at bytes w ≡ f.r = ap (record_at bytes) there ∙ (record_there bytes at whole ∙ q.3) in
    let behind : drop w.end bytes ≡ f.rest =
    ap (λ (x : WireRecord). drop x.end bytes) there
    ∙ (sym (drop-drop whole.size at bytes)
    ∙ (ap (λ n. drop n s) q.2 ∙ (ap (drop (length f.r.span)) f.cut ∙ drop_at f.r.span f.rest (length f.r.span) refl))) in
    let holds = subst (Holds descriptor_schema left (fields_in descriptor)) (sym is) f.holds in
    let rest = f.sound in
    record {
      within = within;
      rest = record { rs = rest.rs; are = subst (λ t. RecordsWithin left t rest.rs) (sym behind) rest.are; hold = rest.hold };
      records =
          ap (λ rs. rs ++ rest.rs) (map-append (record_at bytes) found (w ∷ []))
          ∙ (append_assoc (map (record_at bytes) found) (record_at bytes w ∷ []) rest.rs
          ∙ (ap (λ r. map (record_at bytes) found ++ r ∷ rest.rs) is ∙ (ap (λ rs. map (record_at bytes) found ++ rs) (sym f.all) ∙ p.records)));
      read = All-append (IsRead descriptor depth bytes) found (w ∷ []) p.read (All-cons (IsRead descriptor depth bytes) w [] (record { inside = inside; text = text_held descriptor left (record_at bytes w) holds; nested = nested_held descriptor depth (record_at bytes w) holds }) (All-nil (IsRead descriptor depth bytes)));
    }

pub read_all : (descriptor : Descriptor) (depth : ℕ) (bytes : List ℕ) (at : ℕ) (found : List WireRecord) → ReadTo descriptor depth bytes at found → length bytes ≤ at → map (record_at bytes) found ≡ records_in (most_levels - depth) bytes
read_all descriptor depth bytes at found p h =
    sym (append-nil (map (record_at bytes) found)) ∙ (ap (λ rs. map (record_at bytes) found ++ rs) (sym (no_more p.rest.rs (drop at bytes) p.rest.are (drop_of_length-le bytes {i = at} h))) ∙ p.records)
  where
    no_more : (rs : List Record) (s : List ℕ) → RecordsWithin (most_levels - depth) s rs → s ≡ [] → rs ≡ []
    no_more [] s are none = refl
    no_more (r ∷ rs) s are none =
        let some = record_size (most_levels - depth) r are.1 in
        absurd (omega (arith, some, ap length none, ap length are.2, length-append r.span are.0))
