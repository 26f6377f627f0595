-- A record of a field that holds one number, a varint: its form, and what it makes of the message.
use Rattle.std.proofs.Common.{◌≡◌, ◌≢◌, ◌+◌, ◌-◌, ◌<◌, ℕ, List, length, drop, Bool, true, false, eqb, Result, Ok, Err, Some, true≢false, refl, sym, ap, ◌∙◌, subst, arith, drop-drop}
use Rattle.std.specs.Prelude.{◌||◌, IsOk}
use Rattle.std.proofs.lemmas.Bool.{eqb-true}
use Rattle.arena_mem.specs.Places.{Places, Buffers}
use Rattle.pb_schema.specs.declared.kind.Card.{Card}
use Rattle.pb_schema.specs.declared.kind.Card.TheVariants as cards
use Rattle.pb_schema.specs.declared.schema.Schema.{Schema}
use Rattle.pb_schema.specs.declared.wire_fault.WireFault.{WireFault}
use Rattle.pb_schema.specs.Cards.{is_repeated}
use Rattle.pb_schema.specs.Fits.{fields_of, takes}
use Rattle.pb_schema.specs.Form.{read_tag, read_scalar}
use Rattle.pb_schema.specs.HeldAt.{field_at, with_held}
use Rattle.pb_schema.specs.Kinds.{Coding, ValueType, Scalar, Characters, Octets, Nested, value_type_of, value_wire}
use Rattle.pb_schema.specs.Lawful.{Lawful}
use Rattle.pb_schema.specs.Meter.{Meter, GrowsInParts}
use Rattle.pb_schema.specs.Tree.{Shape, fields_held, fields_in_list}
use Rattle.pb_schema.proofs.HeldLaws.{field_number}
use Rattle.pb_schema.proofs.FormLaws.{same_ok, not_ok}
use Rattle.msg_layout.specs.declared.entry.Entry.{Entry}
use Rattle.pb_wire.specs.declared.wire_record.WireRecord.{WireRecord}
use Rattle.pb_wire.specs.Placed.{moved_tag}
use Rattle.dyn_message.specs.declared.msg_ref.MsgRef.{MsgRef}
use Rattle.dyn_message.specs.Changes.{NowStands}
use Rattle.dyn_message.specs.Feet.{Foot}
use Rattle.dyn_message.specs.Fields.{IsNumberType, number_put}
use Rattle.dyn_message.specs.Stands.{IsSingle}
use Rattle.pb_parse.specs.Contents.{fits_wire}
use Rattle.pb_parse.specs.Costs.{Costs, Spends, rest_cost}
use Rattle.pb_parse.specs.Parsing.{Came}
use Rattle.pb_schema.specs.Walk.{Stop}
use Rattle.pb_parse.specs.Reading.{contents_read, finished, record_at, untyped, walked, with_taken}
use Rattle.pb_parse.specs.Short.{IsShort}
use Rattle.pb_parse.proofs.ContentsLaws.{field_there, takes_by_wire}
use Rattle.pb_parse.proofs.ContentsRead.{ok_is, number_holds}
use Rattle.pb_parse.proofs.CostArms.{number_free}
use Rattle.pb_parse.proofs.CostCame.{found_counts}
use Rattle.pb_parse.proofs.RecordCame.{FoundAt, found_is_for, found_walk, found_goes}
use Rattle.pb_parse.proofs.Spending.{spends_by}
use Rattle.pb_parse.proofs.TakenShapes.{number_coding, number_shape}
use Rattle.pb_parse.proofs.ValuesRead.{value_is}

-- THE FORM

-- a tag of a varint, and the varint
pub varint_form : (left at : ℕ) (s : List ℕ) (number n k : ℕ) → read_tag at s ≡ Ok (number, 0, n) → read_scalar 0 (at + n) (drop n s) ≡ Ok k
    → untyped left at s ≡ Ok (record { number = number; wire = 0; payload = n + 0; payload_len = k; size = n + 0 + k })
varint_form left at s number n k tag value = rw (tag, value) refl

-- the tag at a place, as it was read there
pub tag_here : (r : Result (ℕ × ℕ × ℕ) WireFault) (at number wire payload : ℕ) → Ok (number, wire, payload) ≡ moved_tag at r → (n : ℕ) × (r ≡ Ok (number, wire, n)) × (payload ≡ at + n)
tag_here (Ok tag) at number wire payload e =
    let same = same_ok (number, wire, payload) (tag.0, tag.1, at + tag.2) e in
    (tag.2, (λ i. Ok (sym (ap (λ t. t.0) same) i, sym (ap (λ t. t.1) same) i, tag.2)), ap (λ t. t.2) same)
tag_here (Err d) at number wire payload e = not_ok d (number, wire, payload) (sym e)

pub short_form : (left at : ℕ) (bytes : List ℕ) (number wire payload end : ℕ) → Ok (number, wire, payload) ≡ moved_tag at (read_tag at (drop at bytes)) → wire ≡ 0 → at < payload → payload < end
    → read_scalar 0 payload (drop payload bytes) ≡ Ok (end - payload)
    → untyped left at (drop at bytes) ≡ Ok (record { number = number; wire = 0; payload = payload - at; payload_len = end - payload; size = end - at })
short_form left at bytes number wire payload end tag none from to value =
    let t = tag_here (read_tag at (drop at bytes)) at number wire payload tag in
    let n = t.0 in
    let front : n + 0 ≡ payload - at = omega (arith, t.2) in
    let whole : n + 0 + (end - payload) ≡ end - at = omega (arith, t.2, from, to) in
    let is : read_scalar 0 (at + n) (drop n (drop at bytes)) ≡ Ok (end - payload) =
    ap (read_scalar 0 (at + n)) (drop-drop n at bytes) ∙ (ap (λ p. read_scalar 0 p (drop p bytes)) (sym t.2) ∙ value) in
    varint_form left at (drop at bytes) number n (end - payload) (t.1 ∙ ap (λ w. Ok (number, w, n)) none) is
    ∙ (λ i. Ok (record { number = number; wire = 0; payload = front i; payload_len = end - payload; size = whole i }))

-- KINDS

-- a number's kind, where a field takes varints
number_kind : (type : ValueType) → value_wire type ≡ 0 → IsNumberType type
number_kind (Scalar coding) e = tt
number_kind Characters e = absurd (omega (arith, e))
number_kind Octets e = absurd (omega (arith, e))
number_kind (Nested inner) e = absurd (omega (arith, e))

or_false : (b : Bool) → (b || false) ≡ true → b ≡ true
or_false true e = refl
or_false false e = e

pub takes_number : (entry : Entry) → fits_wire entry.field 0 ≡ true → value_wire (value_type_of entry.field.kind) ≡ 0
takes_number entry e = sym (eqb-true 0 (value_wire (value_type_of entry.field.kind)) (or_false (eqb 0 (value_wire (value_type_of entry.field.kind))) e))

pub is_number_kind : (entry : Entry) → fits_wire entry.field 0 ≡ true → IsNumberType (value_type_of entry.field.kind)
is_number_kind entry e = number_kind (value_type_of entry.field.kind) (takes_number entry e)

pub one_value : (card : Card) → is_repeated card ≡ false → IsSingle card
one_value cards.Implicit e = tt
one_value cards.Explicit e = tt
one_value (cards.Member oneof) e = tt
one_value (cards.Repeated packed) e = absurd (true≢false e)

-- THE MESSAGE

module _ (schema : Schema) (type_no : ℕ) (bytes : List ℕ) (at number : ℕ) (entry : Entry) (payload end bits : ℕ) (s : IsShort schema type_no bytes at number entry payload end bits) where
  abbrev w : WireRecord
  w = record { number = number; wire = 0; start = at; payload = payload; payload_len = end - payload; end = end }

  f : (left : ℕ) → FoundAt left at bytes w
  f left =
      let from : at + (payload - at) ≡ payload = omega (arith, s.tag) in
      let to : at + (end - at) ≡ end = omega (arith, s.tag, s.some) in
      record {
        form = record { number = number; wire = 0; payload = payload - at; payload_len = end - payload; size = end - at };
        here = s.here left;
        is = λ i. record { number = number; wire = 0; start = at; payload = from i; payload_len = end - payload; end = to i };
      }

  there : field_at schema type_no number ≡ Some entry.field
  there = field_there schema type_no number entry s.known

  pub number_is : entry.field.number ≡ number
  number_is = field_number (fields_of schema type_no) number entry.field there

  known : field_at schema type_no entry.field.number ≡ Some entry.field
  known = ap (field_at schema type_no) number_is ∙ there

  taken : takes schema entry.field (record_at w bytes) ≡ true
  taken = takes_by_wire schema type_no number entry.field (record_at w bytes) true there refl s.fits

  k : (coding : Coding) × (value_type_of entry.field.kind ≡ Scalar coding)
  k = number_coding (value_type_of entry.field.kind) (is_number_kind entry s.fits)

  other : w.wire ≢ 2
  other e = absurd (omega (arith, e))

  sound : (left : ℕ) → IsOk (contents_read schema left entry.field w bytes)
  sound left = ok_is _ _ (number_holds schema left entry.field w bytes k.0 k.1 other)

  pub short_walk : (left : ℕ) → walked schema left (fields_of schema type_no) at (drop at bytes) ≡ walked schema left (fields_of schema type_no) end (drop end bytes)
  short_walk left = found_walk schema left type_no at bytes w (f left) entry.field known taken (sound left)

  pub short_shape : (left : ℕ) (t : Shape) → with_held schema type_no number (number_put schema type_no number bits) t ≡ with_taken schema left type_no entry.field (record_at w bytes) t
  short_shape left t =
      let v = s.value k.0 k.1 in
      ap (λ n. with_held schema type_no n (number_put schema type_no n bits) t) (sym number_is)
      ∙ number_shape schema left type_no w bytes entry.field t k.0 bits known k.1 s.single
      (value_is schema type_no bytes w entry.field k.0 (found_is_for schema left type_no at bytes w (f left) entry.field known taken s.within) k.1 other (end - payload) bits v.0 v.1)

  -- it counts nothing
  short_counts : Lawful schema → (left : ℕ) (unknown : List ℕ) (t : Shape) (stop : Stop) → length (fields_in_list (fields_held t)) ≡ length (fields_of schema type_no) → walked schema left (fields_of schema type_no) end (drop end bytes) ≡ Ok stop → (meter : Meter) → GrowsInParts meter
      → rest_cost meter schema left type_no t unknown (drop at bytes) ≡ 0 + rest_cost meter schema left type_no (with_taken schema left type_no entry.field (record_at w bytes) t) unknown (drop end bytes)
  short_counts lawful left unknown t stop full ok meter grows =
      found_counts meter grows schema left type_no at bytes w (f left) lawful entry.field known t unknown stop full taken (sound left) ok
      ∙ ap (λ n. n + rest_cost meter schema left type_no (with_taken schema left type_no entry.field (record_at w bytes) t) unknown (drop end bytes))
      (number_free meter schema left type_no entry.field (record_at w bytes) t k.0 k.1 s.single)

  pub short_came : Lawful schema → (left : ℕ) (unknown : List ℕ) (places : Places) (buffers : Buffers) (places' : Places) (buffers' : Buffers) (msg : MsgRef) (t : Shape) (feet : List Foot) → msg.type_no ≡ type_no
      → length (fields_in_list (fields_held t)) ≡ length (fields_of schema type_no) → Costs schema places buffers places' buffers' (λ meter. 0)
      → NowStands schema places buffers places' buffers' msg (with_held schema type_no number (number_put schema type_no number bits) t) feet
      → Came schema left places buffers places' buffers' msg bytes at end unknown unknown t feet
  short_came lawful left unknown places buffers places' buffers' msg t feet type full spent put = record {
    shape = with_taken schema left type_no entry.field (record_at w bytes) t;
    stands = subst (λ u. NowStands schema places buffers places' buffers' msg u feet) (short_shape left t) put;
    goes = subst (λ n. (stop : Stop) → walked schema left (fields_of schema n) end (drop end bytes) ≡ Ok stop
        → finished schema left (fields_of schema n) t unknown (drop at bytes) ≡ finished schema left (fields_of schema n) (with_taken schema left type_no entry.field (record_at w bytes) t) unknown (drop end bytes)) (sym type)
        (λ stop ok. found_goes schema left type_no at bytes w (f left) lawful entry.field known t unknown stop taken (sound left) ok);
    costs = subst (λ n. (stop : Stop) → walked schema left (fields_of schema n) end (drop end bytes) ≡ Ok stop
        → Spends schema places buffers places' buffers' (λ meter. rest_cost meter schema left n t unknown (drop at bytes)) (λ meter. rest_cost meter schema left n (with_taken schema left type_no entry.field (record_at w bytes) t) unknown (drop end bytes))) (sym type)
        (λ stop ok. spends_by schema places places' buffers buffers' (λ meter. 0) (λ meter. rest_cost meter schema left type_no t unknown (drop at bytes)) (λ meter. rest_cost meter schema left type_no (with_taken schema left type_no entry.field (record_at w bytes) t) unknown (drop end bytes)) spent
        (short_counts lawful left unknown t stop full ok));
  }
