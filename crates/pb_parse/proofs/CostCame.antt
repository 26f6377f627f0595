-- What a record that was found at a place of some bytes counts there, and what all of them do.
use Rattle.std.proofs.Common.{◌≡◌, ℕ, ◌+◌, ◌-◌, true, false, List, [], ◌++◌, length, take, drop, Ok, Some, refl, sym, ap, ◌∙◌, subst, arith, drop-drop}
use Rattle.std.specs.Prelude.{IsOk}
use Rattle.std.specs.FinMap as map
use Rattle.arena_mem.specs.Places.{Places, Buffers, used}
use Rattle.msg_layout.specs.Layout.{layout_of}
use Rattle.pb_schema.specs.declared.kind.FieldType.{FieldType}
use Rattle.pb_schema.specs.declared.schema.Schema.{Schema}
use Rattle.pb_schema.specs.Broken.{most_levels}
use Rattle.pb_schema.specs.Empty.{empty_with}
use Rattle.pb_schema.specs.Fits.{fields_of, takes, is_taken}
use Rattle.pb_schema.specs.Form.{Form}
use Rattle.pb_schema.specs.HeldAt.{field_at, held_at, with_held}
use Rattle.pb_schema.specs.Lawful.{Lawful}
use Rattle.pb_schema.specs.Meter.{Meter, GrowsInParts, cleanups}
use Rattle.pb_schema.specs.ParseCost.{pieces_cost}
use Rattle.pb_schema.specs.Put.{taken_put}
use Rattle.pb_schema.specs.Record.{Record, record_of}
use Rattle.pb_schema.specs.ShapeOf.{piece}
use Rattle.pb_schema.specs.Tree.{Shape, fields_held, unknown_held, fields_in_list}
use Rattle.pb_schema.specs.Walk.{Stop, record_left}
use Rattle.pb_schema.proofs.MeterLaws.{cleanups_in_parts}
use Rattle.pb_wire.specs.declared.wire_record.WireRecord.{WireRecord}
use Rattle.pb_wire.specs.PlacedRecord.{placed}
use Rattle.dyn_message.specs.declared.msg_ref.MsgRef.{MsgRef}
use Rattle.dyn_message.specs.Feet.{Foot}
use Rattle.pb_parse.specs.Costs.{Costs, Spends, read_cost, record_meter, rest_cost, taken_cost}
use Rattle.pb_parse.specs.Parsing.{Came}
use Rattle.pb_parse.specs.Reading.{contents_read, onto_left, record_at, untyped, walked, with_taken}
use Rattle.pb_parse.specs.Whole.{payload_cost}
use Rattle.pb_parse.proofs.ContentsRead.{some_ok}
use Rattle.pb_parse.proofs.CostLaws.{no_pieces, rest_begun, rest_ended, rest_other, rest_taken, whole_cost}
use Rattle.pb_parse.proofs.RecordCame.{FoundAt, left_whole, same_record, taken_whole}
use Rattle.pb_parse.proofs.RecordSteps.{walk_end}
use Rattle.pb_parse.proofs.Spending.{costs_by, nothing_spent, records_grow, spends_then}

-- A RECORD AT A PLACE

module _ (meter : Meter) (grows : GrowsInParts meter) (schema : Schema) (left type_no at : ℕ) (bytes : List ℕ) (form : Form) (here : untyped left at (drop at bytes) ≡ Ok form) where
  abbrev found : WireRecord
  found = placed at form

  abbrev fields : List FieldType
  fields = fields_of schema type_no

  abbrev rest : List ℕ
  rest = drop at bytes

  behind : drop form.size rest ≡ drop found.end bytes
  behind = drop-drop form.size at bytes

  taken_counts : Lawful schema → (field : FieldType) → field_at schema type_no field.number ≡ Some field → takes schema field (record_at found bytes) ≡ true → record_left schema left fields at rest ≡ Ok form
      → (t : Shape) (unknown : List ℕ) (stop : Stop) → length (fields_in_list (fields_held t)) ≡ length fields → walked schema left fields found.end (drop found.end bytes) ≡ Ok stop
      → rest_cost meter schema left type_no t unknown rest ≡ taken_cost meter schema left type_no field (record_at found bytes) t + rest_cost meter schema left type_no (with_taken schema left type_no field (record_at found bytes) t) unknown (drop found.end bytes)
  unfolding with_taken
  taken_counts lawful field known taken whole t unknown stop full ok =
      rest_taken meter grows schema left type_no field t unknown at found.end rest form stop lawful known (ap (takes schema field) (same_record form at bytes) ∙ taken) full whole (ap (walked schema left fields found.end) behind ∙ ok)
      ∙ (ap
      (λ (r : Record). taken_cost meter schema left type_no field r t
      + rest_cost meter schema left type_no (with_held schema type_no field.number (taken_put schema [] (onto_left schema left) field (held_at schema type_no field.number t) r field.card) t) unknown (drop form.size rest))
      (same_record form at bytes)
      ∙ ap (λ s. taken_cost meter schema left type_no field (record_at found bytes) t
      + rest_cost meter schema left type_no (with_held schema type_no field.number (taken_put schema [] (onto_left schema left) field (held_at schema type_no field.number t) (record_at found bytes) field.card) t) unknown s) behind)

  other_counts : is_taken schema fields (record_at found bytes) ≡ false → (t : Shape) (unknown : List ℕ) (stop : Stop) → walked schema left fields found.end (drop found.end bytes) ≡ Ok stop
      → rest_cost meter schema left type_no t unknown rest ≡ rest_cost meter schema left type_no t (unknown ++ take (found.end - at) rest) (drop found.end bytes)
  other_counts none t unknown stop ok =
      let long : form.size ≡ found.end - at = omega arith in
      rest_other meter grows schema left type_no t unknown at found.end rest form stop (ap (is_taken schema fields) (same_record form at bytes) ∙ none) (left_whole schema left type_no at bytes form here none) (ap (walked schema left fields found.end) behind ∙ ok)
      ∙ (ap (λ n. rest_cost meter schema left type_no t (unknown ++ take n rest) (drop form.size rest)) long
      ∙ ap (rest_cost meter schema left type_no t (unknown ++ take (found.end - at) rest)) behind)

-- THE SAME OF A RECORD THAT WAS FOUND

module _ (meter : Meter) (grows : GrowsInParts meter) (schema : Schema) (left type_no at : ℕ) (bytes : List ℕ) (w : WireRecord) (f : FoundAt left at bytes w) where
  abbrev all : List FieldType
  all = fields_of schema type_no

  pub found_counts : Lawful schema → (field : FieldType) → field_at schema type_no field.number ≡ Some field → (t : Shape) (unknown : List ℕ) (stop : Stop) → length (fields_in_list (fields_held t)) ≡ length all
      → takes schema field (record_at w bytes) ≡ true → IsOk (contents_read schema left field w bytes) → walked schema left all w.end (drop w.end bytes) ≡ Ok stop
      → rest_cost meter schema left type_no t unknown (drop at bytes) ≡ taken_cost meter schema left type_no field (record_at w bytes) t + rest_cost meter schema left type_no (with_taken schema left type_no field (record_at w bytes) t) unknown (drop w.end bytes)
  found_counts lawful field known t unknown stop full =
      subst (λ (r : WireRecord). takes schema field (record_at r bytes) ≡ true → IsOk (contents_read schema left field r bytes) → walked schema left all r.end (drop r.end bytes) ≡ Ok stop
      → rest_cost meter schema left type_no t unknown (drop at bytes) ≡ taken_cost meter schema left type_no field (record_at r bytes) t + rest_cost meter schema left type_no (with_taken schema left type_no field (record_at r bytes) t) unknown (drop r.end bytes)) f.is
      (λ taken sound ok. taken_counts meter grows schema left type_no at bytes f.form f.here lawful field known taken (taken_whole schema left type_no at bytes f.form f.here field known taken sound) t unknown stop full ok)

  pub found_other : (t : Shape) (unknown : List ℕ) (stop : Stop) → is_taken schema all (record_at w bytes) ≡ false → walked schema left all w.end (drop w.end bytes) ≡ Ok stop
      → rest_cost meter schema left type_no t unknown (drop at bytes) ≡ rest_cost meter schema left type_no t (unknown ++ take (w.end - at) (drop at bytes)) (drop w.end bytes)
  found_other t unknown stop =
      subst (λ (r : WireRecord). is_taken schema all (record_at r bytes) ≡ false → walked schema left all r.end (drop r.end bytes) ≡ Ok stop
      → rest_cost meter schema left type_no t unknown (drop at bytes) ≡ rest_cost meter schema left type_no t (unknown ++ take (r.end - at) (drop at bytes)) (drop r.end bytes)) f.is
      (λ none ok. other_counts meter grows schema left type_no at bytes f.form f.here none t unknown stop ok)

-- WHOLE PAYLOADS

-- all records, and then the piece
pub all_counts : (schema : Schema) (left : ℕ) (p0 p1 p2 : Places) (b0 b1 b2 : Buffers) (msg : MsgRef) (bytes : List ℕ) (at next : ℕ) (unknown : List ℕ) (t : Shape) (feet : List Foot) → drop next bytes ≡ []
    → (c : Came schema left p0 b0 p1 b1 msg bytes at next [] unknown t feet) → Costs schema p1 b1 p2 b2 (λ meter. pieces_cost meter (length (unknown_held c.shape)) (piece unknown))
    → Costs schema p0 b0 p2 b2 (λ meter. read_cost meter schema left msg.type_no t (drop at bytes))
all_counts schema left p0 p1 p2 b0 b1 b2 msg bytes at next unknown t feet none c spent =
    let over = ap (walked schema left (fields_of schema msg.type_no) next) none ∙ walk_end schema left (fields_of schema msg.type_no) next in
    costs_by schema p0 p2 b0 b2 (λ meter. rest_cost meter schema left msg.type_no t [] (drop at bytes)) (λ meter. read_cost meter schema left msg.type_no t (drop at bytes))
    (spends_then schema p0 p1 p2 b0 b1 b2 (λ meter. rest_cost meter schema left msg.type_no t [] (drop at bytes)) (λ meter. rest_cost meter schema left msg.type_no c.shape unknown (drop next bytes)) (λ meter. 0)
    (c.costs (next, next) over)
    (costs_by schema p1 p2 b1 b2 (λ meter. pieces_cost meter (length (unknown_held c.shape)) (piece unknown)) (λ meter. rest_cost meter schema left msg.type_no c.shape unknown (drop next bytes)) spent
    (λ meter grows. ap (rest_cost meter schema left msg.type_no c.shape unknown) none ∙ rest_ended meter grows schema left msg.type_no c.shape unknown)))
    (λ meter grows. rest_begun meter grows schema left msg.type_no t (drop at bytes))

-- the same where no bytes are unknown
pub whole_counts : (schema : Schema) (left : ℕ) (p0 p1 : Places) (b0 b1 : Buffers) (msg : MsgRef) (bytes : List ℕ) (at next : ℕ) (t : Shape) (feet : List Foot) → drop next bytes ≡ []
    → Came schema left p0 b0 p1 b1 msg bytes at next [] [] t feet → Costs schema p0 b0 p1 b1 (λ meter. read_cost meter schema left msg.type_no t (drop at bytes))
whole_counts schema left p0 p1 b0 b1 msg bytes at next t feet none c =
    all_counts schema left p0 p1 p1 b0 b1 b1 msg bytes at next [] t feet none c
    (nothing_spent schema p1 b1 (λ meter. pieces_cost meter (length (unknown_held c.shape)) []) (λ meter. 0) (λ meter grows. no_pieces meter grows (length (unknown_held c.shape))))

-- and where what is left is read by another call
pub then_counts : (schema : Schema) (left : ℕ) (p0 p1 p2 : Places) (b0 b1 b2 : Buffers) (msg : MsgRef) (bytes : List ℕ) (at next : ℕ) (t : Shape) (feet : List Foot) → IsOk (walked schema left (fields_of schema msg.type_no) next (drop next bytes))
    → (c : Came schema left p0 b0 p1 b1 msg bytes at next [] [] t feet) → Costs schema p1 b1 p2 b2 (λ meter. read_cost meter schema left msg.type_no c.shape (drop next bytes))
    → Costs schema p0 b0 p2 b2 (λ meter. read_cost meter schema left msg.type_no t (drop at bytes))
then_counts schema left p0 p1 p2 b0 b1 b2 msg bytes at next t feet sound c spent =
    let over = some_ok (walked schema left (fields_of schema msg.type_no) next (drop next bytes)) sound in
    costs_by schema p0 p2 b0 b2 (λ meter. rest_cost meter schema left msg.type_no t [] (drop at bytes)) (λ meter. read_cost meter schema left msg.type_no t (drop at bytes))
    (spends_then schema p0 p1 p2 b0 b1 b2 (λ meter. rest_cost meter schema left msg.type_no t [] (drop at bytes)) (λ meter. rest_cost meter schema left msg.type_no c.shape [] (drop next bytes)) (λ meter. 0)
    (c.costs over.0 over.1)
    (costs_by schema p1 p2 b1 b2 (λ meter. read_cost meter schema left msg.type_no c.shape (drop next bytes)) (λ meter. rest_cost meter schema left msg.type_no c.shape [] (drop next bytes)) spent
    (λ meter grows. sym (rest_begun meter grows schema left msg.type_no c.shape (drop next bytes)))))
    (λ meter grows. rest_begun meter grows schema left msg.type_no t (drop at bytes))

-- a payload that is read into the empty message counts what it does by itself, less the record that is there
pub whole_spent : (schema : Schema) (p0 p1 : Places) (b0 b1 : Buffers) (type_no : ℕ) (s : List ℕ) → Costs schema p0 b0 p1 b1 (λ meter. read_cost meter schema most_levels type_no (empty_with [] (fields_of schema type_no)) s)
    → (used p1 + (layout_of schema type_no).size ≡ used p0 + payload_cost (record_meter schema) schema type_no s) × (map.len b1 ≡ map.len b0 + payload_cost cleanups schema type_no s)
whole_spent schema p0 p1 b0 b1 type_no s spent =
    (omega (arith, spent.space, whole_cost (record_meter schema) (records_grow schema) schema type_no s), omega (arith, spent.kept, whole_cost cleanups cleanups_in_parts schema type_no s))
