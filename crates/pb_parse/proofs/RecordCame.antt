-- One record of a payload, as it is found at a place of its bytes: what it makes of the walk and of the message.
use Rattle.std.proofs.Common.{◌≡◌, ◌≢◌, ◌+◌, ◌-◌, ◌<◌, ◌≤◌, ℕ, true, false, List, [], ◌∷◌, ◌++◌, length, take, drop, Result, Ok, Err, Some, refl, sym, ap, ◌∙◌, subst, arith, drop-drop, append-nil, length-drop}
use Rattle.std.specs.Prelude.{IsSome, IsOk, IsErr}
use Rattle.arena_mem.specs.Places.{Places, Buffers}
use Rattle.pb_schema.specs.declared.kind.FieldType.{FieldType}
use Rattle.pb_schema.specs.declared.schema.Schema.{Schema}
use Rattle.pb_schema.specs.declared.wire_fault.WireFault.{WireFault}
use Rattle.pb_schema.specs.Reads.{◌>>=◌, read_map}
use Rattle.pb_schema.specs.Form.{Form, read_scalar}
use Rattle.pb_schema.specs.Record.{Record, record_of}
use Rattle.pb_schema.specs.Records.{Records}
use Rattle.pb_schema.specs.Fits.{fields_of, takes, is_taken, contents_in}
use Rattle.pb_schema.specs.HeldAt.{field_at, held_at, with_held}
use Rattle.pb_schema.specs.Lawful.{Lawful}
use Rattle.pb_schema.specs.Put.{taken_put}
use Rattle.pb_schema.specs.ShapeOf.{piece}
use Rattle.pb_schema.specs.Tree.{Shape, Message, fields_held, unknown_held}
use Rattle.pb_schema.specs.Walk.{Stop, deeper_left, read_contents, record_left}
use Rattle.pb_schema.proofs.FormLaws.{not_ok, same_ok}
use Rattle.pb_wire.specs.declared.wire_record.WireRecord.{WireRecord}
use Rattle.pb_wire.specs.PlacedRecord.{placed, record_in}
use Rattle.dyn_message.specs.declared.msg_ref.MsgRef.{MsgRef}
use Rattle.dyn_message.specs.Feet.{Foot, foot_bytes}
use Rattle.dyn_message.specs.Stands.{Stands}
use Rattle.dyn_message.specs.Changes.{NowStands}
use Rattle.pb_parse.specs.Costs.{rest_cost}
use Rattle.pb_parse.specs.Parsing.{Came, IsFor}
use Rattle.pb_parse.specs.Reading.{contents_read, finished, onto_left, read_left, record_at, untyped, walked, with_taken}
use Rattle.pb_parse.proofs.ContentsRead.{err_is, ok_is, some_ok, some_err}
use Rattle.pb_parse.proofs.ExactSteps.{record_here}
use Rattle.pb_parse.proofs.FoundRecords.{found_for, found_value, no_group, piece_more}
use Rattle.pb_parse.proofs.Memories.{stays, then_stands}
use Rattle.pb_parse.proofs.Spending.{nothing_spent, spends_then}
use Rattle.pb_parse.proofs.RecordSteps.{begun, ended_none, ended_some, walk_end, walk_bad, walk_on, untyped_bad, other_whole, taken_is, taken_goes, other_goes}

-- WHAT IS FOUND

-- a record that was found at a place has a form there
pub record FoundAt (left at : ℕ) (bytes : List ℕ) (found : WireRecord) : Type 0 where
  pub form : Form
  pub here : untyped left at (drop at bytes) ≡ Ok form
  pub is : placed at form ≡ found

pub found_at : (left at : ℕ) (bytes : List ℕ) (found : WireRecord) → left ≤ 100 → Ok found ≡ record_in (100 - left) at bytes → FoundAt left at bytes found
found_at left at bytes found few e = pick (untyped left at (drop at bytes)) refl (e ∙ record_here bytes left at few)
  where
    pick : (r : Result Form WireFault) → untyped left at (drop at bytes) ≡ r → Ok found ≡ read_map (placed at) r → FoundAt left at bytes found
    pick (Ok form) here same = record { form = form; here = here; is = sym (same_ok found (placed at form) same) }
    pick (Err d) here same = not_ok d found (sym same)

-- where there is none, the walk has a fault
pub none_at : (schema : Schema) (left at : ℕ) (bytes : List ℕ) (type_no : ℕ) (d : WireFault) → left ≤ 100 → at < length bytes → Err d ≡ record_in (100 - left) at bytes
    → IsErr (walked schema left (fields_of schema type_no) at (drop at bytes))
none_at schema left at bytes type_no d few some e = pick (untyped left at (drop at bytes)) refl (e ∙ record_here bytes left at few)
  where
    there : drop at bytes ≢ []
    there none = absurd (omega (arith, some, length-drop at bytes, ap length none))

    pick : (r : Result Form WireFault) → untyped left at (drop at bytes) ≡ r → Err d ≡ read_map (placed at) r → IsErr (walked schema left (fields_of schema type_no) at (drop at bytes))
    pick (Ok form) here same = not_ok d (placed at form) same
    pick (Err w) here same = err_is _ w (walk_bad schema left (fields_of schema type_no) at (drop at bytes) w there (untyped_bad schema left (fields_of schema type_no) at (drop at bytes) w here))

-- the record at a place is the one of the form there
pub same_record : (form : Form) (at : ℕ) (bytes : List ℕ) → record_of form (drop at bytes) ≡ record_at (placed at form) bytes
same_record form at bytes =
    let long : form.size ≡ (at + form.size) - at = omega arith in
    λ i.
    record {
      number = form.number;
      wire = form.wire;
      payload = take form.payload_len (drop-drop form.payload at bytes i);
      span = take (long i) (drop at bytes);
    }

module _ (schema : Schema) (left type_no at : ℕ) (bytes : List ℕ) (form : Form) (here : untyped left at (drop at bytes) ≡ Ok form) where
  abbrev found : WireRecord
  found = placed at form

  abbrev fields : List FieldType
  fields = fields_of schema type_no

  abbrev rest : List ℕ
  rest = drop at bytes

  -- what is left behind the record
  behind : drop form.size rest ≡ drop found.end bytes
  behind = drop-drop form.size at bytes

  -- TAKEN RECORDS

  pub is_for : (field : FieldType) → field_at schema type_no field.number ≡ Some field → takes schema field (record_at found bytes) ≡ true → found.end ≤ length bytes → IsFor schema type_no bytes found field
  is_for field known taken within =
      let own : takes schema field (record_of form rest) ≡ true = ap (takes schema field) (same_record form at bytes) ∙ taken in
      let parts = found_for schema left at rest field form here own in
      record {
        known = known;
        taken = taken;
        tag = omega (arith, parts.0);
        payload = omega (arith, parts.1);
        within = within;
        value = λ other. ap (read_scalar form.wire (at + form.payload)) (sym (drop-drop form.payload at bytes))
            ∙ found_value left at rest form here (no_group schema field (record_of form rest) own) other;
      }

  -- whether the record is whole, by what its payload has to be
  taken_left : (field : FieldType) → field_at schema type_no field.number ≡ Some field → takes schema field (record_at found bytes) ≡ true
      → record_left schema left fields at rest ≡ (contents_read schema left field found bytes >>= λ _. Ok form)
  unfolding contents_read
  taken_left field known taken =
      taken_is schema left type_no field.number at rest field form known (ap (takes schema field) (same_record form at bytes) ∙ taken) here
      ∙ ap (λ (r : Record). read_contents schema (deeper_left schema left) at (at + form.payload) r.payload (contents_in field r) >>= λ _. Ok form) (same_record form at bytes)

  pub taken_whole : (field : FieldType) → field_at schema type_no field.number ≡ Some field → takes schema field (record_at found bytes) ≡ true → IsOk (contents_read schema left field found bytes) → record_left schema left fields at rest ≡ Ok form
  taken_whole field known taken sound =
      let x = some_ok (contents_read schema left field found bytes) sound in
      taken_left field known taken ∙ ap (λ r. r >>= λ _. Ok form) x.1

  pub taken_broken : (field : FieldType) → field_at schema type_no field.number ≡ Some field → takes schema field (record_at found bytes) ≡ true → rest ≢ [] → IsErr (contents_read schema left field found bytes) → IsErr (walked schema left fields at rest)
  taken_broken field known taken some broken =
      let d = some_err (contents_read schema left field found bytes) broken in
      err_is _ d.0 (walk_bad schema left fields at rest d.0 some (taken_left field known taken ∙ ap (λ r. r >>= λ _. Ok form) d.1))

  pub walk_behind : record_left schema left fields at rest ≡ Ok form → walked schema left fields at rest ≡ walked schema left fields found.end (drop found.end bytes)
  walk_behind whole = walk_on schema left fields at rest form whole ∙ ap (walked schema left fields (at + form.size)) behind

  pub taken_came : Lawful schema → (field : FieldType) → field_at schema type_no field.number ≡ Some field → takes schema field (record_at found bytes) ≡ true → record_left schema left fields at rest ≡ Ok form
      → (t : Shape) (unknown : List ℕ) (stop : Stop) → walked schema left fields found.end (drop found.end bytes) ≡ Ok stop
      → finished schema left fields t unknown rest ≡ finished schema left fields (with_taken schema left type_no field (record_at found bytes) t) unknown (drop found.end bytes)
  unfolding with_taken
  taken_came lawful field known taken whole t unknown stop ok =
      taken_goes schema left type_no field.number field t unknown at found.end rest form stop lawful known (ap (takes schema field) (same_record form at bytes) ∙ taken) whole (ap (walked schema left fields found.end) behind ∙ ok)
      ∙ (ap (λ (r : Record). finished schema left fields (with_held schema type_no field.number (taken_put schema [] (onto_left schema left) field (held_at schema type_no field.number t) r field.card) t) unknown (drop form.size rest)) (same_record form at bytes)
      ∙ ap (finished schema left fields (with_held schema type_no field.number (taken_put schema [] (onto_left schema left) field (held_at schema type_no field.number t) (record_at found bytes) field.card) t) unknown) behind)

  -- OTHER RECORDS

  pub left_whole : is_taken schema fields (record_at found bytes) ≡ false → record_left schema left fields at rest ≡ Ok form
  left_whole none = other_whole schema left fields at rest form here (ap (is_taken schema fields) (same_record form at bytes) ∙ none)

  pub left_came : is_taken schema fields (record_at found bytes) ≡ false → (t : Shape) (unknown : List ℕ) (stop : Stop) → walked schema left fields found.end (drop found.end bytes) ≡ Ok stop
      → finished schema left fields t unknown rest ≡ finished schema left fields t (unknown ++ take (found.end - at) rest) (drop found.end bytes)
  left_came none t unknown stop ok =
      let long : form.size ≡ found.end - at = omega arith in
      other_goes schema left fields t unknown at found.end rest form stop (ap (is_taken schema fields) (same_record form at bytes) ∙ none) (left_whole none) (ap (walked schema left fields found.end) behind ∙ ok)
      ∙ (ap (λ n. finished schema left fields t (unknown ++ take n rest) (drop form.size rest)) long
      ∙ ap (finished schema left fields t (unknown ++ take (found.end - at) rest)) behind)

  pub piece_longer : (x : List ℕ) → ((rs : List Record) × Records x rs) → (rs : List Record) × Records (x ++ take (found.end - at) rest) rs
  piece_longer x whole =
      let long : form.size ≡ found.end - at = omega arith in
      subst (λ n. (rs : List Record) × Records (x ++ take n rest) rs) long (piece_more left at x rest form whole here)

-- RECORDS ONE AFTER ANOTHER

pub came_none : (schema : Schema) (left : ℕ) (places : Places) (buffers : Buffers) (msg : MsgRef) (bytes : List ℕ) (at : ℕ) (unknown : List ℕ) (t : Shape) (feet : List Foot) → Stands schema places buffers msg t feet
    → Came schema left places buffers places buffers msg bytes at at unknown unknown t feet
came_none schema left places buffers msg bytes at unknown t feet st = record {
  shape = t;
  stands = stays schema places buffers msg t feet st;
  goes = λ stop ok. refl;
  costs = λ stop ok. nothing_spent schema places buffers (λ meter. rest_cost meter schema left msg.type_no t unknown (drop at bytes)) (λ meter. rest_cost meter schema left msg.type_no t unknown (drop at bytes)) (λ meter grows. refl);
}

pub came_more : (schema : Schema) (left : ℕ) (p0 p1 p2 : Places) (b0 b1 b2 : Buffers) (msg : MsgRef) (bytes : List ℕ) (at mid next : ℕ) (u0 u1 u2 : List ℕ) (t : Shape) (feet : List Foot)
    → ((foot : Foot) → IsSome (foot_bytes p0 b0 foot) → IsSome (foot_bytes p1 b1 foot))
    → (c : Came schema left p0 b0 p1 b1 msg bytes at mid u0 u1 t feet) → Came schema left p1 b1 p2 b2 msg bytes mid next u1 u2 c.shape c.stands.now
    → walked schema left (fields_of schema msg.type_no) mid (drop mid bytes) ≡ walked schema left (fields_of schema msg.type_no) next (drop next bytes)
    → Came schema left p0 b0 p2 b2 msg bytes at next u0 u2 t feet
came_more schema left p0 p1 p2 b0 b1 b2 msg bytes at mid next u0 u1 u2 t feet still c d walk = record {
  shape = d.shape;
  stands = then_stands schema p0 p1 p2 b0 b1 b2 msg c.shape d.shape feet still c.stands d.stands;
  goes = λ stop ok. c.goes stop (walk ∙ ok) ∙ d.goes stop ok;
  costs = λ stop ok. spends_then schema p0 p1 p2 b0 b1 b2
      (λ meter. rest_cost meter schema left msg.type_no t u0 (drop at bytes))
      (λ meter. rest_cost meter schema left msg.type_no c.shape u1 (drop mid bytes))
      (λ meter. rest_cost meter schema left msg.type_no d.shape u2 (drop next bytes))
      (c.costs stop (walk ∙ ok)) (d.costs stop ok);
}

whole_shape : (t : Shape) → Message (fields_held t) (unknown_held t ++ []) ≡ t
whole_shape (Message held unknown) = ap (Message held) (append-nil unknown)

-- at the end the unknown bytes become a piece, where there are any
pub ended : (schema : Schema) (left : ℕ) (fields : List FieldType) (t : Shape) (unknown : List ℕ) → finished schema left fields t unknown [] ≡ Message (fields_held t) (unknown_held t ++ piece unknown)
ended schema left fields t [] = ended_none schema left fields t ∙ sym (whole_shape t)
ended schema left fields t (b ∷ s) = ended_some schema left fields t (b ∷ s) (omega arith)

-- what all records made of a message
pub came_all : (schema : Schema) (left : ℕ) (p0 p1 p2 : Places) (b0 b1 b2 : Buffers) (msg : MsgRef) (bytes : List ℕ) (at next : ℕ) (unknown : List ℕ) (t : Shape) (feet : List Foot)
    → ((foot : Foot) → IsSome (foot_bytes p0 b0 foot) → IsSome (foot_bytes p1 b1 foot))
    → drop next bytes ≡ []
    → (c : Came schema left p0 b0 p1 b1 msg bytes at next [] unknown t feet)
    → NowStands schema p1 b1 p2 b2 msg (Message (fields_held c.shape) (unknown_held c.shape ++ piece unknown)) c.stands.now
    → NowStands schema p0 b0 p2 b2 msg (read_left schema left (fields_of schema msg.type_no) t (drop at bytes)) feet
came_all schema left p0 p1 p2 b0 b1 b2 msg bytes at next unknown t feet still none c put =
    let fields = fields_of schema msg.type_no in
    let over = ap (walked schema left fields next) none ∙ walk_end schema left fields next in
    let all = begun schema left fields t (drop at bytes) ∙ (c.goes (next, next) over ∙ (ap (finished schema left fields c.shape unknown) none ∙ ended schema left fields c.shape unknown)) in
    subst (λ u. NowStands schema p0 b0 p2 b2 msg u feet) (sym all)
    (then_stands schema p0 p1 p2 b0 b1 b2 msg c.shape (Message (fields_held c.shape) (unknown_held c.shape ++ piece unknown)) feet still c.stands put)

-- the same where no bytes are unknown, and none are left
pub came_whole : (schema : Schema) (left : ℕ) (p0 p1 : Places) (b0 b1 : Buffers) (msg : MsgRef) (bytes : List ℕ) (at next : ℕ) (t : Shape) (feet : List Foot)
    → ((foot : Foot) → IsSome (foot_bytes p0 b0 foot) → IsSome (foot_bytes p1 b1 foot))
    → drop next bytes ≡ []
    → (c : Came schema left p0 b0 p1 b1 msg bytes at next [] [] t feet)
    → NowStands schema p0 b0 p1 b1 msg (read_left schema left (fields_of schema msg.type_no) t (drop at bytes)) feet
came_whole schema left p0 p1 b0 b1 msg bytes at next t feet still none c =
    came_all schema left p0 p1 p1 b0 b1 b1 msg bytes at next [] t feet still none c
    (subst (λ u. NowStands schema p1 b1 p1 b1 msg u c.stands.now) (same c.shape) (stays schema p1 b1 msg c.shape c.stands.now c.stands.stands))
  where
    same : (u : Shape) → u ≡ Message (fields_held u) (unknown_held u ++ [])
    same (Message held pieces) = ap (Message held) (sym (append-nil pieces))

-- and then they have no fault
pub walk_whole : (schema : Schema) (left type_no : ℕ) (bytes : List ℕ) (next : ℕ) → drop next bytes ≡ [] → walked schema left (fields_of schema type_no) 0 bytes ≡ walked schema left (fields_of schema type_no) next (drop next bytes)
    → IsOk (walked schema left (fields_of schema type_no) 0 bytes)
walk_whole schema left type_no bytes next none walk =
    let fields = fields_of schema type_no in
    ok_is (walked schema left fields 0 bytes) (next, next) (walk ∙ (ap (walked schema left fields next) none ∙ walk_end schema left fields next))

-- the same where what is left is read by another call
pub came_then : (schema : Schema) (left : ℕ) (p0 p1 p2 : Places) (b0 b1 b2 : Buffers) (msg : MsgRef) (bytes : List ℕ) (at next : ℕ) (t : Shape) (feet : List Foot)
    → ((foot : Foot) → IsSome (foot_bytes p0 b0 foot) → IsSome (foot_bytes p1 b1 foot))
    → IsOk (walked schema left (fields_of schema msg.type_no) next (drop next bytes))
    → (c : Came schema left p0 b0 p1 b1 msg bytes at next [] [] t feet)
    → NowStands schema p1 b1 p2 b2 msg (read_left schema left (fields_of schema msg.type_no) c.shape (drop next bytes)) c.stands.now
    → NowStands schema p0 b0 p2 b2 msg (read_left schema left (fields_of schema msg.type_no) t (drop at bytes)) feet
came_then schema left p0 p1 p2 b0 b1 b2 msg bytes at next t feet still sound c put =
    let fields = fields_of schema msg.type_no in
    let over = some_ok (walked schema left fields next (drop next bytes)) sound in
    let all = begun schema left fields t (drop at bytes) ∙ (c.goes over.0 over.1 ∙ sym (begun schema left fields c.shape (drop next bytes))) in
    subst (λ u. NowStands schema p0 b0 p2 b2 msg u feet) (sym all)
    (then_stands schema p0 p1 p2 b0 b1 b2 msg c.shape (read_left schema left fields c.shape (drop next bytes)) feet still c.stands put)

-- THE SAME OF A RECORD THAT WAS FOUND

module _ (schema : Schema) (left type_no at : ℕ) (bytes : List ℕ) (w : WireRecord) (f : FoundAt left at bytes w) where
  abbrev all : List FieldType
  all = fields_of schema type_no

  pub found_is_for : (field : FieldType) → field_at schema type_no field.number ≡ Some field → takes schema field (record_at w bytes) ≡ true → w.end ≤ length bytes → IsFor schema type_no bytes w field
  found_is_for field known =
      subst (λ (r : WireRecord). takes schema field (record_at r bytes) ≡ true → r.end ≤ length bytes → IsFor schema type_no bytes r field) f.is
      (is_for schema left type_no at bytes f.form f.here field known)

  pub found_walk : (field : FieldType) → field_at schema type_no field.number ≡ Some field → takes schema field (record_at w bytes) ≡ true → IsOk (contents_read schema left field w bytes)
      → walked schema left all at (drop at bytes) ≡ walked schema left all w.end (drop w.end bytes)
  found_walk field known =
      subst (λ (r : WireRecord). takes schema field (record_at r bytes) ≡ true → IsOk (contents_read schema left field r bytes) → walked schema left all at (drop at bytes) ≡ walked schema left all r.end (drop r.end bytes)) f.is
      (λ taken sound. walk_behind schema left type_no at bytes f.form f.here (taken_whole schema left type_no at bytes f.form f.here field known taken sound))

  pub found_broken : (field : FieldType) → field_at schema type_no field.number ≡ Some field → takes schema field (record_at w bytes) ≡ true → drop at bytes ≢ [] → IsErr (contents_read schema left field w bytes) → IsErr (walked schema left all at (drop at bytes))
  found_broken field known =
      subst (λ (r : WireRecord). takes schema field (record_at r bytes) ≡ true → drop at bytes ≢ [] → IsErr (contents_read schema left field r bytes) → IsErr (walked schema left all at (drop at bytes))) f.is
      (taken_broken schema left type_no at bytes f.form f.here field known)

  pub found_goes : Lawful schema → (field : FieldType) → field_at schema type_no field.number ≡ Some field → (t : Shape) (unknown : List ℕ) (stop : Stop) → takes schema field (record_at w bytes) ≡ true → IsOk (contents_read schema left field w bytes)
      → walked schema left all w.end (drop w.end bytes) ≡ Ok stop
      → finished schema left all t unknown (drop at bytes) ≡ finished schema left all (with_taken schema left type_no field (record_at w bytes) t) unknown (drop w.end bytes)
  found_goes lawful field known t unknown stop =
      subst (λ (r : WireRecord). takes schema field (record_at r bytes) ≡ true → IsOk (contents_read schema left field r bytes) → walked schema left all r.end (drop r.end bytes) ≡ Ok stop
      → finished schema left all t unknown (drop at bytes) ≡ finished schema left all (with_taken schema left type_no field (record_at r bytes) t) unknown (drop r.end bytes)) f.is
      (λ taken sound. taken_came schema left type_no at bytes f.form f.here lawful field known taken (taken_whole schema left type_no at bytes f.form f.here field known taken sound) t unknown stop)

  pub other_walk : is_taken schema all (record_at w bytes) ≡ false → walked schema left all at (drop at bytes) ≡ walked schema left all w.end (drop w.end bytes)
  other_walk =
      subst (λ (r : WireRecord). is_taken schema all (record_at r bytes) ≡ false → walked schema left all at (drop at bytes) ≡ walked schema left all r.end (drop r.end bytes)) f.is
      (λ none. walk_behind schema left type_no at bytes f.form f.here (left_whole schema left type_no at bytes f.form f.here none))

  pub other_stays : (t : Shape) (unknown : List ℕ) (stop : Stop) → is_taken schema all (record_at w bytes) ≡ false → walked schema left all w.end (drop w.end bytes) ≡ Ok stop
      → finished schema left all t unknown (drop at bytes) ≡ finished schema left all t (unknown ++ take (w.end - at) (drop at bytes)) (drop w.end bytes)
  other_stays t unknown stop =
      subst (λ (r : WireRecord). is_taken schema all (record_at r bytes) ≡ false → walked schema left all r.end (drop r.end bytes) ≡ Ok stop
      → finished schema left all t unknown (drop at bytes) ≡ finished schema left all t (unknown ++ take (r.end - at) (drop at bytes)) (drop r.end bytes)) f.is
      (λ none. left_came schema left type_no at bytes f.form f.here none t unknown stop)

  pub other_piece : (x : List ℕ) → ((rs : List Record) × Records x rs) → (rs : List Record) × Records (x ++ take (w.end - at) (drop at bytes)) rs
  other_piece x =
      subst (λ (r : WireRecord). ((rs : List Record) × Records x rs) → (rs : List Record) × Records (x ++ take (r.end - at) (drop at bytes)) rs) f.is
      (piece_longer schema left type_no at bytes f.form f.here x)
