-- A tree that is decoded is one that a message of its type may be; and what a payload without a fault holds.
use Rattle.std.proofs.Common.{◌≡◌, ◌≢◌, ℕ, zero, suc, ◌+◌, ◌-◌, ◌<◌, ◌≤◌, List, [], ◌∷◌, ◌++◌, Bool, true, false, not, cond, Option, None, Some, Result, refl, sym, ap, ◌∙◌, subst, arith}
use Rattle.std.specs.Prelude.{filter, flat_map, All}
use Rattle.std.specs.List.{concat}
use Rattle.std.proofs.lemmas.Bool.{false≢true}
use Rattle.std.proofs.lemmas.List.Elements.{All-nil, All-cons}
use Rattle.std.proofs.lemmas.Option.{none-some, same_Some}
use Rattle.pb_schema.specs.declared.kind.FieldType.{FieldType}
use Rattle.pb_schema.specs.declared.schema.MessageType.{MessageType}
use Rattle.pb_schema.specs.declared.schema.Schema.{Schema}
use Rattle.pb_schema.specs.declared.wire_fault.WireKind.TheVariants.{TooDeep}
use Rattle.pb_schema.specs.declared.wire_fault.WireFault.{WireFault}
use Rattle.pb_schema.specs.Reads.{fault_read}
use Rattle.pb_schema.specs.Fits.{Message, is_taken, fields_among, fields_of, contents_of}
use Rattle.pb_schema.specs.Walk.{in_message, Stop, read_contents, deeper_left, walk_left}
use Rattle.pb_schema.specs.Records.{Record, IsRecord, Spans, AreRecords, RecordsWithin}
use Rattle.pb_schema.specs.Broken.{most_levels, broken_of}
use Rattle.pb_schema.specs.Fault.{fault_of}
use Rattle.pb_schema.specs.Depth.{depth_of}
use Rattle.pb_schema.specs.Tree.{Tree}
use Rattle.pb_schema.specs.Empty.{empty_with}
use Rattle.pb_schema.specs.TreeOf.{Nest, gathered, or_none, records_in, unknown_of, tree_left, tree_of}
use Rattle.pb_schema.specs.Fitted.{NoneTaken, IsUnknown, MessageFits, Fitted}
use Rattle.pb_schema.specs.Lawful.{NumbersAscend, TypesAllowed, Lawful}
use Rattle.pb_schema.proofs.FormLaws.{not_ok}
use Rattle.pb_schema.proofs.WalkSteps.{walk_left_is}
use Rattle.pb_schema.proofs.FitsLaws.{group_holds_anything, not_anything}
use Rattle.pb_schema.proofs.Runs.{Each, each_filter, each_same}
use Rattle.pb_schema.proofs.RecordsFront.{records_of_spans, spells_with}
use Rattle.pb_schema.proofs.FaultLaws.{walk_ok}
use Rattle.pb_schema.proofs.SoundRecords.{Finds, Holds, Sound, walk_sound, sound_walk, sound_join, deeper_is}
use Rattle.pb_schema.proofs.Gathering.{Base, owns, Fine, fine_concat, NestFits, fields_fit}

-- THE UNKNOWN BYTES

-- more levels allow what fewer allow
spans_with : (A B : List ℕ → Type 0) → ((s : List ℕ) → A s → B s) → (rs : List Record) (s : List ℕ) → Spans A rs s → Spans B rs s
spans_with A B f [] s p = p
spans_with A B f (r ∷ rs) s p =
    let q = p.1 in
    (p.0, (q.0, q.1, q.2, spells_with A B r.number r.wire r.payload q.1 q.3 (λ wire. f r.payload), q.4), p.2, spans_with A B f rs p.0 p.3)

levels_more : (few more : ℕ) → few ≤ more → (s : List ℕ) → AreRecords few s → AreRecords more s
levels_more zero more h s p = absurd p
levels_more (suc few) zero h s p = absurd (omega (arith, h))
levels_more (suc few) (suc more) h s p = (p.0, spans_with (AreRecords few) (AreRecords more) (levels_more few more (omega (arith, h))) p.0 s p.1)

spans_of : (A : List ℕ → Type 0) (rs : List Record) → Each (IsRecord A) rs → Spans A rs (flat_map (λ r. r.span) rs)
spans_of A [] p = refl
spans_of A (r ∷ rs) p = (flat_map (λ r. r.span) rs, p.0, refl, spans_of A rs p.1)

-- the unknown bytes are the spans of the records that no field takes
pub unknown_spans : (schema : Schema) (fields : List FieldType) (rs : List Record) → unknown_of schema fields rs ≡ flat_map (λ r. r.span) (filter (λ r. not (is_taken schema fields r)) rs)
unknown_spans schema fields [] = refl
unknown_spans schema fields (r ∷ rs) = pick (is_taken schema fields r) (unknown_spans schema fields rs)
  where
    rest : List Record
    rest = filter (λ r. not (is_taken schema fields r)) rs

    pick : (t : Bool) → unknown_of schema fields rs ≡ flat_map (λ r. r.span) (filter (λ r. not (is_taken schema fields r)) rs) → cond t [] r.span ++ unknown_of schema fields rs ≡ flat_map (λ r. r.span) (cond (not t) (r ∷ filter (λ r. not (is_taken schema fields r)) rs) (filter (λ r. not (is_taken schema fields r)) rs))
    pick true e = e
    pick false e = ap (λ x. r.span ++ x) e

none_taken : (schema : Schema) (fields : List FieldType) (rs : List Record) → Each (λ r. not (is_taken schema fields r) ≡ true) rs → NoneTaken schema fields rs
none_taken schema fields [] p = tt
none_taken schema fields (r ∷ rs) p = (unless (is_taken schema fields r) p.0, none_taken schema fields rs p.1)
  where
    unless : (b : Bool) → not b ≡ true → b ≡ false
    unless true e = absurd (false≢true e)
    unless false e = refl

unknown_fits : (schema : Schema) (left : ℕ) (fields : List FieldType) (rs : List Record) → left ≤ most_levels → Each (Base schema left fields) rs → IsUnknown schema fields (unknown_of schema fields rs)
unknown_fits schema left fields rs h base =
    let test : Record → Bool = λ r. not (is_taken schema fields r) in
    let kept = each_filter (Base schema left fields) test rs base in
    let qs = filter test rs in
    let are = each_same (λ r. Base schema left fields r × (test r ≡ true)) (IsRecord (AreRecords left)) qs (λ r p. p.0.0) kept in
    let none = each_same (λ r. Base schema left fields r × (test r ≡ true)) (λ r. test r ≡ true) qs (λ r p. p.1) kept in
    subst (IsUnknown schema fields) (sym (unknown_spans schema fields rs))
    (qs, spans_with (AreRecords left) (AreRecords most_levels) (levels_more left most_levels h) qs (flat_map (λ r. r.span) qs) (spans_of (AreRecords left) qs are), none_taken schema fields qs none)

-- MESSAGES

pub each_base : (schema : Schema) (left : ℕ) (fields : List FieldType) (rs : List Record) (s : List ℕ) → RecordsWithin left s rs → Each (Holds schema left fields) rs → Each (Base schema left fields) rs
each_base schema left fields [] s are hold = tt
each_base schema left fields (r ∷ rs) s are hold = ((are.1, hold.0), each_base schema left fields rs are.0 are.3 hold.1)

-- the records of a sound payload are those that are gathered
pub sound_records : (schema : Schema) (left : ℕ) (fields : List FieldType) (s : List ℕ) → (p : Sound schema left fields s) → records_in left s ≡ p.rs
sound_records schema left fields s p = ap or_none (records_of_spans left p.rs s p.are)

gathered_fits : (schema : Schema) (left : ℕ) (nest : Nest (List ℕ)) → NestFits schema left nest → left ≤ most_levels → (fields : List FieldType) → NumbersAscend 1 fields → (s : List ℕ) → Sound schema left fields s → MessageFits schema fields (gathered schema nest fields (records_in left s) (unknown_of schema fields (records_in left s))) × (depth_of (gathered schema nest fields (records_in left s) (unknown_of schema fields (records_in left s))) ≤ left)
gathered_fits schema left nest fine h fields ascend s sound =
    let rs = sound.rs in
    let base = each_base schema left fields rs s sound.are sound.hold in
    let found = fields_fit schema left nest fine fields rs base 1 fields ascend (owns schema 1 fields ascend) in
    subst (λ qs. MessageFits schema fields (gathered schema nest fields qs (unknown_of schema fields qs)) × (depth_of (gathered schema nest fields qs (unknown_of schema fields qs)) ≤ left)) (sym (sound_records schema left fields s sound))
    ((found.0, unknown_fits schema left fields rs h base), found.1)

abbrev pub AllAscend : Schema → Type 0
AllAscend schema = (type_no : ℕ) → NumbersAscend 1 (fields_of schema type_no)

-- a message one level deeper is sound
pub fine_sound : (schema : Schema) (left type_no : ℕ) (payload : List ℕ) → Fine schema (suc left) type_no payload → Sound schema left (fields_of schema type_no) payload
fine_sound schema left type_no payload p =
    let fields = fields_of schema type_no in
    walk_sound schema left fields 0 p.1 payload p.2.0 (sym (walk_left_is schema left p.0 (in_message fields) p.1 payload) ∙ p.2.1)

tree_fits : (schema : Schema) → AllAscend schema → (left : ℕ) → left ≤ most_levels → (type_no : ℕ) (s : List ℕ) → Sound schema left (fields_of schema type_no) s → MessageFits schema (fields_of schema type_no) (tree_left schema left (fields_of schema type_no) s) × (depth_of (tree_left schema left (fields_of schema type_no) s) ≤ left)
tree_fits schema ascend zero h type_no s sound =
    gathered_fits schema 0 (λ inner payloads. empty_with [] (fields_of schema inner)) (λ inner first more p. not_ok (record { kind = TooDeep; byte = p.0.0 }) p.0.2.0 p.0.2.1) h (fields_of schema type_no) (ascend type_no) s sound
tree_fits schema ascend (suc left) h type_no s sound =
    gathered_fits schema (suc left) (λ inner payloads. tree_left schema left (fields_of schema inner) (concat payloads))
    (λ inner first more p.
    let payload = concat (first ∷ more) in
    let fits = tree_fits schema ascend left (omega (arith, h)) inner payload (fine_sound schema left inner payload (fine_concat schema (suc left) inner first more p)) in
    (fits.0, omega (arith, fits.1)))
    h (fields_of schema type_no) (ascend type_no) s sound

ascend_among : (count : ℕ) (types : List MessageType) → TypesAllowed count types → (type_no : ℕ) → NumbersAscend 1 (fields_among types type_no)
ascend_among count [] p type_no = tt
ascend_among count (type ∷ types) p zero = p.0.numbers
ascend_among count (type ∷ types) p (suc type_no) = ascend_among count types p.1 type_no

pub all_ascend : (schema : Schema) → Lawful schema → AllAscend schema
all_ascend schema lawful = λ type_no. ascend_among _ schema.types lawful.types type_no

-- a payload without a fault in its bytes
pub no_fault_sound : (schema : Schema) (type_no depth : ℕ) (s : List ℕ) → broken_of schema type_no depth s ≡ None → Sound schema (most_levels - depth) (fields_of schema type_no) s
no_fault_sound schema type_no depth s e =
    let left = most_levels - depth in
    let inside = in_message (fields_of schema type_no) in
    let ok = walk_ok (walk_left schema left 0 inside 0 s) e in
    walk_sound schema left (fields_of schema type_no) 0 0 s ok.0 (sym (walk_left_is schema left 0 inside 0 s) ∙ ok.1)

abbrev pub tree_unless : Schema → ℕ → List ℕ → Option WireFault → Option Tree
tree_unless schema type_no s o = elim o [ None ↦ Some (tree_left schema most_levels (fields_of schema type_no) s) | Some fault ↦ None ]

pub tree_is : (schema : Schema) (type_no : ℕ) (s : List ℕ) (t : Tree) (o : Option WireFault) → tree_unless schema type_no s o ≡ Some t → (o ≡ None) × (tree_left schema most_levels (fields_of schema type_no) s ≡ t)
tree_is schema type_no s t None e = (refl, same_Some (tree_left schema most_levels (fields_of schema type_no) s) t e)
tree_is schema type_no s t (Some d) e = absurd (none-some t e)

pub decoded_fits : (schema : Schema) (type_no : ℕ) (s : List ℕ) (t : Tree) → Lawful schema → tree_of schema type_no s ≡ Some t → Fitted schema type_no t
decoded_fits schema type_no s t lawful e =
    let is = tree_is schema type_no s t (broken_of schema type_no 0 s) e in
    let fits = tree_fits schema (all_ascend schema lawful) most_levels (omega arith) type_no s (no_fault_sound schema type_no 0 s is.0) in
    subst (Fitted schema type_no) is.1 (record { fits = fits.0; depth = fits.1 })

-- WHAT A PAYLOAD WITHOUT A FAULT HOLDS

pub records_at : (schema : Schema) (type_no depth : ℕ) (s : List ℕ) → fault_of schema type_no depth s ≡ None → (rs : List Record) × RecordsWithin (most_levels - depth) s rs
records_at schema type_no depth s e = let sound = no_fault_sound schema type_no depth s e in (sound.rs, sound.are)

walk_none : (r : Result Stop WireFault) → Finds r → fault_read r ≡ None
walk_none r found = ap fault_read found.1

-- sound bytes have no fault
pub sound_unbroken : (schema : Schema) (type_no depth : ℕ) (s : List ℕ) → Sound schema (most_levels - depth) (fields_of schema type_no) s → broken_of schema type_no depth s ≡ None
sound_unbroken schema type_no depth s p =
    let left = most_levels - depth in
    let fields = fields_of schema type_no in
    ap fault_read (walk_left_is schema left 0 (in_message fields) 0 s ∙ (sound_walk schema left fields 0 s p).1)

-- one payload behind the other
pub together : (schema : Schema) (type_no depth : ℕ) (s t : List ℕ) → fault_of schema type_no depth s ≡ None → fault_of schema type_no depth t ≡ None → fault_of schema type_no depth (s ++ t) ≡ None
together schema type_no depth s t p q =
    sound_unbroken schema type_no depth (s ++ t)
    (sound_join schema (most_levels - depth) (fields_of schema type_no) s t (no_fault_sound schema type_no depth s p) (no_fault_sound schema type_no depth t q))

-- a message one level deeper has no fault
deeper_none : (schema : Schema) (left type_no tag at : ℕ) (payload : List ℕ) → Finds (deeper_left schema left tag (in_message (fields_of schema type_no)) at payload) → (0 < left) × (fault_read (walk_left schema (left - 1) 0 (in_message (fields_of schema type_no)) 0 payload) ≡ None)
deeper_none schema zero type_no tag at payload found = not_ok (record { kind = TooDeep; byte = tag }) found.0 found.1
deeper_none schema (suc left) type_no tag at payload found =
    let fields = fields_of schema type_no in
    let again = sound_walk schema left fields 0 payload (fine_sound schema left type_no payload (tag, at, found)) in
    let one : left ≡ suc left - 1 = omega arith in
    (omega arith, subst (λ n. fault_read (walk_left schema n 0 (in_message fields) 0 payload) ≡ None) one (ap fault_read (walk_left_is schema left 0 (in_message fields) 0 payload ∙ again.1)))

abbrev pub NestedWhole : Schema → ℕ → ℕ → Record → Type 0
NestedWhole schema type_no depth r = (inner : ℕ) → contents_of schema (fields_of schema type_no) r ≡ Message inner → (depth < most_levels) × (fault_of schema inner (depth + 1) r.payload ≡ None)

record_whole : (schema : Schema) (type_no depth : ℕ) (r : Record) → Holds schema (most_levels - depth) (fields_of schema type_no) r → NestedWhole schema type_no depth r
record_whole schema type_no depth r holds = λ inner e.
    let left = most_levels - depth in
    let other : r.wire ≢ 3 = λ three. absurd (not_anything inner (sym (group_holds_anything schema (fields_of schema type_no) r three) ∙ e)) in
    let held = holds other in
    let read = subst (λ c. Finds (read_contents schema (deeper_left schema left) held.0 held.1 r.payload c)) e held.2 in
    deeper_is schema (deeper_left schema left) held.0 held.1 r.payload inner read
    λ found.
    let none = deeper_none schema left inner held.0 held.1 r.payload found in
    let one : left - 1 ≡ most_levels - (depth + 1) = omega arith in
    (omega (arith, none.0), subst (λ n. fault_read (walk_left schema n 0 (in_message (fields_of schema inner)) 0 r.payload) ≡ None) one none.1)

all_whole : (schema : Schema) (type_no depth : ℕ) (rs : List Record) → Each (Holds schema (most_levels - depth) (fields_of schema type_no)) rs → All (NestedWhole schema type_no depth) rs
all_whole schema type_no depth [] p = All-nil (NestedWhole schema type_no depth)
all_whole schema type_no depth (r ∷ rs) p = All-cons (NestedWhole schema type_no depth) r rs (record_whole schema type_no depth r p.0) (all_whole schema type_no depth rs p.1)

pub nested_whole : (schema : Schema) (type_no depth : ℕ) (s : List ℕ) (rs : List Record) → fault_of schema type_no depth s ≡ None → RecordsWithin (most_levels - depth) s rs → All (NestedWhole schema type_no depth) rs
nested_whole schema type_no depth s rs e are =
    let sound = no_fault_sound schema type_no depth s e in
    let left = most_levels - depth in
    let same : sound.rs ≡ rs = same_Some sound.rs rs (sym (records_of_spans left sound.rs s sound.are) ∙ records_of_spans left rs s are) in
    subst (λ qs. All (NestedWhole schema type_no depth) qs) same (all_whole schema type_no depth sound.rs sound.hold)
