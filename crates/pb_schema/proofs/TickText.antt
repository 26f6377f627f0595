-- What is written for a message of `pb.Tick` is read back, its unknown bytes too.
use Rattle.std.proofs.Common.{◌≡◌, ℕ, zero, suc, ◌^◌, ◌<◌, List, [], ◌∷◌, ◌++◌, Bool, true, false, cond, ◌&&◌, ◌||◌, eqb, Option, None, Some, refl, sym, ap, ◌∙◌, subst, arith, append-nil, ⊎_elim}
use Rattle.std.specs.List.{filter, concat}
use Rattle.std.proofs.lemmas.Bool.{ne_eqb, cases_eq}
use Rattle.pb_schema.specs.declared.kind.FieldType.{FieldType}
use Rattle.pb_schema.specs.declared.wire_fault.WireFault.{WireFault}
use Rattle.pb_schema.specs.Varint.{Varint, tag_bytes, value_bytes, varint_of}
use Rattle.pb_schema.specs.Tag.{IsTag, tag_of}
use Rattle.pb_schema.specs.Reads.{fault_read}
use Rattle.pb_schema.specs.Fits.{Contents, Anything, Numbers, contents_of, takes, fields_of}
use Rattle.pb_schema.specs.Walk.{in_message, read_contents, deeper_left}
use Rattle.pb_schema.specs.Broken.{broken_of, most_levels}
use Rattle.pb_schema.specs.Records.{Record, IsRecord, AreRecords, RecordsWithin}
use Rattle.pb_schema.specs.Tree.{Held, Nothing, One, Many, Number, Bytes, Sub, Tree, Message, NoFields, FieldAnd}
use Rattle.pb_schema.specs.TreeOf.{tree_of, tree_left, gathered, or_none, number_in, unknown_of, unless_default, last_held, Nest}
use Rattle.pb_schema.specs.Fitted.{NoneTaken, Fitted}
use Rattle.pb_schema.specs.Text.{text_of}
use Rattle.pb_schema.specs.Builtin.{builtin, tick_type, field}
use Rattle.pb_schema.specs.declared.kind.Kind.TheVariants as kinds
use Rattle.pb_schema.specs.declared.kind.Card.TheVariants as cards
use Rattle.pb_schema.proofs.Steps.{length-varint_of}
use Rattle.pb_schema.proofs.VarintLaws.{varint_of_is}
use Rattle.pb_schema.proofs.WalkSteps.{walk_left_is}
use Rattle.pb_schema.proofs.RecordsFront.{records_of_spans}
use Rattle.pb_schema.proofs.SoundRecords.{Finds, Holds, sound_walk}
use Rattle.pb_schema.proofs.Runs.{Each}

abbrev fields : List FieldType
fields = tick_type.fields

-- the one field asks nothing of a payload
either_is : (b : Bool) (asked : Contents) → asked ≡ Anything → cond b asked Anything ≡ Anything
either_is true asked e = e
either_is false asked e = refl

packed_is_none : (b : Bool) → cond (b && false) (Numbers 0) Anything ≡ Anything
packed_is_none true = refl
packed_is_none false = refl

pub tick_asks_nothing : (r : Record) → contents_of builtin tick_type.fields r ≡ Anything
tick_asks_nothing r =
    ⊎_elim
    (λ (two : r.wire ≡ 2). subst (λ w. cond (eqb 1 r.number && (eqb w 0 || (eqb w 2 && false))) (cond (eqb w 2) (Numbers 0) Anything) Anything ≡ Anything) (sym two) (packed_is_none (eqb 1 r.number)))
    (λ other. either_is _ _ (ap (λ c. cond c (Numbers 0) Anything) (ne_eqb r.wire 2 other)))
    (cases_eq r.wire 2)

all_hold : (rs : List Record) → Each (Holds builtin most_levels fields) rs
all_hold [] = tt
all_hold (r ∷ rs) =
    (λ other. (0, 0, subst (λ c. Finds (read_contents builtin (deeper_left builtin most_levels) 0 0 r.payload c)) (sym (tick_asks_nothing r)) (0, refl)), all_hold rs)

no_fault : (rs : List Record) (s : List ℕ) → RecordsWithin most_levels s rs → broken_of builtin 0 0 s ≡ None
no_fault rs s are =
    let walked = sound_walk builtin most_levels fields 0 s (record { rs = rs; are = are; hold = all_hold rs }) in
    ap fault_read (walk_left_is builtin most_levels 0 (in_message fields) 0 s ∙ walked.1)

-- RECORDS THAT DON'T FIT

abbrev takes_it : Record → Bool
takes_it r = takes builtin (field 1 kinds.UInt64 cards.Implicit) r

or_false : (b : Bool) → (b || false) ≡ b
or_false true = refl
or_false false = refl

none_taken : (rs : List Record) → NoneTaken builtin fields rs → filter takes_it rs ≡ []
none_taken [] p = refl
none_taken (r ∷ rs) p = ap (λ b. cond b (r ∷ filter takes_it rs) (filter takes_it rs)) (sym (or_false (takes_it r)) ∙ p.0) ∙ none_taken rs p.1

all_unknown : (rs : List Record) (s : List ℕ) → NoneTaken builtin fields rs → RecordsWithin most_levels s rs → unknown_of builtin fields rs ≡ s
all_unknown [] s p are = sym are
all_unknown (r ∷ rs) s p are =
    ap (λ b. cond b [] r.span ++ unknown_of builtin fields rs) p.0 ∙ (ap (λ x. r.span ++ x) (all_unknown rs are.0 p.1 are.3) ∙ sym are.2)

-- THE FIELD'S RECORD

tick_record : ℕ → Record
tick_record v = record { number = 1; wire = 0; payload = varint_of v; span = varint_of (tag_of 1 0) ++ varint_of v }

value_spelled : (v : ℕ) → v < 2 ^ 64 → Varint (varint_of v) value_bytes v
value_spelled v h = varint_of_is v value_bytes h (length-varint_of v)

is_record : (v : ℕ) → v < 2 ^ 64 → IsRecord (AreRecords most_levels) (tick_record v)
unfolding tick_record
is_record v h =
    let tag : IsTag (varint_of (tag_of 1 0)) 1 0 = record { varint = varint_of_is 8 tag_bytes (omega arith) (omega arith); below = omega arith; least = omega arith; most = omega arith; wire_type = omega arith } in
    (varint_of (tag_of 1 0), varint_of v, tag, (v, value_spelled v h, refl), refl)

-- TREES

abbrev tree_unless : List ℕ → Option WireFault → Option Tree
tree_unless s o = elim o [ None ↦ Some (tree_left builtin most_levels (fields_of builtin 0) s) | Some fault ↦ None ]

-- the tree of records, by what is taken and what isn't
tree_is : (rs : List Record) (s : List ℕ) (held : Held) (unknown : List ℕ) → RecordsWithin most_levels s rs → unless_default (last_held (λ r. Number (number_in 0 r.payload)) (filter takes_it rs)) ≡ held → unknown_of builtin fields rs ≡ unknown
    → tree_of builtin 0 s ≡ Some (Message (FieldAnd held NoFields) unknown)
tree_is rs s held unknown are value rest =
    let nest : Nest (List ℕ) = λ type_no payloads. tree_left builtin 99 (fields_of builtin type_no) (concat payloads) in
    ap (tree_unless s) (no_fault rs s are)
    ∙ (ap (λ o. Some (gathered builtin nest fields (or_none o) (unknown_of builtin fields (or_none o)))) (records_of_spans 100 rs s are)
    ∙ (ap (λ h. Some (Message (FieldAnd h NoFields) (unknown_of builtin fields rs))) value ∙ ap (λ u. Some (Message (FieldAnd held NoFields) u)) rest))

none_read : (unknown : List ℕ) (rs : List Record) → RecordsWithin most_levels unknown rs → NoneTaken builtin fields rs → tree_of builtin 0 unknown ≡ Some (Message (FieldAnd Nothing NoFields) unknown)
none_read unknown rs are none =
    tree_is rs unknown Nothing unknown are (ap (λ xs. unless_default (last_held (λ r. Number (number_in 0 r.payload)) xs)) (none_taken rs none)) (all_unknown rs unknown none are)

one_read : (v : ℕ) (unknown : List ℕ) (rs : List Record) → suc v < 2 ^ 64 → RecordsWithin most_levels unknown rs → NoneTaken builtin fields rs
    → tree_of builtin 0 ((varint_of (tag_of 1 0) ++ varint_of (suc v)) ++ unknown) ≡ Some (Message (FieldAnd (One (Number (suc v))) NoFields) unknown)
unfolding tick_record
one_read v unknown rs h are none =
    let r = tick_record (suc v) in
    let s = r.span ++ unknown in
    tree_is (r ∷ rs) s (One (Number (suc v))) unknown (unknown, is_record (suc v) h, refl, are)
    (ap (λ xs. unless_default (last_held (λ r. Number (number_in 0 r.payload)) (r ∷ xs))) (none_taken rs none) ∙ ap (λ n. unless_default (One (Number n))) (sym (value_spelled (suc v) h).value))
    (all_unknown rs unknown none are)

pub tick_read_back : (t : Tree) → Fitted builtin 0 t → tree_of builtin 0 (text_of builtin 0 t) ≡ Some t
tick_read_back (Message NoFields unknown) p = absurd p.fits.0
tick_read_back (Message (FieldAnd held (FieldAnd other rest)) unknown) p = absurd p.fits.0.3
tick_read_back (Message (FieldAnd Nothing NoFields) unknown) p = none_read unknown p.fits.1.0 p.fits.1.1 p.fits.1.2
tick_read_back (Message (FieldAnd (One (Number zero)) NoFields) unknown) p = absurd (omega (arith, p.fits.0.0))
tick_read_back (Message (FieldAnd (One (Number (suc v))) NoFields) unknown) p =
    ap (tree_of builtin 0) (ap (λ x. x ++ unknown) (append-nil (varint_of (tag_of 1 0) ++ varint_of (suc v)))) ∙ one_read v unknown p.fits.1.0 p.fits.0.1 p.fits.1.1 p.fits.1.2
tick_read_back (Message (FieldAnd (One (Bytes s)) NoFields) unknown) p = absurd p.fits.0.1
tick_read_back (Message (FieldAnd (One (Sub t)) NoFields) unknown) p = absurd p.fits.0.1
tick_read_back (Message (FieldAnd (Many _) NoFields) unknown) p = absurd p.fits.0.0
