-- A text appended to a payload merges: what its records, put one after another, leave in each field is what merging the text's tree leaves there.
use Rattle.std.proofs.Common.{◌≡◌, ◌≢◌, ◌⊎◌, inl, inr, ℕ, zero, suc, ◌+◌, List, [], ◌∷◌, ◌++◌, Bool, true, false, cond, eqb, ◌&&◌, ◌||◌, Some, refl, sym, ap, ◌∙◌, subst}
use Rattle.std.specs.Prelude.{IsSome, flat_map}
use Rattle.std.specs.List.{fold, list_any}
use Rattle.std.proofs.lemmas.Bool.{false≢true, eq-eqb, eqb-true}
use Rattle.std.proofs.lemmas.List.Sums.{fold-append}
use Rattle.pb_schema.specs.declared.kind.Card.{Card}
use Rattle.pb_schema.specs.declared.kind.Card.TheVariants as cards
use Rattle.pb_schema.specs.declared.kind.FieldType.{FieldType}
use Rattle.pb_schema.specs.declared.schema.MessageType.{MessageType}
use Rattle.pb_schema.specs.declared.schema.Schema.{Schema}
use Rattle.pb_schema.specs.declared.wire_fault.WireKind.TheVariants.{TooDeep}
use Rattle.pb_schema.specs.Kinds.{ValueType, Scalar, Characters, Octets, Nested, value_type_of, is_number}
use Rattle.pb_schema.specs.Cards.{is_member, is_packed, is_repeated}
use Rattle.pb_schema.specs.Fits.{takes, is_taken, is_packable, wire_of, fields_among, fields_of}
use Rattle.pb_schema.specs.Records.{Record}
use Rattle.pb_schema.specs.Broken.{most_levels}
use Rattle.pb_schema.specs.Tree.{Held, Nothing, One, Many, Tree, Message, ValueList, NoValues, ValueAnd, HeldList, NoFields, FieldAnd}
use Rattle.pb_schema.specs.Merge.{is_set, sets_member, is_replaced, held_merged, fields_merged, message_merged, merge_of}
use Rattle.pb_schema.specs.TreeOf.{is_of_oneof, unknown_of, records_in, tree_of}
use Rattle.pb_schema.specs.Text.{values_text, message_text, text_of}
use Rattle.pb_schema.specs.Fitted.{IsHeldBy, IsAlone, HeldFits, FieldsFit, MessageFits, Fitted, NoneTaken}
use Rattle.pb_schema.specs.Lawful.{NumbersAscend, CardAllowed, FieldsAllowed, TypesAllowed, Lawful}
use Rattle.pb_schema.specs.Put.{Onto, other_put, held_put, fields_put, put, read_into}
use Rattle.pb_schema.proofs.FormLaws.{not_ok}
use Rattle.pb_schema.proofs.FitsLaws.{taken_by, not_taken}
use Rattle.pb_schema.proofs.Runs.{Each}
use Rattle.pb_schema.proofs.SoundRecords.{Sound}
use Rattle.pb_schema.proofs.Gathering.{Own, owns, EachField, others, Base, Taken, taken, message_fine}
use Rattle.pb_schema.proofs.FaultLaws.{no_fault_then}
use Rattle.pb_schema.proofs.FittedLaws.{AllAscend, all_ascend, each_base, sound_records, fine_sound, no_fault_sound, decoded_fits}
use Rattle.pb_schema.proofs.AppendLaws.{fault_behind}
use Rattle.pb_schema.proofs.TextCuts.{OfList, OfPacked, OfMany, OfHeld, Parts, parts_cut}
use Rattle.pb_schema.proofs.PutText.{behind, Merges, FineBy, column, put_other, Mine, PacksNumbers, own_field}
use Rattle.pb_schema.proofs.PutLaws.{tree_more}

-- THE RECORDS OF A FIELD ARE ITS OWN

or_true : (a b : Bool) → b ≡ true → (a || b) ≡ true
or_true true b e = refl
or_true false b e = e

-- with the field's number and wire type, or packed
pub takes_own : (schema : Schema) (field : FieldType) (r : Record) → r.number ≡ field.number → r.wire ≡ wire_of field → takes schema field r ≡ true
takes_own schema field r n w =
    ap (λ b. b && (eqb r.wire (wire_of field) || (eqb r.wire 2 && is_packable field))) (eq-eqb field.number r.number (sym n))
    ∙ ap (λ b. b || (eqb r.wire 2 && is_packable field)) (eq-eqb r.wire (wire_of field) w)

pub takes_packed : (schema : Schema) (field : FieldType) (r : Record) → r.number ≡ field.number → r.wire ≡ 2 → is_packable field ≡ true → takes schema field r ≡ true
takes_packed schema field r n w p =
    ap (λ b. b && (eqb r.wire (wire_of field) || (eqb r.wire 2 && is_packable field))) (eq-eqb field.number r.number (sym n))
    ∙ or_true (eqb r.wire (wire_of field)) (eqb r.wire 2 && is_packable field) (ap (λ b. b && is_packable field) (eq-eqb r.wire 2 w) ∙ p)

packed_repeats : (card : Card) → is_packed card ≡ true → is_repeated card ≡ true
packed_repeats (cards.Repeated packed) e = refl
packed_repeats cards.Implicit e = absurd (false≢true e)
packed_repeats cards.Explicit e = absurd (false≢true e)
packed_repeats (cards.Member oneof) e = absurd (false≢true e)

pub packable : (field : FieldType) → PacksNumbers field → is_packed field.card ≡ true → is_packable field ≡ true
packable field packs e = ap (λ b. b && is_repeated field.card) (packs e) ∙ packed_repeats field.card e

abbrev AreTaken : Schema → FieldType → List Record → Type 0
AreTaken schema field rs = Each (λ r. takes schema field r ≡ true) rs

list_taken : (schema : Schema) (field : FieldType) (values : ValueList) (rs : List Record) → OfList schema field values rs → AreTaken schema field rs
list_taken schema field NoValues rs of = subst (AreTaken schema field) (sym of) tt
list_taken schema field (ValueAnd value more) rs of =
    subst (AreTaken schema field) (sym of.2) (takes_own schema field of.0 of.3.number_is of.3.wire_is, list_taken schema field more of.1 of.4)

packed_taken : (schema : Schema) (field : FieldType) → is_packable field ≡ true → (s : List ℕ) (rs : List Record) → OfPacked field s rs → AreTaken schema field rs
packed_taken schema field p [] rs of = subst (AreTaken schema field) (sym of) tt
packed_taken schema field p (b ∷ s) rs of = subst (AreTaken schema field) (sym of.1) (takes_packed schema field of.0 of.2.number_is of.2.wire_is p, tt)

of_taken : (schema : Schema) (field : FieldType) → PacksNumbers field → (held : Held) (rs : List Record) → OfHeld schema field held rs → AreTaken schema field rs
of_taken schema field packs Nothing rs of = subst (AreTaken schema field) (sym of) tt
of_taken schema field packs (One value) rs of = subst (AreTaken schema field) (sym of.1) (takes_own schema field of.0 of.2.number_is of.2.wire_is, tt)
of_taken schema field packs (Many more) rs of = pick (is_packed field.card) refl of
  where
    pick : (packed : Bool) → is_packed field.card ≡ packed → OfMany schema field more rs packed → AreTaken schema field rs
    pick true e of = packed_taken schema field (packable field packs e) (values_text schema field [] more) rs of
    pick false e of = list_taken schema field more rs of

-- a message that the field takes has no fault
pub fine_by : (schema : Schema) (left : ℕ) (type : ValueType) (repeated : Bool) (r : Record) → Taken schema left type repeated r → FineBy schema left type r.payload
fine_by schema left (Scalar coding) repeated r p = tt
fine_by schema left Characters repeated r p = tt
fine_by schema left Octets repeated r p = tt
fine_by schema left (Nested type_no) repeated r p = message_fine schema left repeated type_no r p

each_mine : (schema : Schema) (left : ℕ) (all : List FieldType) (field : FieldType) → Own schema all field → (rs : List Record) → Each (Base schema left all) rs → AreTaken schema field rs → Each (Mine schema left field) rs
each_mine schema left all field own [] base are = tt
each_mine schema left all field own (r ∷ rs) base are =
    ((are.0, fine_by schema left (value_type_of field.kind) (is_repeated field.card) r (taken schema left all field r own base.0 are.0)), each_mine schema left all field own rs base.1 are.1)

each_split : (P : Record → Type 0) (xs ys : List Record) → Each P (xs ++ ys) → Each P xs × Each P ys
each_split P [] ys p = (tt, p)
each_split P (x ∷ xs) ys p = let rest = each_split P xs ys p.1 in ((p.0, rest.0), rest.1)

-- A FIELD AMONG OTHERS

abbrev pub IsIn : FieldType → List FieldType → Type 0
IsIn field [] = ⊥
IsIn field (x ∷ fields) = (field ≡ x) ⊎ IsIn field fields

pub each_in : (P : FieldType → Type 0) (field : FieldType) (fields : List FieldType) → EachField P fields → IsIn field fields → P field
each_in P field [] p is = absurd is
each_in P field (x ∷ fields) p (inl e) = subst P (sym e) p.0
each_in P field (x ∷ fields) p (inr is) = each_in P field fields p.1 is

and_false : (b : Bool) → (b && false) ≡ false
and_false true = refl
and_false false = refl

and_true : (b : Bool) → ((b && true) || false) ≡ b
and_true true = refl
and_true false = refl

abbrev takes_member : Schema → ℕ → Record → FieldType → Bool
takes_member schema oneof r field = is_member oneof field.card && takes schema field r

none_of_others : (schema : Schema) (oneof : ℕ) (r : Record) (fields : List FieldType) → EachField (λ x. x.number ≢ r.number) fields → list_any (takes_member schema oneof r) fields ≡ false
none_of_others schema oneof r [] p = refl
none_of_others schema oneof r (x ∷ fields) p =
    ap (λ b. (is_member oneof x.card && b) || list_any (takes_member schema oneof r) fields) (not_taken schema x r p.0)
    ∙ (ap (λ b. b || list_any (takes_member schema oneof r) fields) (and_false (is_member oneof x.card)) ∙ none_of_others schema oneof r fields p.1)

each_differs : (n : ℕ) (m : ℕ) → n ≡ m → (fields : List FieldType) → EachField (λ x. n ≢ x.number) fields → EachField (λ x. x.number ≢ m) fields
each_differs n m e [] p = tt
each_differs n m e (x ∷ fields) p = (λ same. p.0 (e ∙ sym same), each_differs n m e fields p.1)

-- a record is of a oneof where its field is a member
oneof_of : (schema : Schema) (oneof least : ℕ) (fields : List FieldType) → NumbersAscend least fields → (field : FieldType) → IsIn field fields → (r : Record) → takes schema field r ≡ true → is_of_oneof schema fields oneof r ≡ is_member oneof field.card
oneof_of schema oneof least [] ascend field is r e = absurd is
oneof_of schema oneof least (x ∷ fields) ascend field (inl same) r e =
    let own : takes schema x r ≡ true = subst (λ f. takes schema f r ≡ true) same e in
    let none = none_of_others schema oneof r fields (each_differs x.number r.number (taken_by schema x r own).number fields (others x fields ascend.2)) in
    ap (λ b. (is_member oneof x.card && b) || list_any (takes_member schema oneof r) fields) own
    ∙ (ap (λ b. (is_member oneof x.card && true) || b) none ∙ (and_true (is_member oneof x.card) ∙ ap (λ (f : FieldType). is_member oneof f.card) (sym same)))
oneof_of schema oneof least (x ∷ fields) ascend field (inr is) r e =
    let differ : x.number ≢ field.number = each_in (λ f. x.number ≢ f.number) field fields (others x fields ascend.2) is in
    let no = not_taken schema x r (λ same. differ (same ∙ sym (taken_by schema field r e).number)) in
    ap (λ b. (is_member oneof x.card && b) || list_any (takes_member schema oneof r) fields) no
    ∙ (ap (λ b. b || list_any (takes_member schema oneof r) fields) (and_false (is_member oneof x.card)) ∙ oneof_of schema oneof (x.number + 1) fields ascend.2 field is r e)

-- RECORDS OF OTHER FIELDS

column_stays : (schema : Schema) (onto : Onto (List ℕ)) (all : List FieldType) (field : FieldType) (held : Held) (rs : List Record) → Each (λ r. held_put schema [] onto all r field held ≡ held) rs → column schema onto all field held rs ≡ held
column_stays schema onto all field held [] p = refl
column_stays schema onto all field held (r ∷ rs) p = ap (λ h. column schema onto all field h rs) p.0 ∙ column_stays schema onto all field held rs p.1

-- another field's value clears a field of this card
abbrev cleared_by : Card → Card → Held → Bool
cleared_by (cards.Member oneof) other held = is_member oneof other && is_set held
cleared_by _ other held = false

each_map : (P Q : Record → Type 0) (rs : List Record) → ((r : Record) → P r → Q r) → Each P rs → Each Q rs
each_map P Q [] f p = tt
each_map P Q (r ∷ rs) f p = (f r p.0, each_map P Q rs f p.1)

member_set : (schema : Schema) (onto : Onto (List ℕ)) (all : List FieldType) (field other : FieldType) (oneof : ℕ) → field.card ≡ cards.Member oneof → is_member oneof other.card ≡ true → (held theirs : Held) → IsHeldBy other.card theirs → (rs : List Record) → OfHeld schema other theirs rs
    → Each (λ r. (takes schema field r ≡ false) × (is_of_oneof schema all oneof r ≡ true)) rs → column schema onto all field held rs ≡ cond (is_set theirs) Nothing held
member_set schema onto all field other oneof is member held Nothing i rs of p = ap (column schema onto all field held) of
member_set schema onto all field other oneof is member held (One value) i rs of p =
    let each = subst (Each (λ r. (takes schema field r ≡ false) × (is_of_oneof schema all oneof r ≡ true))) of.1 p in
    ap (column schema onto all field held) of.1
    ∙ (put_other schema onto all of.0 field held each.0.0
    ∙ (ap (other_put schema all held of.0) is ∙ ap (λ t. elim t as (λ _. Held) [ true ↦ Nothing | false ↦ held ]) each.0.1))
member_set schema onto all field other oneof is member held (Many more) i rs of p = no_list other.card member i
  where
    no_list : {P : Type 0} (card : Card) → is_member oneof card ≡ true → IsHeldBy card (Many more) → P
    no_list cards.Implicit e i = absurd i
    no_list cards.Explicit e i = absurd i
    no_list (cards.Member n) e i = absurd i
    no_list (cards.Repeated packed) e i = absurd (false≢true e)

other_field : (schema : Schema) (onto : Onto (List ℕ)) (all : List FieldType) → NumbersAscend 1 all → (field other : FieldType) → field.number ≢ other.number → IsIn other all → (held theirs : Held) → IsHeldBy other.card theirs → (rs : List Record) → OfHeld schema other theirs rs → AreTaken schema other rs
    → column schema onto all field held rs ≡ cond (cleared_by field.card other.card theirs) Nothing held
other_field schema onto all ascend field other differ is held theirs i rs of are = by field.card refl
  where
    away : (r : Record) → takes schema other r ≡ true → takes schema field r ≡ false
    away r e = not_taken schema field r (λ same. differ (same ∙ sym (taken_by schema other r e).number))

    left : (card : Card) → field.card ≡ card → ((r : Record) → takes schema other r ≡ true → other_put schema all held r card ≡ held) → column schema onto all field held rs ≡ held
    left card e stays = column_stays schema onto all field held rs (each_map (λ r. takes schema other r ≡ true) (λ r. held_put schema [] onto all r field held ≡ held) rs (λ r t. put_other schema onto all r field held (away r t) ∙ (ap (other_put schema all held r) e ∙ stays r t)) are)

    member : (oneof : ℕ) → field.card ≡ cards.Member oneof → (t : Bool) → is_member oneof other.card ≡ t → column schema onto all field held rs ≡ cond (t && is_set theirs) Nothing held
    member oneof e true m =
        member_set schema onto all field other oneof e m held theirs i rs of
        (each_map (λ r. takes schema other r ≡ true) (λ r. (takes schema field r ≡ false) × (is_of_oneof schema all oneof r ≡ true)) rs (λ r t. (away r t, oneof_of schema oneof 1 all ascend other is r t ∙ m)) are)
    member oneof e false m =
        left (cards.Member oneof) e (λ r t. ap (λ b. elim b as (λ _. Held) [ true ↦ Nothing | false ↦ held ]) (oneof_of schema oneof 1 all ascend other is r t ∙ m))

    by : (card : Card) → field.card ≡ card → column schema onto all field held rs ≡ cond (cleared_by card other.card theirs) Nothing held
    by cards.Implicit e = left cards.Implicit e (λ r t. refl)
    by cards.Explicit e = left cards.Explicit e (λ r t. refl)
    by (cards.Repeated packed) e = left (cards.Repeated packed) e (λ r t. refl)
    by (cards.Member oneof) e = member oneof e (is_member oneof other.card) refl

-- RECORDS THAT NO FIELD TAKES

untaken : (schema : Schema) (fields : List FieldType) (r : Record) → is_taken schema fields r ≡ false → (field : FieldType) → IsIn field fields → takes schema field r ≡ false
untaken schema [] r e field is = absurd is
untaken schema (x ∷ fields) r e field is = pick (takes schema x r) refl is (λ none there. untaken schema fields r none field there)
  where
    pick : (t : Bool) → takes schema x r ≡ t → (field ≡ x) ⊎ IsIn field fields → (is_taken schema fields r ≡ false → IsIn field fields → takes schema field r ≡ false) → takes schema field r ≡ false
    pick true own is more = absurd (false≢true (sym e ∙ ap (λ b. b || is_taken schema fields r) own))
    pick false own (inl same) more = ap (λ f. takes schema f r) same ∙ own
    pick false own (inr there) more = more (sym (ap (λ b. b || is_taken schema fields r) own) ∙ e) there

no_member : (schema : Schema) (fields : List FieldType) (r : Record) (oneof : ℕ) → is_taken schema fields r ≡ false → is_of_oneof schema fields oneof r ≡ false
no_member schema [] r oneof e = refl
no_member schema (x ∷ fields) r oneof e = pick (takes schema x r) refl (λ none. no_member schema fields r oneof none)
  where
    pick : (t : Bool) → takes schema x r ≡ t → (is_taken schema fields r ≡ false → is_of_oneof schema fields oneof r ≡ false) → is_of_oneof schema (x ∷ fields) oneof r ≡ false
    pick true own more = absurd (false≢true (sym e ∙ ap (λ b. b || is_taken schema fields r) own))
    pick false own more =
        ap (λ b. (is_member oneof x.card && b) || is_of_oneof schema fields oneof r) own
        ∙ (ap (λ b. b || is_of_oneof schema fields oneof r) (and_false (is_member oneof x.card)) ∙ more (sym (ap (λ b. b || is_taken schema fields r) own) ∙ e))

unknown_stays : (schema : Schema) (onto : Onto (List ℕ)) (all : List FieldType) (field : FieldType) → IsIn field all → (held : Held) (rs : List Record) → NoneTaken schema all rs → column schema onto all field held rs ≡ held
unknown_stays schema onto all field is held [] p = refl
unknown_stays schema onto all field is held (r ∷ rs) p = ap (λ h. column schema onto all field h rs) (put_other schema onto all r field held (untaken schema all r p.0 field is) ∙ by field.card) ∙ unknown_stays schema onto all field is held rs p.1
  where
    by : (card : Card) → other_put schema all held r card ≡ held
    by cards.Implicit = refl
    by cards.Explicit = refl
    by (cards.Repeated packed) = refl
    by (cards.Member oneof) = ap (λ b. elim b as (λ _. Held) [ true ↦ Nothing | false ↦ held ]) (no_member schema all r oneof p.0)

-- ALONG THE FIELDS

cond_or : (a b : Bool) (held : Held) → cond b Nothing (cond a Nothing held) ≡ cond (a || b) Nothing held
cond_or true true held = refl
cond_or true false held = refl
cond_or false b held = refl

-- a field that is replaced is cleared by the first of the others or by those behind it
replaced_more : (card : Card) (other : FieldType) (fields : List FieldType) (theirs : Held) (more : HeldList) → is_replaced card (other ∷ fields) (FieldAnd theirs more) ≡ (cleared_by card other.card theirs || is_replaced card fields more)
replaced_more cards.Implicit other fields theirs more = refl
replaced_more cards.Explicit other fields theirs more = refl
replaced_more (cards.Member oneof) other fields theirs more = refl
replaced_more (cards.Repeated packed) other fields theirs more = refl

none_replaced : (card : Card) → is_replaced {U = List ℕ} card [] NoFields ≡ false
none_replaced cards.Implicit = refl
none_replaced cards.Explicit = refl
none_replaced (cards.Member oneof) = refl
none_replaced (cards.Repeated packed) = refl

-- what is known of the fields of a type and of those from one of them on
pub record Along (schema : Schema) (all fields : List FieldType) : Type 0 where
  pub inside : EachField (λ field. IsIn field all) fields
  pub packs : EachField PacksNumbers fields

pub along_more : (schema : Schema) (all : List FieldType) (field : FieldType) (fields : List FieldType) → Along schema all (field ∷ fields) → Along schema all fields
along_more schema all field fields p = record { inside = p.inside.1; packs = p.packs.1 }

-- a field that isn't among these
outside : (schema : Schema) (onto : Onto (List ℕ)) (all : List FieldType) → NumbersAscend 1 all → (field : FieldType) → IsIn field all → (unknown : List ℕ) (fields : List FieldType) → EachField (λ x. field.number ≢ x.number) fields → Along schema all fields → (theirs : HeldList) → FieldsFit schema fields theirs → (held : Held) (rs : List Record) → Parts schema all unknown fields theirs rs
    → column schema onto all field held rs ≡ cond (is_replaced field.card fields theirs) Nothing held
outside schema onto all ascend field is unknown [] differ along NoFields fits held rs parts =
    unknown_stays schema onto all field is held rs parts.0 ∙ ap (λ b. cond b Nothing held) (sym (none_replaced field.card))
outside schema onto all ascend field is unknown [] differ along (FieldAnd theirs more) fits held rs parts = absurd parts
outside schema onto all ascend field is unknown (x ∷ fields) differ along NoFields fits held rs parts = absurd parts
outside schema onto all ascend field is unknown (x ∷ fields) differ along (FieldAnd theirs more) fits held rs parts =
    let mine = parts.0 in
    let rest = parts.1 in
    let first = cleared_by field.card x.card theirs in
    let later = is_replaced field.card fields more in
    ap (column schema onto all field held) parts.2
    ∙ (fold-append (λ h r. held_put schema [] onto all r field h) held mine rest
    ∙ (ap (λ h. column schema onto all field h rest) (other_field schema onto all ascend field x differ.0 along.inside.0 held theirs fits.0 mine parts.3 (of_taken schema x along.packs.0 theirs mine parts.3))
    ∙ (outside schema onto all ascend field is unknown fields differ.1 (along_more schema all x fields along) more fits.3 (cond first Nothing held) rest parts.4
    ∙ (cond_or first later held ∙ ap (λ b. cond b Nothing held) (sym (replaced_more field.card x fields theirs more))))))

-- a field with what a message holds at it
abbrev StandIn : FieldType → Held → List FieldType → HeldList → Type 0
StandIn field theirs (x ∷ fields) (FieldAnd held more) = ((field ≡ x) × (theirs ≡ held)) ⊎ StandIn field theirs fields more
StandIn field theirs _ _ = ⊥

or_none_is : (a b : Bool) → ((a && false) || b) ≡ b
or_none_is true b = refl
or_none_is false b = refl

-- what comes behind the field's own records
here_joined : (schema : Schema) (field first : FieldType) (fields : List FieldType) (more : HeldList) (held theirs : Held) (card : Card) → IsHeldBy card held → IsHeldBy card theirs → IsAlone card theirs fields more
    → cond (is_replaced card fields more) Nothing (held_merged behind schema field false held theirs) ≡ held_merged behind schema field (is_replaced card (first ∷ fields) (FieldAnd theirs more)) held theirs
here_joined schema field first fields more held theirs cards.Implicit h i alone = refl
here_joined schema field first fields more held theirs cards.Explicit h i alone = refl
here_joined schema field first fields more held theirs (cards.Repeated packed) h i alone = refl
here_joined schema field first fields more (Many ws) theirs (cards.Member oneof) h i alone = absurd h
here_joined schema field first fields more held (Many vs) (cards.Member oneof) h i alone = absurd i
here_joined schema field first fields more Nothing Nothing (cards.Member oneof) h i alone = same_nothing (sets_member oneof fields more)
  where
    same_nothing : (b : Bool) → ◌≡◌ {A = Held} (cond b Nothing Nothing) Nothing
    same_nothing true = refl
    same_nothing false = refl
here_joined schema field first fields more (One value) Nothing (cards.Member oneof) h i alone =
    ap (λ b. cond b Nothing (One value)) (sym (or_none_is (is_member oneof first.card) (sets_member oneof fields more)))
here_joined schema field first fields more Nothing (One other) (cards.Member oneof) h i alone =
    ap (λ b. cond b Nothing (held_merged behind schema field false Nothing (One other))) alone
here_joined schema field first fields more (One value) (One other) (cards.Member oneof) h i alone =
    ap (λ b. cond b Nothing (held_merged behind schema field false (One value) (One other))) alone

-- what comes in front of them
unset_there : (field : FieldType) (theirs : Held) (oneof : ℕ) (fields : List FieldType) (more : HeldList) → StandIn field theirs fields more → is_member oneof field.card ≡ true → sets_member oneof fields more ≡ false → is_set theirs ≡ false
unset_there field theirs oneof [] more stands member none = absurd stands
unset_there field theirs oneof (x ∷ fields) NoFields stands member none = absurd stands
unset_there field theirs oneof (x ∷ fields) (FieldAnd held more) (inr stands) member none =
    unset_there field theirs oneof fields more stands member (behind_false (is_member oneof x.card && is_set held) (sets_member oneof fields more) none)
  where
    behind_false : (a b : Bool) → (a || b) ≡ false → b ≡ false
    behind_false true b e = absurd (false≢true (sym e))
    behind_false false b e = e
unset_there field theirs oneof (x ∷ fields) (FieldAnd held more) (inl same) member none =
    ap is_set same.1 ∙ first (is_member oneof x.card) (is_set held) (ap (λ (f : FieldType). is_member oneof f.card) (sym same.0) ∙ member) none
  where
    first : (a b : Bool) → a ≡ true → ((a && b) || sets_member oneof fields more) ≡ false → b ≡ false
    first true false e none = refl
    first true true e none = absurd (false≢true (sym none))
    first false b e none = absurd (false≢true e)

same_member : (oneof : ℕ) → is_member oneof (cards.Member oneof) ≡ true
same_member oneof = eq-eqb oneof oneof refl

there_joined : (schema : Schema) (field first : FieldType) (fields : List FieldType) (more : HeldList) (held theirs other : Held) → StandIn field theirs fields more → IsHeldBy field.card held → IsHeldBy field.card theirs → IsAlone first.card other fields more
    → held_merged behind schema field (is_replaced field.card fields more) (cond (cleared_by field.card first.card other) Nothing held) theirs ≡ held_merged behind schema field (is_replaced field.card (first ∷ fields) (FieldAnd other more)) held theirs
there_joined schema field first fields more held theirs other stands h i alone = by field.card refl h i
  where
    cleared : (oneof : ℕ) → field.card ≡ cards.Member oneof → sets_member oneof fields more ≡ false → (held theirs : Held) → is_set theirs ≡ false → IsHeldBy (cards.Member oneof) held → IsHeldBy (cards.Member oneof) theirs
        → held_merged behind schema field (sets_member oneof fields more) Nothing theirs ≡ held_merged behind schema field true held theirs
    cleared oneof e none Nothing Nothing s h i = refl
    cleared oneof e none (One value) Nothing s h i = refl
    cleared oneof e none (Many ws) theirs s h i = absurd h
    cleared oneof e none held (One value) s h i = absurd (false≢true (sym s))
    cleared oneof e none held (Many vs) s h i = absurd i

    alone_is : (oneof : ℕ) (card : Card) (value : Held) → is_member oneof card ≡ true → is_set value ≡ true → IsAlone card value fields more → sets_member oneof fields more ≡ false
    alone_is oneof (cards.Member n) (One value) m s alone = ap (λ k. sets_member k fields more) (eqb-true oneof n m) ∙ alone
    alone_is oneof (cards.Member n) Nothing m s alone = absurd (false≢true s)
    alone_is oneof (cards.Member n) (Many vs) m s alone = absurd (false≢true s)
    alone_is oneof cards.Implicit value m s alone = absurd (false≢true m)
    alone_is oneof cards.Explicit value m s alone = absurd (false≢true m)
    alone_is oneof (cards.Repeated packed) value m s alone = absurd (false≢true m)

    member : (oneof : ℕ) → field.card ≡ cards.Member oneof → IsHeldBy (cards.Member oneof) held → IsHeldBy (cards.Member oneof) theirs → (m s : Bool) → is_member oneof first.card ≡ m → is_set other ≡ s
        → held_merged behind schema field (sets_member oneof fields more) (cond (m && s) Nothing held) theirs ≡ held_merged behind schema field ((m && s) || sets_member oneof fields more) held theirs
    member oneof e h i false s me se = refl
    member oneof e h i true false me se = refl
    member oneof e h i true true me se =
        let none = alone_is oneof first.card other me se alone in
        cleared oneof e none held theirs (unset_there field theirs oneof fields more stands (ap (is_member oneof) e ∙ same_member oneof) none) h i

    by : (card : Card) → field.card ≡ card → IsHeldBy card held → IsHeldBy card theirs
        → held_merged behind schema field (is_replaced card fields more) (cond (cleared_by card first.card other) Nothing held) theirs ≡ held_merged behind schema field (is_replaced card (first ∷ fields) (FieldAnd other more)) held theirs
    by cards.Implicit e h i = refl
    by cards.Explicit e h i = refl
    by (cards.Repeated packed) e h i = refl
    by (cards.Member oneof) e h i = member oneof e h i (is_member oneof first.card) (is_set other) refl refl

-- A FIELD OF THE TYPE

stand_is_in : (field : FieldType) (theirs : Held) (fields : List FieldType) (more : HeldList) → StandIn field theirs fields more → IsIn field fields
stand_is_in field theirs [] more stands = absurd stands
stand_is_in field theirs (x ∷ fields) NoFields stands = absurd stands
stand_is_in field theirs (x ∷ fields) (FieldAnd held more) (inl same) = inl same.0
stand_is_in field theirs (x ∷ fields) (FieldAnd held more) (inr stands) = inr (stand_is_in field theirs fields more stands)

cleared_held : (card other : Card) (held theirs : Held) → IsHeldBy card held → IsHeldBy card (cond (cleared_by card other theirs) Nothing held)
cleared_held cards.Implicit other held theirs h = h
cleared_held cards.Explicit other held theirs h = h
cleared_held (cards.Repeated packed) other held theirs h = h
cleared_held (cards.Member oneof) other held theirs h = pick (is_member oneof other && is_set theirs)
  where
    pick : (t : Bool) → IsHeldBy (cards.Member oneof) (cond t Nothing held)
    pick true = tt
    pick false = h

cleared_fits : (schema : Schema) (field : FieldType) (t : Bool) (held : Held) → HeldFits schema field held → HeldFits schema field (cond t Nothing held)
cleared_fits schema field true held holds = tt
cleared_fits schema field false held holds = holds

here_field : (schema : Schema) (left : ℕ) (onto : Onto (List ℕ)) → Merges schema left onto → (all : List FieldType) → NumbersAscend 1 all → (unknown : List ℕ) (least : ℕ) (x : FieldType) (fields : List FieldType) → NumbersAscend least (x ∷ fields) → Along schema all (x ∷ fields) → (theirs : Held) (more : HeldList) → FieldsFit schema (x ∷ fields) (FieldAnd theirs more)
    → (held : Held) → IsHeldBy x.card held → HeldFits schema x held → (rs : List Record) → Each (Base schema left all) rs → Parts schema all unknown (x ∷ fields) (FieldAnd theirs more) rs
    → column schema onto all x held rs ≡ held_merged behind schema x (is_replaced x.card (x ∷ fields) (FieldAnd theirs more)) held theirs
here_field schema left onto merges all ascend unknown least x fields numbers along theirs more fits held h holds rs base parts =
    let mine = parts.0 in
    let rest = parts.1 in
    let own = each_in (Own schema all) x all (owns schema 1 all ascend) along.inside.0 in
    let each = (each_split (Base schema left all) mine rest (subst (Each (Base schema left all)) parts.2 base)).0 in
    let taken = each_mine schema left all x own mine each (of_taken schema x along.packs.0 theirs mine parts.3) in
    ap (column schema onto all x held) parts.2
    ∙ (fold-append (λ h r. held_put schema [] onto all r x h) held mine rest
    ∙ (ap (λ h. column schema onto all x h rest) (own_field schema left onto merges all x along.packs.0 held h holds theirs fits.0 fits.1 mine parts.3 taken)
    ∙ (outside schema onto all ascend x along.inside.0 unknown fields (others x fields numbers.2) (along_more schema all x fields along) more fits.3 (held_merged behind schema x false held theirs) rest parts.4
    ∙ here_joined schema x x fields more held theirs x.card h fits.0 fits.2)))

inside_field : (schema : Schema) (left : ℕ) (onto : Onto (List ℕ)) → Merges schema left onto → (all : List FieldType) → NumbersAscend 1 all → (unknown : List ℕ) (least : ℕ) (fields : List FieldType) → NumbersAscend least fields → Along schema all fields → (more : HeldList) → FieldsFit schema fields more
    → (field : FieldType) (theirs : Held) → StandIn field theirs fields more → IsHeldBy field.card theirs → (held : Held) → IsHeldBy field.card held → HeldFits schema field held → (rs : List Record) → Each (Base schema left all) rs → Parts schema all unknown fields more rs
    → column schema onto all field held rs ≡ held_merged behind schema field (is_replaced field.card fields more) held theirs
inside_field schema left onto merges all ascend unknown least [] numbers along more fits field theirs stands i held h holds rs base parts = absurd stands
inside_field schema left onto merges all ascend unknown least (x ∷ fields) numbers along NoFields fits field theirs stands i held h holds rs base parts = absurd stands
inside_field schema left onto merges all ascend unknown least (x ∷ fields) numbers along (FieldAnd other more) fits field theirs (inl same) i held h holds rs base parts =
    let there = here_field schema left onto merges all ascend unknown least x fields numbers along other more fits held (subst (λ (f : FieldType). IsHeldBy f.card held) same.0 h) (subst (λ f. HeldFits schema f held) same.0 holds) rs base parts in
    subst (λ k. column schema onto all field held rs ≡ held_merged behind schema field (is_replaced field.card (x ∷ fields) (FieldAnd other more)) held k) (sym same.1)
    (subst (λ (f : FieldType). column schema onto all f held rs ≡ held_merged behind schema f (is_replaced f.card (x ∷ fields) (FieldAnd other more)) held other) (sym same.0) there)
inside_field schema left onto merges all ascend unknown least (x ∷ fields) numbers along (FieldAnd other more) fits field theirs (inr stands) i held h holds rs base parts =
    let mine = parts.0 in
    let rest = parts.1 in
    let cleared = cond (cleared_by field.card x.card other) Nothing held in
    let differ : field.number ≢ x.number = λ same. each_in (λ f. x.number ≢ f.number) field fields (others x fields numbers.2) (stand_is_in field theirs fields more stands) (sym same) in
    let each = (each_split (Base schema left all) mine rest (subst (Each (Base schema left all)) parts.2 base)).1 in
    ap (column schema onto all field held) parts.2
    ∙ (fold-append (λ h r. held_put schema [] onto all r field h) held mine rest
    ∙ (ap (λ h. column schema onto all field h rest) (other_field schema onto all ascend field x differ along.inside.0 held other fits.0 mine parts.3 (of_taken schema x along.packs.0 other mine parts.3))
    ∙ (inside_field schema left onto merges all ascend unknown (x.number + 1) fields numbers.2 (along_more schema all x fields along) more fits.3 field theirs stands i cleared (cleared_held field.card x.card held other h) (cleared_fits schema field (cleared_by field.card x.card other) held holds) rest each parts.4
    ∙ there_joined schema field x fields more held theirs other stands h i fits.2)))

-- ALL FIELDS

abbrev columns : Schema → Onto (List ℕ) → List FieldType → List Record → List FieldType → HeldList → HeldList
columns schema onto all rs (field ∷ fields) (FieldAnd held rest) = FieldAnd (column schema onto all field held rs) (columns schema onto all rs fields rest)
columns schema onto all rs _ others = others

columns_none : (schema : Schema) (onto : Onto (List ℕ)) (all fields : List FieldType) (held : HeldList) → held ≡ columns schema onto all [] fields held
columns_none schema onto all [] NoFields = refl
columns_none schema onto all [] (FieldAnd held rest) = refl
columns_none schema onto all (field ∷ fields) NoFields = refl
columns_none schema onto all (field ∷ fields) (FieldAnd held rest) = ap (FieldAnd held) (columns_none schema onto all fields rest)

columns_put : (schema : Schema) (onto : Onto (List ℕ)) (all : List FieldType) (r : Record) (rs : List Record) (fields : List FieldType) (held : HeldList) → columns schema onto all rs fields (fields_put schema [] onto all r fields held) ≡ columns schema onto all (r ∷ rs) fields held
columns_put schema onto all r rs [] NoFields = refl
columns_put schema onto all r rs [] (FieldAnd held rest) = refl
columns_put schema onto all r rs (field ∷ fields) NoFields = refl
columns_put schema onto all r rs (field ∷ fields) (FieldAnd held rest) = ap (FieldAnd (column schema onto all field held (r ∷ rs))) (columns_put schema onto all r rs fields rest)

-- putting records is putting them into each field by itself
put_columns : (schema : Schema) (onto : Onto (List ℕ)) (all : List FieldType) (rs : List Record) (held : HeldList) → fold (put schema [] onto all) held rs ≡ columns schema onto all rs all held
put_columns schema onto all [] held = columns_none schema onto all all held
put_columns schema onto all (r ∷ rs) held = put_columns schema onto all rs (put schema [] onto all held r) ∙ columns_put schema onto all r rs all held

merged_columns : (schema : Schema) (left : ℕ) (onto : Onto (List ℕ)) → Merges schema left onto → (all : List FieldType) → NumbersAscend 1 all → Along schema all all → (unknown : List ℕ) (whole : HeldList) → FieldsFit schema all whole → (rs : List Record) → Each (Base schema left all) rs → Parts schema all unknown all whole rs
    → (fields : List FieldType) (held theirs : HeldList) → FieldsFit schema fields held → FieldsFit schema fields theirs → ((field : FieldType) (k : Held) → StandIn field k fields theirs → StandIn field k all whole)
    → columns schema onto all rs fields held ≡ fields_merged behind schema all whole fields held theirs
merged_columns schema left onto merges all ascend along unknown whole fits rs base parts [] NoFields theirs f g stands = refl
merged_columns schema left onto merges all ascend along unknown whole fits rs base parts [] (FieldAnd held rest) theirs f g stands = absurd f
merged_columns schema left onto merges all ascend along unknown whole fits rs base parts (field ∷ fields) NoFields theirs f g stands = absurd f
merged_columns schema left onto merges all ascend along unknown whole fits rs base parts (field ∷ fields) (FieldAnd held rest) NoFields f g stands = absurd g
merged_columns schema left onto merges all ascend along unknown whole fits rs base parts (field ∷ fields) (FieldAnd held rest) (FieldAnd other more) f g stands =
    ap (λ k. FieldAnd k (columns schema onto all rs fields rest)) (inside_field schema left onto merges all ascend unknown 1 all ascend along whole fits field other (stands field other (inl (refl, refl))) g.0 held f.0 f.1 rs base parts)
    ∙ ap (FieldAnd (held_merged behind schema field (is_replaced field.card all whole) held other)) (merged_columns schema left onto merges all ascend along unknown whole fits rs base parts fields rest more f.3 g.3 (λ x k there. stands x k (inr there)))

-- UNKNOWN BYTES

is_taken_in : (schema : Schema) (field : FieldType) (r : Record) → takes schema field r ≡ true → (fields : List FieldType) → IsIn field fields → is_taken schema fields r ≡ true
is_taken_in schema field r e [] is = absurd is
is_taken_in schema field r e (x ∷ fields) (inl same) = ap (λ b. b || is_taken schema fields r) (subst (λ f. takes schema f r ≡ true) same e)
is_taken_in schema field r e (x ∷ fields) (inr is) = or_true (takes schema x r) (is_taken schema fields r) (is_taken_in schema field r e fields is)

taken_adds_none : (schema : Schema) (all : List FieldType) (field : FieldType) → IsIn field all → (mine rest : List Record) → AreTaken schema field mine → unknown_of schema all (mine ++ rest) ≡ unknown_of schema all rest
taken_adds_none schema all field is [] rest are = refl
taken_adds_none schema all field is (r ∷ mine) rest are =
    ap (λ b. cond b [] r.span ++ unknown_of schema all (mine ++ rest)) (is_taken_in schema field r are.0 all is) ∙ taken_adds_none schema all field is mine rest are.1

untaken_adds_all : (schema : Schema) (all : List FieldType) (rs : List Record) → NoneTaken schema all rs → unknown_of schema all rs ≡ flat_map (λ r. r.span) rs
untaken_adds_all schema all [] none = refl
untaken_adds_all schema all (r ∷ rs) none = ap (λ b. cond b [] r.span ++ unknown_of schema all rs) none.0 ∙ ap (λ s. r.span ++ s) (untaken_adds_all schema all rs none.1)

unknown_parts : (schema : Schema) (all : List FieldType) (unknown : List ℕ) (fields : List FieldType) → Along schema all fields → (held : HeldList) (rs : List Record) → Parts schema all unknown fields held rs → unknown_of schema all rs ≡ unknown
unknown_parts schema all unknown [] along NoFields rs parts = untaken_adds_all schema all rs parts.0 ∙ parts.1
unknown_parts schema all unknown [] along (FieldAnd held rest) rs parts = absurd parts
unknown_parts schema all unknown (x ∷ fields) along NoFields rs parts = absurd parts
unknown_parts schema all unknown (x ∷ fields) along (FieldAnd held rest) rs parts =
    ap (unknown_of schema all) parts.2
    ∙ (taken_adds_none schema all x along.inside.0 parts.0 parts.1 (of_taken schema x along.packs.0 held parts.0 parts.3)
    ∙ unknown_parts schema all unknown fields (along_more schema all x fields along) rest parts.1 parts.4)

-- MESSAGES

level_merges : (schema : Schema) (left : ℕ) (onto : Onto (List ℕ)) → Merges schema left onto → (all : List FieldType) → NumbersAscend 1 all → Along schema all all → (held : HeldList) (before : List ℕ) (theirs : HeldList) (unknown : List ℕ) → FieldsFit schema all held → MessageFits schema all (Message theirs unknown) → Sound schema left all (message_text schema all (Message theirs unknown))
    → Message (fold (put schema [] onto all) held (records_in left (message_text schema all (Message theirs unknown)))) (before ++ unknown_of schema all (records_in left (message_text schema all (Message theirs unknown)))) ≡ message_merged behind schema all (Message held before) (Message theirs unknown)
level_merges schema left onto merges all ascend along held before theirs unknown f fits sound =
    let rs = sound.rs in
    let s = message_text schema all (Message theirs unknown) in
    let parts = parts_cut schema left all unknown fits.1 all theirs fits.0 rs sound.are in
    let base = each_base schema left all rs s sound.are sound.hold in
    ap (λ qs. Message (fold (put schema [] onto all) held qs) (before ++ unknown_of schema all qs)) (sound_records schema left all s sound)
    ∙ (ap (λ h. Message h (before ++ unknown_of schema all rs)) (put_columns schema onto all rs held ∙ merged_columns schema left onto merges all ascend along unknown theirs fits.0 rs base parts all held theirs f fits.0 (λ x k there. there))
    ∙ ap (λ u. Message (fields_merged behind schema all theirs all held theirs) (before ++ u)) (unknown_parts schema all unknown all along theirs rs parts))

abbrev pub AllAlong : Schema → Type 0
AllAlong schema = (type_no : ℕ) → Along schema (fields_of schema type_no) (fields_of schema type_no)

text_into : (schema : Schema) → AllAscend schema → AllAlong schema → (left type_no : ℕ) (t u : Tree) → MessageFits schema (fields_of schema type_no) t → MessageFits schema (fields_of schema type_no) u → Sound schema left (fields_of schema type_no) (message_text schema (fields_of schema type_no) u)
    → read_into behind [] schema left (fields_of schema type_no) t (message_text schema (fields_of schema type_no) u) ≡ message_merged behind schema (fields_of schema type_no) t u
text_into schema ascend along zero type_no (Message held before) (Message theirs unknown) f fits sound =
    level_merges schema 0 (λ inner t s. t) (λ inner t u f g fine. not_ok (record { kind = TooDeep; byte = fine.0 }) fine.2.0 fine.2.1) (fields_of schema type_no) (ascend type_no) (along type_no) held before theirs unknown f.0 fits sound
text_into schema ascend along (suc left) type_no (Message held before) (Message theirs unknown) f fits sound =
    level_merges schema (suc left) (λ inner t s. read_into behind [] schema left (fields_of schema inner) t s)
    (λ inner t u f g fine. text_into schema ascend along left inner t u f g (fine_sound schema left inner (message_text schema (fields_of schema inner) u) fine))
    (fields_of schema type_no) (ascend type_no) (along type_no) held before theirs unknown f.0 fits sound

-- LAWFUL SCHEMAS

packs_by : (oneofs : ℕ) (type : ValueType) (card : Card) → CardAllowed oneofs type card → is_packed card ≡ true → is_number type ≡ true
packs_by oneofs type cards.Implicit p e = absurd (false≢true e)
packs_by oneofs type cards.Explicit p e = absurd (false≢true e)
packs_by oneofs type (cards.Member oneof) p e = absurd (false≢true e)
packs_by oneofs type (cards.Repeated packed) p e = p e

packs_all : (types oneofs : ℕ) (fields : List FieldType) → FieldsAllowed types oneofs fields → EachField PacksNumbers fields
packs_all types oneofs [] p = tt
packs_all types oneofs (field ∷ fields) p = (packs_by oneofs (value_type_of field.kind) field.card p.1, packs_all types oneofs fields p.2)

packs_among : (count : ℕ) (types : List MessageType) → TypesAllowed count types → (type_no : ℕ) → EachField PacksNumbers (fields_among types type_no)
packs_among count [] p type_no = tt
packs_among count (type ∷ types) p zero = packs_all count type.oneofs type.fields p.0.fields
packs_among count (type ∷ types) p (suc type_no) = packs_among count types p.1 type_no

in_more : (first : FieldType) (all fields : List FieldType) → EachField (λ field. IsIn field all) fields → EachField (λ field. IsIn field (first ∷ all)) fields
in_more first all [] p = tt
in_more first all (field ∷ fields) p = (inr p.0, in_more first all fields p.1)

in_all : (fields : List FieldType) → EachField (λ field. IsIn field fields) fields
in_all [] = tt
in_all (field ∷ fields) = (inl refl, in_more field fields fields (in_all fields))

pub all_along : (schema : Schema) → Lawful schema → AllAlong schema
all_along schema lawful = λ type_no. record { inside = in_all (fields_of schema type_no); packs = packs_among _ schema.types lawful.types type_no }

-- THE LAW

pub appended_merges : (schema : Schema) (type_no : ℕ) (x : List ℕ) (a t : Tree) → Lawful schema → Fitted schema type_no t → tree_of schema type_no x ≡ Some a → IsSome (tree_of schema type_no (x ++ text_of schema type_no t))
    → tree_of schema type_no (x ++ text_of schema type_no t) ≡ Some (merge_of schema type_no a t)
appended_merges schema type_no x a t lawful fitted e some =
    let s = text_of schema type_no t in
    let front = no_fault_then schema type_no x (subst IsSome (sym e) refl) in
    let none = fault_behind schema type_no 0 x s front (no_fault_then schema type_no (x ++ s) some) in
    let sound = no_fault_sound schema type_no 0 s none in
    tree_more schema type_no x s a lawful e some
    ∙ ap (λ u. Some u) (text_into schema (all_ascend schema lawful) (all_along schema lawful) most_levels type_no a t (decoded_fits schema type_no x a lawful e).fits fitted.fits sound)
