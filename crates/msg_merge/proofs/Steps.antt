-- Merging field by field, as a walk does it, is the merge.
use Rattle.std.proofs.Common.{◌≡◌, ◌≢◌, ⊎_elim, ◌+◌, ◌<◌, ℕ, zero, suc, Bool, true, false, cond, eqb, ◌&&◌, ◌||◌, true≢false, List, [], ◌∷◌, ◌++◌, length, append_assoc, append-nil, Some, refl, sym, ap, ◌∙◌, subst, arith}
use Rattle.std.specs.List.{AllByRecursion}
use Rattle.std.proofs.lemmas.Bool.{ne_eqb, eqb-true, cases_Bool}
use borrow.Author.Tests.{eq-eqb}
use Rattle.pb_schema.specs.declared.kind.Card.{Card}
use Rattle.pb_schema.specs.declared.kind.Card.TheVariants as cards
use Rattle.pb_schema.specs.declared.kind.FieldType.{FieldType}
use Rattle.pb_schema.specs.declared.schema.MessageType.{MessageType}
use Rattle.pb_schema.specs.declared.schema.Schema.{Schema}
use Rattle.pb_schema.specs.Cards.{is_member}
use Rattle.pb_schema.specs.Fits.{fields_among, fields_of}
use Rattle.pb_schema.specs.HeldAt.{field_among, field_at, held_among, held_at, clears, with_held}
use Rattle.pb_schema.specs.Lawful.{Lawful, NumbersAscend, TypesAllowed}
use Rattle.pb_schema.specs.Merge.{joined, is_set, sets_member, is_replaced, held_merged, fields_merged, shape_merge}
use Rattle.pb_schema.specs.Put.{values_held}
use Rattle.pb_schema.specs.Tree.{ValueWith, HeldWith, Nothing, One, Many, Shape, Message, ValueListWith, NoValues, ValueAnd, HeldListWith, NoFields, FieldAnd, fields_held, unknown_held, fields_in_list}
use Rattle.pb_schema.proofs.HeldLaws.{IsFull, get_after_set, get_elsewhere, entries_stay}
use Rattle.dyn_message.specs.Unknown.{with_piece}
use Rattle.msg_merge.specs.Merging.{values_into, held_into, fields_into, pieces_into, message_into, IsHeldAs, IsSetAlone, AreHeldAs, HoldsByCards}

-- what a field holds, with its unknown bytes in pieces
abbrev pub Holding : Type 0
Holding = HeldWith (List (List ℕ))

abbrev pub Holdings : Type 0
Holdings = HeldListWith (List (List ℕ))

abbrev pub merged : Schema → FieldType → Bool → Holding → Holding → Holding
merged schema field replaced ours theirs = held_merged (λ x y. x ++ y) schema field replaced ours theirs

-- NUMBERS

abbrev pub Differ : List FieldType → Type 0
Differ [] = Unit {0}
Differ (field ∷ fields) = AllByRecursion (λ (other : FieldType). field.number ≢ other.number) fields × Differ fields

greater : (number least : ℕ) (fields : List FieldType) → number < least → NumbersAscend least fields → AllByRecursion (λ (other : FieldType). number ≢ other.number) fields
greater number least [] less ascend = tt
greater number least (field ∷ fields) less ascend =
    ((λ e. omega (arith, less, ascend.0, e)), greater number (field.number + 1) fields (omega (arith, less, ascend.0)) ascend.2)

ascending_differ : (least : ℕ) (fields : List FieldType) → NumbersAscend least fields → Differ fields
ascending_differ least [] ascend = tt
ascending_differ least (field ∷ fields) ascend = (greater field.number (field.number + 1) fields (omega arith) ascend.2, ascending_differ (field.number + 1) fields ascend.2)

types_differ : (count : ℕ) (types : List MessageType) → TypesAllowed count types → (type_no : ℕ) → Differ (fields_among types type_no)
types_differ count [] allowed type_no = tt
types_differ count (type ∷ types) allowed zero = ascending_differ 1 type.fields allowed.0.numbers
types_differ count (type ∷ types) allowed (suc type_no) = types_differ count types allowed.1 type_no

pub fields_differ : (schema : Schema) → Lawful schema → (type_no : ℕ) → Differ (fields_of schema type_no)
fields_differ schema lawful type_no = types_differ (length schema.types) schema.types lawful.types type_no

-- ONE FIELD

-- a field of the first card, where the other message holds this, comes in place of what one of the second card held
abbrev pub replaces : Card → Holding → Card → Bool
replaces first theirs (cards.Member oneof) = is_member oneof first && is_set theirs
replaces first theirs _ = false

joined_none : (values : ValueListWith (List (List ℕ))) → joined values NoValues ≡ values
joined_none NoValues = refl
joined_none (ValueAnd value values) = ap (λ rest. ValueAnd value rest) (joined_none values)

joined_more : (old values : ValueListWith (List (List ℕ))) (value : ValueWith (List (List ℕ))) → joined (joined old (ValueAnd value NoValues)) values ≡ joined old (ValueAnd value values)
joined_more NoValues values value = refl
joined_more (ValueAnd first old) values value = ap (λ rest. ValueAnd first rest) (joined_more old values value)

same_oneof : (a b : ℕ) → eqb a b ≡ eqb b a
same_oneof a b = ⊎_elim
    (λ same. same ∙ sym (eq-eqb b a (sym (eqb-true a b same))))
    (λ differs. differs ∙ sym (ne_eqb b a (λ e. true≢false (sym (eq-eqb a b (sym e)) ∙ differs))))
    (cases_Bool (eqb a b))

and_true : (b : Bool) → b ≡ (b && true)
and_true true = refl
and_true false = refl

and_false : (b : Bool) → false ≡ (b && false)
and_false true = refl
and_false false = refl

merged_nothing : (schema : Schema) (field : FieldType) (x : Holding) → x ≡ merged schema field false x Nothing
merged_nothing schema field Nothing = refl
merged_nothing schema field (One value) = refl
merged_nothing schema field (Many values) = refl

module _ (schema : Schema) (type_no : ℕ) where
  abbrev pub InType : FieldType → Type 0
  InType field = field_at schema type_no field.number ≡ Some field

  abbrev pub at : FieldType → Shape → Holding
  at field t = held_at schema type_no field.number t

  abbrev pub Full : Shape → Type 0
  Full t = IsFull (fields_of schema type_no) (fields_held t)

  -- one field holds this afterwards, and each other one what it held, or nothing
  pub record Step (field : FieldType) (here : Holding) (gone : Card → Bool) (t t' : Shape) : Type 0 where
    pub is : at field t' ≡ here
    pub others : (other : FieldType) → InType other → field.number ≢ other.number → at other t' ≡ cond (gone other.card) Nothing (at other t)
    pub unknown : unknown_held t' ≡ unknown_held t
    pub full : Full t'

  put_step : (field : FieldType) (held : Holding) (t : Shape) → InType field → Full t → Step field held (λ other. clears field.card held other) t (with_held schema type_no field.number held t)
  put_step field held t known full = record {
    is = get_after_set schema type_no field.number field held t known full;
    others = λ other there differs. get_elsewhere schema type_no field.number other.number field other held t differs known there;
    unknown = refl;
    full = entries_stay schema type_no field.number held t ∙ full;
  }

  list_step : (field : FieldType) (packed : Bool) (values old : ValueListWith (List (List ℕ))) (t : Shape) → field.card ≡ cards.Repeated packed → InType field → Full t → at field t ≡ Many old
      → Step field (Many (joined old values)) (λ other. false) t (values_into schema type_no field.number values t)
  list_step field packed NoValues old t card known full is = record { is = is ∙ ap Many (sym (joined_none old)); others = λ other there differs. refl; unknown = refl; full = full }
  list_step field packed (ValueAnd value values) old t card known full is =
      let held = Many (joined (values_held (at field t)) (ValueAnd value NoValues)) in
      let first = put_step field held t known full in
      let old' = joined old (ValueAnd value NoValues) in
      let t' = with_held schema type_no field.number held t in
      let now : at field t' ≡ Many old' = first.is ∙ ap (λ h. Many (joined (values_held h) (ValueAnd value NoValues))) is in
      let later = list_step field packed values old' t' card known first.full now in
      record {
        is = later.is ∙ ap Many (joined_more old values value);
        others = λ other there differs. later.others other there differs ∙ (first.others other there differs ∙ ap (λ c. cond (clears c held other.card) Nothing (at other t)) card);
        unknown = later.unknown;
        full = later.full;
      }

  -- what is set where the other message sets a value
  one_clears : (field : FieldType) (ours : Holding) (value : ValueWith (List (List ℕ))) (first second : Card) → IsHeldAs first (One value) → clears first (merged schema field false ours (One value)) second ≡ replaces first (One value) second
  one_clears field ours value cards.Implicit cards.Implicit held = refl
  one_clears field ours value cards.Implicit cards.Explicit held = refl
  one_clears field ours value cards.Implicit (cards.Member other) held = refl
  one_clears field ours value cards.Implicit (cards.Repeated packed) held = refl
  one_clears field ours value cards.Explicit cards.Implicit held = refl
  one_clears field ours value cards.Explicit cards.Explicit held = refl
  one_clears field ours value cards.Explicit (cards.Member other) held = refl
  one_clears field ours value cards.Explicit (cards.Repeated packed) held = refl
  one_clears field ours value (cards.Repeated packed) second held = absurd held
  one_clears field ours value (cards.Member oneof) second held = by_ours ours ∙ by_second second
    where
      by_ours : (x : Holding) → clears (cards.Member oneof) (merged schema field false x (One value)) second ≡ is_member oneof second
      by_ours Nothing = refl
      by_ours (One w) = refl
      by_ours (Many ws) = refl

      by_second : (c : Card) → is_member oneof c ≡ replaces (cards.Member oneof) (One value) c
      by_second cards.Implicit = refl
      by_second cards.Explicit = refl
      by_second (cards.Member other) = same_oneof oneof other ∙ and_true (eqb other oneof)
      by_second (cards.Repeated packed) = refl

  -- a list replaces nothing, and what isn't set doesn't
  list_replaces : (packed : Bool) (theirs : Holding) (second : Card) → false ≡ replaces (cards.Repeated packed) theirs second
  list_replaces packed theirs cards.Implicit = refl
  list_replaces packed theirs cards.Explicit = refl
  list_replaces packed theirs (cards.Member other) = refl
  list_replaces packed theirs (cards.Repeated many) = refl

  nothing_replaces : (first second : Card) → false ≡ replaces first Nothing second
  nothing_replaces first cards.Implicit = refl
  nothing_replaces first cards.Explicit = refl
  nothing_replaces first (cards.Member other) = and_false (is_member other first)
  nothing_replaces first (cards.Repeated many) = refl

  step_as : (field : FieldType) (x y : Holding) (gone going : Card → Bool) (t t' : Shape) → x ≡ y → ((c : Card) → gone c ≡ going c) → Step field x gone t t' → Step field y going t t'
  step_as field x y gone going t t' same each s = record {
    is = s.is ∙ same;
    others = λ other there differs. s.others other there differs ∙ ap (λ b. cond b Nothing (at other t)) (each other.card);
    unknown = s.unknown;
    full = s.full;
  }

  list_held : (c : Card) (x : Holding) (packed : Bool) → c ≡ cards.Repeated packed → IsHeldAs c x → (old : ValueListWith (List (List ℕ))) × (x ≡ Many old)
  list_held c Nothing packed is held = absurd (subst (λ k. IsHeldAs k Nothing) is held)
  list_held c (One value) packed is held = absurd (subst (λ k. IsHeldAs k (One value)) is held)
  list_held c (Many old) packed is held = (old, refl)

  is_list : (c : Card) (values : ValueListWith (List (List ℕ))) → IsHeldAs c (Many values) → (packed : Bool) × (c ≡ cards.Repeated packed)
  is_list cards.Implicit values held = absurd held
  is_list cards.Explicit values held = absurd held
  is_list (cards.Member oneof) values held = absurd held
  is_list (cards.Repeated packed) values held = (packed, refl)

  pub field_step : (field : FieldType) (theirs : Holding) (t : Shape) → InType field → Full t → IsHeldAs field.card theirs → IsHeldAs field.card (at field t)
      → Step field (merged schema field false (at field t) theirs) (replaces field.card theirs) t (held_into schema type_no field theirs t)
  field_step field Nothing t known full held ours = record {
    is = merged_nothing schema field (at field t);
    others = λ other there differs. ap (λ b. cond b Nothing (at other t)) (nothing_replaces field.card other.card);
    unknown = refl;
    full = full;
  }
  field_step field (One value) t known full held ours =
      let now = merged schema field false (at field t) (One value) in
      step_as field now now (λ other. clears field.card now other) (replaces field.card (One value)) t (with_held schema type_no field.number now t) refl (λ c. one_clears field (at field t) value field.card c held) (put_step field now t known full)
  field_step field (Many values) t known full held ours =
      let card = is_list field.card values held in
      let old = list_held field.card (at field t) card.0 card.1 ours in
      step_as field (Many (joined old.0 values)) (merged schema field false (at field t) (Many values)) (λ other. false) (replaces field.card (Many values)) t (values_into schema type_no field.number values t)
      (sym (ap (λ h. merged schema field false h (Many values)) old.1)) (λ c. list_replaces card.0 (Many values) c ∙ ap (λ k. replaces k (Many values) c) (sym card.1)) (list_step field card.0 values old.0 t card.1 known full old.1)

-- ALL FIELDS

replaced_more : (field : FieldType) (held : Holding) (fields : List FieldType) (rest : Holdings) (c : Card) → (replaces field.card held c || is_replaced c fields rest) ≡ is_replaced c (field ∷ fields) (FieldAnd held rest)
replaced_more field held fields rest cards.Implicit = refl
replaced_more field held fields rest cards.Explicit = refl
replaced_more field held fields rest (cards.Member oneof) = refl
replaced_more field held fields rest (cards.Repeated packed) = refl

abbrev no_fields : Holdings
no_fields = NoFields

none_replaced : (c : Card) → false ≡ is_replaced c [] no_fields
none_replaced cards.Implicit = refl
none_replaced cards.Explicit = refl
none_replaced (cards.Member oneof) = refl
none_replaced (cards.Repeated packed) = refl

both_gone : (r p : Bool) (x : Holding) → cond r Nothing (cond p Nothing x) ≡ cond (p || r) Nothing x
both_gone true true x = refl
both_gone true false x = refl
both_gone false true x = refl
both_gone false false x = refl

gone_nothing : (r : Bool) → ◌≡◌ {A = Holding} (cond r Nothing Nothing) Nothing
gone_nothing true = refl
gone_nothing false = refl

or_after : (m r : Bool) → r ≡ ((m && false) || r)
or_after true r = refl
or_after false r = refl

pub or_right : (p r : Bool) → r ≡ true → (p || r) ≡ true
or_right true r e = refl
or_right false r e = e

or_left : (m : Bool) (r : Bool) → m ≡ true → ((m && true) || r) ≡ true
or_left m r e = ap (λ (b : Bool). (b && true) || r) e

and_first : (a b : Bool) → (a && b) ≡ true → a ≡ true
and_first true b e = refl
and_first false b e = e

-- no other member that is set comes later
pub set_alone : (fields : List FieldType) (rest : Holdings) (first : Card) (held : Holding) (oneof : ℕ) → IsSetAlone first held fields rest → (is_member oneof first && is_set held) ≡ true → sets_member oneof fields rest ≡ true → ⊥
set_alone fields rest cards.Implicit held oneof alone is set = true≢false (sym is)
set_alone fields rest cards.Explicit held oneof alone is set = true≢false (sym is)
set_alone fields rest (cards.Repeated packed) held oneof alone is set = true≢false (sym is)
set_alone fields rest (cards.Member other) Nothing oneof alone is set = true≢false (sym is ∙ sym (and_false (eqb oneof other)))
set_alone fields rest (cards.Member other) (Many values) oneof alone is set = true≢false (sym is ∙ sym (and_false (eqb oneof other)))
set_alone fields rest (cards.Member other) (One value) oneof alone is set =
    true≢false (sym set ∙ (ap (λ o. sets_member o fields rest) (eqb-true oneof other (and_first (eqb oneof other) true is)) ∙ alone))

module _ (schema : Schema) (type_no : ℕ) where
  abbrev pub AreKnown : List FieldType → Type 0
  AreKnown fields = AllByRecursion (InType schema type_no) fields

  -- what the first message holds there, as their cards say
  abbrev pub AreOurs : List FieldType → Shape → Type 0
  AreOurs [] t = Unit {0}
  AreOurs (field ∷ fields) t = IsHeldAs field.card (at schema type_no field t) × AreOurs fields t

  -- none of these has this number
  abbrev pub NoneHas : ℕ → List FieldType → Type 0
  NoneHas number fields = AllByRecursion (λ (other : FieldType). number ≢ other.number) fields

  -- each of these fields holds then what the merge gives, where `whole` is what all fields of the other message hold
  abbrev pub Here : List FieldType → Holdings → List FieldType → Holdings → Shape → Shape → Type 0
  Here all whole [] NoFields t t' = Unit {0}
  Here all whole [] (FieldAnd held rest) t t' = ⊥
  Here all whole (field ∷ fields) NoFields t t' = ⊥
  Here all whole (field ∷ fields) (FieldAnd held rest) t t' =
      (at schema type_no field t' ≡ merged schema field (is_replaced field.card all whole) (at schema type_no field t) held)
      × Here all whole fields rest t t'

  pub record Walked (fields : List FieldType) (theirs : Holdings) (t t' : Shape) : Type 0 where
    pub here : Here fields theirs fields theirs t t'
    pub others : (other : FieldType) → InType schema type_no other → NoneHas other.number fields → at schema type_no other t' ≡ cond (is_replaced other.card fields theirs) Nothing (at schema type_no other t)
    pub unknown : unknown_held t' ≡ unknown_held t
    pub full : Full schema type_no t'

  module _ (field : FieldType) (held : Holding) (fields : List FieldType) (rest : Holdings) where
    stay_case : (c : Card) (x : Holding) → IsHeldAs c x → IsHeldAs c (cond (replaces field.card held c) Nothing x)
    stay_case cards.Implicit x h = h
    stay_case cards.Explicit x h = h
    stay_case (cards.Repeated packed) x h = h
    stay_case (cards.Member oneof) x h = pick (is_member oneof field.card && is_set held)
      where
        pick : (p : Bool) → IsHeldAs (cards.Member oneof) (cond p Nothing x)
        pick true = tt
        pick false = h

    pub ours_stay : (t t' : Shape) → ((other : FieldType) → InType schema type_no other → field.number ≢ other.number → at schema type_no other t' ≡ cond (replaces field.card held other.card) Nothing (at schema type_no other t))
        → (gs : List FieldType) → AreKnown gs → NoneHas field.number gs → AreOurs gs t → AreOurs gs t'
    ours_stay t t' step [] known differ ours = tt
    ours_stay t t' step (g ∷ gs) known differ ours =
        (subst (IsHeldAs g.card) (sym (step g known.0 differ.0)) (stay_case g.card (at schema type_no g t) ours.0), ours_stay t t' step gs known.1 differ.1 ours.1)

    head_case : (c : Card) (x : Holding) → IsHeldAs c held → IsHeldAs c x → IsSetAlone c held fields rest → cond (is_replaced c fields rest) Nothing (merged schema field false x held) ≡ merged schema field (is_replaced c (field ∷ fields) (FieldAnd held rest)) x held
    head_case cards.Implicit x theirs ours alone = refl
    head_case cards.Explicit x theirs ours alone = refl
    head_case (cards.Repeated packed) x theirs ours alone = refl
    head_case (cards.Member oneof) x theirs ours alone = pick held x theirs ours alone
      where
        r : Bool
        r = sets_member oneof fields rest

        pick : (h x : Holding) → IsHeldAs (cards.Member oneof) h → IsHeldAs (cards.Member oneof) x → IsSetAlone (cards.Member oneof) h fields rest → cond (sets_member oneof fields rest) Nothing (merged schema field false x h) ≡ merged schema field ((is_member oneof field.card && is_set h) || sets_member oneof fields rest) x h
        pick Nothing Nothing theirs ours alone = gone_nothing (sets_member oneof fields rest)
        pick Nothing (One value) theirs ours alone = ap (λ (b : Bool). cond b Nothing (One value)) (or_after (is_member oneof field.card) (sets_member oneof fields rest))
        pick Nothing (Many values) theirs ours alone = absurd ours
        pick (One value) Nothing theirs ours alone = ap (λ (b : Bool). cond b Nothing (merged schema field false Nothing (One value))) alone
        pick (One value) (One other) theirs ours alone = ap (λ (b : Bool). cond b Nothing (merged schema field false (One other) (One value))) alone
        pick (One value) (Many values) theirs ours alone = absurd ours
        pick (Many values) x theirs ours alone = absurd theirs

    tail_case : (g : FieldType) (c : Card) (x theirs : Holding) → IsHeldAs c x → IsHeldAs c theirs → IsSetAlone field.card held fields rest → ((oneof : ℕ) → c ≡ cards.Member oneof → is_set theirs ≡ true → sets_member oneof fields rest ≡ true)
        → merged schema g (is_replaced c fields rest) (cond (replaces field.card held c) Nothing x) theirs ≡ merged schema g (is_replaced c (field ∷ fields) (FieldAnd held rest)) x theirs
    tail_case g cards.Implicit x theirs ours here alone set = refl
    tail_case g cards.Explicit x theirs ours here alone set = refl
    tail_case g (cards.Repeated packed) x theirs ours here alone set = refl
    tail_case g (cards.Member oneof) x theirs ours here alone set = pick (is_member oneof field.card && is_set held) refl x theirs ours here (λ is. set oneof refl is)
      where
        pick : (p : Bool) → (is_member oneof field.card && is_set held) ≡ p → (x theirs : Holding) → IsHeldAs (cards.Member oneof) x → IsHeldAs (cards.Member oneof) theirs → (is_set theirs ≡ true → sets_member oneof fields rest ≡ true)
            → merged schema g (sets_member oneof fields rest) (cond p Nothing x) theirs ≡ merged schema g (p || sets_member oneof fields rest) x theirs
        pick false is x theirs ours here set = refl
        pick true is Nothing Nothing ours here set = refl
        pick true is (One value) Nothing ours here set = refl
        pick true is (Many values) theirs ours here set = absurd ours
        pick true is x (Many values) ours here set = absurd here
        pick true is x (One value) ours here set = absurd (set_alone fields rest field.card held oneof alone is (set refl))

    pub member_set : (g : FieldType) (c : Card) (theirs : Holding) (oneof : ℕ) (later : Bool) → g.card ≡ c → c ≡ cards.Member oneof → is_set theirs ≡ true → ((is_member oneof g.card && is_set theirs) || later) ≡ true
    member_set g c theirs oneof later is member set =
        ap (λ (b : Bool). (is_member oneof g.card && b) || later) set
        ∙ or_left (is_member oneof g.card) later (ap (is_member oneof) (is ∙ member) ∙ eq-eqb oneof oneof refl)

    tail_here : (t t1 t' : Shape) → ((other : FieldType) → InType schema type_no other → field.number ≢ other.number → at schema type_no other t1 ≡ cond (replaces field.card held other.card) Nothing (at schema type_no other t)) → IsSetAlone field.card held fields rest
        → (gs : List FieldType) (theirs : Holdings) → AreKnown gs → NoneHas field.number gs → AreHeldAs gs theirs → AreOurs gs t → ((oneof : ℕ) → sets_member oneof gs theirs ≡ true → sets_member oneof fields rest ≡ true)
        → Here fields rest gs theirs t1 t' → Here (field ∷ fields) (FieldAnd held rest) gs theirs t t'
    tail_here t t1 t' step alone [] NoFields known differ fit ours set h = tt
    tail_here t t1 t' step alone [] (FieldAnd x more) known differ fit ours set h = absurd h
    tail_here t t1 t' step alone (g ∷ gs) NoFields known differ fit ours set h = absurd h
    tail_here t t1 t' step alone (g ∷ gs) (FieldAnd x more) known differ fit ours set h = (
      h.0
          ∙ (ap (λ y. merged schema g (is_replaced g.card fields rest) y x) (step g known.0 differ.0)
          ∙ tail_case g g.card (at schema type_no g t) x ours.0 fit.0 alone (λ oneof is some. set oneof (member_set g g.card x oneof (sets_member oneof gs more) refl is some))),
      tail_here t t1 t' step alone gs more known.1 differ.1 fit.2 ours.1 (λ oneof e. set oneof (or_right (is_member oneof g.card && is_set x) (sets_member oneof gs more) e)) h.1,
    )

  pub walked : (fields : List FieldType) (theirs : Holdings) (t : Shape) → AreKnown fields → Differ fields → Full schema type_no t → AreHeldAs fields theirs → AreOurs fields t → Walked fields theirs t (fields_into schema type_no fields theirs t)
  walked [] NoFields t known differ full fit ours = record { here = tt; others = λ other there differs. ap (λ (b : Bool). cond b Nothing (at schema type_no other t)) (none_replaced other.card); unknown = refl; full = full }
  walked [] (FieldAnd held rest) t known differ full fit ours = absurd fit
  walked (field ∷ fields) NoFields t known differ full fit ours = absurd fit
  walked (field ∷ fields) (FieldAnd held rest) t known differ full fit ours =
      let step = field_step schema type_no field held t known.0 full fit.0 ours.0 in
      let t1 = held_into schema type_no field held t in
      let later = walked fields rest t1 known.1 differ.1 step.full fit.2 (ours_stay field held fields rest t t1 step.others fields known.1 differ.0 ours.1) in
      record {
        here = (
          later.others field known.0 differ.0 ∙ (ap (λ h. cond (is_replaced field.card fields rest) Nothing h) step.is ∙ head_case field held fields rest field.card (at schema type_no field t) fit.0 ours.0 fit.1),
          tail_here field held fields rest t t1 (fields_into schema type_no fields rest t1) step.others fit.1 fields rest known.1 differ.0 fit.2 ours.1 (λ oneof e. e) later.here,
        );
        others = λ other there differs.
            later.others other there differs.1
            ∙ (ap (λ h. cond (is_replaced other.card fields rest) Nothing h) (step.others other there (λ e. differs.0 (sym e)))
            ∙ (both_gone (is_replaced other.card fields rest) (replaces field.card held other.card) (at schema type_no other t)
            ∙ ap (λ (b : Bool). cond b Nothing (at schema type_no other t)) (replaced_more field held fields rest other.card)));
        unknown = later.unknown ∙ step.unknown;
        full = later.full;
      }

-- THE WHOLE

-- each of these fields holds this, as all of them are read by number
abbrev pub Aligned : List FieldType → Holdings → List FieldType → Holdings → Type 0
Aligned all whole [] NoFields = Unit {0}
Aligned all whole [] (FieldAnd held rest) = ⊥
Aligned all whole (field ∷ fields) NoFields = ⊥
Aligned all whole (field ∷ fields) (FieldAnd held rest) = (held_among all field.number whole ≡ held) × Aligned all whole fields rest

aligned_more : (first : FieldType) (held : Holding) (all : List FieldType) (whole : Holdings) (fields : List FieldType) (rest : Holdings) → AllByRecursion (λ (other : FieldType). first.number ≢ other.number) fields → Aligned all whole fields rest → Aligned (first ∷ all) (FieldAnd held whole) fields rest
aligned_more first held all whole [] NoFields differ h = tt
aligned_more first held all whole [] (FieldAnd x more) differ h = absurd h
aligned_more first held all whole (field ∷ fields) NoFields differ h = absurd h
aligned_more first held all whole (field ∷ fields) (FieldAnd x more) differ h =
    (ap (λ (b : Bool). cond b held (held_among all field.number whole)) (ne_eqb first.number field.number differ.0) ∙ h.0, aligned_more first held all whole fields more differ.1 h.1)

one_less : (a b : ℕ) → suc a ≡ suc b → a ≡ b
one_less a b e = omega (arith, e)

pub aligned : (fields : List FieldType) (held : Holdings) → Differ fields → IsFull fields held → Aligned fields held fields held
aligned [] NoFields differ full = tt
aligned [] (FieldAnd x rest) differ full = absurd (omega (arith, full))
aligned (field ∷ fields) NoFields differ full = absurd (omega (arith, full))
aligned (field ∷ fields) (FieldAnd x rest) differ full = (
  ap (λ (b : Bool). cond b x (held_among fields field.number rest)) (eq-eqb field.number field.number refl),
  aligned_more field x fields rest fields rest differ.0 (aligned fields rest differ.1 (one_less (length (fields_in_list rest)) (length fields) full)),
)

-- each field is found by its number
found_more : (first : FieldType) (all fields : List FieldType) → AllByRecursion (λ (other : FieldType). first.number ≢ other.number) fields → AllByRecursion (λ (field : FieldType). field_among all field.number ≡ Some field) fields → AllByRecursion (λ (field : FieldType). field_among (first ∷ all) field.number ≡ Some field) fields
found_more first all [] differ known = tt
found_more first all (field ∷ fields) differ known =
    (ap (λ (b : Bool). cond b (Some first) (field_among all field.number)) (ne_eqb first.number field.number differ.0) ∙ known.0, found_more first all fields differ.1 known.1)

pub found : (fields : List FieldType) → Differ fields → AllByRecursion (λ (field : FieldType). field_among fields field.number ≡ Some field) fields
found [] differ = tt
found (field ∷ fields) differ =
    (ap (λ (b : Bool). cond b (Some field) (field_among fields field.number)) (eq-eqb field.number field.number refl), found_more field fields fields differ.0 (found fields differ.1))

pub full_held : (fields : List FieldType) (held : Holdings) → AreHeldAs fields held → IsFull fields held
full_held [] NoFields fit = refl
full_held [] (FieldAnd x rest) fit = absurd fit
full_held (field ∷ fields) NoFields fit = absurd fit
full_held (field ∷ fields) (FieldAnd x rest) fit = ap suc (full_held fields rest fit.2)

pieces_are : (pieces : List (List ℕ)) (t : Shape) → pieces_into pieces t ≡ Message (fields_held t) (unknown_held t ++ pieces)
pieces_are [] (Message held before) = ap (λ more. Message held more) (sym (append-nil before))
pieces_are (piece ∷ pieces) t = pieces_are pieces (with_piece piece t) ∙ ap (λ more. Message (fields_held t) more) (append_assoc (unknown_held t) (piece ∷ []) pieces)

module _ (schema : Schema) (type_no : ℕ) where
  pub ours_of : (t : Shape) (fields : List FieldType) (held : Holdings) → Aligned (fields_of schema type_no) (fields_held t) fields held → AreHeldAs fields held → AreOurs schema type_no fields t
  ours_of t [] NoFields h fit = tt
  ours_of t [] (FieldAnd x rest) h fit = absurd h
  ours_of t (field ∷ fields) NoFields h fit = absurd h
  ours_of t (field ∷ fields) (FieldAnd x rest) h fit = (subst (IsHeldAs field.card) (sym h.0) fit.0, ours_of t fields rest h.1 fit.2)

  closed : (whole : Holdings) (t t' : Shape) (fields : List FieldType) (ours now theirs : Holdings) → Aligned (fields_of schema type_no) (fields_held t) fields ours → Aligned (fields_of schema type_no) (fields_held t') fields now
      → Here schema type_no (fields_of schema type_no) whole fields theirs t t' → now ≡ fields_merged (λ x y. x ++ y) schema (fields_of schema type_no) whole fields ours theirs
  closed whole t t' [] NoFields NoFields theirs a b h = refl
  closed whole t t' [] NoFields (FieldAnd y later) theirs a b h = absurd b
  closed whole t t' [] (FieldAnd x rest) now theirs a b h = absurd a
  closed whole t t' (field ∷ fields) NoFields now theirs a b h = absurd a
  closed whole t t' (field ∷ fields) (FieldAnd x rest) NoFields theirs a b h = absurd b
  closed whole t t' (field ∷ fields) (FieldAnd x rest) (FieldAnd y later) NoFields a b h = absurd h
  closed whole t t' (field ∷ fields) (FieldAnd x rest) (FieldAnd y later) (FieldAnd z more) a b h =
      ap (λ k. FieldAnd k later) (sym b.0 ∙ (h.0 ∙ ap (λ k. merged schema field (is_replaced field.card (fields_of schema type_no) whole) k z) a.0))
      ∙ ap (λ k. FieldAnd (merged schema field (is_replaced field.card (fields_of schema type_no) whole) x z) k) (closed whole t t' fields rest later more a.1 b.1 h.1)

  pub walk_merges : (t u : Shape) → Lawful schema → HoldsByCards schema type_no t → HoldsByCards schema type_no u → message_into schema type_no t u ≡ shape_merge schema type_no t u
  walk_merges (Message ours before) (Message theirs pieces) lawful fit fits =
      let fields = fields_of schema type_no in
      let t = Message ours before in
      let t' = fields_into schema type_no fields theirs t in
      let differ = fields_differ schema lawful type_no in
      let full = full_held fields ours fit in
      let line = aligned fields ours differ full in
      let w = walked schema type_no fields theirs t (found fields differ) differ full fits (ours_of t fields ours line fit) in
      pieces_are pieces t'
      ∙ (ap (λ held. Message held (unknown_held t' ++ pieces)) (closed theirs t t' fields ours (fields_held t') theirs line (aligned fields (fields_held t') differ w.full) w.here)
      ∙ ap (λ more. Message (fields_merged (λ x y. x ++ y) schema fields theirs fields ours theirs) (more ++ pieces)) w.unknown)
