-- What merging field by field counts is what the merge counts: a field that the other message sets is was it was at first
-- when its turn comes.
use Rattle.std.proofs.Common.{◌≡◌, ◌≢◌, ◌+◌, ℕ, Bool, true, false, cond, ◌&&◌, ⊎_elim, List, [], ◌∷◌, length, refl, ap, ◌∙◌}
use Rattle.std.proofs.lemmas.Bool.{cases_Bool}
use Rattle.pb_schema.specs.declared.kind.Card.{Card}
use Rattle.pb_schema.specs.declared.kind.Card.TheVariants as cards
use Rattle.pb_schema.specs.declared.kind.FieldType.{FieldType}
use Rattle.pb_schema.specs.declared.schema.Schema.{Schema}
use Rattle.pb_schema.specs.Cards.{is_member}
use Rattle.pb_schema.specs.Fits.{fields_of}
use Rattle.pb_schema.specs.Lawful.{Lawful}
use Rattle.pb_schema.specs.Merge.{is_set, sets_member}
use Rattle.pb_schema.specs.MergeCost.{held_merge_cost, fields_merge_cost, merge_cost}
use Rattle.pb_schema.specs.Meter.{Meter}
use Rattle.pb_schema.specs.ParseCost.{pieces_cost}
use Rattle.pb_schema.specs.Tree.{Nothing, One, Many, Shape, Message, NoFields, FieldAnd, fields_held}
use Rattle.msg_merge.specs.Merging.{held_into, fields_walk_cost, walk_cost, IsHeldAs, IsSetAlone, AreHeldAs, HoldsByCards}
use Rattle.msg_merge.proofs.Steps.{Holding, Holdings, Differ, replaces, at, InType, Full, AreKnown, AreOurs, NoneHas, Aligned, field_step, ours_stay, member_set, set_alone, or_right, fields_differ, full_held, aligned, found, ours_of}

module _ (meter : Meter) (schema : Schema) (type_no : ℕ) where
  -- what the message holds is this wherever the other message sets something
  abbrev Agrees : Holding → Holding → Holding → Type 0
  Agrees Nothing x a = Unit {0}
  Agrees _ x a = x ≡ a

  abbrev AllAgree : List FieldType → Holdings → Holdings → Shape → Type 0
  AllAgree [] NoFields NoFields t = Unit {0}
  AllAgree (field ∷ fields) (FieldAnd held rest) (FieldAnd a was) t = Agrees held (at schema type_no field t) a × AllAgree fields rest was t
  AllAgree _ _ _ t = ⊥

  same_cost : (field : FieldType) (held x a : Holding) → Agrees held x a → held_merge_cost meter schema field x held ≡ held_merge_cost meter schema field a held
  same_cost field Nothing x a agree = refl
  same_cost field (One value) x a agree = ap (λ h. held_merge_cost meter schema field h (One value)) agree
  same_cost field (Many values) x a agree = ap (λ h. held_merge_cost meter schema field h (Many values)) agree

  module _ (field : FieldType) (held : Holding) (fields : List FieldType) (rest : Holdings) (alone : IsSetAlone field.card held fields rest) where
    -- a field that is set later isn't replaced
    not_replaced : (g : FieldType) (c : Card) (theirs : Holding) (value : Bool) → is_set theirs ≡ true → ((oneof : ℕ) → c ≡ cards.Member oneof → sets_member oneof fields rest ≡ true) → replaces field.card held c ≡ false
    not_replaced g cards.Implicit theirs value set member = refl
    not_replaced g cards.Explicit theirs value set member = refl
    not_replaced g (cards.Repeated packed) theirs value set member = refl
    not_replaced g (cards.Member oneof) theirs value set member = ⊎_elim
        (λ is. absurd (set_alone fields rest field.card held oneof alone is (member oneof refl)))
        (λ not. not)
        (cases_Bool (is_member oneof field.card && is_set held))

    list_stays : (c : Card) (theirs : Holding) → IsHeldAs c theirs → is_set theirs ≡ false → (theirs ≡ Nothing → ⊥) → replaces field.card held c ≡ false
    list_stays cards.Implicit theirs h unset some = refl
    list_stays cards.Explicit theirs h unset some = refl
    list_stays (cards.Repeated packed) theirs h unset some = refl
    list_stays (cards.Member oneof) Nothing h unset some = absurd (some refl)
    list_stays (cards.Member oneof) (One value) h unset some = cc
    list_stays (cards.Member oneof) (Many values) h unset some = absurd h

    agree_stays : (g : FieldType) (c : Card) (theirs x x' a : Holding) → IsHeldAs c theirs → x' ≡ cond (replaces field.card held c) Nothing x → ((oneof : ℕ) → c ≡ cards.Member oneof → is_set theirs ≡ true → sets_member oneof fields rest ≡ true) → Agrees theirs x a → Agrees theirs x' a
    agree_stays g c Nothing x x' a h is member agree = tt
    agree_stays g c (One value) x x' a h is member agree = is ∙ (ap (λ (b : Bool). cond b Nothing x) (not_replaced g c (One value) true refl (λ oneof e. member oneof e refl)) ∙ agree)
    agree_stays g c (Many values) x x' a h is member agree = is ∙ (ap (λ (b : Bool). cond b Nothing x) (list_stays c (Many values) h refl (λ e. cc)) ∙ agree)

    all_agree : (t t' : Shape) → ((other : FieldType) → InType schema type_no other → field.number ≢ other.number → at schema type_no other t' ≡ cond (replaces field.card held other.card) Nothing (at schema type_no other t))
        → (gs : List FieldType) (theirs was : Holdings) → AreKnown schema type_no gs → NoneHas schema type_no field.number gs → AreHeldAs gs theirs → ((oneof : ℕ) → sets_member oneof gs theirs ≡ true → sets_member oneof fields rest ≡ true) → AllAgree gs theirs was t → AllAgree gs theirs was t'
    all_agree t t' step [] NoFields NoFields known differ fit set agree = tt
    all_agree t t' step [] NoFields (FieldAnd a was) known differ fit set agree = absurd agree
    all_agree t t' step [] (FieldAnd x more) was known differ fit set agree = absurd fit
    all_agree t t' step (g ∷ gs) NoFields was known differ fit set agree = absurd fit
    all_agree t t' step (g ∷ gs) (FieldAnd x more) NoFields known differ fit set agree = absurd agree
    all_agree t t' step (g ∷ gs) (FieldAnd x more) (FieldAnd a was) known differ fit set agree = (
      agree_stays g g.card x (at schema type_no g t) (at schema type_no g t') a fit.0 (step g known.0 differ.0) (λ oneof is some. set oneof (member_set schema type_no field held fields rest g g.card x oneof (sets_member oneof gs more) refl is some)) agree.0,
      all_agree t t' step gs more was known.1 differ.1 fit.2 (λ oneof e. set oneof (or_right (is_member oneof g.card && is_set x) (sets_member oneof gs more) e)) agree.1,
    )

  fields_cost : (fields : List FieldType) (theirs was : Holdings) (t : Shape) → AreKnown schema type_no fields → Differ fields → Full schema type_no t → AreHeldAs fields theirs → AreOurs schema type_no fields t → AllAgree fields theirs was t
      → fields_walk_cost meter schema type_no fields theirs t ≡ fields_merge_cost meter schema fields was theirs
  fields_cost [] NoFields NoFields t known differ full fit ours agree = refl
  fields_cost [] NoFields (FieldAnd a was) t known differ full fit ours agree = absurd agree
  fields_cost [] (FieldAnd held rest) was t known differ full fit ours agree = absurd fit
  fields_cost (field ∷ fields) NoFields was t known differ full fit ours agree = absurd fit
  fields_cost (field ∷ fields) (FieldAnd held rest) NoFields t known differ full fit ours agree = absurd agree
  fields_cost (field ∷ fields) (FieldAnd held rest) (FieldAnd a was) t known differ full fit ours agree =
      let step = field_step schema type_no field held t known.0 full fit.0 ours.0 in
      let t' = held_into schema type_no field held t in
      ap (λ n. n + fields_walk_cost meter schema type_no fields rest t') (same_cost field held (at schema type_no field t) a agree.0)
      ∙ ap (λ n. held_merge_cost meter schema field a held + n)
      (fields_cost fields rest was t' known.1 differ.1 step.full fit.2 (ours_stay schema type_no field held fields rest t t' step.others fields known.1 differ.0 ours.1)
      (all_agree field held fields rest fit.1 t t' step.others fields rest was known.1 differ.0 fit.2 (λ oneof e. e) agree.1))

  agrees_first : (held x a : Holding) → x ≡ a → Agrees held x a
  agrees_first Nothing x a is = tt
  agrees_first (One value) x a is = is
  agrees_first (Many values) x a is = is

  agree_first : (t : Shape) (fields : List FieldType) (theirs was : Holdings) → AreHeldAs fields theirs → Aligned (fields_of schema type_no) (fields_held t) fields was → AllAgree fields theirs was t
  agree_first t [] NoFields NoFields fit line = tt
  agree_first t [] NoFields (FieldAnd a was) fit line = absurd line
  agree_first t [] (FieldAnd held rest) was fit line = absurd fit
  agree_first t (field ∷ fields) NoFields was fit line = absurd fit
  agree_first t (field ∷ fields) (FieldAnd held rest) NoFields fit line = absurd line
  agree_first t (field ∷ fields) (FieldAnd held rest) (FieldAnd a was) fit line = (agrees_first held (at schema type_no field t) a line.0, agree_first t fields rest was fit.2 line.1)

  pub walk_costs : (t u : Shape) → Lawful schema → HoldsByCards schema type_no t → HoldsByCards schema type_no u → walk_cost meter schema type_no t u ≡ merge_cost meter schema type_no t u
  walk_costs (Message ours before) (Message theirs pieces) lawful fit fits =
      let fields = fields_of schema type_no in
      let t = Message ours before in
      let differ = fields_differ schema lawful type_no in
      let full = full_held fields ours fit in
      let line = aligned fields ours differ full in
      ap (λ n. n + pieces_cost meter (length before) pieces)
      (fields_cost fields theirs ours t (found fields differ) differ full fits (ours_of schema type_no t fields ours line fit) (agree_first t fields theirs ours fits line))
