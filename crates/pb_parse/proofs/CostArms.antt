-- What a record counts that a field takes, by the field's kind and card, in the words of the calls that change messages.
use Rattle.std.proofs.Common.{◌≡◌, ◌≢◌, ◌⊎◌, ⊎_elim, ℕ, zero, suc, ◌+◌, ◌-◌, List, [], ◌∷◌, length, map, Ok, Some, refl, sym, ap, ◌∙◌, arith}
use Rattle.std.specs.Prelude.{sum_by}
use Rattle.std.proofs.lemmas.List.{length-map}
use Rattle.std.proofs.lemmas.List.Sums.{sum_by-cons}
use Rattle.pb_schema.specs.declared.kind.Card.{Card}
use Rattle.pb_schema.specs.declared.kind.Card.TheVariants as cards
use Rattle.pb_schema.specs.declared.kind.FieldType.{FieldType}
use Rattle.pb_schema.specs.declared.schema.Schema.{Schema}
use Rattle.pb_schema.specs.Empty.{empty_with}
use Rattle.pb_schema.specs.Fits.{fields_of}
use Rattle.pb_schema.specs.Form.{read_scalar}
use Rattle.pb_schema.specs.HeldAt.{field_at, held_at}
use Rattle.pb_schema.specs.Kinds.{Coding, ValueType, Scalar, Characters, Octets, Nested, value_type_of, slot_of}
use Rattle.pb_schema.specs.MergeCost.{how_many}
use Rattle.pb_schema.specs.Meter.{Meter, GrowsInParts}
use Rattle.pb_schema.specs.MoreCost.{NestMore, single_more, merged_more, more_left}
use Rattle.pb_schema.specs.ParseCost.{NestCost, string_cost, element_cost, value_count, list_cost, cost_left}
use Rattle.pb_schema.specs.Put.{values_held}
use Rattle.pb_schema.specs.Record.{Record}
use Rattle.pb_schema.specs.Tree.{Number, Bytes, Sub, HeldWith, Nothing, One, Many, Shape, values_in_list}
use Rattle.pb_schema.specs.TreeOf.{elements_from, values_by}
use Rattle.dyn_message.specs.Fields.{IsBytesType}
use Rattle.dyn_message.specs.Links.{made_bytes, sub_or}
use Rattle.dyn_message.specs.Lists.{bytes_by, count_at, element_bytes}
use Rattle.dyn_message.specs.Stands.{IsSingle, IsList}
use Rattle.pb_parse.specs.Costs.{record_more, nest_left, more_below, taken_cost, read_cost}
use Rattle.pb_parse.proofs.CostLaws.{fresh_cost_is}
use Rattle.pb_parse.proofs.CostSteps.{held_count}
use Rattle.pb_parse.proofs.Nested.{more_than_none}
use Rattle.pb_parse.proofs.NumberSteps.{elements_one}

-- ONE LEVEL DEEPER

module _ (meter : Meter) (grows : GrowsInParts meter) (schema : Schema) (left inner : ℕ) (some : left ≢ 0) where
  abbrev none : Shape
  none = empty_with [] (fields_of schema inner)

  deeper_more : (n : ℕ) (t : Shape) (s : List ℕ) → more_below meter schema (suc n) inner t (s ∷ []) ≡ read_cost meter schema n inner t s
  unfolding more_below read_cost
  deeper_more n t s = refl

  pub more_deeper : (t : Shape) (s : List ℕ) → more_below meter schema left inner t (s ∷ []) ≡ read_cost meter schema (left - 1) inner t s
  more_deeper t s = ap (λ n. more_below meter schema n inner t (s ∷ [])) (more_than_none left some) ∙ deeper_more (left - 1) t s

  deeper_fresh : (n : ℕ) (s : List ℕ) → nest_left meter schema (suc n) inner (s ∷ []) ≡ meter.size inner + read_cost meter schema n inner none s
  unfolding nest_left
  deeper_fresh n s = fresh_cost_is meter grows schema n inner s

  pub fresh_deeper : (s : List ℕ) → nest_left meter schema left inner (s ∷ []) ≡ meter.size inner + read_cost meter schema (left - 1) inner none s
  fresh_deeper s = ap (λ n. nest_left meter schema n inner (s ∷ [])) (more_than_none left some) ∙ deeper_fresh (left - 1) s

-- BY CARD

module _ (meter : Meter) (schema : Schema) (left type_no : ℕ) (field : FieldType) (r : Record) (t : Shape) where
  abbrev nest : NestCost
  nest = nest_left meter schema left

  abbrev more : NestMore
  more = more_below meter schema left

  abbrev holds : HeldWith (List (List ℕ))
  holds = held_at schema type_no field.number t

  abbrev type : ValueType
  type = value_type_of field.kind

  abbrev count : ℕ
  count = count_at schema type_no field.number t

  one_more : (card : Card) → IsSingle card → record_more meter schema nest more field holds r card ≡ single_more meter nest more type holds (r ∷ [])
  one_more cards.Implicit single = refl
  one_more cards.Explicit single = refl
  one_more (cards.Member oneof) single = refl
  one_more (cards.Repeated packed) single = absurd single

  list_more : (card : Card) → IsList card → record_more meter schema nest more field holds r card ≡ list_cost meter schema nest field (how_many holds) (r ∷ [])
  list_more cards.Implicit list = absurd list
  list_more cards.Explicit list = absurd list
  list_more (cards.Member oneof) list = absurd list
  list_more (cards.Repeated packed) list = refl

  pub single_is : IsSingle field.card → taken_cost meter schema left type_no field r t ≡ single_more meter nest more type holds (r ∷ [])
  unfolding taken_cost
  single_is single = one_more field.card single

  -- a list grows by the record's values, and each of them counts
  pub list_is : IsList field.card → (k : ℕ) → value_count schema field r ≡ k
      → taken_cost meter schema left type_no field r t ≡ meter.growth (slot_of type) count (count + k) + element_cost meter nest type r
  unfolding taken_cost
  list_is list k is =
      let grown : how_many holds + sum_by (value_count schema field) (r ∷ []) ≡ count + k = omega (arith, held_count holds, is, sum_by-cons (value_count schema field) r []) in
      list_more field.card list
      ∙ omega (
        arith,
        ap (meter.growth (slot_of type) (how_many holds)) grown,
        ap (λ n. meter.growth (slot_of type) n (count + k)) (sym (held_count holds)),
        sum_by-cons (element_cost meter nest type) r [],
      )

  -- NUMBERS

  pub number_free : (coding : Coding) → type ≡ Scalar coding → IsSingle field.card → taken_cost meter schema left type_no field r t ≡ 0
  number_free coding is single = single_is single ∙ ap (λ v. single_more meter nest more v holds (r ∷ [])) is

  -- the numbers of a record, packed or not
  pub numbers_cost : (coding : Coding) (k : ℕ) → type ≡ Scalar coding → IsList field.card → field_at schema type_no field.number ≡ Some field → length (elements_from coding.wire 0 r.payload) ≡ k
      → taken_cost meter schema left type_no field r t ≡ meter.growth (element_bytes schema type_no field.number) count (count + k)
  numbers_cost coding k is list known long =
      let values : value_count schema field r ≡ k =
      ap (λ v. length (values_by {U = List ℕ} (λ inner payloads. empty_with [] []) v r)) is ∙ (length-map _ _ ∙ long) in
      omega (
        arith,
        list_is list k values,
        ap (λ v. element_cost meter nest v r) is,
        ap (λ f. meter.growth (bytes_by f) count (count + k)) known,
      )

  pub number_cost : (coding : Coding) (at : ℕ) → type ≡ Scalar coding → IsList field.card → field_at schema type_no field.number ≡ Some field → read_scalar coding.wire at r.payload ≡ Ok (length r.payload) → r.payload ≢ []
      → taken_cost meter schema left type_no field r t ≡ meter.growth (element_bytes schema type_no field.number) count (count + 1)
  number_cost coding at is list known whole some = numbers_cost coding 1 is list known (ap length (elements_one coding.wire at r.payload whole some))

  -- TEXTS AND BYTES

  string_single : (v : ValueType) → IsBytesType v → single_more meter nest more v holds (r ∷ []) ≡ meter.bytes (length r.payload)
  string_single (Scalar coding) is = absurd is
  string_single Characters is = omega (arith, sum_by-cons (λ (x : Record). string_cost meter x.payload) r [])
  string_single Octets is = omega (arith, sum_by-cons (λ (x : Record). string_cost meter x.payload) r [])
  string_single (Nested inner) is = absurd is

  pub string_counts : IsBytesType type → IsSingle field.card → taken_cost meter schema left type_no field r t ≡ meter.bytes (length r.payload)
  string_counts is single = single_is single ∙ string_single type is

  string_element : (v : ValueType) → IsBytesType v → (slot_of v ≡ 24) × (length (values_by {U = List ℕ} (λ inner payloads. empty_with [] []) v r) ≡ 1) × (element_cost meter nest v r ≡ meter.bytes (length r.payload))
  string_element (Scalar coding) is = absurd is
  string_element Characters is = (refl, refl, refl)
  string_element Octets is = (refl, refl, refl)
  string_element (Nested inner) is = absurd is

  pub string_listed_counts : IsBytesType type → IsList field.card → taken_cost meter schema left type_no field r t ≡ meter.growth 24 count (count + 1) + meter.bytes (length r.payload)
  string_listed_counts is list =
      let e = string_element type is in
      omega (arith, list_is list 1 e.1, e.2, ap (λ n. meter.growth n count (count + 1)) e.0)

  -- MESSAGES

  module _ (grows : GrowsInParts meter) (inner : ℕ) (is : type ≡ Nested inner) (some : left ≢ 0) where
    abbrev empty : Shape
    empty = empty_with [] (fields_of schema inner)

    sub_single : (held : HeldWith (List (List ℕ))) → (held ≡ Nothing) ⊎ ((u : Shape) × (held ≡ One (Sub u)))
        → merged_more (more inner) (nest inner) held (r ∷ []) ≡ made_bytes (meter.size inner) held + read_cost meter schema (left - 1) inner (sub_or empty held) r.payload
    sub_single Nothing either = fresh_deeper meter grows schema left inner some r.payload
    sub_single (One (Sub u)) either = omega (arith, more_deeper meter grows schema left inner some u r.payload)
    sub_single (One (Number p)) either = absurd (⊎_elim (λ e. cc) (λ e. let same = e.1 in cc) either)
    sub_single (One (Bytes s)) either = absurd (⊎_elim (λ e. cc) (λ e. let same = e.1 in cc) either)
    sub_single (Many elements) either = absurd (⊎_elim (λ e. cc) (λ e. let same = e.1 in cc) either)

    pub sub_counts : IsSingle field.card → (holds ≡ Nothing) ⊎ ((u : Shape) × (holds ≡ One (Sub u)))
        → taken_cost meter schema left type_no field r t ≡ made_bytes (meter.size inner) holds + read_cost meter schema (left - 1) inner (sub_or empty holds) r.payload
    sub_counts single either = single_is single ∙ (ap (λ v. single_more meter nest more v holds (r ∷ [])) is ∙ sub_single holds either)

    pub element_counts : IsList field.card → taken_cost meter schema left type_no field r t ≡ meter.growth 16 count (count + 1) + (meter.size inner + read_cost meter schema (left - 1) inner empty r.payload)
    element_counts list =
        omega (
          arith,
          list_is list 1 (ap (λ v. length (values_by {U = List ℕ} (λ n payloads. empty_with [] []) v r)) is),
          ap (λ v. element_cost meter nest v r) is,
          ap (λ v. meter.growth (slot_of v) count (count + 1)) is,
          fresh_deeper meter grows schema left inner some r.payload,
        )
