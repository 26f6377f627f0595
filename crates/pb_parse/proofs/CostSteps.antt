-- What records count that are put into a message one after another: the first one by what its field holds, and those behind it by what the message holds since.
use Rattle.std.proofs.Common.{◌≡◌, ℕ, zero, suc, ◌+◌, ◌≤◌, List, [], ◌∷◌, ◌++◌, length, map, Bool, true, false, not, cond, ◌&&◌, ◌||◌, refl, sym, ap, ◌∙◌, arith, append-nil, append_assoc, length-append}
use Rattle.std.specs.Prelude.{sum_by, filter, flat_map}
use Rattle.std.specs.List.{slice_split, onto_first, fold}
use Rattle.std.proofs.lemmas.Bool.{eq-eqb}
use Rattle.std.proofs.lemmas.List.Sums.{sum_by-append, sum_by-cons}
use Rattle.pb_schema.specs.declared.kind.Card.{Card}
use Rattle.pb_schema.specs.declared.kind.Card.TheVariants as cards
use Rattle.pb_schema.specs.declared.kind.FieldType.{FieldType}
use Rattle.pb_schema.specs.declared.schema.Schema.{Schema}
use Rattle.pb_schema.specs.Cards.{is_member}
use Rattle.pb_schema.specs.Empty.{empty_with}
use Rattle.pb_schema.specs.Fits.{takes, is_taken, fields_of}
use Rattle.pb_schema.specs.Kinds.{ValueType, Scalar, Characters, Octets, Nested, value_type_of, slot_of}
use Rattle.pb_schema.specs.Merge.{joined}
use Rattle.pb_schema.specs.MergeCost.{how_many}
use Rattle.pb_schema.specs.Meter.{Meter, GrowsInParts}
use Rattle.pb_schema.specs.MoreCost.{NestMore, merged_more, single_more, runs_more, more_by, fields_more, gathered_more, more_left}
use Rattle.pb_schema.specs.ParseCost.{NestCost, string_cost, merged_cost, single_cost, element_cost, value_count, list_cost, pieces_cost, cost_left}
use Rattle.pb_schema.specs.Put.{Onto, nest_onto, message_or, single_put, values_held, taken_put, other_put, held_put, fields_put, put, read_into}
use Rattle.pb_schema.specs.Records.{Record}
use Rattle.pb_schema.specs.ShapeOf.{piece, piece_of, pieces_of, records_of_all, shape_left}
use Rattle.pb_schema.specs.Tree.{ValueWith, Number, Bytes, Sub, HeldWith, Nothing, One, Many, Shape, Message, ValueListWith, NoValues, ValueAnd, HeldListWith, NoFields, FieldAnd, value_list, values_in_list}
use Rattle.pb_schema.specs.TreeOf.{Nest, payloads_of, fitting, is_of_oneof, of_oneof, runs, values_by, values_in, unless_default, unknown_of, records_in}
use Rattle.pb_schema.proofs.CostLaws.{IsSomeList, split_some, cost_later}
use Rattle.pb_schema.proofs.Gathering.{EachField}
use Rattle.pb_schema.proofs.PutLaws.{one_piece, shape_none, shape_more}
use Rattle.pb_schema.proofs.TreeLists.{values_of_list}
use Rattle.pb_parse.specs.Costs.{record_more}

-- what is known one level down: the first of some payloads counts by itself, and the others by the message that took it in
pub record CountsBelow (schema : Schema) (nest : NestCost) (more : NestMore) (onto : Onto (List (List ℕ))) : Type 0 where
  pub later : (type_no : ℕ) (t : Shape) (p : List ℕ) (ps : List (List ℕ)) → more type_no t (p ∷ ps) ≡ more type_no t (p ∷ []) + more type_no (onto type_no t p) ps
  pub first : (type_no : ℕ) (p : List ℕ) (ps : List (List ℕ)) → nest type_no (p ∷ ps) ≡ nest type_no (p ∷ []) + more type_no (onto type_no (empty_with [] (fields_of schema type_no)) p) ps

no_more : (n : ℕ) → n ≡ n + 0
no_more n = omega arith

none_and : (n : ℕ) → n ≡ 0 + n
none_and n = omega arith

filter_taken : (test : Record → Bool) (r : Record) (rs : List Record) → test r ≡ true → filter test (r ∷ rs) ≡ r ∷ filter test rs
filter_taken test r rs e = ap (λ b. cond b (r ∷ filter test rs) (filter test rs)) e

filter_left : (test : Record → Bool) (r : Record) (rs : List Record) → test r ≡ false → filter test (r ∷ rs) ≡ filter test rs
filter_left test r rs e = ap (λ b. cond b (r ∷ filter test rs) (filter test rs)) e

-- how many values a list has that is joined, and how many a field holds
pub joined_count : (xs ys : ValueListWith (List (List ℕ))) → length (values_in_list (joined xs ys)) ≡ length (values_in_list xs) + length (values_in_list ys)
joined_count NoValues ys = omega arith
joined_count (ValueAnd x xs) ys = omega (arith, joined_count xs ys)

pub held_count : (held : HeldWith (List (List ℕ))) → length (values_in_list (values_held held)) ≡ how_many held
held_count Nothing = refl
held_count (One value) = refl
held_count (Many elements) = refl

module _ (meter : Meter) (schema : Schema) (nest : NestCost) (more : NestMore) (onto : Onto (List (List ℕ))) (below : CountsBelow schema nest more onto) where
  -- ONE VALUE

  abbrev Holding : Type 0
  Holding = HeldWith (List (List ℕ))

  merged_step : (type_no : ℕ) (held : Holding) (r : Record) (rs : List Record)
      → merged_more (more type_no) (nest type_no) held (r ∷ rs) ≡ merged_more (more type_no) (nest type_no) held (r ∷ []) + merged_more (more type_no) (nest type_no) (single_put schema [] onto (Nested type_no) held r) rs
  merged_step type_no held r [] = no_more (merged_more (more type_no) (nest type_no) held (r ∷ []))
  merged_step type_no Nothing r (q ∷ qs) = below.first type_no r.payload (payloads_of (q ∷ qs))
  merged_step type_no (One (Number p)) r (q ∷ qs) = below.first type_no r.payload (payloads_of (q ∷ qs))
  merged_step type_no (One (Bytes s)) r (q ∷ qs) = below.first type_no r.payload (payloads_of (q ∷ qs))
  merged_step type_no (One (Sub t)) r (q ∷ qs) = below.later type_no t r.payload (payloads_of (q ∷ qs))
  merged_step type_no (Many vs) r (q ∷ qs) = below.first type_no r.payload (payloads_of (q ∷ qs))

  single_step : (type : ValueType) (held : Holding) (r : Record) (rs : List Record)
      → single_more meter nest more type held (r ∷ rs) ≡ single_more meter nest more type held (r ∷ []) + single_more meter nest more type (single_put schema [] onto type held r) rs
  single_step (Scalar coding) held r rs = refl
  single_step Characters held r rs = sum_by-append (λ (x : Record). string_cost meter x.payload) (r ∷ []) rs
  single_step Octets held r rs = sum_by-append (λ (x : Record). string_cost meter x.payload) (r ∷ []) rs
  single_step (Nested type_no) held r rs = merged_step type_no held r rs

  -- a default is no message
  merged_default : (type_no : ℕ) (held : Holding) (rs : List Record) → merged_more (more type_no) (nest type_no) (unless_default held) rs ≡ merged_more (more type_no) (nest type_no) held rs
  merged_default type_no held [] = refl
  merged_default type_no Nothing (r ∷ rs) = refl
  merged_default type_no (One (Number zero)) (r ∷ rs) = refl
  merged_default type_no (One (Number (suc n))) (r ∷ rs) = refl
  merged_default type_no (One (Bytes [])) (r ∷ rs) = refl
  merged_default type_no (One (Bytes (b ∷ s))) (r ∷ rs) = refl
  merged_default type_no (One (Sub t)) (r ∷ rs) = refl
  merged_default type_no (Many _) (r ∷ rs) = refl

  single_default : (type : ValueType) (held : Holding) (rs : List Record) → single_more meter nest more type (unless_default held) rs ≡ single_more meter nest more type held rs
  single_default (Scalar coding) held rs = refl
  single_default Characters held rs = refl
  single_default Octets held rs = refl
  single_default (Nested type_no) held rs = merged_default type_no held rs

  -- no records, and none held
  single_free : (type : ValueType) (held : Holding) → single_more meter nest more type held [] ≡ 0
  single_free (Scalar coding) held = refl
  single_free Characters held = refl
  single_free Octets held = refl
  single_free (Nested type_no) held = refl

  merged_anew : (type_no : ℕ) (rs : List Record) → merged_more (more type_no) (nest type_no) Nothing rs ≡ merged_cost (nest type_no) rs
  merged_anew type_no [] = refl
  merged_anew type_no (r ∷ rs) = refl

  single_anew : (type : ValueType) (rs : List Record) → single_more meter nest more type Nothing rs ≡ single_cost meter nest type rs
  single_anew (Scalar coding) rs = refl
  single_anew Characters rs = refl
  single_anew Octets rs = refl
  single_anew (Nested type_no) rs = merged_anew type_no rs

  -- RUNS

  -- the first run goes on
  run_on : (type : ValueType) (held : Holding) (r : Record) (parts : List (List Record)) → IsSomeList parts
      → runs_more meter nest more type held (onto_first r parts) ≡ single_more meter nest more type held (r ∷ []) + runs_more meter nest more type (single_put schema [] onto type held r) parts
  run_on type held r [] p = absurd p
  run_on type held r (run ∷ rest) p = omega (arith, single_step type held r run)

  -- another record ends it
  run_ends : (type : ValueType) (held : Holding) (parts : List (List Record)) → IsSomeList parts → runs_more meter nest more type held ([] ∷ parts) ≡ runs_more meter nest more type Nothing parts
  run_ends type held [] p = absurd p
  run_ends type held (run ∷ rest) p = omega (arith, single_free type held, single_anew type run, sum_by-cons (single_cost meter nest type) run rest)

  -- LISTS

  value_counts : (field : FieldType) (r : Record) → length (values_in schema (nest_onto schema [] onto) field r) ≡ value_count schema field r
  value_counts field r = by (value_type_of field.kind)
    where
      same_count : {U V A : Type 0} (f : A → ValueWith U) (g : A → ValueWith V) (xs : List A) → length (map f xs) ≡ length (map g xs)
      same_count f g [] = refl
      same_count f g (x ∷ xs) = ap suc (same_count f g xs)

      by : (type : ValueType) → length (values_by (nest_onto schema [] onto) type r) ≡ length (values_by {U = List ℕ} (λ type_no payloads. empty_with [] []) type r)
      by (Scalar coding) = same_count _ _ _
      by Characters = refl
      by Octets = refl
      by (Nested type_no) = refl

  -- what a list has that took a record
  list_count : (field : FieldType) (held : Holding) (r : Record) → how_many (Many (joined (values_held held) (value_list (values_in schema (nest_onto schema [] onto) field r)))) ≡ how_many held + value_count schema field r
  list_count field held r =
      let values = values_in schema (nest_onto schema [] onto) field r in
      omega (arith, joined_count (values_held held) (value_list values), held_count held, ap length (values_of_list values), value_counts field r)

  list_step : GrowsInParts meter → (field : FieldType) (before after : ℕ) (r : Record) (rs : List Record) → after ≡ before + value_count schema field r
      → list_cost meter schema nest field before (r ∷ rs) ≡ list_cost meter schema nest field before (r ∷ []) + list_cost meter schema nest field after rs
  list_step grows field before after r rs grown =
      let size = slot_of (value_type_of field.kind) in
      let count = value_count schema field in
      let cost = element_cost meter nest (value_type_of field.kind) in
      let rest = sum_by count rs in
      let one : after ≡ before + sum_by count (r ∷ []) = omega (arith, grown, sum_by-cons count r []) in
      let all : before + sum_by count (r ∷ rs) ≡ after + rest = omega (arith, grown, sum_by-cons count r rs) in
      let growth : meter.growth size before (before + sum_by count (r ∷ rs)) ≡ meter.growth size before (before + sum_by count (r ∷ [])) + meter.growth size after (after + rest) =
      ap (meter.growth size before) all
      ∙ (grows.parts size before after (after + rest) (omega (arith, grown)) (omega arith) ∙ ap (λ n. meter.growth size before n + meter.growth size after (after + rest)) one) in
      omega (arith, growth, sum_by-append cost (r ∷ []) rs)

  -- ONE FIELD

  -- a record that the field takes
  card_taken : GrowsInParts meter → (all : List FieldType) (field : FieldType) (held : Holding) (r : Record) (rs : List Record) → takes schema field r ≡ true → (card : Card) → ((oneof : ℕ) → card ≡ cards.Member oneof → is_of_oneof schema all oneof r ≡ true)
      → more_by meter schema nest more all (r ∷ rs) field held card ≡ record_more meter schema nest more field held r card + more_by meter schema nest more all rs field (taken_put schema [] onto field held r card) card
  card_taken grows all field held r rs e cards.Implicit own =
      let type = value_type_of field.kind in
      ap (single_more meter nest more type held) (filter_taken (takes schema field) r rs e)
      ∙ (single_step type held r (fitting schema field rs)
      ∙ ap (λ n. single_more meter nest more type held (r ∷ []) + n) (sym (single_default type (single_put schema [] onto type held r) (fitting schema field rs))))
  card_taken grows all field held r rs e cards.Explicit own =
      ap (single_more meter nest more (value_type_of field.kind) held) (filter_taken (takes schema field) r rs e)
      ∙ single_step (value_type_of field.kind) held r (fitting schema field rs)
  card_taken grows all field held r rs e (cards.Member oneof) own =
      let type = value_type_of field.kind in
      let theirs = of_oneof schema all oneof rs in
      let parts = runs schema field theirs in
      ap (λ xs. runs_more meter nest more type held (runs schema field xs)) (filter_taken (is_of_oneof schema all oneof) r rs (own oneof refl))
      ∙ (ap (λ b. runs_more meter nest more type held (cond (not b) ([] ∷ parts) (onto_first r parts))) e
      ∙ run_on type held r parts (split_some (λ q. not (takes schema field q)) theirs))
  card_taken grows all field held r rs e (cards.Repeated packed) own =
      ap (list_cost meter schema nest field (how_many held)) (filter_taken (takes schema field) r rs e)
      ∙ list_step grows field (how_many held) (how_many (taken_put schema [] onto field held r (cards.Repeated packed))) r (fitting schema field rs) (list_count field held r)

  -- a record that it doesn't take
  card_left : (all : List FieldType) (field : FieldType) (held : Holding) (r : Record) (rs : List Record) → takes schema field r ≡ false → (card : Card)
      → more_by meter schema nest more all (r ∷ rs) field held card ≡ more_by meter schema nest more all rs field (other_put schema all held r card) card
  card_left all field held r rs e cards.Implicit = ap (single_more meter nest more (value_type_of field.kind) held) (filter_left (takes schema field) r rs e)
  card_left all field held r rs e cards.Explicit = ap (single_more meter nest more (value_type_of field.kind) held) (filter_left (takes schema field) r rs e)
  card_left all field held r rs e (cards.Repeated packed) = ap (list_cost meter schema nest field (how_many held)) (filter_left (takes schema field) r rs e)
  card_left all field held r rs e (cards.Member oneof) = pick (is_of_oneof schema all oneof r) refl
    where
      pick : (t : Bool) → is_of_oneof schema all oneof r ≡ t
          → runs_more meter nest more (value_type_of field.kind) held (runs schema field (of_oneof schema all oneof (r ∷ rs)))
          ≡ runs_more meter nest more (value_type_of field.kind) (elim t [ true ↦ Nothing | false ↦ held ]) (runs schema field (of_oneof schema all oneof rs))
      pick true own =
          let type = value_type_of field.kind in
          let theirs = of_oneof schema all oneof rs in
          let parts = runs schema field theirs in
          ap (λ xs. runs_more meter nest more type held (runs schema field xs)) (filter_taken (is_of_oneof schema all oneof) r rs own)
          ∙ (ap (λ b. runs_more meter nest more type held (cond (not b) ([] ∷ parts) (onto_first r parts))) e
          ∙ run_ends type held parts (split_some (λ q. not (takes schema field q)) theirs))
      pick false own = ap (λ xs. runs_more meter nest more (value_type_of field.kind) held (runs schema field xs)) (filter_left (is_of_oneof schema all oneof) r rs own)

  -- what a field counts of a record, by whether it takes it
  abbrev pub counted : FieldType → Holding → Record → Bool → ℕ
  counted field held r true = record_more meter schema nest more field held r field.card
  counted field held r false = 0

  -- what a member of a oneof takes is taken by a member
  abbrev pub Among : List FieldType → List FieldType → Type 0
  Among all fields = EachField (λ field. (oneof : ℕ) (r : Record) → (is_member oneof field.card && takes schema field r) ≡ true → is_of_oneof schema all oneof r ≡ true) fields

  or_true : (a b : Bool) → b ≡ true → (a || b) ≡ true
  or_true true b e = refl
  or_true false b e = e

  among_more : (all : List FieldType) (first : FieldType) (fields : List FieldType) → Among all fields → Among (first ∷ all) fields
  among_more all first [] p = tt
  among_more all first (field ∷ fields) p =
      (λ oneof r e. or_true (is_member oneof first.card && takes schema first r) (is_of_oneof schema all oneof r) (p.0 oneof r e), among_more all first fields p.1)

  pub among_all : (all : List FieldType) → Among all all
  among_all [] = tt
  among_all (field ∷ fields) =
      (λ oneof r e. ap (λ b. b || is_of_oneof schema fields oneof r) e, among_more fields field fields (among_all fields))

  field_step : GrowsInParts meter → (all : List FieldType) (field : FieldType) (held : Holding) (r : Record) (rs : List Record)
      → ((oneof : ℕ) (q : Record) → (is_member oneof field.card && takes schema field q) ≡ true → is_of_oneof schema all oneof q ≡ true)
      → more_by meter schema nest more all (r ∷ rs) field held field.card ≡ counted field held r (takes schema field r) + more_by meter schema nest more all rs field (held_put schema [] onto all r field held) field.card
  field_step grows all field held r rs among = pick (takes schema field r) refl
    where
      own : takes schema field r ≡ true → (oneof : ℕ) → field.card ≡ cards.Member oneof → is_of_oneof schema all oneof r ≡ true
      own e oneof is = among oneof r (ap (λ card. is_member oneof card && takes schema field r) is ∙ (ap (λ b. b && takes schema field r) (eq-eqb oneof oneof refl) ∙ e))

      pick : (t : Bool) → takes schema field r ≡ t
          → more_by meter schema nest more all (r ∷ rs) field held field.card ≡ counted field held r t + more_by meter schema nest more all rs field (elim t [ true ↦ taken_put schema [] onto field held r field.card | false ↦ other_put schema all held r field.card ]) field.card
      pick true e = card_taken grows all field held r rs e field.card (own e)
      pick false e = card_left all field held r rs e field.card ∙ none_and (more_by meter schema nest more all rs field (other_put schema all held r field.card) field.card)

  -- ALL FIELDS

  -- what the fields count of a record
  abbrev pub all_counted : Record → List FieldType → HeldListWith (List (List ℕ)) → ℕ
  all_counted r (field ∷ fields) (FieldAnd held rest) = counted field held r (takes schema field r) + all_counted r fields rest
  all_counted r _ _ = 0

  pub fields_step : GrowsInParts meter → (all : List FieldType) (r : Record) (rs : List Record) (fields : List FieldType) (others : HeldListWith (List (List ℕ))) → Among all fields
      → fields_more meter schema nest more all (r ∷ rs) fields others ≡ all_counted r fields others + fields_more meter schema nest more all rs fields (fields_put schema [] onto all r fields others)
  fields_step grows all r rs [] NoFields among = refl
  fields_step grows all r rs [] (FieldAnd held rest) among = refl
  fields_step grows all r rs (field ∷ fields) NoFields among = refl
  fields_step grows all r rs (field ∷ fields) (FieldAnd held rest) among =
      omega (arith, field_step grows all field held r rs among.0, fields_step grows all r rs fields rest among.1)

  -- no records
  card_free : GrowsInParts meter → (all : List FieldType) (field : FieldType) (held : Holding) (card : Card) → more_by meter schema nest more all [] field held card ≡ 0
  card_free grows all field held cards.Implicit = single_free (value_type_of field.kind) held
  card_free grows all field held cards.Explicit = single_free (value_type_of field.kind) held
  card_free grows all field held (cards.Member oneof) = omega (arith, single_free (value_type_of field.kind) held)
  card_free grows all field held (cards.Repeated packed) =
      let size = slot_of (value_type_of field.kind) in
      let none : how_many held + 0 ≡ how_many held = omega arith in
      omega (arith, ap (meter.growth size (how_many held)) none, grows.none size (how_many held))

  pub fields_free : GrowsInParts meter → (all fields : List FieldType) (others : HeldListWith (List (List ℕ))) → fields_more meter schema nest more all [] fields others ≡ 0
  fields_free grows all [] NoFields = refl
  fields_free grows all [] (FieldAnd held rest) = refl
  fields_free grows all (field ∷ fields) NoFields = refl
  fields_free grows all (field ∷ fields) (FieldAnd held rest) = omega (arith, card_free grows all field held field.card, fields_free grows all fields rest)

  -- some records, and then others
  fields_then : GrowsInParts meter → (all : List FieldType) (rs qs : List Record) (others : HeldListWith (List (List ℕ)))
      → fields_more meter schema nest more all (rs ++ qs) all others ≡ fields_more meter schema nest more all rs all others + fields_more meter schema nest more all qs all (fold (put schema [] onto all) others rs)
  fields_then grows all [] qs others = omega (arith, fields_free grows all all others)
  fields_then grows all (r ∷ rs) qs others =
      omega (
        arith,
        fields_step grows all r (rs ++ qs) all others (among_all all),
        fields_step grows all r rs all others (among_all all),
        fields_then grows all rs qs (fields_put schema [] onto all r all others),
      )

  -- PIECES AND PAYLOADS

  pieces_then : GrowsInParts meter → (before after : ℕ) (ps qs : List (List ℕ)) → after ≡ before + length ps → pieces_cost meter before (ps ++ qs) ≡ pieces_cost meter before ps + pieces_cost meter after qs
  pieces_then grows before after ps qs grown =
      let size = slot_of Octets in
      let m = length qs in
      let all : before + length (ps ++ qs) ≡ after + m = omega (arith, grown, length-append ps qs) in
      let growth : meter.growth size before (before + length (ps ++ qs)) ≡ meter.growth size before (before + length ps) + meter.growth size after (after + m) =
      ap (meter.growth size before) all ∙ (grows.parts size before after (after + m) (omega (arith, grown)) (omega arith) ∙ ap (λ n. meter.growth size before n + meter.growth size after (after + m)) grown) in
      omega (arith, growth, sum_by-append (string_cost meter) ps qs)

  level_later : GrowsInParts meter → (left type_no : ℕ) (held : HeldListWith (List (List ℕ))) (before : List (List ℕ)) (p : List ℕ) (ps : List (List ℕ))
      → gathered_more meter schema nest more type_no (Message held before) (records_of_all left (p ∷ ps)) (pieces_of schema left (fields_of schema type_no) (p ∷ ps))
      ≡ gathered_more meter schema nest more type_no (Message held before) (records_of_all left (p ∷ [])) (pieces_of schema left (fields_of schema type_no) (p ∷ []))
      + gathered_more meter schema nest more type_no
      (Message (fold (put schema [] onto (fields_of schema type_no)) held (records_in left p)) (one_piece before (unknown_of schema (fields_of schema type_no) (records_in left p))))
      (records_of_all left ps)
      (pieces_of schema left (fields_of schema type_no) ps)
  level_later grows left type_no held before p ps =
      let fields = fields_of schema type_no in
      let rs = records_in left p in
      let own = piece_of schema left fields p in
      omega (
        arith,
        fields_then grows fields rs (records_of_all left ps) held,
        ap (λ xs. fields_more meter schema nest more fields xs fields held) (append-nil rs),
        pieces_then grows (length before) (length (one_piece before (unknown_of schema fields rs))) own (pieces_of schema left fields ps) (length-append before own),
        ap (pieces_cost meter (length before)) (append-nil own),
      )

pub cost_first : (meter : Meter) → GrowsInParts meter → (schema : Schema) (left type_no : ℕ) (p : List ℕ) (ps : List (List ℕ))
    → cost_left meter schema left type_no (p ∷ ps) ≡ cost_left meter schema left type_no (p ∷ []) + more_left meter schema left type_no (read_into one_piece [] schema left (fields_of schema type_no) (empty_with [] (fields_of schema type_no)) p) ps
cost_first meter grows schema left type_no p ps =
    let fields = fields_of schema type_no in
    cost_later meter grows schema left type_no (p ∷ []) ps
    ∙ ap (λ t. cost_left meter schema left type_no (p ∷ []) + more_left meter schema left type_no t ps)
    (shape_more schema left fields [] p ∙ ap (λ t. read_into one_piece [] schema left fields t p) (shape_none schema left fields))

-- a message that is there, and takes payloads in one after another
pub more_later : (meter : Meter) → GrowsInParts meter → (schema : Schema) (left type_no : ℕ) (t : Shape) (p : List ℕ) (ps : List (List ℕ))
    → more_left meter schema left type_no t (p ∷ ps) ≡ more_left meter schema left type_no t (p ∷ []) + more_left meter schema left type_no (read_into one_piece [] schema left (fields_of schema type_no) t p) ps
more_later meter grows schema zero type_no (Message held before) p ps =
    level_later meter schema (λ inner more. 0) (λ inner u more. 0) (λ inner u s. u) (record { later = λ inner u q qs. refl; first = λ inner q qs. refl }) grows 0 type_no held before p ps
more_later meter grows schema (suc left) type_no (Message held before) p ps =
    level_later meter schema (λ inner more. cost_left meter schema left inner more) (λ inner u more. more_left meter schema left inner u more) (λ inner u s. read_into one_piece [] schema left (fields_of schema inner) u s)
    (record { later = λ inner u q qs. more_later meter grows schema left inner u q qs; first = λ inner q qs. cost_first meter grows schema left inner q qs })
    grows (suc left) type_no held before p ps
