-- What a payload counts that is read into a message, record by record: what is left of it counts less by what the record at its front does.
use Rattle.std.proofs.Common.{◌≡◌, ◌≢◌, ℕ, zero, suc, ◌+◌, ◌-◌, ◌<◌, List, [], ◌∷◌, ◌++◌, length, drop, take, Bool, true, false, cond, eqb, Ok, None, Some, refl, sym, ap, ◌∙◌, arith, append-nil, append_assoc}
use Rattle.std.proofs.lemmas.Bool.{cond-true, cond-false, or_parts, eqb-true}
use Rattle.std.proofs.lemmas.Option.{none-some}
use Rattle.pb_schema.specs.declared.kind.FieldType.{FieldType}
use Rattle.pb_schema.specs.declared.schema.Schema.{Schema}
use Rattle.pb_schema.specs.Broken.{most_levels}
use Rattle.pb_schema.specs.Empty.{empty_with}
use Rattle.pb_schema.specs.Fits.{takes, is_taken, fields_of}
use Rattle.pb_schema.specs.Form.{Form}
use Rattle.pb_schema.specs.HeldAt.{field_among, field_at, held_among, held_at, with_held}
use Rattle.pb_schema.specs.Kinds.{Octets, slot_of}
use Rattle.pb_schema.specs.Lawful.{Lawful, NumbersAscend}
use Rattle.pb_schema.specs.Meter.{Meter, GrowsInParts}
use Rattle.pb_schema.specs.MoreCost.{NestMore, fields_more, gathered_more, more_left}
use Rattle.pb_schema.specs.ParseCost.{NestCost, pieces_cost, cost_left, parse_cost}
use Rattle.pb_schema.specs.Put.{Onto, put, taken_put}
use Rattle.pb_schema.specs.Record.{Record, record_of}
use Rattle.pb_schema.specs.ShapeOf.{piece, piece_of, pieces_of, records_of_all, shape_left}
use Rattle.pb_schema.specs.Tree.{HeldWith, Shape, Message, HeldListWith, NoFields, FieldAnd, fields_held, unknown_held, fields_in_list}
use Rattle.pb_schema.specs.TreeOf.{unknown_in, unknown_of, records_in}
use Rattle.pb_schema.specs.Walk.{Stop, record_left}
use Rattle.pb_schema.proofs.CostLaws.{cost_later, cost_of_none}
use Rattle.pb_schema.proofs.PutLaws.{shape_none}
use Rattle.arena_mem.specs.Places.{Places, Buffers}
use Rattle.pb_parse.specs.Costs.{Costs, record_more, nest_left, more_below, taken_cost, read_cost, rest_cost}
use Rattle.pb_parse.specs.Reading.{onto_left, read_left, walked}
use Rattle.pb_parse.specs.Whole.{payload_cost}
use Rattle.pb_parse.proofs.CostSteps.{CountsBelow, counted, all_counted, among_all, fields_step, fields_free, more_later, cost_first}
use Rattle.pb_parse.proofs.FieldFound.{ascend_in, taken_number, found_here, found_later, first_left, none_above, taken_among}
use Rattle.pb_parse.proofs.PutSteps.{put_taken, put_left}
use Rattle.pb_parse.proofs.RecordSteps.{records_next}
use Rattle.pb_parse.proofs.Spending.{nothing_spent}

-- ONE LEVEL DEEPER

counts_below : (meter : Meter) → GrowsInParts meter → (schema : Schema) (left : ℕ) → CountsBelow schema (nest_left meter schema left) (more_below meter schema left) (onto_left schema left)
unfolding nest_left more_below onto_left read_left
counts_below meter grows schema zero = record { later = λ inner t p ps. refl; first = λ inner p ps. refl }
counts_below meter grows schema (suc left) = record { later = λ inner t p ps. more_later meter grows schema left inner t p ps; first = λ inner p ps. cost_first meter grows schema left inner p ps }

-- WHAT THE FIELDS COUNT OF A RECORD

module _ (meter : Meter) (schema : Schema) (nest : NestCost) (more : NestMore) (onto : Onto (List (List ℕ))) (below : CountsBelow schema nest more onto) (r : Record) where
  abbrev Holding : Type 0
  Holding = HeldWith (List (List ℕ))

  abbrev Holdings : Type 0
  Holdings = HeldListWith (List (List ℕ))

  abbrev all : List FieldType → Holdings → ℕ
  all fields others = all_counted meter schema nest more onto below r fields others

  abbrev one : FieldType → Holding → Bool → ℕ
  one field held t = counted meter schema nest more onto below field held r t

  none_counted : (fields : List FieldType) (others : Holdings) → is_taken schema fields r ≡ false → all fields others ≡ 0
  none_counted [] NoFields none = refl
  none_counted [] (FieldAnd held rest) none = refl
  none_counted (field ∷ fields) NoFields none = refl
  none_counted (field ∷ fields) (FieldAnd held rest) none =
      let parts = or_parts (takes schema field r) (is_taken schema fields r) none in
      omega (arith, ap (one field held) parts.0, none_counted fields rest parts.1)

  one_counted : (number : ℕ) (field : FieldType) → r.number ≡ number → takes schema field r ≡ true → (least : ℕ) (fields : List FieldType) (others : Holdings) → NumbersAscend least fields → field_among fields number ≡ Some field
      → length (fields_in_list others) ≡ length fields → all fields others ≡ record_more meter schema nest more field (held_among fields number others) r field.card
  one_counted number field is takes_it least [] others ascend found full = absurd (none-some field found)
  one_counted number field is takes_it least (first ∷ fields) NoFields ascend found full = absurd (omega (arith, full))
  one_counted number field is takes_it least (first ∷ fields) (FieldAnd held rest) ascend found full =
      pick (λ later. one_counted number field is takes_it (first.number + 1) fields rest ascend.2 later (omega (arith, full))) (eqb first.number number) refl
    where
      pick : (field_among fields number ≡ Some field → all fields rest ≡ record_more meter schema nest more field (held_among fields number rest) r field.card) → (t : Bool) → eqb first.number number ≡ t → all (first ∷ fields) (FieldAnd held rest) ≡ record_more meter schema nest more field (cond t held (held_among fields number rest)) r field.card
      pick further true same =
          let here : first ≡ field = found_here first fields number field found same in
          let own : one first held (takes schema first r) ≡ record_more meter schema nest more field held r field.card =
          ap (one first held) (ap (λ (f : FieldType). takes schema f r) here ∙ takes_it) ∙ ap (λ (f : FieldType). record_more meter schema nest more f held r f.card) here in
          let low : r.number < first.number + 1 = omega (arith, is, eqb-true first.number number same) in
          omega (arith, own, none_counted fields rest (none_above schema r (first.number + 1) fields ascend.2 low))
      pick further false differ =
          omega (arith, ap (one first held) (first_left schema first number r is differ), further (found_later first fields number field found differ))

-- ONE RECORD

module _ (meter : Meter) (grows : GrowsInParts meter) (schema : Schema) (left type_no : ℕ) where
  abbrev fields : List FieldType
  fields = fields_of schema type_no

  abbrev nest : NestCost
  nest = nest_left meter schema left

  abbrev more : NestMore
  more = more_below meter schema left

  abbrev onto : Onto (List (List ℕ))
  onto = onto_left schema left

  abbrev below : CountsBelow schema nest more onto
  below = counts_below meter grows schema left

  -- what all records count, and a piece
  abbrev parts_cost : HeldListWith (List (List ℕ)) → List (List ℕ) → List ℕ → List Record → ℕ
  parts_cost held pieces unknown rs = fields_more meter schema nest more fields rs fields held + pieces_cost meter (length pieces) (piece (unknown ++ unknown_of schema fields rs))

  rest_is : (t : Shape) (unknown s : List ℕ) → rest_cost meter schema left type_no t unknown s ≡ parts_cost (fields_held t) (unknown_held t) unknown (records_in left s)
  unfolding rest_cost
  rest_is (Message held pieces) unknown s = refl

  -- the record at the front, and what is left behind it
  rest_next : (t : Shape) (unknown : List ℕ) (at next : ℕ) (s : List ℕ) (form : Form) (stop : Stop) → record_left schema left fields at s ≡ Ok form → walked schema left fields next (drop form.size s) ≡ Ok stop
      → rest_cost meter schema left type_no t unknown s
      ≡ all_counted meter schema nest more onto below (record_of form s) fields (fields_held t)
      + rest_cost meter schema left type_no (Message (put schema [] onto fields (fields_held t) (record_of form s)) (unknown_held t)) (unknown ++ unknown_in schema fields (record_of form s)) (drop form.size s)
  rest_next t unknown at next s form stop e rest =
      let r = record_of form s in
      let rs = records_in left (drop form.size s) in
      let after = put schema [] onto fields (fields_held t) r in
      omega (
        arith,
        rest_is t unknown s,
        ap (parts_cost (fields_held t) (unknown_held t) unknown) (records_next schema left fields at next s form stop e rest),
        fields_step meter schema nest more onto below grows fields r rs fields (fields_held t) (among_all meter schema nest more onto below fields),
        ap (λ u. pieces_cost meter (length (unknown_held t)) (piece u)) (append_assoc unknown (unknown_in schema fields r) (unknown_of schema fields rs)),
        rest_is (Message after (unknown_held t)) (unknown ++ unknown_in schema fields r) (drop form.size s),
      )

  -- a field takes it
  pub rest_taken : (field : FieldType) (t : Shape) (unknown : List ℕ) (at next : ℕ) (s : List ℕ) (form : Form) (stop : Stop) → Lawful schema → field_at schema type_no field.number ≡ Some field → takes schema field (record_of form s) ≡ true
      → length (fields_in_list (fields_held t)) ≡ length fields → record_left schema left fields at s ≡ Ok form → walked schema left fields next (drop form.size s) ≡ Ok stop
      → rest_cost meter schema left type_no t unknown s
      ≡ taken_cost meter schema left type_no field (record_of form s) t
      + rest_cost meter schema left type_no (with_held schema type_no field.number (taken_put schema [] onto field (held_at schema type_no field.number t) (record_of form s) field.card) t) unknown (drop form.size s)
  unfolding taken_cost
  rest_taken field t unknown at next s form stop lawful found takes_it full e rest =
      let r = record_of form s in
      let behind = drop form.size s in
      let known : unknown_in schema fields r ≡ [] = cond-true (is_taken schema fields r) [] r.span (taken_among schema fields field.number field r found takes_it) in
      let after = put schema [] onto fields (fields_held t) r in
      omega (
        arith,
        rest_next t unknown at next s form stop e rest,
        one_counted meter schema nest more onto below r field.number field (sym (taken_number schema field r takes_it)) takes_it 1 fields (fields_held t) (ascend_in schema type_no lawful) found full,
        ap (λ u. rest_cost meter schema left type_no (Message after (unknown_held t)) u behind) (ap (λ u. unknown ++ u) known ∙ append-nil unknown),
        ap (λ held. rest_cost meter schema left type_no (Message held (unknown_held t)) unknown behind) (put_taken schema [] onto type_no field.number field r t lawful found takes_it),
      )

  -- no field takes it
  pub rest_other : (t : Shape) (unknown : List ℕ) (at next : ℕ) (s : List ℕ) (form : Form) (stop : Stop) → is_taken schema fields (record_of form s) ≡ false
      → record_left schema left fields at s ≡ Ok form → walked schema left fields next (drop form.size s) ≡ Ok stop
      → rest_cost meter schema left type_no t unknown s ≡ rest_cost meter schema left type_no t (unknown ++ take form.size s) (drop form.size s)
  rest_other t unknown at next s form stop untaken e rest =
      let r = record_of form s in
      let behind = drop form.size s in
      let span : unknown_in schema fields r ≡ r.span = cond-false (is_taken schema fields r) [] r.span untaken in
      let after = put schema [] onto fields (fields_held t) r in
      omega (
        arith,
        rest_next t unknown at next s form stop e rest,
        none_counted meter schema nest more onto below r fields (fields_held t) untaken,
        ap (λ u. rest_cost meter schema left type_no (Message after (unknown_held t)) (unknown ++ u) behind) span,
        ap (λ held. rest_cost meter schema left type_no (Message held (unknown_held t)) (unknown ++ r.span) behind) (put_left schema [] onto fields (fields_held t) r untaken),
        ap (λ u. rest_cost meter schema left type_no u (unknown ++ r.span) behind) (same_parts t),
      )
    where
      same_parts : (t : Shape) → Message (fields_held t) (unknown_held t) ≡ t
      same_parts (Message held unknown) = refl

  -- WHOLE PAYLOADS

  -- behind the last record the unknown bytes count
  pub rest_ended : (t : Shape) (unknown : List ℕ) → rest_cost meter schema left type_no t unknown [] ≡ pieces_cost meter (length (unknown_held t)) (piece unknown)
  rest_ended t unknown =
      omega (
        arith,
        rest_is t unknown [],
        fields_free meter schema nest more onto below grows fields fields (fields_held t),
        ap (λ u. pieces_cost meter (length (unknown_held t)) (piece u)) (append-nil unknown),
      )

  -- and before the first all of them do
  pub rest_begun : (t : Shape) (s : List ℕ) → read_cost meter schema left type_no t s ≡ rest_cost meter schema left type_no t [] s
  unfolding read_cost rest_cost nest_left more_below
  rest_begun t s = begun left t
    where
      level : (n : ℕ) (inner : NestCost) (onward : NestMore) (held : HeldListWith (List (List ℕ))) (before : List (List ℕ))
          → gathered_more meter schema inner onward type_no (Message held before) (records_of_all n (s ∷ [])) (pieces_of schema n fields (s ∷ []))
          ≡ gathered_more meter schema inner onward type_no (Message held before) (records_in n s) (piece (unknown_of schema fields (records_in n s)))
      level n inner onward held before =
          ap (λ rs. fields_more meter schema inner onward fields rs fields held + pieces_cost meter (length before) (pieces_of schema n fields (s ∷ []))) (append-nil (records_in n s))
          ∙ ap (λ ps. fields_more meter schema inner onward fields (records_in n s) fields held + pieces_cost meter (length before) ps) (append-nil (piece_of schema n fields s))

      begun : (n : ℕ) (u : Shape) → read_cost meter schema n type_no u s ≡ rest_cost meter schema n type_no u [] s
      begun zero (Message held before) = level 0 (λ inner more. 0) (λ inner u more. 0) held before
      begun (suc n) (Message held before) = level (suc n) (λ inner more. cost_left meter schema n inner more) (λ inner u more. more_left meter schema n inner u more) held before

-- a payload that is read as a message by itself
pub fresh_cost_is : (meter : Meter) → GrowsInParts meter → (schema : Schema) (left type_no : ℕ) (s : List ℕ) → cost_left meter schema left type_no (s ∷ []) ≡ meter.size type_no + read_cost meter schema left type_no (empty_with [] (fields_of schema type_no)) s
unfolding read_cost
fresh_cost_is meter grows schema left type_no s =
    cost_later meter grows schema left type_no [] (s ∷ [])
    ∙ (ap (λ n. n + more_left meter schema left type_no (shape_left schema left (fields_of schema type_no) []) (s ∷ [])) (cost_of_none meter grows schema left type_no)
    ∙ ap (λ t. meter.size type_no + more_left meter schema left type_no t (s ∷ [])) (shape_none schema left (fields_of schema type_no)))

pub whole_cost : (meter : Meter) → GrowsInParts meter → (schema : Schema) (type_no : ℕ) (s : List ℕ) → payload_cost meter schema type_no s ≡ meter.size type_no + read_cost meter schema most_levels type_no (empty_with [] (fields_of schema type_no)) s
unfolding payload_cost
whole_cost meter grows schema type_no s = fresh_cost_is meter grows schema most_levels type_no s

-- no pieces count nothing
pub no_pieces : (meter : Meter) → GrowsInParts meter → (before : ℕ) → pieces_cost meter before [] ≡ 0
no_pieces meter grows before =
    let none : before + 0 ≡ before = omega arith in
    omega (arith, ap (meter.growth (slot_of Octets) before) none, grows.none (slot_of Octets) before)

-- and no unknown bytes give none
pub no_unknown : (schema : Schema) (places : Places) (buffers : Buffers) (before : ℕ) (s : List ℕ) → s ≡ [] → Costs schema places buffers places buffers (λ meter. pieces_cost meter before (piece s))
no_unknown schema places buffers before s none =
    nothing_spent schema places buffers (λ meter. pieces_cost meter before (piece s)) (λ meter. 0) (λ meter grows. ap (λ x. pieces_cost meter before (piece x)) none ∙ no_pieces meter grows before)
