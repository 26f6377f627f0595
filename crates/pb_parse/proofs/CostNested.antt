-- What a message in a field or a list of another costs that is made where there is none, and into which a record's payload is read.
use Rattle.std.proofs.Common.{◌≡◌, ◌≢◌, ℕ, ◌+◌, ◌-◌, List, [], Some, refl, sym, ap, ◌∙◌, arith}
use Rattle.arena_mem.specs.Places.{Places, Buffers, used}
use Rattle.msg_layout.specs.Layout.{layout_of}
use Rattle.pb_schema.specs.declared.kind.FieldType.{FieldType}
use Rattle.pb_schema.specs.declared.schema.Schema.{Schema}
use Rattle.pb_schema.specs.HeldAt.{field_at, held_at}
use Rattle.pb_schema.specs.Lawful.{Lawful}
use Rattle.pb_schema.specs.Meter.{Meter, array_bytes}
use Rattle.pb_schema.specs.Tree.{HeldWith, Nothing, One, Many, Shape}
use Rattle.pb_wire.specs.declared.wire_record.WireRecord.{WireRecord}
use Rattle.dyn_message.specs.declared.msg_ref.MsgRef.{MsgRef}
use Rattle.dyn_message.specs.Feet.{Foot}
use Rattle.dyn_message.specs.Links.{HasMadeSub, made_bytes}
use Rattle.dyn_message.specs.Lists.{HasAppended, count_at}
use Rattle.dyn_message.specs.Stands.{Stands, IsSingle, IsList}
use Rattle.pb_parse.specs.Costs.{Costs, read_cost, taken_cost}
use Rattle.pb_parse.specs.Parsing.{CostsTaken}
use Rattle.pb_parse.specs.Reading.{payload_at, record_at}
use Rattle.pb_parse.proofs.CostArms.{element_counts, sub_counts}
use Rattle.pb_parse.proofs.FieldsOpen.{sub_set}
use Rattle.pb_parse.proofs.Nested.{appended_tree, appended_type, made_tree, made_type}
use Rattle.pb_parse.proofs.Spending.{costs_add, costs_space}

made_none : (held : HeldWith (List (List ℕ))) → made_bytes 0 held ≡ 0
made_none Nothing = refl
made_none (One value) = refl
made_none (Many elements) = refl

module _ (schema : Schema) (p0 p1 : Places) (b0 b1 : Buffers) (msg : MsgRef) (t : Shape) (feet : List Foot) (st : Stands schema p0 b0 msg t feet) (field : FieldType) (known : field_at schema msg.type_no field.number ≡ Some field) (child : MsgRef)
    (left : ℕ) (found : WireRecord) (bytes s : List ℕ) (p2 : Places) (b2 : Buffers) (some : left ≢ 0) (is : s ≡ payload_at found bytes) where
  abbrev holds : HeldWith (List (List ℕ))
  holds = held_at schema msg.type_no field.number t

  abbrev taken : Meter → ℕ
  taken meter = taken_cost meter schema left msg.type_no field (record_at found bytes) t

  pub sub_spends : Lawful schema → IsSingle field.card → (made : HasMadeSub schema p0 b0 p1 b1 msg t feet field.number child)
      → used p1 ≡ used p0 + made_bytes (layout_of schema child.type_no).size holds → b1 ≡ b0
      → Costs schema p1 b1 p2 b2 (λ meter. read_cost meter schema (left - 1) child.type_no made.has.tree s)
      → CostsTaken schema left p0 b0 p2 b2 msg field (record_at found bytes) t
  sub_spends lawful single made space same read =
      let type = made_type schema p0 p1 b0 b1 msg t feet st field known child single made in
      let tree = made_tree schema p0 p1 b0 b1 msg t feet st field known child made in
      costs_add schema p0 p1 p2 b0 b1 b2 (λ meter. made_bytes (meter.size child.type_no) holds) (λ meter. read_cost meter schema (left - 1) child.type_no made.has.tree s) taken
      (costs_space schema p0 p1 b0 b1 (λ meter. made_bytes (meter.size child.type_no) holds) space same (made_none holds))
      read
      (λ meter grows.
      sub_counts meter schema left msg.type_no field (record_at found bytes) t grows child.type_no type some single (sub_set schema lawful p0 b0 msg field known t feet st child.type_no type single)
      ∙ (ap (λ v. made_bytes (meter.size child.type_no) holds + read_cost meter schema (left - 1) child.type_no v (payload_at found bytes)) (sym tree)
      ∙ ap (λ x. made_bytes (meter.size child.type_no) holds + read_cost meter schema (left - 1) child.type_no made.has.tree x) (sym is)))

  pub element_spends : IsList field.card → (made : HasAppended schema p0 b0 p1 b1 msg t feet field.number child)
      → used p1 ≡ used p0 + (layout_of schema child.type_no).size + array_bytes 16 (count_at schema msg.type_no field.number t) (count_at schema msg.type_no field.number t + 1) → b1 ≡ b0
      → Costs schema p1 b1 p2 b2 (λ meter. read_cost meter schema (left - 1) child.type_no made.has.tree s)
      → CostsTaken schema left p0 b0 p2 b2 msg field (record_at found bytes) t
  element_spends list made space same read =
      let type = appended_type schema p0 p1 b0 b1 msg t feet st field known child list made in
      let tree = appended_tree schema p0 p1 b0 b1 msg t feet st field known child made in
      let before = count_at schema msg.type_no field.number t in
      costs_add schema p0 p1 p2 b0 b1 b2 (λ meter. meter.growth 16 before (before + 1) + meter.size child.type_no) (λ meter. read_cost meter schema (left - 1) child.type_no made.has.tree s) taken
      (costs_space schema p0 p1 b0 b1 (λ meter. meter.growth 16 before (before + 1) + meter.size child.type_no) (omega (arith, space)) same refl)
      read
      (λ meter grows.
      omega (
        arith,
        element_counts meter schema left msg.type_no field (record_at found bytes) t grows child.type_no type some list,
        ap (λ v. read_cost meter schema (left - 1) child.type_no v (payload_at found bytes)) tree,
        ap (read_cost meter schema (left - 1) child.type_no made.has.tree) is,
      ))
