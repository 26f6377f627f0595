-- Numbers one after another, appended to a list one by one: what is left of them gives the same as all did at the start.
use Rattle.std.proofs.Common.{◌≡◌, ◌<◌, ◌≤◌, ℕ, suc, ◌+◌, List, [], length, take, drop, Ok, Some, refl, sym, ap, ◌∙◌, subst, arith}
use Rattle.std.specs.Prelude.{IsSome, map}
use Rattle.arena_mem.specs.Places.{Places, Buffers, used}
use Rattle.pb_schema.specs.declared.kind.FieldType.{FieldType}
use Rattle.pb_schema.specs.declared.schema.Schema.{Schema}
use Rattle.pb_schema.specs.Kinds.{Coding}
use Rattle.pb_schema.specs.Fits.{fields_of}
use Rattle.pb_schema.specs.Form.{read_scalar}
use Rattle.pb_schema.specs.HeldAt.{field_at, held_at, with_held}
use Rattle.pb_schema.specs.Lawful.{Lawful}
use Rattle.pb_schema.specs.Merge.{joined}
use Rattle.pb_schema.specs.Meter.{array_bytes}
use Rattle.pb_schema.specs.Put.{values_held}
use Rattle.pb_schema.specs.Tree.{Number, Many, Shape, ValueWith, ValueListWith, NoValues, ValueAnd, fields_held, fields_in_list, value_list, values_in_list}
use Rattle.pb_schema.proofs.HeldLaws.{get_after_set}
use Rattle.pb_schema.specs.TreeOf.{elements_from, pattern_in}
use Rattle.dyn_message.specs.declared.msg_ref.MsgRef.{MsgRef}
use Rattle.dyn_message.specs.Feet.{Foot, foot_bytes}
use Rattle.dyn_message.specs.Stands.{Stands, IsList}
use Rattle.dyn_message.specs.Changes.{NowStands}
use Rattle.dyn_message.specs.Lists.{count_at, element_bytes, with_appended}
use Rattle.pb_parse.specs.Costs.{Costs}
use Rattle.pb_parse.proofs.CostSteps.{joined_count}
use Rattle.pb_parse.proofs.HeldSteps.{listed_more, listed_none}
use Rattle.pb_parse.proofs.Memories.{all_entries, list_there, stays, then_stands}
use Rattle.pb_parse.proofs.NumberSteps.{elements_step}
use Rattle.pb_parse.proofs.Spending.{array_placed, costs_add, costs_by, nothing_spent}

-- the numbers that some bytes spell one after another
abbrev pub numbers_of : Coding → List ℕ → ValueListWith (List (List ℕ))
numbers_of coding s = value_list (map (λ x. Number (pattern_in coding x)) (elements_from coding.wire 0 s))

-- the message with some values more in a list
abbrev pub listed : Schema → ℕ → ℕ → ValueListWith (List (List ℕ)) → Shape → Shape
listed schema type_no number values t = with_held schema type_no number (Many (joined (values_held (held_at schema type_no number t)) values)) t

-- the message stands with the numbers that come before `s`, and the list grew by so many
pub record PackedTo (schema : Schema) (places : Places) (buffers : Buffers) (places' : Places) (buffers' : Buffers) (msg : MsgRef) (number : ℕ) (coding : Coding) (all s : List ℕ) (t : Shape) (feet : List Foot) : Type 0 where
  pub shape : Shape
  pub stands : NowStands schema places buffers places' buffers' msg shape feet
  pub goes : listed schema msg.type_no number (numbers_of coding all) t ≡ listed schema msg.type_no number (numbers_of coding s) shape
  pub done : ℕ
  pub counted : count_at schema msg.type_no number shape ≡ count_at schema msg.type_no number t + done
  pub left : done + length (elements_from coding.wire 0 s) ≡ length (elements_from coding.wire 0 all)
  pub costs : Costs schema places buffers places' buffers' (λ meter. meter.growth (element_bytes schema msg.type_no number) (count_at schema msg.type_no number t) (count_at schema msg.type_no number t + done))

module _ (schema : Schema) (msg : MsgRef) (number : ℕ) (coding : Coding) (field : FieldType) (known : field_at schema msg.type_no number ≡ Some field) where
  pub packed_none : (places : Places) (buffers : Buffers) (all : List ℕ) (t : Shape) (feet : List Foot) → Stands schema places buffers msg t feet → PackedTo schema places buffers places buffers msg number coding all all t feet
  packed_none places buffers all t feet st =
      let size = element_bytes schema msg.type_no number in
      let before = count_at schema msg.type_no number t in
      let same : before + 0 ≡ before = omega arith in
      record {
        shape = t;
        stands = stays schema places buffers msg t feet st;
        goes = refl;
        done = 0;
        counted = sym same;
        left = omega arith;
        costs = nothing_spent schema places buffers (λ meter. meter.growth size before (before + 0)) (λ meter. 0) (λ meter grows. ap (meter.growth size before) same ∙ grows.none size before);
      }

  -- a list with an element more
  one_longer : (value : ValueWith (List (List ℕ))) (t : Shape) → length (fields_in_list (fields_held t)) ≡ length (fields_of schema msg.type_no) → count_at schema msg.type_no number (with_appended schema msg.type_no number value t) ≡ count_at schema msg.type_no number t + 1
  one_longer value t full =
      let values = values_held (held_at schema msg.type_no number t) in
      ap (λ h. length (values_in_list (values_held h))) (get_after_set schema msg.type_no number field (Many (joined values (ValueAnd value NoValues))) t known full)
      ∙ joined_count values (ValueAnd value NoValues)

  pub packed_more : (p0 p1 p2 : Places) (b0 b1 b2 : Buffers) (all s : List ℕ) (t : Shape) (feet : List Foot) (at n bits : ℕ) → ((foot : Foot) → IsSome (foot_bytes p0 b0 foot) → IsSome (foot_bytes p1 b1 foot))
      → (p : PackedTo schema p0 b0 p1 b1 msg number coding all s t feet) → read_scalar coding.wire at s ≡ Ok n → 0 < n → n ≤ length s → bits ≡ pattern_in coding (take n s)
      → NowStands schema p1 b1 p2 b2 msg (with_appended schema msg.type_no number (Number bits) p.shape) p.stands.now
      → used p2 ≡ used p1 + array_bytes (element_bytes schema msg.type_no number) (count_at schema msg.type_no number p.shape) (count_at schema msg.type_no number p.shape + 1) → b2 ≡ b1
      → PackedTo schema p0 b0 p2 b2 msg number coding all (drop n s) t feet
  packed_more p0 p1 p2 b0 b1 b2 all s t feet at n bits still p e some within is put space same =
      let size = element_bytes schema msg.type_no number in
      let before = count_at schema msg.type_no number t in
      let between = count_at schema msg.type_no number p.shape in
      let step = elements_step coding.wire at s n e some within in
      let next : before + suc p.done ≡ between + 1 = omega (arith, p.counted) in
      let full = all_entries schema p1 b1 msg p.shape p.stands.now p.stands.stands in
      record {
        done = suc p.done;
        counted = omega (arith, one_longer (Number bits) p.shape full, p.counted);
        left = omega (arith, p.left, ap length step);
        costs = costs_add schema p0 p1 p2 b0 b1 b2 (λ meter. meter.growth size before (before + p.done)) (λ meter. meter.growth size between (between + 1)) (λ meter. meter.growth size before (before + suc p.done))
            p.costs (array_placed schema p1 p2 b1 b2 size between (between + 1) space same)
            (λ meter grows. ap (meter.growth size before) next
            ∙ (grows.parts size before between (between + 1) (omega (arith, p.counted)) (omega arith) ∙ ap (λ k. meter.growth size before k + meter.growth size between (between + 1)) p.counted));
        shape = with_appended schema msg.type_no number (Number bits) p.shape;
        stands = then_stands schema p0 p1 p2 b0 b1 b2 msg p.shape _ feet still p.stands put;
        goes = p.goes
            ∙ (ap (λ xs. listed schema msg.type_no number (value_list (map (λ x. Number (pattern_in coding x)) xs)) p.shape) step
            ∙ (ap (λ b. listed schema msg.type_no number (ValueAnd (Number b) (numbers_of coding (drop n s))) p.shape) (sym is)
            ∙ listed_more schema msg.type_no number field (Number bits) (numbers_of coding (drop n s)) p.shape known full));
      }

  -- nothing is left: the message stands with all of them
  pub packed_all : Lawful schema → IsList field.card → (p0 p1 : Places) (b0 b1 : Buffers) (all s : List ℕ) (t : Shape) (feet : List Foot) → s ≡ [] → PackedTo schema p0 b0 p1 b1 msg number coding all s t feet
      → NowStands schema p0 b0 p1 b1 msg (listed schema msg.type_no number (numbers_of coding all) t) feet
  packed_all lawful list p0 p1 b0 b1 all s t feet none p =
      let there = list_there schema lawful p1 b1 msg number field known list p.shape p.stands.now p.stands.stands in
      subst (λ u. NowStands schema p0 b0 p1 b1 msg u feet)
      (sym (p.goes ∙ (ap (λ x. listed schema msg.type_no number (numbers_of coding x) p.shape) none ∙ listed_none schema msg.type_no number field there.0 p.shape lawful known there.1)))
      p.stands

  -- and the list grew by as many
  pub packed_costs : (p0 p1 : Places) (b0 b1 : Buffers) (all s : List ℕ) (t : Shape) (feet : List Foot) → s ≡ [] → PackedTo schema p0 b0 p1 b1 msg number coding all s t feet
      → Costs schema p0 b0 p1 b1 (λ meter. meter.growth (element_bytes schema msg.type_no number) (count_at schema msg.type_no number t) (count_at schema msg.type_no number t + length (elements_from coding.wire 0 all)))
  packed_costs p0 p1 b0 b1 all s t feet none p =
      let size = element_bytes schema msg.type_no number in
      let before = count_at schema msg.type_no number t in
      let whole : length (elements_from coding.wire 0 all) ≡ p.done = omega (arith, p.left, ap (λ x. length (elements_from coding.wire 0 x)) none) in
      costs_by schema p0 p1 b0 b1 (λ meter. meter.growth size before (before + p.done)) (λ meter. meter.growth size before (before + length (elements_from coding.wire 0 all))) p.costs (λ meter grows. ap (λ n. meter.growth size before (before + n)) whole)
