use Rattle.std.proofs.Common.{◌≡◌, ℕ, List, [], ◌∷◌, ◌∙◌, sym, subst}
use Rattle.pb_schema.specs.declared.kind.Card.{Card}
use Rattle.pb_schema.specs.declared.kind.FieldType.{FieldType}
use Rattle.pb_schema.specs.declared.kind.Kind.{Kind}
use Rattle.pb_schema.specs.declared.kind.Kind.TheVariants as kinds
use Rattle.pb_schema.specs.Kinds.{ValueType, value_type_of}
use Rattle.pb_schema.specs.Lawful.{CardAllowed, FieldsAllowed}
use Rattle.dyn_message.specs.Fields.{IsNumberType}
use Rattle.pb_parse.proofs.hand_made.numbers.Goals as goal

abbrev field : Card → ℕ → Kind → FieldType
field card number kind = record { number = number; kind = kind; card = card }

abbrev listed : Card → List FieldType
listed card =
    field card 1 kinds.Double ∷ field card 2 kinds.Float ∷ field card 3 kinds.Int64 ∷ field card 4 kinds.UInt64 ∷ field card 5 kinds.Int32
    ∷ field card 6 kinds.Fixed64 ∷ field card 7 kinds.Fixed32 ∷ field card 8 kinds.Bool ∷ field card 9 kinds.UInt32 ∷ field card 10 kinds.Enumeration
    ∷ field card 11 kinds.SFixed32 ∷ field card 12 kinds.SFixed64 ∷ field card 13 kinds.SInt32 ∷ field card 14 kinds.SInt64 ∷ []

-- each of them is allowed where numbers are
all_allowed : (card : Card) → ((type : ValueType) → IsNumberType type → CardAllowed 1 type card) → FieldsAllowed 6 1 (listed card)
all_allowed card each =
    let one = λ (kind : Kind) (number : IsNumberType (value_type_of kind)). each (value_type_of kind) number in
    (tt, one kinds.Double tt, (tt, one kinds.Float tt, (tt, one kinds.Int64 tt, (tt, one kinds.UInt64 tt, (tt, one kinds.Int32 tt, (tt, one kinds.Fixed64 tt, (tt, one kinds.Fixed32 tt, (tt, one kinds.Bool tt, (tt, one kinds.UInt32 tt, (tt, one kinds.Enumeration tt, (tt, one kinds.SFixed32 tt, (tt, one kinds.SFixed64 tt, (tt, one kinds.SInt32 tt, (tt, one kinds.SInt64 tt, tt))))))))))))))

pub returns-clause-allowed : goal.returns-clause-allowed
returns-clause-allowed c =
    let are : c.of.result ≡ listed c.args.card =
    c.of.ensures ∙ c.in_ok-vec.ensures.items ∙ (λ i. c.field.ensures i ∷ c.field-2.ensures i ∷ c.field-3.ensures i ∷ c.field-4.ensures i ∷ c.field-5.ensures i ∷ c.field-6.ensures i ∷ c.field-7.ensures i ∷ c.field-8.ensures i ∷ c.field-9.ensures i ∷ c.field-10.ensures i ∷ c.field-11.ensures i ∷ c.field-12.ensures i ∷ c.field-13.ensures i ∷ c.field-14.ensures i ∷ []) in
    subst (FieldsAllowed 6 1) (sym are) (all_allowed c.args.card c.requires)
