-- The built-in schema is lawful; and for each rule a schema that isn't.
use Rattle.std.proofs.Common.{◌+◌, ◌^◌, ℕ, List, [], ◌∷◌, true, refl, arith}
use Rattle.std.specs.Prelude.{replicate}
use Rattle.std.proofs.lemmas.List.{length-replicate}
use Rattle.std.proofs.lemmas.Bool.{false≢true}
use Rattle.pb_schema.specs.declared.kind.Kind.TheVariants as kinds
use Rattle.pb_schema.specs.declared.kind.Card.TheVariants as cards
use Rattle.pb_schema.specs.declared.kind.FieldType.{FieldType}
use Rattle.pb_schema.specs.declared.schema.Schema.{Schema}
use Rattle.pb_schema.specs.Builtin.{builtin, field, tick_type}
use Rattle.pb_schema.specs.Lawful.{Lawful}

the_builtin_schema : Lawful builtin
the_builtin_schema = record {
  size = omega arith;
  types = (
    record { size = omega arith; numbers = (omega arith, omega arith, tt); oneofs = omega arith; fields = (tt, tt, tt) },
    (
      record {
        size = omega arith;
        numbers = (
          omega arith,
          omega arith,
          (
            omega arith,
            omega arith,
            (
              omega arith,
              omega arith,
              (
                omega arith,
                omega arith,
                (
                  omega arith,
                  omega arith,
                  (omega arith, omega arith, (omega arith, omega arith, (omega arith, omega arith, tt))),
                ),
              ),
            ),
          ),
        );
        oneofs = omega arith;
        fields = (
          tt,
          tt,
          (tt, tt, (omega arith, (λ e. absurd (false≢true e)), (tt, (λ e. refl), (tt, tt, (omega arith, tt, (tt, omega arith, (omega arith, omega arith, tt))))))),
        );
      },
      tt,
    ),
  );
}

-- one type with these fields and so many oneofs
abbrev one_type : List FieldType → ℕ → Schema
one_type fields oneofs = record { types = record { name = []; fields = fields; oneofs = oneofs } ∷ [] }

number_0 : Lawful (one_type (field 0 kinds.Bool cards.Implicit ∷ []) 0) → ⊥
number_0 p = absurd (omega (arith, p.types.0.numbers.0))

a_number_of_30_bits : Lawful (one_type (field (2 ^ 29) kinds.Bool cards.Implicit ∷ []) 0) → ⊥
a_number_of_30_bits p = absurd (omega (arith, p.types.0.numbers.1))

a_number_twice : Lawful (one_type (field 1 kinds.Bool cards.Implicit ∷ field 1 kinds.Text cards.Implicit ∷ []) 0) → ⊥
a_number_twice p = absurd (omega (arith, p.types.0.numbers.2.0))

numbers_that_descend : Lawful (one_type (field 2 kinds.Bool cards.Implicit ∷ field 1 kinds.Text cards.Implicit ∷ []) 0) → ⊥
numbers_that_descend p = absurd (omega (arith, p.types.0.numbers.2.0))

a_member_of_no_oneof : Lawful (one_type (field 1 kinds.Bool (cards.Member 1) ∷ []) 1) → ⊥
a_member_of_no_oneof p = absurd (omega (arith, p.types.0.fields.1))

a_message_of_no_type : Lawful (one_type (field 1 (kinds.Message 1) cards.Explicit ∷ []) 0) → ⊥
a_message_of_no_type p = absurd (omega (arith, p.types.0.fields.0))

an_implicit_message : Lawful (one_type (field 1 (kinds.Message 0) cards.Implicit ∷ []) 0) → ⊥
an_implicit_message p = p.types.0.fields.1

packed_text : Lawful (one_type (field 1 kinds.Text (cards.Repeated true) ∷ []) 0) → ⊥
packed_text p = absurd (false≢true (p.types.0.fields.1 refl))

too_many_oneofs : Lawful (one_type [] (2 ^ 22 + 1)) → ⊥
too_many_oneofs p = absurd (omega (arith, p.types.0.oneofs))

too_many_fields : Lawful (one_type (replicate 513 (field 1 kinds.Bool cards.Implicit)) 0) → ⊥
too_many_fields p = absurd (omega (arith, p.types.0.size, length-replicate 513 (field 1 kinds.Bool cards.Implicit)))

too_many_types : Lawful (record { types = replicate 4097 tick_type }) → ⊥
too_many_types p = absurd (omega (arith, p.size, length-replicate 4097 tick_type))
