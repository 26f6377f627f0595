-- A message with a record put into the field that takes it, in the words of the calls that change messages.
use Rattle.std.proofs.Common.{◌≡◌, ◌≢◌, ℕ, List, [], length, Ok, Some, refl, sym, ap, ◌∙◌}
use Rattle.std.specs.Prelude.{map}
use Rattle.pb_schema.specs.declared.kind.FieldType.{FieldType}
use Rattle.pb_schema.specs.declared.schema.Schema.{Schema}
use Rattle.pb_schema.specs.Kinds.{Coding, ValueType, Scalar, Characters, Octets, Nested, value_type_of}
use Rattle.pb_schema.specs.Empty.{empty_with}
use Rattle.pb_schema.specs.Fits.{fields_of}
use Rattle.pb_schema.specs.Form.{read_scalar}
use Rattle.pb_schema.specs.HeldAt.{field_at, held_at, with_held}
use Rattle.pb_schema.specs.Merge.{joined}
use Rattle.pb_schema.specs.Put.{values_held}
use Rattle.pb_schema.specs.Tree.{Number, Bytes, Sub, HeldWith, One, Many, Shape, value_list}
use Rattle.pb_schema.specs.TreeOf.{elements_from, pattern_in}
use Rattle.pb_wire.specs.declared.wire_record.WireRecord.{WireRecord}
use Rattle.dyn_message.specs.Fields.{IsNumberType, IsBytesType, number_put, bytes_put}
use Rattle.dyn_message.specs.Links.{sub_or}
use Rattle.dyn_message.specs.Lists.{with_appended}
use Rattle.dyn_message.specs.Stands.{IsSingle, IsList}
use Rattle.pb_parse.specs.Reading.{onto_left, payload_at, record_at, with_taken}
use Rattle.pb_parse.proofs.TakenValues.{number_put_is, bytes_put_is, sub_put_is, packed_put_is, number_listed_is, bytes_listed_is, sub_listed_is}

-- NUMBERS

-- a number's kind has a coding
pub number_coding : (type : ValueType) → IsNumberType type → (coding : Coding) × (type ≡ Scalar coding)
number_coding (Scalar coding) h = (coding, refl)
number_coding Characters h = absurd h
number_coding Octets h = absurd h
number_coding (Nested inner) h = absurd h

module _ (schema : Schema) (left type_no : ℕ) (found : WireRecord) (bytes : List ℕ) (field : FieldType) (t : Shape) where
  abbrev holding : HeldWith (List (List ℕ)) → Shape
  holding held = with_held schema type_no field.number held t

  abbrev taken : Shape
  taken = with_taken schema left type_no field (record_at found bytes) t

  abbrev was : HeldWith (List (List ℕ))
  was = held_at schema type_no field.number t

  pub number_shape : (coding : Coding) (bits : ℕ) → field_at schema type_no field.number ≡ Some field → value_type_of field.kind ≡ Scalar coding → IsSingle field.card → bits ≡ pattern_in coding (payload_at found bytes)
      → holding (number_put schema type_no field.number bits) ≡ taken
  unfolding with_taken
  number_shape coding bits known type single e =
      ap (λ b. holding (number_put schema type_no field.number b)) e
      ∙ sym (ap holding (number_put_is schema [] (onto_left schema left) type_no field.number field was (record_at found bytes) coding known type single))

  pub string_shape : (s : List ℕ) → field_at schema type_no field.number ≡ Some field → IsBytesType (value_type_of field.kind) → IsSingle field.card → s ≡ payload_at found bytes
      → holding (bytes_put schema type_no field.number s) ≡ taken
  unfolding with_taken
  string_shape s known type single e =
      ap (λ b. holding (bytes_put schema type_no field.number b)) e
      ∙ sym (ap holding (bytes_put_is schema [] (onto_left schema left) type_no field.number field was (record_at found bytes) known type single))

  pub string_listed : (s : List ℕ) → IsBytesType (value_type_of field.kind) → IsList field.card → s ≡ payload_at found bytes → with_appended schema type_no field.number (Bytes s) t ≡ taken
  unfolding with_taken
  string_listed s type list e =
      ap (λ b. with_appended schema type_no field.number (Bytes b) t) e
      ∙ sym (ap holding (bytes_listed_is schema [] (onto_left schema left) field was (record_at found bytes) type list))

  pub number_listed : (coding : Coding) (bits : ℕ) → value_type_of field.kind ≡ Scalar coding → IsList field.card → bits ≡ pattern_in coding (payload_at found bytes)
      → read_scalar coding.wire found.payload (payload_at found bytes) ≡ Ok (length (payload_at found bytes)) → payload_at found bytes ≢ []
      → with_appended schema type_no field.number (Number bits) t ≡ taken
  unfolding with_taken
  number_listed coding bits type list e whole some =
      ap (λ b. with_appended schema type_no field.number (Number b) t) e
      ∙ sym (ap holding (number_listed_is schema [] (onto_left schema left) field was (record_at found bytes) coding found.payload type list whole some))

  pub packed_listed : (coding : Coding) → value_type_of field.kind ≡ Scalar coding → IsList field.card
      → holding (Many (joined (values_held was) (value_list (map (λ s. Number (pattern_in coding s)) (elements_from coding.wire 0 (payload_at found bytes)))))) ≡ taken
  unfolding with_taken
  packed_listed coding type list = sym (ap holding (packed_put_is schema [] (onto_left schema left) field was (record_at found bytes) coding type list))

  pub sub_shape : (inner : ℕ) → value_type_of field.kind ≡ Nested inner → IsSingle field.card
      → holding (One (Sub (onto_left schema left inner (sub_or (empty_with [] (fields_of schema inner)) was) (payload_at found bytes)))) ≡ taken
  unfolding with_taken
  sub_shape inner type single = sym (ap holding (sub_put_is schema [] (onto_left schema left) field was (record_at found bytes) inner type single))

  pub sub_listed : (inner : ℕ) → value_type_of field.kind ≡ Nested inner → IsList field.card
      → with_appended schema type_no field.number (Sub (onto_left schema left inner (empty_with [] (fields_of schema inner)) (payload_at found bytes))) t ≡ taken
  unfolding with_taken
  sub_listed inner type list = sym (ap holding (sub_listed_is schema [] (onto_left schema left) field was (record_at found bytes) inner type list))
