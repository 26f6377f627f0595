-- The empty message of a type, which has nothing set (proto3 guide, "Default Field Values").
use Rattle.std.specs.Prelude.{ℕ, List, [], map}
use Rattle.pb_schema.specs.declared.kind.Card.{Card}
use Rattle.pb_schema.specs.declared.kind.Card.TheVariants as cards
use Rattle.pb_schema.specs.declared.kind.FieldType.{FieldType}
use Rattle.pb_schema.specs.declared.schema.Schema.{Schema}
use Rattle.pb_schema.specs.Fits.{fields_of}
use Rattle.pb_schema.specs.Tree.{HeldWith, Nothing, Many, NoValues, TreeWith, Tree, Message, held_list}

-- a list has no values, any other field holds nothing
abbrev pub unset : {U : Type 0} → Card → HeldWith U
unset (cards.Repeated packed) = Many NoValues
unset _ = Nothing

-- the message with these fields that has nothing set, where this is what has nothing unknown
abbrev pub empty_with : {U : Type 0} → U → List FieldType → TreeWith U
empty_with unknown fields = Message (held_list (map (λ field. unset field.card) fields)) unknown

abbrev pub empty : Schema → ℕ → Tree
empty schema type_no = empty_with [] (fields_of schema type_no)
