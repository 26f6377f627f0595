-- The trees that messages of a type may be (proto3 guide, "Scalar Value Types", "Specifying Field Types", "Oneof
-- Features" and "Unknown Fields").
use Rattle.std.specs.Prelude.{◌≢◌, ◌≤◌, ◌<◌, ℕ, ⊤, List, [], ◌∷◌, IsTrue, IsFalse}
use Rattle.std.specs.Str.{is_utf8}
use Rattle.pb_schema.specs.declared.kind.Card.{Card}
use Rattle.pb_schema.specs.declared.kind.Card.TheVariants as cards
use Rattle.pb_schema.specs.declared.kind.FieldType.{FieldType}
use Rattle.pb_schema.specs.declared.schema.Schema.{Schema}
use Rattle.pb_schema.specs.Kinds.{ValueType, Scalar, Characters, Octets, Nested, value_type_of}
use Rattle.pb_schema.specs.Fits.{is_taken, fields_of}
use Rattle.pb_schema.specs.Broken.{most_levels}
use Rattle.pb_schema.specs.Records.{Record, RecordsWithin}
use Rattle.pb_schema.specs.Depth.{depth_of}
use Rattle.pb_schema.specs.Merge.{sets_member}
use Rattle.pb_schema.specs.Tree.{Value, Number, Bytes, Sub, Held, Nothing, One, Many, Tree, Message, ValueList, NoValues, ValueAnd, HeldList, NoFields, FieldAnd}

-- VALUES

-- a field without presence doesn't hold its default
abbrev pub IsNoDefault : Value → Type 0
IsNoDefault (Number p) = 0 < p
IsNoDefault (Bytes s) = s ≢ []
IsNoDefault (Sub t) = ⊤

-- a number is a pattern of its kind
abbrev pub IsPatternOf : ValueType → ℕ → Type 0
IsPatternOf (Scalar coding) p = p < coding.patterns
IsPatternOf _ p = ⊥

-- bytes are text where they have to be
abbrev pub IsStringOf : ValueType → List ℕ → Type 0
IsStringOf Characters s = IsTrue (is_utf8 s)
IsStringOf Octets s = ⊤
IsStringOf _ s = ⊥

-- a message has the fields of its type
abbrev pub IsNestedOf : (List FieldType → Type 0) → Schema → ValueType → Type 0
IsNestedOf Fits schema (Nested type_no) = Fits (fields_of schema type_no)
IsNestedOf Fits schema _ = ⊥

-- the same by the field that holds the value
abbrev pub IsPattern : Schema → FieldType → ℕ → Type 0
IsPattern schema field p = IsPatternOf (value_type_of field.kind) p

abbrev pub IsByteString : Schema → FieldType → List ℕ → Type 0
IsByteString schema field s = IsStringOf (value_type_of field.kind) s

abbrev pub IsNested : (List FieldType → Type 0) → Schema → FieldType → Type 0
IsNested Fits schema field = IsNestedOf Fits schema (value_type_of field.kind)

-- CARDS

-- a list holds many values, any other field nothing or one, and one without presence no default
abbrev pub IsHeldBy : Card → Held → Type 0
IsHeldBy (cards.Repeated packed) (Many _) = ⊤
IsHeldBy (cards.Repeated packed) _ = ⊥
IsHeldBy _ (Many _) = ⊥
IsHeldBy cards.Implicit (One value) = IsNoDefault value
IsHeldBy _ _ = ⊤

-- where a member of a oneof is set, none of the later fields is a member of it that is set
abbrev pub IsAlone : Card → Held → List FieldType → HeldList → Type 0
IsAlone (cards.Member oneof) (One value) fields rest = IsFalse (sets_member oneof fields rest)
IsAlone _ _ fields rest = ⊤

-- UNKNOWN BYTES

-- no field of the type takes a record of these
abbrev pub NoneTaken : Schema → List FieldType → List Record → Type 0
NoneTaken schema fields [] = ⊤
NoneTaken schema fields (r ∷ rs) = IsFalse (is_taken schema fields r) × NoneTaken schema fields rs

-- the unknown bytes are records that no field of the type takes
abbrev pub IsUnknown : Schema → List FieldType → List ℕ → Type 0
IsUnknown schema fields s = (rs : List Record) × RecordsWithin most_levels s rs × NoneTaken schema fields rs

-- MESSAGES

abbrev mutual
  pub ValueFits : Schema → FieldType → Value → Type 0
  ValueFits schema field (Number p) = IsPattern schema field p
  ValueFits schema field (Bytes s) = IsByteString schema field s
  ValueFits schema field (Sub t) = IsNested (λ fields. MessageFits schema fields t) schema field

  pub HeldFits : Schema → FieldType → Held → Type 0
  HeldFits schema field Nothing = ⊤
  HeldFits schema field (One value) = ValueFits schema field value
  HeldFits schema field (Many values) = ValuesFit schema field values

  pub ValuesFit : Schema → FieldType → ValueList → Type 0
  ValuesFit schema field NoValues = ⊤
  ValuesFit schema field (ValueAnd value values) = ValueFits schema field value × ValuesFit schema field values

  -- one entry for each field
  pub FieldsFit : Schema → List FieldType → HeldList → Type 0
  FieldsFit schema [] NoFields = ⊤
  FieldsFit schema [] (FieldAnd held rest) = ⊥
  FieldsFit schema (field ∷ fields) NoFields = ⊥
  FieldsFit schema (field ∷ fields) (FieldAnd held rest) =
      IsHeldBy field.card held × HeldFits schema field held × IsAlone field.card held fields rest
      × FieldsFit schema fields rest

  pub MessageFits : Schema → List FieldType → Tree → Type 0
  MessageFits schema fields (Message held unknown) = FieldsFit schema fields held × IsUnknown schema fields unknown

-- a tree that a message of this type may be
pub record Fitted (schema : Schema) (type_no : ℕ) (t : Tree) : Type 0 where
  pub fits : MessageFits schema (fields_of schema type_no) t
  pub depth : depth_of t ≤ most_levels
