-- The lists of a message: the conditions of calls on them, what they hold, and a message with an element more.
use Rattle.std.specs.Prelude.{◌≡◌, ◌≤◌, ◌<◌, ℕ, zero, suc, ⊤, List, [], ◌∷◌, length, Option, None, Some, slice_get}
use Rattle.pb_schema.specs.declared.kind.FieldType.{FieldType}
use Rattle.arena_mem.specs.Places.{Places, Buffers}
use Rattle.pb_schema.specs.declared.schema.Schema.{Schema}
use Rattle.pb_schema.specs.Kinds.{Nested, value_type_of, slot_of}
use Rattle.pb_schema.specs.Fitted.{IsPatternOf, IsStringOf}
use Rattle.pb_schema.specs.HeldAt.{field_at, held_at, with_held}
use Rattle.pb_schema.specs.Merge.{joined}
use Rattle.pb_schema.specs.Put.{values_held}
use Rattle.pb_schema.specs.Tree.{ValueWith, Sub, Many, TreeWith, Shape, ValueListWith, ValueAnd, NoValues, values_in_list}
use Rattle.dyn_message.specs.declared.msg_ref.MsgRef.{MsgRef}
use Rattle.dyn_message.specs.Feet.{Foot, InPlace, times, KeepsOthers, OldOrFresh}
use Rattle.dyn_message.specs.Links.{StandsWith}
use Rattle.dyn_message.specs.Changes.{NowStands}
use Rattle.pb_schema.specs.Empty.{empty_with}
use Rattle.pb_schema.specs.Fits.{fields_of}
use Rattle.std.specs.FinMap as map
use Rattle.dyn_message.specs.Stands.{Stands, IsList}
use Rattle.dyn_message.specs.Arrays.{most_elements}
use Rattle.dyn_message.specs.Fields.{HasField, IsNumberType, IsBytesType, IsMessageType}

-- a list of anything, of numbers, of texts or bytes, of messages
abbrev pub HasList : Schema → ℕ → ℕ → Type 0
HasList schema type_no number = HasField IsList (λ type. ⊤) schema type_no number

abbrev pub HasNumbers : Schema → ℕ → ℕ → Type 0
HasNumbers schema type_no number = HasField IsList IsNumberType schema type_no number

abbrev pub HasStrings : Schema → ℕ → ℕ → Type 0
HasStrings schema type_no number = HasField IsList IsBytesType schema type_no number

abbrev pub HasMessages : Schema → ℕ → ℕ → Type 0
HasMessages schema type_no number = HasField IsList IsMessageType schema type_no number

-- the same where an element may be this number, or these bytes
abbrev pub ListsNumber : Schema → ℕ → ℕ → ℕ → Type 0
ListsNumber schema type_no number p = HasField IsList (λ type. IsPatternOf type p) schema type_no number

abbrev pub ListsBytes : Schema → ℕ → ℕ → List ℕ → Type 0
ListsBytes schema type_no number s = HasField IsList (λ type. IsStringOf type s) schema type_no number

-- the elements of the list with this number
abbrev pub elements_at : {U : Type 0} → Schema → ℕ → ℕ → TreeWith U → List (ValueWith U)
elements_at schema type_no number t = values_in_list (values_held (held_at schema type_no number t))

-- how many they are
abbrev pub count_at : {U : Type 0} → Schema → ℕ → ℕ → TreeWith U → ℕ
count_at schema type_no number t = length (elements_at schema type_no number t)

-- the message with one element more
abbrev pub with_appended : {U : Type 0} → Schema → ℕ → ℕ → ValueWith U → TreeWith U → TreeWith U
with_appended schema type_no number value t =
    with_held schema type_no number (Many (joined (values_held (held_at schema type_no number t)) (ValueAnd value NoValues))) t

-- a message that stands has fewer than the most elements in this list
abbrev pub HasFewer : Schema → Places → Buffers → MsgRef → ℕ → Type 0
HasFewer schema places buffers msg number =
    (t : Shape) (feet : List Foot) → Stands schema places buffers msg t feet → count_at schema msg.type_no number t < most_elements

-- it has more than so many
abbrev pub HasMore : Schema → Places → Buffers → MsgRef → ℕ → ℕ → Type 0
HasMore schema places buffers msg number index =
    (t : Shape) (feet : List Foot) → Stands schema places buffers msg t feet → index < count_at schema msg.type_no number t

-- the bytes of an element of the list with this number
abbrev pub bytes_by : Option FieldType → ℕ
bytes_by None = 0
bytes_by (Some field) = slot_of (value_type_of field.kind)

abbrev pub element_bytes : Schema → ℕ → ℕ → ℕ
element_bytes schema type_no number = bytes_by (field_at schema type_no number)

-- MESSAGES

-- the type has a list of messages of that other type
abbrev pub ListsMessage : Schema → ℕ → ℕ → ℕ → Type 0
ListsMessage schema type_no number child_type = HasField IsList (λ type. type ≡ Nested child_type) schema type_no number

-- the values with another one at an index
abbrev pub replaced_at : {U : Type 0} → ℕ → ValueWith U → ValueListWith U → ValueListWith U
replaced_at index value NoValues = NoValues
replaced_at zero value (ValueAnd first values) = ValueAnd value values
replaced_at (suc index) value (ValueAnd first values) = ValueAnd first (replaced_at index value values)

-- the message with another element at an index of a list
abbrev pub with_element : {U : Type 0} → Schema → ℕ → ℕ → ℕ → ValueWith U → TreeWith U → TreeWith U
with_element schema type_no number index value t =
    with_held schema type_no number (Many (replaced_at index value (values_held (held_at schema type_no number t)))) t

-- the message has this one at an index of a list: the child stands on its own feet, which are some of the parent's, and
-- for each later memory in which the child alone was changed, the parent stands with what the child stands for then
pub record HasElement (schema : Schema) (places : Places) (buffers : Buffers) (msg : MsgRef) (t : Shape) (feet : List Foot) (number index : ℕ) (child : MsgRef) : Type 0 where
  pub type : ListsMessage schema msg.type_no number child.type_no
  pub tree : Shape
  pub own : List Foot
  pub held : slice_get (elements_at schema msg.type_no number t) index ≡ Some (Sub tree)
  pub stands : Stands schema places buffers child tree own
  pub within : (foot : Foot) → times foot own ≤ times foot feet
  pub apart : times (InPlace msg.place) own ≡ 0
  pub later : (places' : Places) (buffers' : Buffers) (u : Shape) (own' : List Foot) → Stands schema places' buffers' child u own'
      → KeepsOthers places buffers places' buffers' own → OldOrFresh places buffers own own'
      → StandsWith schema places' buffers' msg (with_element schema msg.type_no number index (Sub u) t) feet own own'

-- the message has an empty message more in a list, which the call placed
pub record HasAppended (schema : Schema) (places : Places) (buffers : Buffers) (places' : Places) (buffers' : Buffers) (msg : MsgRef) (t : Shape) (feet : List Foot) (number : ℕ) (child : MsgRef) : Type 0 where
  pub parent : NowStands schema places buffers places' buffers' msg (with_appended schema msg.type_no number (Sub (empty_with [] (fields_of schema child.type_no))) t) feet
  pub fresh : map.get places child.place ≡ None
  pub empty : Stands schema places' buffers' child (empty_with [] (fields_of schema child.type_no)) (InPlace child.place ∷ [])
  pub has : HasElement schema places' buffers' msg (with_appended schema msg.type_no number (Sub (empty_with [] (fields_of schema child.type_no))) t) parent.now number (count_at schema msg.type_no number t) child
