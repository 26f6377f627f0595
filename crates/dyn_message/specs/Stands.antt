-- What a message stands for: the bytes of its record, read by the layout of its type, give a shape. Over trees it stands
-- for what the shape is with the pieces of its unknown bytes joined.
use Rattle.std.specs.Prelude.{◌≡◌, ◌<◌, ◌≤◌, ◌^◌, ℕ, ⊤, List, [], ◌∷◌, length, take, drop, Some, Option, Bool}
use Rattle.std.specs.List.{concat}
use Rattle.std.specs.FinMap as map
use Rattle.arena_mem.specs.declared.place.Place.{Place}
use Rattle.arena_mem.specs.Places.{Places, Buffers}
use Rattle.pb_schema.specs.declared.kind.Card.{Card}
use Rattle.pb_schema.specs.declared.kind.Card.TheVariants as cards
use Rattle.pb_schema.specs.declared.kind.FieldType.{FieldType}
use Rattle.pb_schema.specs.declared.schema.Schema.{Schema}
use Rattle.pb_schema.specs.Kinds.{ValueType, Scalar, Nested, value_type_of, slot_of}
use Rattle.pb_schema.specs.Records.{Record, Records}
use Rattle.pb_schema.specs.Fitted.{IsStringOf}
use Rattle.pb_schema.specs.Tree.{ValueWith, Number, Bytes, Sub, HeldWith, Nothing, One, Many, Tree, Shape, Message, ValueListWith, NoValues, ValueAnd, HeldListWith, NoFields, FieldAnd, values_in_list, tree_map}
use Rattle.msg_layout.specs.declared.entry.Entry.{Entry}
use Rattle.msg_layout.specs.Slots.{slot_bytes, array_slot}
use Rattle.msg_layout.specs.Layout.{layout_of}
use Rattle.dyn_message.specs.declared.msg_ref.MsgRef.{MsgRef}
use Rattle.dyn_message.specs.Feet.{Foot, InPlace, Once, Split}
use Rattle.dyn_message.specs.Slots.{part, number_in, place_in, IsZero, slot_in, told_in, MayBeSet, MayBeUnset}
use Rattle.dyn_message.specs.Strings.{HoldsBytes}
use Rattle.dyn_message.specs.Arrays.{HoldsArray}

-- VALUES

-- a slot has a number, which is a pattern of its kind
abbrev pub HoldsNumber : ValueType → List ℕ → ℕ → Type 0
HoldsNumber (Scalar coding) slot p = (p < coding.patterns) × (number_in slot ≡ p)
HoldsNumber _ slot p = ⊥

-- a value of this type is a message, and that is what `Stands` says of a message of a type
abbrev pub IsLink : (ℕ → Type 0) → ValueType → Type 0
IsLink Stands (Nested type_no) = Stands type_no
IsLink Stands _ = ⊥

-- a text or bytes: text is UTF-8
pub record IsStringIn (places : Places) (buffers : Buffers) (type : ValueType) (slot s : List ℕ) (feet : List Foot) : Type 0 where
  pub kind : IsStringOf type s
  pub short : length s < 2 ^ 31
  pub holds : HoldsBytes places buffers slot s feet

-- a piece of unknown bytes: whole records, and some
pub record IsPieceIn (places : Places) (buffers : Buffers) (slot piece : List ℕ) (feet : List Foot) : Type 0 where
  pub some : 1 ≤ length piece
  pub short : length piece < 2 ^ 31
  pub whole : (rs : List Record) × Records piece rs
  pub holds : HoldsBytes places buffers slot piece feet

-- CARDS

-- the field has one value at most
abbrev pub IsSingle : Card → Type 0
IsSingle (cards.Repeated packed) = ⊥
IsSingle _ = ⊤

abbrev pub IsList : Card → Type 0
IsList (cards.Repeated packed) = ⊤
IsList _ = ⊥

-- it isn't the default, which counts as nothing where no mark tells one from the other
abbrev pub IsSome : {U : Type 0} → ValueWith U → Type 0
IsSome (Number p) = 1 ≤ p
IsSome (Bytes s) = 1 ≤ length s
IsSome (Sub t) = ⊤

-- a field of this card may hold this one value
abbrev pub MayHold : {U : Type 0} → Card → ValueWith U → Type 0
MayHold (cards.Repeated packed) value = ⊥
MayHold cards.Implicit value = IsSome value
MayHold _ value = ⊤

-- RECORDS

-- the pieces of unknown bytes that an array has, each with a slot of 24 bytes
abbrev pub PiecesStand : Places → Buffers → List ℕ → List (List ℕ) → List Foot → Type 0
PiecesStand places buffers bytes [] feet = feet ≡ []
PiecesStand places buffers bytes (piece ∷ pieces) feet =
    Split
    (λ own. IsPieceIn places buffers (take array_slot bytes) piece own)
    (λ rest. PiecesStand places buffers (drop array_slot bytes) pieces rest)
    feet

-- the record of a message lies at a place and is as long as its type says; its unknown bytes are these pieces, and its
-- fields are what `Fields` says of its bytes and of what they stand on
pub record IsMessage (Fields : List ℕ → List Foot → Type 0) (schema : Schema) (places : Places) (buffers : Buffers) (type_no : ℕ) (p : Place) (pieces : List (List ℕ)) (feet : List Foot) : Type 0 where
  pub type : type_no < length schema.types
  pub len : p.len ≡ (layout_of schema type_no).size
  pub bytes : List ℕ
  pub there : map.get places p ≡ Some bytes
  pub size : length bytes ≡ (layout_of schema type_no).size
  pub behind : List Foot
  pub feet_are : feet ≡ InPlace p ∷ behind
  pub holds : Split
      (λ own. HoldsArray (λ elements more. PiecesStand places buffers elements pieces more) places array_slot (length pieces) (part (layout_of schema type_no).unknown array_slot bytes) own)
      (λ rest. Fields bytes rest)
      behind

-- MESSAGES

abbrev mutual
  -- a value of a type, by its slot
  pub ValueStands : Schema → Places → Buffers → ValueType → List ℕ → ValueWith (List (List ℕ)) → List Foot → Type 0
  ValueStands schema places buffers type slot (Number p) feet = HoldsNumber type slot p × (feet ≡ [])
  ValueStands schema places buffers type slot (Bytes s) feet = IsStringIn places buffers type slot s feet
  ValueStands schema places buffers type slot (Sub t) feet =
      IsLink (λ type_no. MessageStands schema places buffers type_no (place_in slot) t feet) type

  -- what a field holds, by what its mark tells and its slot: the slot of a field that is unset is zero
  pub HeldStands : Schema → Places → Buffers → FieldType → Option Bool → List ℕ → HeldWith (List (List ℕ)) → List Foot
      → Type 0
  HeldStands schema places buffers field told slot Nothing feet =
      IsSingle field.card × MayBeUnset told × IsZero (slot_bytes field) slot × (feet ≡ [])
  HeldStands schema places buffers field told slot (One value) feet =
      MayHold field.card value × MayBeSet told
      × ValueStands schema places buffers (value_type_of field.kind) slot value feet
  HeldStands schema places buffers field told slot (Many values) feet =
      IsList field.card
      × HoldsArray
      (λ bytes behind. ValuesStand schema places buffers (value_type_of field.kind) bytes values behind)
      places
      (slot_of (value_type_of field.kind))
      (length (values_in_list values))
      slot
      feet

  -- the elements of a list, each with a slot of its size
  pub ValuesStand : Schema → Places → Buffers → ValueType → List ℕ → ValueListWith (List (List ℕ)) → List Foot → Type 0
  ValuesStand schema places buffers type bytes NoValues feet = feet ≡ []
  ValuesStand schema places buffers type bytes (ValueAnd value values) feet =
      Split
      (λ own. ValueStands schema places buffers type (take (slot_of type) bytes) value own)
      (λ rest. ValuesStand schema places buffers type (drop (slot_of type) bytes) values rest)
      feet

  -- the fields of a record, one entry for each
  pub FieldsStand : Schema → Places → Buffers → List ℕ → List Entry → HeldListWith (List (List ℕ)) → List Foot → Type 0
  FieldsStand schema places buffers bytes [] NoFields feet = feet ≡ []
  FieldsStand schema places buffers bytes [] (FieldAnd held others) feet = ⊥
  FieldsStand schema places buffers bytes (entry ∷ entries) NoFields feet = ⊥
  FieldsStand schema places buffers bytes (entry ∷ entries) (FieldAnd held others) feet =
      Split
      (λ own. HeldStands schema places buffers entry.field (told_in entry bytes) (slot_in entry bytes) held own)
      (λ rest. FieldsStand schema places buffers bytes entries others rest)
      feet

  -- a message of a type whose record lies at this place
  pub MessageStands : Schema → Places → Buffers → ℕ → Place → Shape → List Foot → Type 0
  MessageStands schema places buffers type_no p (Message fields pieces) feet =
      IsMessage
      (λ bytes rest. FieldsStand schema places buffers bytes (layout_of schema type_no).entries fields rest)
      schema
      places
      buffers
      type_no
      p
      pieces
      feet

-- a message stands for a shape on these feet, the record's place first and each once
pub record Stands (schema : Schema) (places : Places) (buffers : Buffers) (msg : MsgRef) (t : Shape) (feet : List Foot) : Type 0 where
  pub message : MessageStands schema places buffers msg.type_no msg.place t feet
  pub once : Once feet

-- a message stands for a tree: for a shape whose pieces, joined at every level, are the tree's unknown bytes
pub record StandsFor (schema : Schema) (places : Places) (buffers : Buffers) (msg : MsgRef) (tree : Tree) (feet : List Foot) : Type 0 where
  pub shape : Shape
  pub stands : Stands schema places buffers msg shape feet
  pub joined : tree_map concat shape ≡ tree
