-- Messages that are linked in fields of others.
use Rattle.std.specs.Prelude.{◌≡◌, ◌+◌, ◌≤◌, ◌==◌, ℕ, Bool, true, not, List, []}
use Rattle.arena_mem.specs.Places.{Places, Buffers}
use Rattle.pb_schema.specs.declared.schema.Schema.{Schema}
use Rattle.pb_schema.specs.Kinds.{Nested, value_type_of}
use Rattle.pb_schema.specs.Empty.{empty_with}
use Rattle.pb_schema.specs.Fits.{fields_of}
use Rattle.pb_schema.specs.HeldAt.{held_at, with_held}
use Rattle.pb_schema.specs.Tree.{HeldWith, Nothing, One, Sub, TreeWith, Shape}
use Rattle.msg_layout.specs.declared.entry.Entry.{Entry}
use Rattle.dyn_message.specs.Slots.{place_in, slot_in, told_in, set_by}
use Rattle.dyn_message.specs.declared.msg_ref.MsgRef.{MsgRef}
use Rattle.dyn_message.specs.Feet.{Foot, InPlace, times, KeepsOthers, OldOrFresh}
use Rattle.dyn_message.specs.Stands.{IsSingle, Stands}
use Rattle.dyn_message.specs.Changes.{NowStands}
use Rattle.dyn_message.specs.Fields.{HasField}

-- a message stands for this shape on feet that are, one by one, the old ones without some and with some others
pub record StandsWith (schema : Schema) (places : Places) (buffers : Buffers) (msg : MsgRef) (t : Shape) (feet without others : List Foot) : Type 0 where
  pub now : List Foot
  pub stands : Stands schema places buffers msg t now
  pub count : (foot : Foot) → times foot now + times foot without ≤ times foot feet + times foot others

-- the type has a field of one message of that other type
abbrev pub LinksTo : Schema → ℕ → ℕ → ℕ → Type 0
LinksTo schema type_no number child_type = HasField IsSingle (λ type. type ≡ Nested child_type) schema type_no number

-- the message holds this message at a field: the child stands on its own feet, which are some of the parent's, and for
-- each later memory in which the child alone was changed, the parent stands with what the child stands for then
pub record HasSub (schema : Schema) (places : Places) (buffers : Buffers) (msg : MsgRef) (t : Shape) (feet : List Foot) (number : ℕ) (child : MsgRef) : Type 0 where
  pub type : LinksTo schema msg.type_no number child.type_no
  pub tree : Shape
  pub own : List Foot
  pub held : held_at schema msg.type_no number t ≡ One (Sub tree)
  pub stands : Stands schema places buffers child tree own
  pub within : (foot : Foot) → times foot own ≤ times foot feet
  pub apart : times (InPlace msg.place) own ≡ 0
  pub later : (places' : Places) (buffers' : Buffers) (u : Shape) (own' : List Foot) → Stands schema places' buffers' child u own'
      → KeepsOthers places buffers places' buffers' own → OldOrFresh places buffers own own'
      → StandsWith schema places' buffers' msg (with_held schema msg.type_no number (One (Sub u)) t) feet own own'

-- a message stands with what was linked, and holds it
pub record IsLinked (schema : Schema) (places' : Places) (buffers' : Buffers) (msg : MsgRef) (t : Shape) (feet own : List Foot) (number : ℕ) (child : MsgRef) : Type 0 where
  pub parent : StandsWith schema places' buffers' msg t feet [] own
  pub has : HasSub schema places' buffers' msg t parent.now number child

-- the link in a record's slot is set
abbrev pub link_set : Entry → List ℕ → Bool
link_set entry bytes = set_by (told_in entry bytes) (not ((place_in (slot_in entry bytes)).len == 0))

-- the message that a record's slot names
pub record IsLinkRead (entry : Entry) (bytes : List ℕ) (child : MsgRef) : Type 0 where
  pub set : link_set entry bytes ≡ true
  pub place : child.place ≡ place_in (slot_in entry bytes)
  pub type : value_type_of entry.field.kind ≡ Nested child.type_no

-- what a field holds that holds a message, or an empty one of the type
abbrev pub sub_or : {U : Type 0} → TreeWith U → HeldWith U → TreeWith U
sub_or none (One (Sub t)) = t
sub_or none _ = none

-- the bytes that are placed where a field comes to hold a message of this size: none where it holds one
abbrev pub made_bytes : {U : Type 0} → ℕ → HeldWith U → ℕ
made_bytes size (One value) = 0
made_bytes size _ = size

-- the message has the child at the field: the one that was set, or an empty one
pub record HasMadeSub (schema : Schema) (places : Places) (buffers : Buffers) (places' : Places) (buffers' : Buffers) (msg : MsgRef) (t : Shape) (feet : List Foot) (number : ℕ) (child : MsgRef) : Type 0 where
  pub parent : NowStands schema places buffers places' buffers' msg (with_held schema msg.type_no number (One (Sub (sub_or (empty_with [] (fields_of schema child.type_no)) (held_at schema msg.type_no number t)))) t) feet
  pub has : HasSub schema places' buffers' msg (with_held schema msg.type_no number (One (Sub (sub_or (empty_with [] (fields_of schema child.type_no)) (held_at schema msg.type_no number t)))) t) parent.now number child

-- the child was taken out of the field, which is unset now: each stands on feet of its own
pub record IsUnlinked (schema : Schema) (places' : Places) (buffers' : Buffers) (msg : MsgRef) (t : Shape) (feet : List Foot) (number : ℕ) (child : MsgRef) : Type 0 where
  pub type : LinksTo schema msg.type_no number child.type_no
  pub tree : Shape
  pub own : List Foot
  pub held : held_at schema msg.type_no number t ≡ One (Sub tree)
  pub stands : Stands schema places' buffers' child tree own
  pub parent : StandsWith schema places' buffers' msg (with_held schema msg.type_no number Nothing t) feet own []
