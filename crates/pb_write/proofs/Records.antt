-- The record of a message, opened: its pieces, its fields, and that the entries of its type lie in it.
use Rattle.std.proofs.Common.{◌≡◌, ◌+◌, ◌^◌, ◌≤◌, ◌<◌, ℕ, zero, suc, List, [], ◌∷◌, ◌++◌, length, Some, refl, sym, ap, ◌∙◌, subst, arith}
use Rattle.std.specs.Prelude.{All, IsSome}
use Rattle.std.specs.List.{concat, AllByRecursion}
use Rattle.std.specs.FinMap as map
use Rattle.std.proofs.lemmas.List.Elements.{All-from_recursion}
use Rattle.std.proofs.lemmas.Option.{same_Some}
use Rattle.arena_mem.specs.Places.{Places, Buffers, IsLive}
use Rattle.arena_mem.specs.declared.place.Place.{Place}
use Rattle.pb_schema.specs.declared.kind.FieldType.{FieldType}
use Rattle.pb_schema.specs.declared.schema.MessageType.{MessageType}
use Rattle.pb_schema.specs.declared.schema.Schema.{Schema}
use Rattle.pb_schema.specs.Depth.{depth_of, fields_levels}
use Rattle.pb_schema.specs.Fits.{fields_among, fields_of}
use Rattle.pb_schema.specs.Lawful.{Lawful, NumbersAscend, TypesAllowed}
use Rattle.pb_schema.specs.Text.{fields_text, message_text}
use Rattle.pb_schema.specs.Tree.{HeldListWith, Shape, Message, fields_map, tree_map}
use Rattle.msg_layout.specs.declared.entry.Entry.{Entry}
use Rattle.msg_layout.specs.declared.entry.Mark.{Mark}
use Rattle.msg_layout.specs.declared.entry.Mark.TheVariants as marks
use Rattle.msg_layout.specs.Layout.{Layout, layout_of}
use Rattle.msg_layout.specs.Slots.{array_slot}
use Rattle.msg_layout.specs.Sound.{FitsIn, MarkWithin}
use Rattle.dyn_message.specs.Arrays.{HoldsArray}
use Rattle.dyn_message.specs.Feet.{Foot}
use Rattle.dyn_message.specs.Slots.{part}
use Rattle.dyn_message.specs.Stands.{FieldsStand, MessageStands, PiecesStand}
use Rattle.dyn_message.proofs.Entries.{Suits, all_fit, all_suit, fields_laid}
use Rattle.dyn_message.proofs.Focus as focus
use Rattle.dyn_message.proofs.Messages.{sound_of}
use Rattle.dyn_message.proofs.Opening.{untold_implicit}
use Rattle.pb_write.specs.Puts.{IsEntryIn, fields_in}

-- the fields of a layout are those of its type
fields_same : (entries : List Entry) → fields_in entries ≡ focus.fields_in entries
fields_same [] = refl
fields_same (entry ∷ entries) = ap (λ fs. entry.field ∷ fs) (fields_same entries)

pub fields_are : (schema : Schema) (type_no : ℕ) → fields_in (layout_of schema type_no).entries ≡ fields_of schema type_no
fields_are schema type_no = fields_same (layout_of schema type_no).entries ∙ fields_laid schema type_no

-- NUMBERS

numbers_from : (least : ℕ) (fields : List FieldType) → NumbersAscend least fields → AllByRecursion (λ (field : FieldType). field.number < 2 ^ 29) fields
numbers_from least [] ascend = tt
numbers_from least (field ∷ fields) ascend = (omega (arith, ascend.1), numbers_from (field.number + 1) fields ascend.2)

numbers_among : (count : ℕ) (types : List MessageType) → TypesAllowed count types → (type_no : ℕ) → AllByRecursion (λ (field : FieldType). field.number < 2 ^ 29) (fields_among types type_no)
numbers_among count [] allowed type_no = tt
numbers_among count (type ∷ types) allowed zero = numbers_from 1 type.fields allowed.0.numbers
numbers_among count (type ∷ types) allowed (suc type_no) = numbers_among count types allowed.1 type_no

-- ENTRIES

within_record : (front size : ℕ) (mark : Mark) → front ≤ size → MarkWithin front mark → MarkWithin size mark
within_record front size marks.Unmarked le h = tt
within_record front size (marks.Bit bit) le h = omega (arith, le, h)
within_record front size (marks.Word at) le h = omega (arith, le, h)

module _ (layout : Layout) (bytes : List ℕ) (size : length bytes ≡ layout.size) (front : layout.unknown + array_slot ≤ layout.size) (small : layout.size < 2 ^ 25) where
  entries_in : (entries : List Entry) → AllByRecursion (FitsIn layout) entries → AllByRecursion Suits entries → AllByRecursion (λ (field : FieldType). field.number < 2 ^ 29) (fields_in entries) → AllByRecursion (λ entry. IsEntryIn entry bytes) entries
  entries_in [] fit suit numbers = tt
  entries_in (entry ∷ entries) fit suit numbers =
      let fits = fit.0 in let suits = suit.0 in (
        record {
          slot = omega (arith, fits.within, size);
          mark = within_record layout.unknown (length bytes) entry.mark (omega (arith, front, size)) fits.mark;
          small = omega (arith, size, small);
          number = numbers.0;
          untold = λ none single plain. untold_implicit entry bytes suits single plain none;
        },
        entries_in entries fit.1 suit.1 numbers.1,
      )

pub entries_lie : (schema : Schema) → Lawful schema → (type_no : ℕ) → type_no < length schema.types → (bytes : List ℕ) → length bytes ≡ (layout_of schema type_no).size → All (λ entry. IsEntryIn entry bytes) (layout_of schema type_no).entries
entries_lie schema lawful type_no known bytes size =
    let layout = layout_of schema type_no in
    let sound = sound_of schema lawful type_no known in
    All-from_recursion (λ entry. IsEntryIn entry bytes) layout.entries
    (entries_in layout bytes size sound.unknown sound.small layout.entries (all_fit layout sound) (all_suit schema type_no)
    (subst (AllByRecursion (λ (field : FieldType). field.number < 2 ^ 29)) (sym (fields_are schema type_no)) (numbers_among (length schema.types) schema.types lawful.types type_no)))

-- MESSAGES

-- the record of a message that stands: its bytes, its pieces and its fields
pub record Opened (schema : Schema) (places : Places) (buffers : Buffers) (type_no : ℕ) (p : Place) (t : Shape) (bytes : List ℕ) : Type 0 where
  pub known : type_no < length schema.types
  pub size : length bytes ≡ (layout_of schema type_no).size
  pub held : HeldListWith (List (List ℕ))
  pub pieces : List (List ℕ)
  pub is : t ≡ Message held pieces
  pub own : List Foot
  pub rest : List Foot
  pub unknown : HoldsArray (λ elements more. PiecesStand places buffers elements pieces more) places array_slot (length pieces) (part (layout_of schema type_no).unknown array_slot bytes) own
  pub fields : FieldsStand schema places buffers bytes (layout_of schema type_no).entries held rest
  pub levels : fields_levels held ≡ depth_of t
  pub text : message_text schema (fields_of schema type_no) (tree_map concat t) ≡ fields_text schema (fields_in (layout_of schema type_no).entries) (fields_map concat held) ++ concat pieces

pub opened : (schema : Schema) (places : Places) (buffers : Buffers) (type_no : ℕ) (p : Place) (t : Shape) (feet : List Foot) (bytes : List ℕ) → MessageStands schema places buffers type_no p t feet → map.get places p ≡ Some bytes → Opened schema places buffers type_no p t bytes
opened schema places buffers type_no p (Message held pieces) feet bytes m there =
    let same : m.bytes ≡ bytes = same_Some m.bytes bytes (sym m.there ∙ there) in
    record {
      known = m.type;
      size = ap (λ (b : List ℕ). length b) (sym same) ∙ m.size;
      held = held;
      pieces = pieces;
      is = refl;
      own = m.holds.own;
      rest = m.holds.rest;
      unknown = subst (λ b. HoldsArray (λ elements more. PiecesStand places buffers elements pieces more) places array_slot (length pieces) (part (layout_of schema type_no).unknown array_slot b) m.holds.own) same m.holds.first;
      fields = subst (λ b. FieldsStand schema places buffers b (layout_of schema type_no).entries held m.holds.rest) same m.holds.second;
      levels = refl;
      text = ap (λ fs. fields_text schema fs (fields_map concat held) ++ concat pieces) (sym (fields_are schema type_no));
    }

pub type_known : (schema : Schema) (places : Places) (buffers : Buffers) (type_no : ℕ) (p : Place) (t : Shape) (feet : List Foot) → MessageStands schema places buffers type_no p t feet → type_no < length schema.types
type_known schema places buffers type_no p (Message held pieces) feet m = m.type

pub record_live : (schema : Schema) (places : Places) (buffers : Buffers) (type_no : ℕ) (p : Place) (t : Shape) (feet : List Foot) → MessageStands schema places buffers type_no p t feet → IsLive places p
record_live schema places buffers type_no p (Message held pieces) feet m = subst IsSome (sym m.there) refl

-- the same, where code reads the layout

pub pieces_at : (places : Places) (buffers : Buffers) (pieces : List (List ℕ)) (own : List Foot) (bytes : List ℕ) (unknown at : ℕ) → at ≡ unknown → HoldsArray (λ elements more. PiecesStand places buffers elements pieces more) places array_slot (length pieces) (part unknown array_slot bytes) own
    → HoldsArray (λ elements more. PiecesStand places buffers elements pieces more) places array_slot (length pieces) (part at array_slot bytes) own
pieces_at places buffers pieces own bytes unknown at is holds = subst (λ n. HoldsArray (λ elements more. PiecesStand places buffers elements pieces more) places array_slot (length pieces) (part n array_slot bytes) own) (sym is) holds

pub entries_at : (bytes : List ℕ) (entries read : List Entry) → read ≡ entries → All (λ entry. IsEntryIn entry bytes) entries → All (λ entry. IsEntryIn entry bytes) read
entries_at bytes entries read is all = subst (λ (es : List Entry). All (λ entry. IsEntryIn entry bytes) es) (sym is) all

pub fields_at : (schema : Schema) (places : Places) (buffers : Buffers) (bytes : List ℕ) (entries read : List Entry) (held : HeldListWith (List (List ℕ))) (rest : List Foot) → read ≡ entries → FieldsStand schema places buffers bytes entries held rest → FieldsStand schema places buffers bytes read held rest
fields_at schema places buffers bytes entries read held rest is stand = subst (λ es. FieldsStand schema places buffers bytes es held rest) (sym is) stand
