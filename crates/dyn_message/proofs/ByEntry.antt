-- What a list's slot tells, before and after an append.
use Rattle.std.proofs.Common.{◌≡◌, ◌+◌, ◌≤◌, ◌<◌, ℕ, List, length, cond, Some, sym, ap, ◌∙◌, arith}
use Rattle.std.specs.Option.{option_map}
use Rattle.std.specs.FinMap as map
use Rattle.arena_mem.specs.declared.place.Place.{Place}
use Rattle.arena_mem.specs.Places.{Places, Buffers, splice}
use Rattle.pb_schema.specs.declared.schema.Schema.{Schema}
use Rattle.pb_schema.specs.Lawful.{Lawful}
use Rattle.pb_schema.specs.Cards.{is_repeated}
use Rattle.pb_schema.specs.Kinds.{value_type_of, slot_of}
use Rattle.pb_schema.specs.Tree.{Shape}
use Rattle.msg_layout.specs.declared.entry.Entry.{Entry}
use Rattle.msg_layout.specs.Slots.{slot_bytes, array_slot}
use Rattle.msg_layout.specs.Layout.{Layout, entry_of}
use Rattle.msg_layout.specs.Sound.{FitsIn}
use Rattle.dyn_message.specs.declared.msg_ref.MsgRef.{MsgRef}
use Rattle.dyn_message.specs.Feet.{Foot}
use Rattle.dyn_message.specs.Slots.{word, place_in}
use Rattle.dyn_message.specs.Arrays.{most_elements}
use Rattle.dyn_message.specs.Stands.{IsList, Stands}
use Rattle.dyn_message.specs.Lists.{count_at}
use Rattle.dyn_message.specs.Rooms.{IsListAt}
use Rattle.dyn_message.proofs.Appending.{list_card}
use Rattle.dyn_message.proofs.Growing.{slot_read}
use Rattle.dyn_message.proofs.ListLaws.{open_list}
use Rattle.dyn_message.proofs.Opening.{record_is}
use Rattle.dyn_message.proofs.Parts.{part_here}

-- there are as many elements as the slot tells
pub told_count : (schema : Schema) → Lawful schema → (places : Places) (buffers : Buffers) (msg : MsgRef) (number : ℕ) (one : Entry) → entry_of schema msg.type_no number ≡ Some one → one.field.number ≡ number → IsList one.field.card
    → (array : Place) (count : ℕ) → IsListAt places msg.place one.slot array count → (t : Shape) (feet : List Foot) → Stands schema places buffers msg t feet → count ≡ count_at schema msg.type_no number t
told_count schema lawful places buffers msg number one found number_is list array count told t feet st =
    let r = record_is schema places buffers msg t feet st in
    told.counted ∙ ap (word 4) (slot_read places msg.place one.slot r.bytes r.there)
    ∙ (open_list schema lawful places buffers msg number one r.bytes found number_is list r.there t feet st).counted

pub few_there : (schema : Schema) → Lawful schema → (places : Places) (buffers : Buffers) (msg : MsgRef) (number : ℕ) (one : Entry) → entry_of schema msg.type_no number ≡ Some one → one.field.number ≡ number → IsList one.field.card
    → (array : Place) (count : ℕ) → IsListAt places msg.place one.slot array count → count < most_elements → (t : Shape) (feet : List Foot) → Stands schema places buffers msg t feet → count_at schema msg.type_no number t < most_elements
few_there schema lawful places buffers msg number one found number_is list array count told few t feet st =
    omega (arith, few, told_count schema lawful places buffers msg number one found number_is list array count told t feet st)

-- the slot of a list lies in the record
pub list_fits : (layout : Layout) (one : Entry) → FitsIn layout one → IsList one.field.card → one.slot + 24 ≤ layout.size
list_fits layout one fits list =
    let long : slot_bytes one.field ≡ 24 = ap (λ c. cond (is_repeated c) array_slot (slot_of (value_type_of one.field.kind))) (list_card one.field.card list).1 in
    omega (arith, fits.within, long)

-- what a slot tells that was written
pub told_after : (written places' : Places) (p : Place) (at : ℕ) (bytes slot : List ℕ) (array : Place) (count : ℕ) → map.get written p ≡ Some bytes → map.get places' p ≡ option_map (splice at slot) (map.get written p)
    → length slot ≡ 24 → at + 24 ≤ length bytes → place_in slot ≡ array → word 4 slot ≡ count → IsListAt places' p at array count
told_after written places' p at bytes slot array count there put long fits place counted =
    let is = slot_read places' p at (splice at slot bytes) (put ∙ ap (option_map (splice at slot)) there)
    ∙ part_here at slot bytes (omega (arith, fits, long)) 24 (sym long) in
    record {
      place = sym place ∙ ap place_in (sym is);
      counted = sym counted ∙ ap (word 4) (sym is);
    }
