-- One field of a message changed.
use Rattle.std.proofs.Common.{◌≡◌, ◌≢◌, ◌^◌, ◌+◌, ◌≤◌, ◌<◌, ℕ, zero, suc, Bool, true, false, cond, eqb, length, List, [], ◌∷◌, ◌++◌, Option, None, Some, true≢false, refl, sym, ap, ◌∙◌, subst, arith}
use Rattle.std.specs.Prelude.{IsSome}
use Rattle.std.specs.Option.{option_map}
use Rattle.std.specs.List.{AllByRecursion}
use Rattle.std.proofs.lemmas.Bool.{ne_eqb}
use borrow.Author.Tests.{eq-eqb}
use Rattle.std.specs.FinMap as map
use Rattle.arena_mem.specs.declared.place.Place.{Place}
use Rattle.arena_mem.specs.Places.{Places, Buffers}
use Rattle.pb_schema.specs.declared.kind.Card.{Card}
use Rattle.pb_schema.specs.declared.kind.Card.TheVariants as cards
use Rattle.pb_schema.specs.declared.kind.FieldType.{FieldType}
use Rattle.pb_schema.specs.declared.schema.Schema.{Schema}
use Rattle.pb_schema.specs.Lawful.{Lawful}
use Rattle.pb_schema.specs.HeldAt.{clears, changed, field_among, field_at, held_among, with_held}
use Rattle.pb_schema.specs.Tree.{HeldWith, Nothing, One, Many, Shape, Message, HeldListWith}
use Rattle.msg_layout.specs.declared.entry.Entry.{Entry}
use Rattle.msg_layout.specs.Slots.{slot_bytes, array_slot}
use Rattle.msg_layout.specs.Layout.{Layout, layout_of, entry_among, entry_of}
use Rattle.msg_layout.specs.Sound.{IsSound, OneWord}
use Rattle.msg_layout.proofs.SoundLaws.{layout_is_sound}
use Rattle.dyn_message.specs.Feet.{Foot, InPlace, times, IsAmong, AreThere, Once, KeepsOthers, foot_bytes}
use Rattle.dyn_message.specs.Slots.{part, IsZero, slot_in, told_in, MayBeSet}
use Rattle.dyn_message.specs.Stands.{IsSingle, IsList, HeldStands, FieldsStand, MessageStands, Stands}
use Rattle.dyn_message.proofs.Counting.{times_parts, times_join}
use Rattle.dyn_message.proofs.SameBytes.{array_same, pieces_same}
use Rattle.dyn_message.proofs.There.{message_there}
use Rattle.dyn_message.proofs.Focus.{fields_in, NumbersDiffer, Beside, Becomes, SameBeyond, Focus, focus}
use Rattle.dyn_message.proofs.Entries.{Suits, numbers_differ, apart_from, ApartFrom, among_all, same_found, fields_laid, all_suit}
use Rattle.dyn_message.proofs.Rewrites.{Tidy, Turned, is_put, shares, shares_clears, implicit_untold, implicit_shares}
use Rattle.dyn_message.specs.declared.msg_ref.MsgRef.{MsgRef}
use Rattle.dyn_message.specs.Writes.{put}
use Rattle.dyn_message.specs.Links.{StandsWith}

-- each entry is found by its own number
pub all_found : (entries : List Entry) → NumbersDiffer entries → AllByRecursion (λ entry. entry_among entries entry.field.number ≡ Some entry) entries
all_found [] differ = tt
all_found (entry ∷ entries) differ = (found_first, later entries differ.0 (all_found entries differ.1))
  where
    found_first : entry_among (entry ∷ entries) entry.field.number ≡ Some entry
    found_first = ap (λ b. cond b (Some entry) (entry_among entries entry.field.number)) {x = eqb entry.field.number entry.field.number} {y = true} (eq-eqb entry.field.number entry.field.number refl)

    later : (others : List Entry) → AllByRecursion (λ other. other.field.number ≢ entry.field.number) others → AllByRecursion (λ other. entry_among entries other.field.number ≡ Some other) others
        → AllByRecursion (λ other. entry_among (entry ∷ entries) other.field.number ≡ Some other) others
    later [] apart all = tt
    later (other ∷ others) apart all =
        (ap (λ b. cond b (Some entry) (entry_among entries other.field.number)) (ne_eqb entry.field.number other.field.number (λ e. apart.0 (sym e))) ∙ all.0, later others apart.1 all.1)

all_map : (P Q : Entry → Type 0) (entries : List Entry) → ((entry : Entry) → P entry → Q entry) → AllByRecursion P entries → AllByRecursion Q entries
all_map P Q [] each all = tt
all_map P Q (entry ∷ entries) each all = (each entry all.0, all_map P Q entries each all.1)

-- a field that holds one value or nothing is tidy
held_tidy : (schema : Schema) (places : Places) (buffers : Buffers) (field : FieldType) (slot : List ℕ) (held : HeldWith (List (List ℕ))) (own : List Foot) → IsSingle field.card → HeldStands schema places buffers field (Some false) slot held own → IsZero (slot_bytes field) slot
held_tidy schema places buffers field slot Nothing own single h = h.2
held_tidy schema places buffers field slot (One value) own single h = absurd (true≢false (sym h.1))
held_tidy schema places buffers field slot (Many elements) own single h = absurd (not_both field.card single h.0)
  where
    not_both : (card : Card) → IsSingle card → IsList card → ⊥
    not_both cards.Implicit one many = many
    not_both cards.Explicit one many = many
    not_both (cards.Member oneof) one many = many
    not_both (cards.Repeated packed) one many = one

pub some_value : {A : Type 0} (o : Option A) → IsSome o → (x : A) × (o ≡ Some x)
some_value None h = absurd (true≢false (sym h))
some_value (Some x) h = (x, refl)

module _ (schema : Schema) (lawful : Lawful schema) where
  pub sound_of : (type_no : ℕ) → type_no < length schema.types → IsSound (layout_of schema type_no)
  sound_of type_no is = layout_is_sound (length schema.types) schema.types lawful.types type_no is

  pub field_of_entry : (type_no number : ℕ) (one : Entry) → entry_of schema type_no number ≡ Some one → field_at schema type_no number ≡ Some one.field
  field_of_entry type_no number one found =
      ap (λ fields. field_among fields number) (sym (fields_laid schema type_no)) ∙ same_found (layout_of schema type_no).entries number ∙ ap (option_map (λ (entry : Entry). entry.field)) found

  -- what a message stands on beside its record, and its fields
  module _ (places : Places) (buffers : Buffers) (type_no : ℕ) (p : Place) (fields : HeldListWith (List (List ℕ))) (pieces : List (List ℕ)) (feet : List Foot) (m : MessageStands schema places buffers type_no p (Message fields pieces) feet) where
    abbrev layout : Layout
    layout = layout_of schema type_no

    pub sound : IsSound layout
    sound = sound_of type_no m.type

    differ : NumbersDiffer layout.entries
    differ = numbers_differ layout.entries sound.apart

    open_field : (one : Entry) → entry_among layout.entries one.field.number ≡ Some one → Focus schema places buffers m.bytes one layout.entries fields m.holds.rest
    open_field one found = focus schema places buffers m.bytes one layout.entries fields m.holds.rest differ found m.holds.second

    pub tidy : Tidy layout.entries m.bytes
    tidy entry found single told =
        let f = open_field entry found in
        held_tidy schema places buffers entry.field (slot_in entry m.bytes) _ f.own single (subst (λ t. HeldStands schema places buffers entry.field t (slot_in entry m.bytes) (held_among (fields_in layout.entries) entry.field.number fields) f.own) told f.stands)

    -- the message with the field closed again
    pub record MessageClosed (places' : Places) (buffers' : Buffers) (t : Shape) (own own' : List Foot) : Type 0 where
      pub now : List Foot
      pub stands : MessageStands schema places' buffers' type_no p t now
      pub count : (foot : Foot) → times foot now + times foot own ≤ times foot feet + times foot own'

    -- one field, opened
    pub record MessageFocus (one : Entry) : Type 0 where
      pub own : List Foot
      pub within : (foot : Foot) → times foot own ≤ times foot m.behind
      pub stands : HeldStands schema places buffers one.field (told_in one m.bytes) (slot_in one m.bytes) (held_among (fields_in layout.entries) one.field.number fields) own
      pub close : (places' : Places) (buffers' : Buffers) (bytes' : List ℕ) (clear : Entry → Bool) (held' : HeldWith (List (List ℕ))) (own' : List Foot)
          → map.get places' p ≡ Some bytes'
          → Turned layout one clear m.bytes bytes'
          → ((entry : Entry) → entry_among layout.entries entry.field.number ≡ Some entry → entry.field.number ≢ one.field.number → clears one.field.card held' entry.field.card ≡ clear entry)
          → HeldStands schema places' buffers' one.field (told_in one bytes') (slot_in one bytes') held' own'
          → SameBeyond places buffers places' buffers' own m.behind
          → MessageClosed places' buffers' (with_held schema type_no one.field.number held' (Message fields pieces)) own own'

    pub focus_message : (one : Entry) → entry_of schema type_no one.field.number ≡ Some one → MessageFocus one
    focus_message one found =
        let f = open_field one found in
        let parts : (foot : Foot) → times foot m.behind ≡ times foot m.holds.own + times foot m.holds.rest = λ foot. times_parts foot m.behind m.holds.own m.holds.rest m.holds.are in
        record {
          own = f.own;
          within = λ foot. omega (arith, f.within foot, parts foot);
          stands = f.stands;
          close = λ places' buffers' bytes' clear held' own' there turned clears_so stands' same.
              let beside = all_map _ (Beside one held' m.bytes bytes') layout.entries
              (λ entry entry_found. record {
                itself = λ e. (among_all (ApartFrom one) layout.entries entry.field.number entry (apart_from layout.entries one sound.apart found) entry_found).0.itself e;
                becomes = λ e. subst (λ t. Becomes t entry m.bytes bytes') (sym (clears_so entry entry_found e)) (turned.else entry entry_found e);
              })
              (all_found layout.entries differ) in
              let closed = f.close places' buffers' bytes' held' own' stands' beside (λ foot less. same foot (omega (arith, less, parts foot))) in
              let fields_same = fields_laid schema type_no in
              record {
                now = InPlace p ∷ (m.holds.own ++ closed.now);
                stands = record {
                  type = m.type;
                  len = m.len;
                  bytes = bytes';
                  there = there;
                  size = turned.size ∙ m.size;
                  behind = m.holds.own ++ closed.now;
                  feet_are = refl;
                  holds = record {
                    own = m.holds.own;
                    rest = closed.now;
                    are = refl;
                    first = rw turned.unknown (array_same schema places places' buffers buffers' array_slot (length pieces) (part layout.unknown array_slot m.bytes) m.holds.own
                        (λ foot among. same foot (omega (arith, among, parts foot, f.within foot)))
                        (λ elements more same_more stand. pieces_same schema places places' buffers buffers' elements pieces more same_more stand)
                        m.holds.first);
                    second = rw (field_of_entry type_no one.field.number one found) (subst (λ fs. FieldsStand schema places' buffers' bytes' layout.entries (changed one.field.number one.field.card held' fs fields) closed.now) fields_same closed.stand);
                  };
                };
                count = λ foot. omega (arith, times_join foot m.holds.own closed.now, closed.count foot, parts foot, ap (times foot) m.feet_are);
              };
        }

-- A FIELD IS PUT

-- where nothing was among the others, and none of the new ones
pub once_after : (feet own own' now : List Foot) → Once feet → Once own' → ((foot : Foot) → times foot own ≤ times foot feet) → ((foot : Foot) → IsAmong foot own' → times foot feet ≤ times foot own)
    → ((foot : Foot) → times foot now + times foot own ≤ times foot feet + times foot own') → Once now
once_after feet own own' now once once' within apart count = λ foot. by_count foot (times foot own') refl
  where
    by_count : (foot : Foot) → (n : ℕ) → n ≡ times foot own' → times foot now ≤ 1
    by_count foot zero none = omega (arith, count foot, once foot, none)
    by_count foot (suc n) some = omega (arith, count foot, once foot, once' foot, apart foot (omega (arith, some)), some)

-- the value is one, or the field has no mark
abbrev pub SetsAll : {U : Type 0} → Card → HeldWith U → Type 0
SetsAll card (One value) = Unit {0}
SetsAll card held = card ≡ cards.Implicit

implicit_clears : {U : Type 0} (one other : Entry) (held : HeldWith U) → one.field.card ≡ cards.Implicit → Suits one → clears one.field.card held other.field.card ≡ shares one.mark other.mark
implicit_clears one other held is suits = ap (λ c. clears c held other.field.card) is ∙ sym (implicit_shares one other is suits)

pub clears_so : {U : Type 0} (one other : Entry) (held : HeldWith U) → SetsAll one.field.card held → Suits one → Suits other → OneWord one.field.card other.field.card one.mark other.mark → clears one.field.card held other.field.card ≡ shares one.mark other.mark
clears_so one other (One value) sets suits suits' word = shares_clears one other value suits suits' word
clears_so one other Nothing sets suits suits' word = implicit_clears one other (Nothing) sets suits
clears_so one other (Many elements) sets suits suits' word = implicit_clears one other (Many elements) sets suits

module _ (schema : Schema) (lawful : Lawful schema) (places places' : Places) (buffers buffers' : Buffers) (msg : MsgRef) (one : Entry) (found : entry_of schema msg.type_no one.field.number ≡ Some one) (small : one.field.number < 2 ^ 32) where
  -- all that is live but the record keeps its bytes, so what a message stands on behind its record does
  same_behind : (feet behind : List Foot) → Once feet → feet ≡ InPlace msg.place ∷ behind → AreThere places buffers feet → KeepsOthers places buffers places' buffers' (InPlace msg.place ∷ [])
      → (foot : Foot) → IsAmong foot behind → foot_bytes places' buffers' foot ≡ foot_bytes places buffers foot
  same_behind feet behind once are there keeps foot among =
      let counted : times foot feet ≡ times foot (InPlace msg.place ∷ []) + times foot behind = ap (times foot) are ∙ times_join foot (InPlace msg.place ∷ []) behind in
      let was = some_value (foot_bytes places buffers foot) (there foot (omega (arith, among, counted))) in
      keeps foot was.0 (omega (arith, counted, once foot, among)) was.1 ∙ sym was.1

  pub put_stands : (t : Shape) (feet : List Foot) (slot : List ℕ) (held' : HeldWith (List (List ℕ))) (own' : List Foot) → Stands schema places buffers msg t feet
      → length slot ≡ slot_bytes one.field
      → map.get places' msg.place ≡ option_map (put (layout_of schema msg.type_no).entries one slot) (map.get places msg.place)
      → KeepsOthers places buffers places' buffers' (InPlace msg.place ∷ [])
      → SetsAll one.field.card held'
      → ((told : Option Bool) → MayBeSet told → (one.field.card ≡ cards.Implicit → told ≡ None) → HeldStands schema places' buffers' one.field told slot held' own')
      → Once own' → ((foot : Foot) → IsAmong foot own' → times foot feet ≡ 0)
      → StandsWith schema places' buffers' msg (with_held schema msg.type_no one.field.number held' t) feet [] own'
  put_stands (Message fields pieces) feet slot held' own' st size here keeps sets stands' once' apart =
      let m = st.message in
      let layout = layout_of schema msg.type_no in
      let focused = focus_message schema lawful places buffers msg.type_no msg.place fields pieces feet m one found in
      let is_sound = sound schema lawful places buffers msg.type_no msg.place fields pieces feet m in
      let was_tidy = tidy schema lawful places buffers msg.type_no msg.place fields pieces feet m in
      let suit = all_suit schema msg.type_no in
      let bytes' = put layout.entries one slot m.bytes in
      let is = is_put layout is_sound one found suit m.bytes m.size was_tidy slot size small in
      let suits_of : (entry : Entry) → entry_among layout.entries entry.field.number ≡ Some entry → Suits entry = λ entry entry_found. (among_all Suits layout.entries entry.field.number entry suit entry_found).0 in
      let closed = focused.close places' buffers' bytes' (λ entry. shares one.mark entry.mark) held' own'
      (here ∙ ap (option_map (put layout.entries one slot)) m.there)
      is.turned
      (λ entry entry_found differs. clears_so one entry held' sets (suits_of one found) (suits_of entry entry_found)
      ((among_all (ApartFrom one) layout.entries entry.field.number entry (apart_from layout.entries one is_sound.apart found) entry_found).0.else differs).oneofs)
      (subst (λ s. HeldStands schema places' buffers' one.field (told_in one bytes') s held' own') (sym is.slot_is) (stands' (told_in one bytes') is.told (implicit_untold one bytes' (suits_of one found))))
      (λ foot less. same_behind feet m.behind st.once m.feet_are (message_there schema places buffers msg.type_no msg.place (Message fields pieces) feet m) keeps foot (omega (arith, less))) in
      record {
        now = closed.now;
        stands = record {
          message = closed.stands;
          once = once_after feet focused.own own' closed.now st.once once' (λ foot. omega (arith, focused.within foot, ap (times foot) m.feet_are)) (λ foot among. omega (arith, apart foot among)) closed.count;
        };
        count = λ foot. omega (arith, closed.count foot);
      }
