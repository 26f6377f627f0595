-- Messages that are linked, read and taken away.
use Rattle.std.proofs.Common.{◌≡◌, ◌^◌, ◌≤◌, ◌<◌, ℕ, zero, suc, Bool, true, false, not, cond, eqb, length, replicate, List, [], ◌∷◌, Option, None, Some, MatchOption, true≢false, refl, sym, ap, ◌∙◌, subst, inl, inr, ⊎_elim, arith}
use Rattle.std.specs.Option.{option_map}
use Rattle.std.proofs.lemmas.Bool.{ne_eqb, cases_Bool}
use Rattle.std.proofs.lemmas.Option.{none-some, same_Some}
use Rattle.std.specs.FinMap as map
use Rattle.arena_mem.specs.declared.place.Place.{Place}
use Rattle.arena_mem.specs.Places.{Places, Buffers, KeepsRest, KeepsBuffers}
use Rattle.pb_schema.specs.declared.kind.Card.{Card}
use Rattle.pb_schema.specs.declared.kind.Card.TheVariants as cards
use Rattle.pb_schema.specs.declared.kind.FieldType.{FieldType}
use Rattle.pb_schema.specs.declared.schema.Schema.{Schema}
use Rattle.pb_schema.specs.declared.schema.MessageType.{MessageType}
use Rattle.pb_schema.specs.Empty.{empty_with}
use Rattle.pb_schema.specs.Lawful.{Lawful, FieldsAllowed, TypesAllowed, IsNamed}
use Rattle.pb_schema.specs.Kinds.{ValueType, Scalar, Characters, Octets, Nested, value_type_of, slot_of}
use Rattle.pb_schema.specs.Fitted.{IsStringOf}
use Rattle.pb_schema.specs.HeldAt.{clears, field_among, field_at, held_among, held_at, with_held}
use Rattle.pb_schema.specs.Fits.{fields_among, fields_of}
use Rattle.pb_schema.specs.Tree.{HeldWith, Nothing, One, Many, Number, Bytes, Sub, HeldListWith, Shape, Message}
use Rattle.msg_layout.specs.declared.entry.Entry.{Entry}
use Rattle.msg_layout.specs.Slots.{slot_bytes, is_message}
use Rattle.msg_layout.specs.Layout.{layout_of, entry_of, entry_among}
use Rattle.dyn_message.specs.declared.msg_ref.MsgRef.{MsgRef}
use Rattle.dyn_message.specs.Feet.{Foot, InPlace, times, Once, Separate, KeepsOthers, foot_bytes}
use Rattle.dyn_message.specs.Slots.{part, place_in, slot_in, told_in, set_by, MayBeSet, MayBeUnset}
use Rattle.dyn_message.specs.Stands.{IsSingle, IsLink, HoldsNumber, MayHold, HeldStands, MessageStands, Stands}
use Rattle.dyn_message.specs.Writes.{put, taken}
use Rattle.dyn_message.specs.Links.{StandsWith, HasSub, IsLinked, IsLinkRead, IsUnlinked, HasMadeSub, LinksTo, link_set, sub_or}
use Rattle.dyn_message.specs.Changes.{NowStands}
use Rattle.dyn_message.specs.Fields.{IsMessageType}
use Rattle.dyn_message.proofs.Counting.{times_first, one_is, not_one, none_of, among_or}
use Rattle.dyn_message.proofs.SameBytes.{message_same}
use Rattle.dyn_message.proofs.There.{message_there}
use Rattle.dyn_message.proofs.Focus.{fields_in}
use Rattle.dyn_message.proofs.Entries.{Suits, ApartFrom, apart_from, among_all, all_suit, fields_laid}
use Rattle.dyn_message.proofs.Rewrites.{is_put, put_again, is_taken, shares}
use Rattle.dyn_message.proofs.Messages.{field_of_entry, some_value, sound_of, sound, tidy, focus_message, once_after, clears_so, put_stands}
use Rattle.dyn_message.proofs.Opening.{both, set_by_mark, single_slot}
use Rattle.dyn_message.proofs.Words.{zero_link}
use Rattle.dyn_message.proofs.Empty.{some_numbers}
use Rattle.dyn_message.proofs.Setting.{growth_keeps}

-- KINDS

pub message_slot : (field : FieldType) → IsSingle field.card → IsMessageType (value_type_of field.kind) → slot_bytes field ≡ 16
message_slot field single type = single_slot field single ∙ by_type (value_type_of field.kind) type
  where
    by_type : (t : ValueType) → IsMessageType t → slot_of t ≡ 16
    by_type (Scalar coding) h = absurd h
    by_type Characters h = absurd h
    by_type Octets h = absurd h
    by_type (Nested type_no) h = refl

nested_message : (type : ValueType) (n : ℕ) → type ≡ Nested n → IsMessageType type
nested_message type n is = subst IsMessageType (sym is) tt

nested_is : (type : ValueType) (n : ℕ) → type ≡ Nested n → is_message type ≡ true
nested_is type n is = ap is_message is

no_number : (type : ValueType) (slot : List ℕ) (p : ℕ) → IsMessageType type → HoldsNumber type slot p → ⊥
no_number (Scalar coding) slot p message h = message
no_number Characters slot p message h = h
no_number Octets slot p message h = h
no_number (Nested type_no) slot p message h = h

no_string : (type : ValueType) (s : List ℕ) → IsMessageType type → IsStringOf type s → ⊥
no_string (Scalar coding) s message h = h
no_string Characters s message h = message
no_string Octets s message h = message
no_string (Nested type_no) s message h = h

may_sub : (card : Card) (u : Shape) → IsSingle card → MayHold card (Sub u)
may_sub cards.Implicit u single = tt
may_sub cards.Explicit u single = tt
may_sub (cards.Member oneof) u single = tt
may_sub (cards.Repeated packed) u single = single

clears_nothing : (card other : Card) → clears {U = List (List ℕ)} card Nothing other ≡ false
clears_nothing cards.Implicit other = refl
clears_nothing cards.Explicit other = refl
clears_nothing (cards.Member oneof) other = refl
clears_nothing (cards.Repeated packed) other = refl

-- a record isn't empty, so its place isn't the zero link
pub message_long : (schema : Schema) → Lawful schema → (places : Places) (buffers : Buffers) (type_no : ℕ) (p : Place) (u : Shape) (own : List Foot) → MessageStands schema places buffers type_no p u own → 1 ≤ p.len
message_long schema lawful places buffers type_no p (Message held pieces) own m =
    let is_sound = sound_of schema lawful type_no m.type in
    omega (arith, m.len, is_sound.unknown)

-- the field links to the type of its messages
links_to : (schema : Schema) → Lawful schema → (type_no number : ℕ) (one : Entry) → entry_of schema type_no number ≡ Some one → IsSingle one.field.card → (n : ℕ) → value_type_of one.field.kind ≡ Nested n → LinksTo schema type_no number n
links_to schema lawful type_no number one found single n kind = record { field = one.field; found = field_of_entry schema lawful type_no number one found; card = single; type = kind }

-- READ

module _ (schema : Schema) (lawful : Lawful schema) (places : Places) (buffers : Buffers) (msg : MsgRef) (number : ℕ) (one : Entry) (found : entry_of schema msg.type_no number ≡ Some one) (number_is : one.field.number ≡ number) (single : IsSingle one.field.card) where
  found' : entry_of schema msg.type_no one.field.number ≡ Some one
  found' = ap (entry_of schema msg.type_no) number_is ∙ found

  same_held : (fields : HeldListWith (List (List ℕ))) (pieces : List (List ℕ)) → held_among (fields_in (layout_of schema msg.type_no).entries) one.field.number fields ≡ held_at schema msg.type_no number (Message fields pieces)
  same_held fields pieces = ap (λ fs. held_among fs one.field.number fields) (fields_laid schema msg.type_no) ∙ ap (λ n. held_among (fields_of schema msg.type_no) n fields) number_is

  -- what holds no message has no link that is set
  unset_link : (bytes : List ℕ) (held : HeldWith (List (List ℕ))) (own : List Foot) → IsMessageType (value_type_of one.field.kind) → HeldStands schema places buffers one.field (told_in one bytes) (slot_in one bytes) held own → link_set one bytes ≡ false → held ≡ Nothing
  unset_link bytes Nothing own type h unset = refl
  unset_link bytes (One (Number p)) own type h unset = absurd (no_number (value_type_of one.field.kind) (slot_in one bytes) p type h.2.0)
  unset_link bytes (One (Bytes s)) own type h unset = absurd (no_string (value_type_of one.field.kind) s type h.2.kind)
  unset_link bytes (One (Sub u)) own type h unset =
      absurd (true≢false (sym (set_by_mark (told_in one bytes) (not (eqb (place_in (slot_in one bytes)).len 0)) h.1 (λ untold. ap not (ne_eqb (place_in (slot_in one bytes)).len 0 (λ none. long (value_type_of one.field.kind) h.2 none)))) ∙ unset))
    where
      long : (t : ValueType) → IsLink (λ type_no. MessageStands schema places buffers type_no (place_in (slot_in one bytes)) u own) t → (place_in (slot_in one bytes)).len ≡ 0 → ⊥
      long (Nested type_no) m none = omega (arith, none, message_long schema lawful places buffers type_no (place_in (slot_in one bytes)) u own m)
      long (Scalar coding) m none = m
      long Characters m none = m
      long Octets m none = m
  unset_link bytes (Many elements) own type h unset = absurd (both one.field.card single h.0)

  -- what is linked is a message
  record Linked (bytes : List ℕ) (held : HeldWith (List (List ℕ))) (own : List Foot) (n : ℕ) : Type 0 where
    tree : Shape
    held_is : held ≡ One (Sub tree)
    told : MayBeSet (told_in one bytes)
    stands : MessageStands schema places buffers n (place_in (slot_in one bytes)) tree own

  set_linked : (bytes : List ℕ) (held : HeldWith (List (List ℕ))) (own : List Foot) (n : ℕ) → value_type_of one.field.kind ≡ Nested n → HeldStands schema places buffers one.field (told_in one bytes) (slot_in one bytes) held own → link_set one bytes ≡ true → Linked bytes held own n
  set_linked bytes Nothing own n kind h set = absurd (true≢false (sym set ∙ by_told (told_in one bytes) h.1))
    where
      zero_len : (place_in (slot_in one bytes)).len ≡ 0
      zero_len = ap (λ s. (place_in s).len) (h.2 ∙ ap (λ k. replicate k 0) (message_slot one.field single (nested_message (value_type_of one.field.kind) n kind))) ∙ zero_link

      by_told : (t : Option Bool) → MayBeUnset t → set_by t (not (eqb (place_in (slot_in one bytes)).len 0)) ≡ false
      by_told None unset = ap (λ k. not (eqb k 0)) zero_len
      by_told (Some t) unset = unset
  set_linked bytes (One (Number p)) own n kind h set = absurd (no_number (value_type_of one.field.kind) (slot_in one bytes) p (nested_message (value_type_of one.field.kind) n kind) h.2.0)
  set_linked bytes (One (Bytes s)) own n kind h set = absurd (no_string (value_type_of one.field.kind) s (nested_message (value_type_of one.field.kind) n kind) h.2.kind)
  set_linked bytes (One (Sub u)) own n kind h set = record {
    tree = u;
    held_is = refl;
    told = h.1;
    stands = subst (IsLink (λ type_no. MessageStands schema places buffers type_no (place_in (slot_in one bytes)) u own)) kind h.2;
  }
  set_linked bytes (Many elements) own n kind h set = absurd (both one.field.card single h.0)

  pub sub_unset : (t : Shape) (feet : List Foot) → Stands schema places buffers msg t feet → (bytes : List ℕ) → map.get places msg.place ≡ Some bytes → IsMessageType (value_type_of one.field.kind) → link_set one bytes ≡ false → held_at schema msg.type_no number t ≡ Nothing
  sub_unset (Message fields pieces) feet st bytes there type unset =
      let m = st.message in
      let f = focus_message schema lawful places buffers msg.type_no msg.place fields pieces feet m one found' in
      let same : bytes ≡ m.bytes = same_Some bytes m.bytes (sym there ∙ m.there) in
      sym (same_held fields pieces) ∙ unset_link m.bytes _ f.own type f.stands (ap (link_set one) (sym same) ∙ unset)

  -- the parent's feet are its record and, behind it, those of its fields, among which are the child's
  behind_once : (feet behind own : List Foot) → Once feet → feet ≡ InPlace msg.place ∷ behind → ((foot : Foot) → times foot own ≤ times foot behind) → times (InPlace msg.place) own ≡ 0
  behind_once feet behind own once are within = omega (arith, once (InPlace msg.place), ap (times (InPlace msg.place)) are, times_first (InPlace msg.place) behind, within (InPlace msg.place))

  pub sub_there : (t : Shape) (feet : List Foot) → Stands schema places buffers msg t feet → (bytes : List ℕ) → map.get places msg.place ≡ Some bytes → (child : MsgRef) → IsLinkRead one bytes child → HasSub schema places buffers msg t feet number child
  sub_there (Message fields pieces) feet st bytes there child read =
      let m = st.message in
      let layout = layout_of schema msg.type_no in
      let f = focus_message schema lawful places buffers msg.type_no msg.place fields pieces feet m one found' in
      let same : bytes ≡ m.bytes = same_Some bytes m.bytes (sym there ∙ m.there) in
      let l = set_linked m.bytes _ f.own child.type_no read.type f.stands (ap (link_set one) (sym same) ∙ read.set) in
      let place_is : place_in (slot_in one m.bytes) ≡ child.place = ap (λ b. place_in (slot_in one b)) (sym same) ∙ sym read.place in
      let behind_few : (foot : Foot) → times foot m.behind ≤ times foot feet = λ foot. omega (arith, ap (times foot) m.feet_are) in
      let apart = behind_once feet m.behind f.own st.once m.feet_are f.within in
      let is_sound = sound schema lawful places buffers msg.type_no msg.place fields pieces feet m in
      let was_tidy = tidy schema lawful places buffers msg.type_no msg.place fields pieces feet m in
      let suit = all_suit schema msg.type_no in
      let suits_of : (entry : Entry) → entry_among layout.entries entry.field.number ≡ Some entry → Suits entry = λ entry entry_found. (among_all Suits layout.entries entry.field.number entry suit entry_found).0 in
      let again = put_again layout is_sound one found' suit m.bytes m.size was_tidy l.told in
      let feet_there = message_there schema places buffers msg.type_no msg.place (Message fields pieces) feet m in
      record {
        type = links_to schema lawful msg.type_no number one found single child.type_no read.type;
        tree = l.tree;
        own = f.own;
        held = sym (same_held fields pieces) ∙ l.held_is;
        stands = record {
          message = subst (λ p. MessageStands schema places buffers child.type_no p l.tree f.own) place_is l.stands;
          once = λ foot. omega (arith, f.within foot, behind_few foot, st.once foot);
        };
        within = λ foot. omega (arith, f.within foot, behind_few foot);
        apart = apart;
        later = λ places' buffers' u own' st' keeps fresh.
            let closed = f.close places' buffers' m.bytes (λ entry. shares one.mark entry.mark) (One (Sub u)) own'
            (keeps (InPlace msg.place) m.bytes apart m.there)
            again.turned
            (λ entry entry_found differs. clears_so one entry (One (Sub u)) tt (suits_of one found') (suits_of entry entry_found)
            ((among_all (ApartFrom one) layout.entries entry.field.number entry (apart_from layout.entries one is_sound.apart found') entry_found).0.else differs).oneofs) (
              may_sub one.field.card u single,
              l.told,
              subst (IsLink (λ type_no. MessageStands schema places' buffers' type_no (place_in (slot_in one m.bytes)) u own')) (sym read.type)
                  (subst (λ p. MessageStands schema places' buffers' child.type_no p u own') (sym place_is) st'.message),
            )
            (λ foot less.
            let was = some_value (foot_bytes places buffers foot) (feet_there foot (omega (arith, less, behind_few foot))) in
            keeps foot was.0 (omega (arith, less, behind_few foot, st.once foot)) was.1 ∙ sym was.1) in
            subst (λ n. StandsWith schema places' buffers' msg (with_held schema msg.type_no n (One (Sub u)) (Message fields pieces)) feet f.own own') number_is
            (record {
              now = closed.now;
              stands = record {
                message = closed.stands;
                once = once_after feet f.own own' closed.now st.once st'.once (λ foot. omega (arith, f.within foot, behind_few foot))
                    (λ foot among. ⊎_elim
                    (λ old. omega (arith, old, st.once foot))
                    (λ none. omega (arith, none_of foot feet (λ in_feet. let was = some_value (foot_bytes places buffers foot) (feet_there foot in_feet) in none-some was.0 (sym none ∙ was.1))))
                    (fresh foot among))
                    closed.count;
              };
              count = closed.count;
            });
      }

-- LINKED

module _ (schema : Schema) (lawful : Lawful schema) (places places' : Places) (buffers buffers' : Buffers) (msg : MsgRef) (number : ℕ) (one : Entry) (found : entry_of schema msg.type_no number ≡ Some one) (number_is : one.field.number ≡ number) (single : IsSingle one.field.card) (small : number < 2 ^ 32) (keeps : KeepsOthers places buffers places' buffers' (InPlace msg.place ∷ [])) where
  -- a message that doesn't stand on the record stays
  stays : (type_no : ℕ) (p : Place) (u : Shape) (own : List Foot) → times (InPlace msg.place) own ≡ 0 → MessageStands schema places buffers type_no p u own → MessageStands schema places' buffers' type_no p u own
  stays type_no p u own apart m = message_same schema places places' buffers buffers' type_no p u own
      (λ foot among.
      let was = some_value (foot_bytes places buffers foot) (message_there schema places buffers type_no p u own m foot among) in
      keeps foot was.0 (not_one (InPlace msg.place) foot (λ e. omega (arith, among, ap (λ f. times f own) e, apart))) was.1 ∙ sym was.1)
      m

  pub link_stands : (t : Shape) (feet : List Foot) (u : Shape) (own : List Foot) (child : MsgRef) (slot : List ℕ) → Stands schema places buffers msg t feet → Stands schema places buffers child u own → Separate own feet
      → value_type_of one.field.kind ≡ Nested child.type_no → length slot ≡ 16 → place_in slot ≡ child.place
      → map.get places' msg.place ≡ option_map (put (layout_of schema msg.type_no).entries one slot) (map.get places msg.place)
      → IsLinked schema places' buffers' msg (with_held schema msg.type_no number (One (Sub u)) t) feet own number child
  link_stands (Message fields pieces) feet u own child slot st child_st separate kind slot_size names here =
      let m = st.message in
      let layout = layout_of schema msg.type_no in
      let found'' : entry_of schema msg.type_no one.field.number ≡ Some one = ap (entry_of schema msg.type_no) number_is ∙ found in
      let size : length slot ≡ slot_bytes one.field = slot_size ∙ sym (message_slot one.field single (nested_message (value_type_of one.field.kind) child.type_no kind)) in
      let in_feet : 1 ≤ times (InPlace msg.place) feet = omega (arith, ap (times (InPlace msg.place)) m.feet_are, times_first (InPlace msg.place) m.behind) in
      let apart : times (InPlace msg.place) own ≡ 0 = none_of (InPlace msg.place) own (λ among. omega (arith, separate (InPlace msg.place) among, in_feet)) in
      let moved = stays child.type_no child.place u own apart child_st.message in
      let done = put_stands schema lawful places places' buffers buffers' msg one found'' (omega (arith, number_is, small)) (Message fields pieces) feet slot (One (Sub u)) own st size here keeps tt
      (λ told set implicit. (
        may_sub one.field.card u single,
        set,
        subst (IsLink (λ type_no. MessageStands schema places' buffers' type_no (place_in slot) u own)) (sym kind)
            (subst (λ p. MessageStands schema places' buffers' child.type_no p u own) (sym names) moved),
      ))
      child_st.once separate in
      let parent = subst (λ n. StandsWith schema places' buffers' msg (with_held schema msg.type_no n (One (Sub u)) (Message fields pieces)) feet [] own) number_is done in
      let bytes' = put layout.entries one slot m.bytes in
      let is = is_put layout (sound schema lawful places buffers msg.type_no msg.place fields pieces feet m) one found'' (all_suit schema msg.type_no) m.bytes m.size (tidy schema lawful places buffers msg.type_no msg.place fields pieces feet m) slot size (omega (arith, number_is, small)) in
      let there' : map.get places' msg.place ≡ Some bytes' = here ∙ ap (option_map (put layout.entries one slot)) m.there in
      let place_is : place_in (slot_in one bytes') ≡ child.place = ap place_in is.slot_is ∙ names in
      record {
        parent = parent;
        has = sub_there schema lawful places' buffers' msg number one found number_is single _ parent.now parent.stands bytes' there' child
            (record {
              set = set_by_mark (told_in one bytes') (not (eqb (place_in (slot_in one bytes')).len 0)) is.told (λ untold. ap not (ne_eqb (place_in (slot_in one bytes')).len 0
                  (λ none. omega (arith, none, ap (λ (p : Place). p.len) place_is, message_long schema lawful places buffers child.type_no child.place u own child_st.message))));
              place = sym place_is;
              type = kind;
            });
      }

  pub unlink_stands : (t : Shape) (feet : List Foot) → Stands schema places buffers msg t feet → (bytes : List ℕ) → map.get places msg.place ≡ Some bytes → (child : MsgRef) → IsLinkRead one bytes child
      → map.get places' msg.place ≡ option_map (taken one) (map.get places msg.place)
      → IsUnlinked schema places' buffers' msg t feet number child
  unlink_stands (Message fields pieces) feet st bytes there child read here =
      let m = st.message in
      let layout = layout_of schema msg.type_no in
      let found'' : entry_of schema msg.type_no one.field.number ≡ Some one = ap (entry_of schema msg.type_no) number_is ∙ found in
      let f = focus_message schema lawful places buffers msg.type_no msg.place fields pieces feet m one found'' in
      let same : bytes ≡ m.bytes = same_Some bytes m.bytes (sym there ∙ m.there) in
      let l = set_linked schema lawful places buffers msg number one found number_is single m.bytes _ f.own child.type_no read.type f.stands (ap (link_set one) (sym same) ∙ read.set) in
      let place_is : place_in (slot_in one m.bytes) ≡ child.place = ap (λ b. place_in (slot_in one b)) (sym same) ∙ sym read.place in
      let behind_few : (foot : Foot) → times foot m.behind ≤ times foot feet = λ foot. omega (arith, ap (times foot) m.feet_are) in
      let apart = behind_once schema lawful places buffers msg number one found number_is single feet m.behind f.own st.once m.feet_are f.within in
      let apart_behind : times (InPlace msg.place) m.behind ≡ 0 = behind_once schema lawful places buffers msg number one found number_is single feet m.behind m.behind st.once m.feet_are (λ foot. omega arith) in
      let is_sound = sound schema lawful places buffers msg.type_no msg.place fields pieces feet m in
      let suits = (among_all Suits layout.entries one.field.number one (all_suit schema msg.type_no) found'').0 in
      let is = is_taken layout is_sound one found'' m.bytes m.size (some_numbers schema lawful msg.type_no) l.told suits (nested_is (value_type_of one.field.kind) child.type_no read.type) in
      let feet_there = message_there schema places buffers msg.type_no msg.place (Message fields pieces) feet m in
      let closed = f.close places' buffers' (taken one m.bytes) (λ entry. false) Nothing []
      (here ∙ ap (option_map (taken one)) m.there)
      is.turned
      (λ entry entry_found differs. clears_nothing one.field.card entry.field.card)
      (single, is.told, is.slot_is, refl)
      (λ foot less.
      let was = some_value (foot_bytes places buffers foot) (feet_there foot (omega (arith, less, behind_few foot))) in
      keeps foot was.0 (not_one (InPlace msg.place) foot (λ e. omega (arith, less, ap (λ g. times g m.behind) e, apart_behind))) was.1 ∙ sym was.1) in
      record {
        type = links_to schema lawful msg.type_no number one found single child.type_no read.type;
        tree = l.tree;
        own = f.own;
        held = sym (same_held schema lawful places buffers msg number one found number_is single fields pieces) ∙ l.held_is;
        stands = record {
          message = stays child.type_no child.place l.tree f.own apart (subst (λ p. MessageStands schema places buffers child.type_no p l.tree f.own) place_is l.stands);
          once = λ foot. omega (arith, f.within foot, behind_few foot, st.once foot);
        };
        parent = subst (λ n. StandsWith schema places' buffers' msg (with_held schema msg.type_no n Nothing (Message fields pieces)) feet f.own []) number_is
            (record {
              now = closed.now;
              stands = record {
                message = closed.stands;
                once = once_after feet f.own [] closed.now st.once (λ foot. omega arith) (λ foot. omega (arith, f.within foot, behind_few foot)) (λ foot among. absurd (omega (arith, among))) closed.count;
              };
              count = closed.count;
            });
      }

-- CALLS

pub link_is_read : (entry : Entry) (b : List ℕ) (named : Place) → slot_bytes entry.field ≡ 16 → named ≡ place_in (part entry.slot 16 b) → named ≡ place_in (slot_in entry b)
unfolding slot_in
link_is_read entry b named size is = is ∙ ap (λ n. place_in (part entry.slot n b)) (sym size)

pub link_told : (entry : Entry) (b : List ℕ) (named : Place) → slot_bytes entry.field ≡ 16 → named ≡ place_in (part entry.slot 16 b) → set_by (told_in entry b) (not (eqb named.len 0)) ≡ link_set entry b
link_told entry b named size is = ap (λ (p : Place). set_by (told_in entry b) (not (eqb p.len 0))) (link_is_read entry b named size is)

pub match_map : {X : Type 0} (A B : Type 0) (P Q : X → Type 0) (o : Option X) → (A → B) → ((x : X) → P x → Q x) → MatchOption o A P → MatchOption o B Q
match_map A B P Q None none some h = none h
match_map A B P Q (Some x) none some h = some x h

-- where something is placed or kept
pub grown_stands : (schema : Schema) (places places' : Places) (buffers buffers' : Buffers) (msg : MsgRef) (t : Shape) (feet : List Foot) → KeepsRest places places' → KeepsBuffers buffers buffers' → Stands schema places buffers msg t feet → Stands schema places' buffers' msg t feet
grown_stands schema places places' buffers buffers' msg t feet rest kept st = record {
  message = message_same schema places places' buffers buffers' msg.type_no msg.place t feet
      (λ foot among.
      let was = some_value (foot_bytes places buffers foot) (message_there schema places buffers msg.type_no msg.place t feet st.message foot among) in
      growth_keeps places places' buffers buffers' [] rest kept foot was.0 refl was.1 ∙ sym was.1)
      st.message;
  once = st.once;
}

-- what wasn't live is no foot of a message
pub fresh_separate : (schema : Schema) (places : Places) (buffers : Buffers) (msg : MsgRef) (t : Shape) (feet : List Foot) (p : Place) → map.get places p ≡ None → Stands schema places buffers msg t feet → Separate (InPlace p ∷ []) feet
fresh_separate schema places buffers msg t feet p fresh st = λ foot among. none_of foot feet (λ in_feet.
    let was = some_value (foot_bytes places buffers foot) (message_there schema places buffers msg.type_no msg.place t feet st.message foot in_feet) in
    none-some was.0 (sym (ap (foot_bytes places buffers) (one_is (InPlace p) foot among) ∙ fresh) ∙ was.1))

-- the type of a field's messages is one of the schema's
named_among : (count oneofs : ℕ) (fields : List FieldType) → FieldsAllowed count oneofs fields → (number : ℕ) (field : FieldType) → field_among fields number ≡ Some field → IsNamed count (value_type_of field.kind)
named_among count oneofs [] allowed number field found = absurd (none-some field found)
named_among count oneofs (first ∷ fields) allowed number field found = ⊎_elim
    (λ same. subst (λ (f : FieldType). IsNamed count (value_type_of f.kind)) (same_Some first field (ap (λ b. cond b (Some first) (field_among fields number)) (sym same) ∙ found)) allowed.0)
    (λ other. named_among count oneofs fields allowed.2 number field (ap (λ b. cond b (Some first) (field_among fields number)) (sym other) ∙ found))
    (cases_Bool (eqb first.number number))

named_in : (count : ℕ) (types : List MessageType) → TypesAllowed count types → (type_no number : ℕ) (field : FieldType) → field_among (fields_among types type_no) number ≡ Some field → IsNamed count (value_type_of field.kind)
named_in count [] allowed type_no number field found = absurd (none-some field found)
named_in count (type ∷ types) allowed zero number field found = named_among count type.oneofs type.fields allowed.0.fields number field found
named_in count (type ∷ types) allowed (suc type_no) number field found = named_in count types allowed.1 type_no number field found

pub message_type_there : (schema : Schema) → Lawful schema → (type_no number : ℕ) (field : FieldType) (n : ℕ) → field_at schema type_no number ≡ Some field → value_type_of field.kind ≡ Nested n → n < length schema.types
message_type_there schema lawful type_no number field n found kind = subst (IsNamed (length schema.types)) kind (named_in (length schema.types) schema.types lawful.types type_no number field found)

-- MADE

module _ (schema : Schema) (lawful : Lawful schema) (places : Places) (buffers : Buffers) (msg : MsgRef) (number : ℕ) (one : Entry) (found : entry_of schema msg.type_no number ≡ Some one) (number_is : one.field.number ≡ number) (single : IsSingle one.field.card) (t : Shape) (feet : List Foot) (st : Stands schema places buffers msg t feet) (child : MsgRef) where
  pub make_existing : (bytes : List ℕ) → map.get places msg.place ≡ Some bytes → IsLinkRead one bytes child → HasMadeSub schema places buffers places buffers msg t feet number child
  make_existing bytes there read =
      let none : Shape = empty_with [] (fields_of schema child.type_no) in
      let has = sub_there schema lawful places buffers msg number one found number_is single t feet st bytes there child read in
      let with = has.later places buffers has.tree has.own has.stands (λ foot was outside is. is) (λ foot among. inl among) in
      let tree_is : has.tree ≡ sub_or none (held_at schema msg.type_no number t) = sym (ap (sub_or none) has.held) in
      let parent : NowStands schema places buffers places buffers msg (with_held schema msg.type_no number (One (Sub (sub_or none (held_at schema msg.type_no number t)))) t) feet =
      subst (λ u. NowStands schema places buffers places buffers msg (with_held schema msg.type_no number (One (Sub u)) t) feet) tree_is
      (record { now = with.now; stands = with.stands; from = λ foot among. inl (omega (arith, among, with.count foot)) }) in
      record {
        parent = parent;
        has = sub_there schema lawful places buffers msg number one found number_is single (with_held schema msg.type_no number (One (Sub (sub_or none (held_at schema msg.type_no number t)))) t) parent.now parent.stands bytes there child read;
      }

  pub make_new : (places' : Places) (buffers' : Buffers) (n : ℕ) → child.type_no ≡ n → map.get places child.place ≡ None → held_at schema msg.type_no number t ≡ Nothing
      → IsLinked schema places' buffers' msg (with_held schema msg.type_no number (One (Sub (empty_with [] (fields_of schema n)))) t) feet (InPlace child.place ∷ []) number child
      → HasMadeSub schema places buffers places' buffers' msg t feet number child
  make_new places' buffers' n type fresh unset linked =
      let none : Shape = empty_with [] (fields_of schema child.type_no) in
      let tree_is : (empty_with [] (fields_of schema n)) ≡ sub_or none (held_at schema msg.type_no number t) = sym (ap (sub_or none) unset ∙ ap (λ k. empty_with [] (fields_of schema k)) type) in
      subst (λ u. IsLinked schema places' buffers' msg (with_held schema msg.type_no number (One (Sub u)) t) feet (InPlace child.place ∷ []) number child → HasMadeSub schema places buffers places' buffers' msg t feet number child) (sym tree_is)
      (λ same. record {
        parent = record {
          now = same.parent.now;
          stands = same.parent.stands;
          from = λ foot among. ⊎_elim (λ old. inl old)
              (λ other. inr (ap (foot_bytes places buffers) (one_is (InPlace child.place) foot (omega (arith, among, other, same.parent.count foot))) ∙ fresh))
              (among_or foot feet);
        };
        has = same.has;
      })
      linked
