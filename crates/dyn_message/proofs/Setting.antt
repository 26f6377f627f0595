-- Calls that set a field, by what they write.
use Rattle.std.proofs.Common.{◌≡◌, ◌^◌, ◌<◌, ℕ, length, List, [], ◌∷◌, Option, None, Some, refl, sym, ap, ◌∙◌, subst, inl, inr, ⊎_elim, arith}
use Rattle.std.specs.Option.{option_map}
use Rattle.std.specs.FinMap as map
use Rattle.arena_mem.specs.declared.place.Place.{Place}
use Rattle.arena_mem.specs.Places.{Places, Buffers, KeepsRest, KeepsBuffers, splice}
use Rattle.pb_schema.specs.declared.schema.Schema.{Schema}
use Rattle.pb_schema.specs.Lawful.{Lawful}
use Rattle.pb_schema.specs.Kinds.{value_type_of, slot_of}
use Rattle.pb_schema.specs.HeldAt.{field_at, with_held}
use Rattle.pb_schema.specs.Tree.{Shape}
use Rattle.msg_layout.specs.declared.entry.Entry.{Entry}
use Rattle.msg_layout.specs.Slots.{slot_bytes}
use Rattle.msg_layout.specs.Layout.{layout_of, entry_of}
use Rattle.dyn_message.specs.declared.msg_ref.MsgRef.{MsgRef}
use Rattle.dyn_message.specs.Feet.{Foot, InPlace, InBuffer, times, IsAmong, SameAt, KeepsOthers, foot_bytes}
use Rattle.dyn_message.specs.Writes.{marked, number_bytes}
use Rattle.dyn_message.specs.Stands.{HeldStands, Stands}
use Rattle.dyn_message.specs.Changes.{NowStands}
use Rattle.dyn_message.specs.Fields.{TakesNumber, TakesBytes, number_held, number_put, bytes_held, bytes_put, held_by}
use Rattle.dyn_message.proofs.Counting.{times_first, not_one, none_of, among_or}
use Rattle.dyn_message.specs.Links.{StandsWith}
use Rattle.dyn_message.proofs.Messages.{put_stands, some_value}
use Rattle.dyn_message.specs.Strings.{HoldsBytes, IsKeptAnew}
use Rattle.dyn_message.proofs.SameBytes.{bytes_same}
use Rattle.dyn_message.proofs.There.{bytes_there as string_there, message_there}
use Rattle.dyn_message.proofs.HeldBytes.{bytes_slot, string_bytes_type, bytes_stand, bytes_set}
use Rattle.std.proofs.lemmas.Option.{none-some}
use Rattle.dyn_message.proofs.Opening.{record_is, has_field, number_stands, number_sets, number_size, single_slot}

-- two writes to one place
pub two_writes : (old mid new : Option (List ℕ)) (f g : List ℕ → List ℕ) → mid ≡ option_map f old → new ≡ option_map g mid → new ≡ option_map (λ b. g (f b)) old
two_writes None mid new f g first second = second ∙ ap (option_map g) first
two_writes (Some b) mid new f g first second = second ∙ ap (option_map g) first

-- all but the place that is written keeps its bytes
pub write_keeps : (places places' : Places) (buffers buffers' : Buffers) (p : Place) → ((q : Place) → (q ≡ p → ⊥) → map.get places' q ≡ map.get places q) → buffers' ≡ buffers → KeepsOthers places buffers places' buffers' (InPlace p ∷ [])
write_keeps places places' buffers buffers' p others same (InPlace q) was outside is =
    others q (λ e. one_more (subst (λ r. times (InPlace r) (InPlace p ∷ []) ≡ 0) e outside)) ∙ is
  where
    one_more : times (InPlace p) (InPlace p ∷ []) ≡ 0 → ⊥
    one_more none = omega (arith, none, times_first (InPlace p) [])
write_keeps places places' buffers buffers' p others same (InBuffer b) was outside is = ap (λ m. map.get m b) same ∙ is

pub keeps_join : (p0 p1 p2 : Places) (b0 b1 b2 : Buffers) (feet : List Foot) → KeepsOthers p0 b0 p1 b1 feet → KeepsOthers p1 b1 p2 b2 feet → KeepsOthers p0 b0 p2 b2 feet
keeps_join p0 p1 p2 b0 b1 b2 feet first second = λ foot was outside is. second foot was outside (first foot was outside is)

pub growth_keeps : (places places' : Places) (buffers buffers' : Buffers) (feet : List Foot) → KeepsRest places places' → KeepsBuffers buffers buffers' → KeepsOthers places buffers places' buffers' feet
growth_keeps places places' buffers buffers' feet rest kept (InPlace p) was outside is = rest p was is
growth_keeps places places' buffers buffers' feet rest kept (InBuffer b) was outside is = kept b was is

-- the feet are old ones
pub now_old : (schema : Schema) (places places' : Places) (buffers buffers' : Buffers) (msg : MsgRef) (t : Shape) (feet own : List Foot) → StandsWith schema places' buffers' msg t feet own [] → NowStands schema places buffers places' buffers' msg t feet
now_old schema places places' buffers buffers' msg t feet own p = record {
  now = p.now;
  stands = p.stands;
  from = λ foot among. inl (omega (arith, among, p.count foot));
}

-- a number is set
pub number_is_set : (schema : Schema) → Lawful schema → (places mid places' : Places) (buffers mid_buffers buffers' : Buffers) (msg : MsgRef) (number p : ℕ) (one : Entry) → entry_of schema msg.type_no number ≡ Some one → one.field.number ≡ number → number < 2 ^ 32
    → field_at schema msg.type_no number ≡ Some one.field → TakesNumber schema msg.type_no number p
    → map.get mid msg.place ≡ option_map (marked (layout_of schema msg.type_no).entries one) (map.get places msg.place)
    → map.get places' msg.place ≡ option_map (splice one.slot (number_bytes (slot_of (value_type_of one.field.kind)) p)) (map.get mid msg.place)
    → KeepsOthers places buffers mid mid_buffers (InPlace msg.place ∷ []) → KeepsOthers mid mid_buffers places' buffers' (InPlace msg.place ∷ [])
    → (t : Shape) (feet : List Foot) → Stands schema places buffers msg t feet
    → NowStands schema places buffers places' buffers' msg (with_held schema msg.type_no number (number_put schema msg.type_no number p) t) feet
number_is_set schema lawful places mid places' buffers mid_buffers buffers' msg number p one found number_is small field takes first second keeps keeps' t feet st =
    let has = has_field schema msg.type_no number one.field takes field in
    let slot = number_bytes (slot_of (value_type_of one.field.kind)) p in
    let size : length slot ≡ slot_bytes one.field = number_size one.field.kind p has.1 ∙ sym (single_slot one.field has.0) in
    let found' : entry_of schema msg.type_no one.field.number ≡ Some one = ap (entry_of schema msg.type_no) number_is ∙ found in
    let done = put_stands schema lawful places places' buffers buffers' msg one found' (omega (arith, number_is, small)) t feet slot (number_held one.field.card p) [] st size
    (two_writes _ _ _ (marked (layout_of schema msg.type_no).entries one) (splice one.slot slot) first second)
    (keeps_join places mid places' buffers mid_buffers buffers' (InPlace msg.place ∷ []) keeps keeps')
    (number_sets one.field.card p has.0)
    (λ told set implicit. subst (λ s. HeldStands schema places' buffers' one.field told s (number_held one.field.card p) []) refl (number_stands schema places' buffers' one.field p told has.0 has.1 set implicit))
    (λ foot. omega arith)
    (λ foot among. absurd (omega (arith, among))) in
    let is_held : number_put schema msg.type_no number p ≡ number_held one.field.card p = ap (held_by (λ card. number_held card p)) field in
    subst (λ h. NowStands schema places buffers places' buffers' msg (with_held schema msg.type_no number h t) feet) (sym is_held)
    (subst (λ n. NowStands schema places buffers places' buffers' msg (with_held schema msg.type_no n (number_held one.field.card p) t) feet) number_is
    (now_old schema places places' buffers buffers' msg _ feet [] done))

-- bytes are set, which were kept before
pub bytes_are_set : (schema : Schema) → Lawful schema → (places kept mid places' : Places) (buffers kept_buffers mid_buffers buffers' : Buffers) (msg : MsgRef) (number : ℕ) (s slot : List ℕ) (one : Entry) → entry_of schema msg.type_no number ≡ Some one → one.field.number ≡ number → number < 2 ^ 32
    → field_at schema msg.type_no number ≡ Some one.field → TakesBytes schema msg.type_no number s → length s < 2 ^ 31 → length slot ≡ 24
    → IsKeptAnew places buffers kept kept_buffers slot s → KeepsRest places kept → KeepsBuffers buffers kept_buffers
    → map.get mid msg.place ≡ option_map (marked (layout_of schema msg.type_no).entries one) (map.get kept msg.place)
    → map.get places' msg.place ≡ option_map (splice one.slot slot) (map.get mid msg.place)
    → KeepsOthers kept kept_buffers mid mid_buffers (InPlace msg.place ∷ []) → KeepsOthers mid mid_buffers places' buffers' (InPlace msg.place ∷ [])
    → (t : Shape) (feet : List Foot) → Stands schema places buffers msg t feet
    → NowStands schema places buffers places' buffers' msg (with_held schema msg.type_no number (bytes_put schema msg.type_no number s) t) feet
bytes_are_set schema lawful places kept mid places' buffers kept_buffers mid_buffers buffers' msg number s slot one found number_is small field takes short slot_size anew rest kept_rest first second keeps keeps' t feet st =
    let has = has_field schema msg.type_no number one.field takes field in
    let was = record_is schema places buffers msg t feet st in
    let same_record : map.get kept msg.place ≡ map.get places msg.place = rest msg.place was.bytes was.there ∙ sym was.there in
    let size : length slot ≡ slot_bytes one.field = slot_size ∙ sym (bytes_slot one.field has.0 (string_bytes_type (value_type_of one.field.kind) s has.1)) in
    let found' : entry_of schema msg.type_no one.field.number ≡ Some one = ap (entry_of schema msg.type_no) number_is ∙ found in
    let written_keeps = keeps_join kept mid places' kept_buffers mid_buffers buffers' (InPlace msg.place ∷ []) keeps keeps' in
    let not_record : (foot : Foot) → IsAmong foot anew.feet → times foot (InPlace msg.place ∷ []) ≡ 0 = λ foot among. not_one (InPlace msg.place) foot (λ e. none-some was.bytes (sym (anew.fresh foot among) ∙ (ap (foot_bytes places buffers) e ∙ was.there))) in
    let same_at : SameAt kept kept_buffers places' buffers' anew.feet = λ foot among.
    let there = some_value (foot_bytes kept kept_buffers foot) (string_there schema kept kept_buffers slot s anew.feet anew.holds foot among) in
    written_keeps foot there.0 (not_record foot among) there.1 ∙ sym there.1 in
    let holds' : HoldsBytes places' buffers' slot s anew.feet = bytes_same schema kept places' kept_buffers buffers' slot s anew.feet same_at anew.holds in
    let done = put_stands schema lawful places places' buffers buffers' msg one found' (omega (arith, number_is, small)) t feet slot (bytes_held one.field.card s) anew.feet st size
    (two_writes _ _ _ (marked (layout_of schema msg.type_no).entries one) (splice one.slot slot) (first ∙ ap (option_map (marked (layout_of schema msg.type_no).entries one)) same_record) second)
    (keeps_join places kept places' buffers kept_buffers buffers' (InPlace msg.place ∷ []) (growth_keeps places kept buffers kept_buffers (InPlace msg.place ∷ []) rest kept_rest) written_keeps)
    (bytes_set one.field.card s has.0)
    (λ told set implicit. bytes_stand schema places' buffers' one.field slot s told anew.feet has.0 has.1 short holds' set implicit)
    anew.once
    (λ foot among. none_of foot feet (λ in_feet.
    let there = some_value (foot_bytes places buffers foot) (message_there schema places buffers msg.type_no msg.place t feet st.message foot in_feet) in
    none-some there.0 (sym (anew.fresh foot among) ∙ there.1))) in
    let is_held : bytes_put schema msg.type_no number s ≡ bytes_held one.field.card s = ap (held_by (λ card. bytes_held card s)) field in
    subst (λ h. NowStands schema places buffers places' buffers' msg (with_held schema msg.type_no number h t) feet) (sym is_held)
    (subst (λ n. NowStands schema places buffers places' buffers' msg (with_held schema msg.type_no n (bytes_held one.field.card s) t) feet) number_is
    (record {
      now = done.now;
      stands = done.stands;
      from = λ foot among. ⊎_elim (λ old. inl old) (λ other. inr (anew.fresh foot (omega (arith, among, other, done.count foot)))) (among_or foot feet);
    }))
