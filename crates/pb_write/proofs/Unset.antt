-- A field that holds nothing has no text.
use Rattle.std.proofs.Common.{◌≡◌, ℕ, zero, suc, Bool, true, false, not, eqb, true≢false, List, [], length, refl, sym, ap, ◌∙◌, subst, arith}
use Rattle.std.proofs.lemmas.Bool.{ne_eqb}
use Rattle.std.specs.Prelude.{if◌then◌else◌}
use Rattle.std.specs.List.{concat}
use Rattle.arena_mem.specs.Places.{Places, Buffers}
use Rattle.pb_schema.specs.declared.kind.Card.{Card}
use Rattle.pb_schema.specs.declared.kind.Card.TheVariants as cards
use Rattle.pb_schema.specs.declared.schema.Schema.{Schema}
use Rattle.pb_schema.specs.Cards.{is_repeated}
use Rattle.pb_schema.specs.Kinds.{value_type_of, slot_of}
use Rattle.pb_schema.specs.Lawful.{Lawful}
use Rattle.pb_schema.specs.Text.{held_text}
use Rattle.pb_schema.specs.Tree.{HeldWith, held_map, values_map, values_in_list}
use Rattle.msg_layout.specs.declared.entry.Entry.{Entry}
use Rattle.msg_layout.specs.Slots.{array_slot}
use Rattle.dyn_message.specs.Feet.{Foot}
use Rattle.dyn_message.specs.Slots.{part, word, slot_in, told_in}
use Rattle.dyn_message.specs.Stands.{IsSingle, HeldStands}
use Rattle.dyn_message.proofs.Appending.{count_is}
use Rattle.pb_write.specs.Puts.{IsEntryIn, is_held, holds_some}
use Rattle.pb_write.proofs.Lists.{list_is, many_is, no_values_text}
use Rattle.pb_write.proofs.Singles.{unset_nothing}

none_tells : (n : ℕ) → not (eqb n 0) ≡ false → n ≡ 0
none_tells zero none = refl
none_tells (suc n) none = absurd (true≢false (sym (ap not (ne_eqb (suc n) 0 (λ e. omega (arith, e)))) ∙ none))

module _ (schema : Schema) (lawful : Lawful schema) (places : Places) (buffers : Buffers) (entry : Entry) (bytes : List ℕ) (within : IsEntryIn entry bytes) (held : HeldWith (List (List ℕ))) (own : List Foot)
    (stand : HeldStands schema places buffers entry.field (told_in entry bytes) (slot_in entry bytes) held own) where
  listed : (packed : Bool) → entry.field.card ≡ cards.Repeated packed → word 4 (part entry.slot array_slot bytes) ≡ 0 → held_text schema entry.field (held_map concat held) ≡ []
  listed packed card none =
      let list = list_is schema places buffers entry bytes packed card held own stand in
      let empty = sym (count_is places (slot_of (value_type_of entry.field.kind)) (length (values_in_list list.values)) (part entry.slot array_slot bytes) own list.holds) ∙ none in
      ap (λ h. held_text schema entry.field (held_map concat h)) list.is ∙ many_is schema entry.field (values_map concat list.values) packed card ∙ sym (no_values_text schema entry.field packed list.values empty)

  single : IsSingle entry.field.card → is_held entry bytes ≡ false → held_text schema entry.field (held_map concat held) ≡ []
  single one unset = ap (λ h. held_text schema entry.field (held_map concat h)) (unset_nothing schema lawful places buffers entry.field (told_in entry bytes) (slot_in entry bytes) own one within.untold held stand unset)

  by_card : (card : Card) → entry.field.card ≡ card → (if is_repeated card then not (eqb (word 4 (part entry.slot array_slot bytes)) 0) else is_held entry bytes) ≡ false → held_text schema entry.field (held_map concat held) ≡ []
  by_card (cards.Repeated packed) card none = listed packed card (none_tells (word 4 (part entry.slot array_slot bytes)) none)
  by_card cards.Implicit card none = single (subst IsSingle (sym card) tt) none
  by_card cards.Explicit card none = single (subst IsSingle (sym card) tt) none
  by_card (cards.Member oneof) card none = single (subst IsSingle (sym card) tt) none

  pub unset_text : holds_some entry bytes ≡ false → held_text schema entry.field (held_map concat held) ≡ []
  unset_text none = by_card entry.field.card refl none

-- a field of one value that holds something is set
pub held_of : (entry : Entry) (bytes : List ℕ) → IsSingle entry.field.card → holds_some entry bytes ≡ true → is_held entry bytes ≡ true
held_of entry bytes one some = by entry.field.card one some
  where
    by : (card : Card) → IsSingle card → (if is_repeated card then not (eqb (word 4 (part entry.slot array_slot bytes)) 0) else is_held entry bytes) ≡ true → is_held entry bytes ≡ true
    by (cards.Repeated packed) one some = absurd one
    by cards.Implicit one some = some
    by cards.Explicit one some = some
    by (cards.Member oneof) one some = some
