-- One field of a message by itself: it is opened with what it stands on, and closed with another value and other feet,
-- over any memory and record that are the same elsewhere.
use Rattle.std.proofs.Common.{◌≡◌, ◌≢◌, ◌+◌, ◌≤◌, ◌<◌, ℕ, Bool, true, false, cond, eqb, List, [], ◌∷◌, ◌++◌, Some, true≢false, refl, sym, ap, ◌∙◌, subst, ⊎_elim, arith}
use Rattle.std.specs.List.{AllByRecursion}
use borrow.Author.Tests.{eq-eqb}
use Rattle.std.proofs.lemmas.Bool.{ne_eqb, cases_Bool}
use Rattle.std.proofs.lemmas.Option.{none-some, same_Some}
use Rattle.arena_mem.specs.Places.{Places, Buffers}
use Rattle.pb_schema.specs.declared.kind.FieldType.{FieldType}
use Rattle.pb_schema.specs.declared.schema.Schema.{Schema}
use Rattle.pb_schema.specs.Tree.{HeldWith, Nothing, HeldListWith, NoFields, FieldAnd}
use Rattle.pb_schema.specs.HeldAt.{clears, changed, held_among}
use Rattle.msg_layout.specs.declared.entry.Entry.{Entry}
use Rattle.msg_layout.specs.Layout.{entry_among}
use Rattle.msg_layout.specs.Slots.{slot_bytes}
use Rattle.dyn_message.specs.Feet.{Foot, times, SameAt, foot_bytes}
use Rattle.dyn_message.specs.Slots.{IsZero, slot_in, told_in, MayBeUnset}
use Rattle.dyn_message.specs.Stands.{IsSingle, HeldStands, FieldsStand}
use Rattle.dyn_message.proofs.Counting.{times_parts, times_join}
use Rattle.dyn_message.proofs.SameBytes.{held_same}

abbrev pub fields_in : List Entry → List FieldType
fields_in [] = []
fields_in (entry ∷ entries) = entry.field ∷ fields_in entries

-- what the bytes of a record come to be at a field: cleared, or as they were
abbrev pub Becomes : Bool → Entry → List ℕ → List ℕ → Type 0
Becomes true entry bytes bytes' = IsSingle entry.field.card × MayBeUnset (told_in entry bytes') × IsZero (slot_bytes entry.field) (slot_in entry bytes')
Becomes false entry bytes bytes' = (told_in entry bytes' ≡ told_in entry bytes) × (slot_in entry bytes' ≡ slot_in entry bytes)

-- where one field comes to hold this, another is cleared or stays; and the field has no number in common with another
pub record Beside {U : Type 0} (one : Entry) (held : HeldWith U) (bytes bytes' : List ℕ) (entry : Entry) : Type 0 where
  pub itself : entry.field.number ≡ one.field.number → entry ≡ one
  pub becomes : entry.field.number ≢ one.field.number → Becomes (clears one.field.card held entry.field.card) entry bytes bytes'

-- two memories have the same bytes at the feet in a list that aren't these
abbrev pub SameBeyond : Places → Buffers → Places → Buffers → List Foot → List Foot → Type 0
SameBeyond places buffers places' buffers' own feet =
    (foot : Foot) → times foot own < times foot feet → foot_bytes places' buffers' foot ≡ foot_bytes places buffers foot

-- the fields with one of them closed again
pub record Closed (schema : Schema) (places : Places) (buffers : Buffers) (bytes : List ℕ) (entries : List Entry) (held : HeldListWith (List (List ℕ))) (feet own own' : List Foot) : Type 0 where
  pub now : List Foot
  pub stand : FieldsStand schema places buffers bytes entries held now
  pub count : (foot : Foot) → times foot now + times foot own ≤ times foot feet + times foot own'

-- one field of those that stand in a record, opened
pub record Focus (schema : Schema) (places : Places) (buffers : Buffers) (bytes : List ℕ) (one : Entry) (entries : List Entry) (held : HeldListWith (List (List ℕ))) (feet : List Foot) : Type 0 where
  pub own : List Foot
  pub within : (foot : Foot) → times foot own ≤ times foot feet
  pub stands : HeldStands schema places buffers one.field (told_in one bytes) (slot_in one bytes) (held_among (fields_in entries) one.field.number held) own
  pub close : (places' : Places) (buffers' : Buffers) (bytes' : List ℕ) (held' : HeldWith (List (List ℕ))) (own' : List Foot)
      → HeldStands schema places' buffers' one.field (told_in one bytes') (slot_in one bytes') held' own'
      → AllByRecursion (Beside one held' bytes bytes') entries
      → SameBeyond places buffers places' buffers' own feet
      → Closed schema places' buffers' bytes' entries (changed one.field.number one.field.card held' (fields_in entries) held) feet own own'

module _ (schema : Schema) (places places' : Places) (buffers buffers' : Buffers) (one : Entry) (bytes bytes' : List ℕ) (held' : HeldWith (List (List ℕ))) where
  -- another field by itself
  pub record Stays (entry : Entry) (held : HeldWith (List (List ℕ))) (own : List Foot) : Type 0 where
    pub feet : List Foot
    pub stands : HeldStands schema places' buffers' entry.field (told_in entry bytes') (slot_in entry bytes') held feet
    pub few : (foot : Foot) → times foot feet ≤ times foot own

  stays : (clear : Bool) (entry : Entry) (held : HeldWith (List (List ℕ))) (own : List Foot) → Becomes clear entry bytes bytes' → SameAt places buffers places' buffers' own
      → HeldStands schema places buffers entry.field (told_in entry bytes) (slot_in entry bytes) held own → Stays entry (cond clear Nothing held) own
  stays true entry held own becomes same stands = record { feet = []; stands = (becomes.0, becomes.1, becomes.2, refl); few = λ foot. omega arith }
  stays false entry held own becomes same stands = record {
    feet = own;
    stands = subst (λ told. HeldStands schema places' buffers' entry.field told (slot_in entry bytes') held own) (sym becomes.0)
        (subst (λ slot. HeldStands schema places' buffers' entry.field (told_in entry bytes) slot held own) (sym becomes.1)
        (held_same schema places places' buffers buffers' entry.field (told_in entry bytes) (slot_in entry bytes) held own same stands));
    few = λ foot. omega arith;
  }

  -- fields none of which is the one
  pub others_stay : (entries : List Entry) (held : HeldListWith (List (List ℕ))) (feet : List Foot) → AllByRecursion (λ entry. entry.field.number ≢ one.field.number) entries → AllByRecursion (Beside one held' bytes bytes') entries
      → SameAt places buffers places' buffers' feet → FieldsStand schema places buffers bytes entries held feet
      → Closed schema places' buffers' bytes' entries (changed one.field.number one.field.card held' (fields_in entries) held) feet [] []
  others_stay [] NoFields feet differ beside same h = record { now = []; stand = refl; count = λ foot. omega arith }
  others_stay [] (FieldAnd held others) feet differ beside same h = absurd h
  others_stay (entry ∷ entries) NoFields feet differ beside same h = absurd h
  others_stay (entry ∷ entries) (FieldAnd held others) feet differ beside same h =
      let parts : (foot : Foot) → times foot feet ≡ times foot h.own + times foot h.rest = λ foot. times_parts foot feet h.own h.rest h.are in
      let first = stays (clears one.field.card held' entry.field.card) entry held h.own (beside.0.becomes differ.0) (λ foot among. same foot (omega (arith, among, parts foot))) h.first in
      let more = others_stay entries others h.rest differ.1 beside.1 (λ foot among. same foot (omega (arith, among, parts foot))) h.second in
      record {
        now = first.feet ++ more.now;
        stand = rw (ne_eqb entry.field.number one.field.number differ.0) (record { own = first.feet; rest = more.now; are = refl; first = first.stands; second = more.stand });
        count = λ foot. omega (arith, times_join foot first.feet more.now, first.few foot, more.count foot, parts foot);
      }

-- no two of these have one number
abbrev pub NumbersDiffer : List Entry → Type 0
NumbersDiffer [] = Unit {0}
NumbersDiffer (entry ∷ entries) = AllByRecursion (λ other. other.field.number ≢ entry.field.number) entries × NumbersDiffer entries

module _ (schema : Schema) (places : Places) (buffers : Buffers) (bytes : List ℕ) (one : Entry) where
  -- a field that stands first
  focus_first : (entry : Entry) (entries : List Entry) (held : HeldWith (List (List ℕ))) (others : HeldListWith (List (List ℕ))) (feet : List Foot) → entry ≡ one → AllByRecursion (λ other. other.field.number ≢ one.field.number) entries
      → FieldsStand schema places buffers bytes (entry ∷ entries) (FieldAnd held others) feet → Focus schema places buffers bytes one (entry ∷ entries) (FieldAnd held others) feet
  focus_first entry entries held others feet is differ h =
      let parts : (foot : Foot) → times foot feet ≡ times foot h.own + times foot h.rest = λ foot. times_parts foot feet h.own h.rest h.are in
      let same_number : eqb entry.field.number one.field.number ≡ true = eq-eqb entry.field.number one.field.number (ap (λ (e : Entry). e.field.number) is) in
      record {
        own = h.own;
        within = λ foot. omega (arith, parts foot);
        stands = rw same_number (subst (λ (e : Entry). HeldStands schema places buffers e.field (told_in e bytes) (slot_in e bytes) held h.own) is h.first);
        close = λ places' buffers' bytes' held' own' stands' beside same.
            let more = others_stay schema places places' buffers buffers' one bytes bytes' held' entries others h.rest differ beside.1 (λ foot among. same foot (omega (arith, among, parts foot))) h.second in
            record {
              now = own' ++ more.now;
              stand = rw same_number (record {
                own = own';
                rest = more.now;
                are = refl;
                first = subst (λ (e : Entry). HeldStands schema places' buffers' e.field (told_in e bytes') (slot_in e bytes') held' own') (sym is) stands';
                second = more.stand;
              });
              count = λ foot. omega (arith, times_join foot own' more.now, more.count foot, parts foot);
            };
      }

  focus_later : (entry : Entry) (entries : List Entry) (held : HeldWith (List (List ℕ))) (others : HeldListWith (List (List ℕ))) (feet : List Foot) → entry.field.number ≢ one.field.number
      → (h : FieldsStand schema places buffers bytes (entry ∷ entries) (FieldAnd held others) feet) → Focus schema places buffers bytes one entries others h.rest → Focus schema places buffers bytes one (entry ∷ entries) (FieldAnd held others) feet
  focus_later entry entries held others feet differs h f =
      let parts : (foot : Foot) → times foot feet ≡ times foot h.own + times foot h.rest = λ foot. times_parts foot feet h.own h.rest h.are in
      let other_number : eqb entry.field.number one.field.number ≡ false = ne_eqb entry.field.number one.field.number differs in
      record {
        own = f.own;
        within = λ foot. omega (arith, parts foot, f.within foot);
        stands = rw other_number f.stands;
        close = λ places' buffers' bytes' held' own' stands' beside same.
            let first = stays schema places places' buffers buffers' one bytes bytes' held' (clears one.field.card held' entry.field.card) entry held h.own (beside.0.becomes differs) (λ foot among. same foot (omega (arith, among, parts foot, f.within foot))) h.first in
            let more = f.close places' buffers' bytes' held' own' stands' beside.1 (λ foot less. same foot (omega (arith, less, parts foot))) in
            record {
              now = first.feet ++ more.now;
              stand = rw other_number (record { own = first.feet; rest = more.now; are = refl; first = first.stands; second = more.stand });
              count = λ foot. omega (arith, times_join foot first.feet more.now, first.few foot, more.count foot, parts foot);
            };
      }

  pub focus : (entries : List Entry) (held : HeldListWith (List (List ℕ))) (feet : List Foot) → NumbersDiffer entries → entry_among entries one.field.number ≡ Some one
      → FieldsStand schema places buffers bytes entries held feet → Focus schema places buffers bytes one entries held feet
  focus [] held feet differ found h = absurd (none-some one found)
  focus (entry ∷ entries) NoFields feet differ found h = absurd h
  focus (entry ∷ entries) (FieldAnd held others) feet differ found h = ⊎_elim
      (λ same. let is = same_Some entry one (ap (λ b. cond b (Some entry) (entry_among entries one.field.number)) (sym same) ∙ found) in
      focus_first entry entries held others feet is (subst (λ (e : Entry). AllByRecursion (λ other. other.field.number ≢ e.field.number) entries) is differ.0) h)
      (λ other. focus_later entry entries held others feet (λ same. true≢false (sym (eq-eqb _ _ same) ∙ other)) h
      (focus entries others h.rest differ.1 (ap (λ b. cond b (Some entry) (entry_among entries one.field.number)) (sym other) ∙ found) h.second))
      (cases_Bool (eqb entry.field.number one.field.number))
