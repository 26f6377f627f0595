-- Each place of an arena names the one region that it lies in.
use Rattle.std.proofs.Common.{◌≡◌, ℕ, List, sym, ap, subst, ◌∙◌, inl, ⊎_elim, arith}
use Rattle.arena_mem.proofs.Maps.{from_IsSome}
use mathlib.Core.Option.{some, some-injective}
use mathlib.Core.Logic.{dite}
use native.Mathlib.Decide.{ℕ_discrete}
use lib.ListN.{get_elem?}
use Rattle.arena_mem.specs.declared.place.Place.{Place}
use Rattle.arena_mem.specs.Places.{Apart, IsLive}
use Rattle.serial_arena.specs.Serial.{SerialState, IsSerial, places_of}
use Rattle.serial_arena.proofs.Names.{live_at, places_apart}
use Rattle.arena_list.specs.declared.entry.Entry.{Entry}
use Rattle.arena_list.specs.Rule.Founded.{slot}
use Rattle.arena_list.proofs.Words.Few.{at_map}
use Rattle.ts_arena.specs.Arena.{ArenaState, IsArena, region}
use Rattle.ts_arena.specs.Places.{IsPartOf, IsPlaceOf}

-- a live place names its region
pub region_named : (s : SerialState) (p : Place) → IsLive (places_of s) p → p.region ≡ s.region
region_named s p live = from_IsSome (λ r. p.region ≡ s.region) _ live (λ v is. let at = live_at s p v is in sym (ap (λ (x : Place × List ℕ). x.0.region) at.2))

module _ (a : ArenaState) (is : IsArena a) where
  -- the parts of an arena have regions of their own
  pub one_part_of : (s t : SerialState) → IsPartOf a s → IsPartOf a t → s.region ≡ t.region → s ≡ t
  one_part_of s t x y same = ⊎_elim
      (λ o. let k = (is.owners.held.each o.0 o.1 o.2).keyed in let low = is.owners.held.small o.0 o.1 o.2 in let mine : s.region ≡ o.1.slot = ap region (sym o.3) ∙ k.region_is in ⊎_elim
      (λ q. let l = (is.owners.held.each q.0 q.1 q.2).keyed in let yours : t.region ≡ q.1.slot = ap region (sym q.3) ∙ l.region_is in
      let slots : o.1.slot ≡ q.1.slot = sym mine ∙ same ∙ yours in
      let at : o.0 ≡ q.0 = is.owners.held.slots o.0 q.0 o.1.slot (at_map slot a.owners o.0 o.1 o.2) (at_map slot a.owners q.0 q.1 q.2 ∙ ap (λ (z : ℕ). some z) (sym slots)) in
      let entry : o.1 ≡ q.1 = some-injective o.1 q.1 (sym o.2 ∙ ap (get_elem? a.owners) at ∙ q.2) in
      sym o.3 ∙ ap (λ (e : Entry SerialState). e.part) entry ∙ q.3)
      (λ q. let high = (is.adopted.each q.0 t q.1).high in absurd (omega arith)) y)
      (λ o. let high = (is.adopted.each o.0 s o.1).high in ⊎_elim
      (λ q. let l = (is.owners.held.each q.0 q.1 q.2).keyed in let low = is.owners.held.small q.0 q.1 q.2 in let yours : t.region ≡ q.1.slot = ap region (sym q.3) ∙ l.region_is in absurd (omega arith))
      (λ q. let at : o.0 ≡ q.0 = is.adopted.regions o.0 q.0 s.region (at_map region a.adopted o.0 s o.1) (at_map region a.adopted q.0 t q.1 ∙ ap (λ (z : ℕ). some z) (sym same)) in
      some-injective s t (sym o.1 ∙ ap (get_elem? a.adopted) at ∙ q.1)) y)
      x

  pub serial_of : (s : SerialState) → IsPartOf a s → IsSerial s
  serial_of s x = ⊎_elim (λ o. subst IsSerial o.3 (is.owners.held.each o.0 o.1 o.2).serial) (λ o. (is.adopted.each o.0 s o.1).serial) x

  pub all_apart : (p q : Place) → IsPlaceOf a p → IsPlaceOf a q → (p ≡ q → ⊥) → Apart p q
  all_apart p q x y other = dite (ℕ_discrete p.region q.region)
      (λ same. let one = one_part_of x.0 y.0 x.1 y.1 (sym (region_named x.0 p x.2) ∙ same ∙ region_named y.0 q y.2) in
      places_apart x.0 (serial_of x.0 x.1).laid p q x.2 (subst (λ (s : SerialState). IsLive (places_of s) q) (sym one) y.2) other)
      (λ differ. inl differ)
