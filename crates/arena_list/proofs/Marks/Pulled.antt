-- A step that keeps a rule over what is seen of the values is one that keeps it over the values.
use Rattle.std.proofs.Common.{◌≡◌, ℕ, zero, suc, List, [], ◌∷◌, map, set, sym, refl, ap, subst, ◌∙◌}
use Rattle.std.proofs.lemmas.List.{map-set, length-map}
use Rattle.std.specs.Prelude.{slice_index}
use mathlib.Core.Option as maybe
use lib.ListN.{get_elem?}
use Rattle.atomic_table.specs.Table.{State, Me, Act, keeps, takes, gives, chain, homes_after, carried_after, Valid, Allows}
use Rattle.arena_list.specs.Marks.Image.{seen_home, seen_slot, seen_state, seen_me}

module _ {S T : Type 0} (f : S → T) where
  abbrev Homes : Type 0
  Homes = List (maybe.Option S)

  abbrev Carried : Type 0
  Carried = List (ℕ × S)

  some_home : (x : maybe.Option S) (z : T) → seen_home f x ≡ maybe.some z → (y : S) × (x ≡ maybe.some y) × (f y ≡ z)
  some_home maybe.none z e = absurd cc
  some_home (maybe.some y) z e = (y, refl, cc)

  -- what is at home, of what is seen
  pub found_home : (hs : Homes) (k : ℕ) (z : T) → get_elem? (map (seen_home f) hs) k ≡ maybe.some (maybe.some z) → (y : S) × (get_elem? hs k ≡ maybe.some (maybe.some y)) × (f y ≡ z)
  found_home [] k z e = absurd cc
  found_home (h ∷ hs) zero z e = let inner : seen_home f h ≡ maybe.some z = cc in let p = some_home h z inner in (p.0, ap (λ x. maybe.some x) p.1, p.2)
  found_home (h ∷ hs) (suc k) z e = found_home hs k z e

  record Drawn (hs : Homes) (cr : Carried) (b : Act T) : Type 0 where
    act : Act S
    valid : Valid hs cr act
    homes : map (seen_home f) (homes_after hs cr act) ≡ homes_after (map (seen_home f) hs) (map (seen_slot f) cr) b
    carried : map (seen_slot f) (carried_after cr act) ≡ carried_after (map (seen_slot f) cr) b

  draw_gives : (hs : Homes) (cr : Carried) → Drawn hs cr gives
  draw_gives hs [] = record { act = gives; valid = tt; homes = refl; carried = refl }
  draw_gives hs (x ∷ xs) = record { act = gives; valid = tt; homes = map-set (seen_home f) hs x.0 (maybe.some x.1); carried = refl }

  -- an act on what is seen is an act
  draw : (b : Act T) (hs : Homes) (cr : Carried) → Valid (map (seen_home f) hs) (map (seen_slot f) cr) b → Drawn hs cr b
  draw keeps hs cr v = record { act = keeps; valid = tt; homes = refl; carried = refl }
  draw (takes k z) hs cr v = let p = found_home hs k z v in record {
    act = takes k p.0;
    valid = p.1;
    homes = map-set (seen_home f) hs k maybe.none;
    carried = ap (λ x. (k, x) ∷ map (seen_slot f) cr) p.2;
  }
  draw gives hs cr v = draw_gives hs cr
  draw (chain a b) hs cr v =
      let p = draw a hs cr v.0 in
      let q = draw b (homes_after hs cr p.act) (carried_after cr p.act) (subst (λ l. Valid l (map (seen_slot f) (carried_after cr p.act)) b) (sym p.homes) (subst (λ l. Valid (homes_after (map (seen_home f) hs) (map (seen_slot f) cr) a) l b) (sym p.carried) v.1)) in record {
        act = chain p.act q.act;
        valid = (p.valid, q.valid);
        homes = q.homes ∙ (λ i. homes_after (p.homes i) (p.carried i) b);
        carried = q.carried ∙ (λ i. carried_after (p.carried i) b);
      }

  module _ {V : Type 0} (H : State T V → Type 0) where
    pub pulled : (slots id : ℕ) (me : Me S V) (i : ℕ) (g : ℕ → ℕ) (then : ℕ → Me T V → Type 0) → Allows H slots id (seen_me f me) i g then
        → Allows (λ s. H (seen_state f s)) slots id me i g (λ n me'. then n (seen_me f me'))
    pulled slots id me i g then allows s holds len at small =
        let r = allows (seen_state f s) holds (length-map s.homes (seen_home f) ∙ len) at small in
        let p = draw r.1 s.homes me.1 r.2 in (
          r.0,
          p.act,
          p.valid,
          subst (λ hs. H record { words = set s.words i (g (slice_index s.words i)); homes = hs; views = set s.views id r.0 }) (sym p.homes) r.3,
          subst (λ l. then (slice_index s.words i) (r.0, l)) (sym p.carried) r.4,
        )
