-- The parts of an arena by where they stand, and the arena with another part in one place.
use Rattle.std.proofs.Common.{◌≡◌, ◌≢◌, ◌⊎◌, ℕ, zero, suc, ◌+◌, ◌<◌, ◌≤◌, List, [], ◌∷◌, ◌++◌, length, map, get_or, set, refl, sym, ap, subst, ◌∙◌, inl, inr, ⊎_elim, arith, Result, Ok, Err}
use Rattle.std.specs.Prelude.{OnOk, OnErr}
use Rattle.std.proofs.lemmas.List.{get_or-set_same, get_or-set_other}
use mathlib.Core.Option.{some, some-injective, some-ne-none}
use lib.ListN.{get_elem?}
use Rattle.arena_block.specs.declared.policy.Policy.{Policy}
use Rattle.serial_arena.specs.declared.arena.SerialKey.{SerialKey}
use Rattle.serial_arena.specs.Key.{key_of}
use Rattle.serial_arena.specs.Serial.{SerialState, Placement, IsSerial}
use Rattle.arena_list.specs.declared.entry.Entry.{Entry}
use Rattle.arena_list.specs.Rule.Founded.{Differ, slot, caller}
use Rattle.arena_list.proofs.Words.Few.{at_map, at_mapped, len_map}
use Rattle.arena_list.proofs.Words.Lists.{at_below}
use Rattle.ts_arena.specs.declared.spot.Spot.{Spot}
use Rattle.ts_arena.specs.declared.spot.Spot.TheVariants.{Owner, Adopted}
use Rattle.ts_arena.specs.Arena.{ArenaState, IsArena, IsOwned, IsAdopted, AreOwners, AreAdopted, region}
use Rattle.ts_arena.specs.Sharing.{Owners}
use Rattle.ts_arena.specs.Places.{IsPartOf}
use Rattle.ts_arena.specs.Parts.{no_part, no_owner, owner_at, region_at, owner_with, IsSpot, CanStand, HasRegion, IsSlotTable, part_at, with_part}
use Rattle.ts_arena.specs.Sole.{parts_of}
use Rattle.ts_arena.proofs.Regions.{one_part_of}

module _ {A : Type 0} where
  pub at_or : (l : List A) (i : ℕ) (d : A) → i < length l → get_elem? l i ≡ some (get_or l i d)
  at_or [] i d h = absurd (omega arith)
  at_or (x ∷ xs) zero d h = refl
  at_or (x ∷ xs) (suc i) d h = at_or xs i d (omega arith)

  pub or_at : (l : List A) (i : ℕ) (a d : A) → get_elem? l i ≡ some a → get_or l i d ≡ a
  or_at l i a d at = some-injective (get_or l i d) a (sym (at_or l i d (at_below l i a at)) ∙ at)

  pub at_behind : (l m : List A) (i : ℕ) → get_elem? (l ++ m) (length l + i) ≡ get_elem? m i
  at_behind [] m i = ap (get_elem? m) (let z : 0 + i ≡ i = omega arith in z)
  at_behind (x ∷ xs) m i = ap (get_elem? (x ∷ xs ++ m)) (let z : suc (length xs) + i ≡ suc (length xs + i) = omega arith in z) ∙ at_behind xs m i

  pub at_first : (l m : List A) (i : ℕ) → i < length l → get_elem? (l ++ m) i ≡ get_elem? l i
  at_first [] m i h = absurd (omega arith)
  at_first (x ∷ xs) m zero h = refl
  at_first (x ∷ xs) m (suc i) h = at_first xs m i (omega arith)

  -- what stands in two lists, one behind the other, stands in one of them
  pub at_either : (l m : List A) (i : ℕ) (a : A) → get_elem? (l ++ m) i ≡ some a → (get_elem? l i ≡ some a) ⊎ ((j : ℕ) × (get_elem? m j ≡ some a) × (i ≡ length l + j))
  at_either [] m i a at = inr (i, at, omega arith)
  at_either (x ∷ xs) m zero a at = inl at
  at_either (x ∷ xs) m (suc i) a at = ⊎_elim (λ o. inl o) (λ o. inr (o.0, o.1, (let e : i ≡ length xs + o.0 = o.2 in omega arith))) (at_either xs m i a at)

  set_first : (l m : List A) (i : ℕ) (a : A) → i < length l → set (l ++ m) i a ≡ set l i a ++ m
  set_first [] m i a h = absurd (omega arith)
  set_first (x ∷ xs) m zero a h = refl
  set_first (x ∷ xs) m (suc i) a h = ap (λ (ys : List A). x ∷ ys) (set_first xs m i a (omega arith))

  set_behind : (l m : List A) (i : ℕ) (a : A) → set (l ++ m) (length l + i) a ≡ l ++ set m i a
  set_behind [] m i a = ap (λ (n : ℕ). set m n a) (let z : 0 + i ≡ i = omega arith in z)
  set_behind (x ∷ xs) m i a = ap (λ (n : ℕ). set (x ∷ xs ++ m) n a) (let z : suc (length xs) + i ≡ suc (length xs + i) = omega arith in z) ∙ ap (λ (ys : List A). x ∷ ys) (set_behind xs m i a)

  pub set_twice : (l : List A) (i : ℕ) (a b : A) → set (set l i a) i b ≡ set l i b
  set_twice [] i a b = refl
  set_twice (x ∷ xs) zero a b = refl
  set_twice (x ∷ xs) (suc i) a b = ap (λ (ys : List A). x ∷ ys) (set_twice xs i a b)

  -- what stands in a list with another element
  pub at_set : (l : List A) (k : ℕ) (b : A) (i : ℕ) (a : A) → get_elem? (set l k b) i ≡ some a → ((i ≡ k) × (a ≡ b)) ⊎ ((i ≢ k) × (get_elem? l i ≡ some a))
  at_set [] k b i a at = absurd (some-ne-none a (sym at))
  at_set (x ∷ xs) zero b zero a at = inl (refl, sym (some-injective b a at))
  at_set (x ∷ xs) zero b (suc i) a at = inr ((λ e. omega arith), at)
  at_set (x ∷ xs) (suc k) b zero a at = inr ((λ e. omega arith), at)
  at_set (x ∷ xs) (suc k) b (suc i) a at = ⊎_elim (λ t. inl (ap suc t.0, t.1)) (λ t. inr ((λ e. t.0 (let z : suc i ≡ suc k = e in omega arith)), t.1)) (at_set xs k b i a at)

  pub len_set : (l : List A) (k : ℕ) (b : A) → length (set l k b) ≡ length l
  len_set [] k b = refl
  len_set (x ∷ xs) zero b = refl
  len_set (x ∷ xs) (suc k) b = ap suc (len_set xs k b)

  module _ {B : Type 0} (f : A → B) where
    pub map_set : (l : List A) (k : ℕ) (b : A) → map f (set l k b) ≡ set (map f l) k (f b)
    map_set [] k b = refl
    map_set (x ∷ xs) zero b = refl
    map_set (x ∷ xs) (suc k) b = ap (λ (ys : List B). f x ∷ ys) (map_set xs k b)

    pub map_set_same : (l : List A) (k : ℕ) (b d : A) → f b ≡ f (get_or l k d) → map f (set l k b) ≡ map f l
    map_set_same [] k b d e = refl
    map_set_same (x ∷ xs) zero b d e = ap (λ (y : B). y ∷ map f xs) e
    map_set_same (x ∷ xs) (suc k) b d e = ap (λ (ys : List B). f x ∷ ys) (map_set_same xs k b d e)

    pub get_map : (l : List A) (k : ℕ) (d : A) (e : B) → k < length l → get_or (map f l) k e ≡ f (get_or l k d)
    get_map [] k d e h = absurd (omega arith)
    get_map (x ∷ xs) zero d e h = refl
    get_map (x ∷ xs) (suc k) d e h = get_map xs k d e (omega arith)

-- ---- where a part stands
abbrev pub index_of : ArenaState → Spot → ℕ
index_of a (Owner k) = k
index_of a (Adopted k) = length a.owners + k

pub at_spot : (a : ArenaState) (p : Spot) → IsSpot a p → get_elem? (parts_of a) (index_of a p) ≡ some (part_at a p)
at_spot a (Owner k) h = at_first (map (λ (e : Entry SerialState). e.part) a.owners) a.adopted k (let l = len_map (λ (e : Entry SerialState). e.part) a.owners in omega arith)
    ∙ at_map (λ (e : Entry SerialState). e.part) a.owners k (owner_at a.owners k) (at_or a.owners k no_owner h)
at_spot a (Adopted k) h = ap (λ (n : ℕ). get_elem? (parts_of a) (n + k)) (sym (len_map (λ (e : Entry SerialState). e.part) a.owners))
    ∙ at_behind (map (λ (e : Entry SerialState). e.part) a.owners) a.adopted k ∙ at_or a.adopted k no_part h

pub parts_with : (a : ArenaState) (p : Spot) (s : SerialState) → IsSpot a p → parts_of (with_part a p s) ≡ set (parts_of a) (index_of a p) s
parts_with a (Owner k) s h = ap (λ (l : List SerialState). l ++ a.adopted) (map_set (λ (e : Entry SerialState). e.part) a.owners k (record (owner_at a.owners k) { part = s }))
    ∙ sym (set_first (map (λ (e : Entry SerialState). e.part) a.owners) a.adopted k s (let l = len_map (λ (e : Entry SerialState). e.part) a.owners in omega arith))
parts_with a (Adopted k) s h = sym (ap (λ (n : ℕ). set (parts_of a) (n + k) s) (sym (len_map (λ (e : Entry SerialState). e.part) a.owners))
    ∙ set_behind (map (λ (e : Entry SerialState). e.part) a.owners) a.adopted k s)

-- what stands among the parts is a part
pub part_there : (a : ArenaState) (i : ℕ) (s : SerialState) → get_elem? (parts_of a) i ≡ some s → IsPartOf a s
part_there a i s at = ⊎_elim
    (λ l. let m = at_mapped (λ (e : Entry SerialState). e.part) a.owners i s l in inl (i, m.0, m.1, m.2))
    (λ r. inr (r.0, r.1))
    (at_either (map (λ (e : Entry SerialState). e.part) a.owners) a.adopted i s at)

pub part_at_spot : (a : ArenaState) (p : Spot) → IsSpot a p → IsPartOf a (part_at a p)
part_at_spot a (Owner k) h = inl (k, owner_at a.owners k, at_or a.owners k no_owner h, refl)
part_at_spot a (Adopted k) h = inr (k, at_or a.adopted k no_part h)

module _ (a : ArenaState) (is : IsArena a) where
  pub regions_differ : Differ (map region (parts_of a))
  regions_differ i j r x y =
      let m = at_mapped region (parts_of a) i r x in let n = at_mapped region (parts_of a) j r y in
      ⊎_elim
      (λ l. let e = at_mapped (λ (z : Entry SerialState). z.part) a.owners i m.0 l in let k = (is.owners.held.each i e.0 e.1).keyed in let low = is.owners.held.small i e.0 e.1 in let mine : r ≡ e.0.slot = sym m.2 ∙ ap region (sym e.2) ∙ k.region_is in
      ⊎_elim
      (λ o. let f = at_mapped (λ (z : Entry SerialState). z.part) a.owners j n.0 o in let q = (is.owners.held.each j f.0 f.1).keyed in let yours : r ≡ f.0.slot = sym n.2 ∙ ap region (sym f.2) ∙ q.region_is in
      is.owners.held.slots i j r (at_map slot a.owners i e.0 e.1 ∙ ap (λ (z : ℕ). some z) (sym mine)) (at_map slot a.owners j f.0 f.1 ∙ ap (λ (z : ℕ). some z) (sym yours)))
      (λ o. let high = (is.adopted.each o.0 n.0 o.1).high in let there : n.0.region ≡ r = n.2 in absurd (omega arith))
      (at_either (map (λ (z : Entry SerialState). z.part) a.owners) a.adopted j n.0 n.1))
      (λ l. let high = (is.adopted.each l.0 m.0 l.1).high in let here : m.0.region ≡ r = m.2 in
      ⊎_elim
      (λ o. let f = at_mapped (λ (z : Entry SerialState). z.part) a.owners j n.0 o in let q = (is.owners.held.each j f.0 f.1).keyed in let low = is.owners.held.small j f.0 f.1 in let yours : r ≡ f.0.slot = sym n.2 ∙ ap region (sym f.2) ∙ q.region_is in absurd (omega arith))
      (λ o. l.2 ∙ ap (λ (z : ℕ). length (map (λ (e : Entry SerialState). e.part) a.owners) + z)
      (is.adopted.regions l.0 o.0 r (at_map region a.adopted l.0 m.0 l.1 ∙ ap (λ (z : ℕ). some z) m.2) (at_map region a.adopted o.0 n.0 o.1 ∙ ap (λ (z : ℕ). some z) n.2)) ∙ sym o.2)
      (at_either (map (λ (z : Entry SerialState). z.part) a.owners) a.adopted j n.0 n.1))
      (at_either (map (λ (z : Entry SerialState). z.part) a.owners) a.adopted i m.0 m.1)

  -- a part and a spot that have one region are one
  pub one_at : (p : Spot) (s : SerialState) → IsSpot a p → IsPartOf a s → s.region ≡ (part_at a p).region → s ≡ part_at a p
  one_at p s h there same = one_part_of a is s (part_at a p) there (part_at_spot a p h) same

-- ---- an arena with another part
key_region : (s t : SerialState) → key_of t ≡ key_of s → t.region ≡ s.region
key_region s t e = ap (λ (k : SerialKey). k.region) e

owned_too : (life : ℕ) (policy : Policy) (place who : ℕ) (s t : SerialState) → IsOwned life policy place who s → key_of t ≡ key_of s → IsSerial t → IsOwned life policy place who t
owned_too life policy place who s t is e serial = record {
  keyed = record {
    region_is = ap (λ (k : SerialKey). k.region) e ∙ is.keyed.region_is;
    owner_is = ap (λ (k : SerialKey). k.owner) e ∙ is.keyed.owner_is;
    life_is = ap (λ (k : SerialKey). k.life) e ∙ is.keyed.life_is;
    policy_is = ap (λ (k : SerialKey). k.policy) e ∙ is.keyed.policy_is;
  };
  serial = serial;
}

pub owners_with : (life : ℕ) (policy : Policy) (es : Owners) (k : ℕ) (t : SerialState) → AreOwners life policy es → k < length es → IsOwned life policy (owner_at es k).slot (owner_at es k).caller t → AreOwners life policy (owner_with es k t)
owners_with life policy es k t are h owned = record {
  held = record {
    slots = subst Differ (sym (map_set_same slot es k (record (owner_at es k) { part = t }) no_owner refl)) are.held.slots;
    small = λ i e at. ⊎_elim
        (λ w. let was = are.held.small k (owner_at es k) (at_or es k no_owner h) in let same = ap (λ (x : Entry SerialState). x.slot) w.1 in omega arith)
        (λ w. are.held.small i e w.1)
        (at_set es k (record (owner_at es k) { part = t }) i e at);
    each = λ i e at. ⊎_elim
        (λ w. subst (λ (x : Entry SerialState). IsOwned life policy x.slot x.caller x.part) (sym w.1) owned)
        (λ w. are.held.each i e w.1)
        (at_set es k (record (owner_at es k) { part = t }) i e at);
  };
  callers = subst Differ (sym (map_set_same caller es k (record (owner_at es k) { part = t }) no_owner refl)) are.callers;
}

pub owners_changed : (life : ℕ) (policy : Policy) (es : Owners) (k : ℕ) (t : SerialState) → AreOwners life policy es → k < length es → key_of t ≡ key_of (owner_at es k).part → IsSerial t → AreOwners life policy (owner_with es k t)
owners_changed life policy es k t are h e serial = owners_with life policy es k t are h (owned_too life policy _ _ (owner_at es k).part t (are.held.each k (owner_at es k) (at_or es k no_owner h)) e serial)

adopted_too : (s t : SerialState) → IsAdopted s → key_of t ≡ key_of s → IsSerial t → IsAdopted t
adopted_too s t is e serial = record {
  high = (let same = key_region s t e in let was = is.high in omega arith);
  named = (let same = key_region s t e in let was = is.named in omega arith);
  life_is = ap (λ (k : SerialKey). k.life) e ∙ is.life_is;
  serial = serial;
}

pub adopted_with : (ss : List SerialState) (k : ℕ) (t : SerialState) → AreAdopted ss → k < length ss → IsAdopted t → t.region ≡ (region_at ss k).region → AreAdopted (set ss k t)
adopted_with ss k t are h is same = record {
  regions = subst Differ (sym (map_set_same region ss k t no_part same)) are.regions;
  each = λ i s at. ⊎_elim (λ w. subst IsAdopted (sym w.1) is) (λ w. are.each i s w.1) (at_set ss k t i s at);
}

pub adopted_changed : (ss : List SerialState) (k : ℕ) (t : SerialState) → AreAdopted ss → k < length ss → key_of t ≡ key_of (region_at ss k) → IsSerial t → AreAdopted (set ss k t)
adopted_changed ss k t are h e serial = adopted_with ss k t are h (adopted_too (region_at ss k) t (are.each k (region_at ss k) (at_or ss k no_part h)) e serial) (key_region (region_at ss k) t e)

-- ---- the frame
-- what the part that was changed last was before doesn't count
pub with_part_twice : (a : ArenaState) (p : Spot) (s t : SerialState) → IsSpot a p → with_part (with_part a p s) p t ≡ with_part a p t
with_part_twice a (Owner k) s t h = ap (λ (es : Owners). record a { owners = es })
    (ap (λ (e : Entry SerialState). set (owner_with a.owners k s) k (record e { part = t })) (get_or-set_same a.owners k (record (owner_at a.owners k) { part = s }) no_owner h)
    ∙ set_twice a.owners k (record (owner_at a.owners k) { part = s }) (record (owner_at a.owners k) { part = t }))
with_part_twice a (Adopted k) s t h = ap (λ (ss : List SerialState). record a { adopted = ss }) (set_twice a.adopted k s t)

-- bytes of placements don't count
pub unwritten_bytes : (xs : List Placement) (change : Placement → Placement) → ((x : Placement) → record (change x) { bytes = [] } ≡ record x { bytes = [] }) → map (λ (x : Placement). record x { bytes = [] }) (map change xs) ≡ map (λ (x : Placement). record x { bytes = [] }) xs
unwritten_bytes [] change same = refl
unwritten_bytes (x ∷ xs) change same = (λ i. same x i ∷ unwritten_bytes xs change same i)

-- ---- after a call on one of the owners, which may be refused
pub owners_after : {T E : Type 0} (r : Result T E) (life : ℕ) (policy : Policy) (old new : Owners) (k : ℕ) (t : SerialState) → AreOwners life policy old → k < length old → key_of t ≡ key_of (owner_at old k).part
    → OnOk r (new ≡ owner_with old k t) → OnErr r (new ≡ old) → IsSerial (owner_at new k).part → AreOwners life policy new
owners_after (Ok x) life policy old new k t are h e done undone serial = subst (AreOwners life policy) (sym done) (owners_changed life policy old k t are h e
    (subst IsSerial (ap (λ (es : Owners). (owner_at es k).part) done ∙ ap (λ (y : Entry SerialState). y.part) (get_or-set_same old k (record (owner_at old k) { part = t }) no_owner h)) serial))
owners_after (Err x) life policy old new k t are h e done undone serial = subst (AreOwners life policy) (sym undone) are

pub owners_written : (life : ℕ) (policy : Policy) (old new : Owners) (k : ℕ) (t : SerialState) → AreOwners life policy old → k < length old → key_of t ≡ key_of (owner_at old k).part
    → new ≡ owner_with old k t → IsSerial (owner_at new k).part → AreOwners life policy new
owners_written life policy old new k t are h e done serial = owners_after {T = ℕ} {E = ℕ} (Ok 0) life policy old new k t are h e done tt serial

pub adopted_written : (old new : List SerialState) (k : ℕ) (t : SerialState) → AreAdopted old → k < length old → key_of t ≡ key_of (region_at old k) → new ≡ set old k t → IsSerial (region_at new k) → AreAdopted new
adopted_written old new k t are h e done serial = subst AreAdopted (sym done) (adopted_changed old k t are h e
    (subst IsSerial (ap (λ (ss : List SerialState). region_at ss k) done ∙ get_or-set_same old k t no_part h) serial))

-- ---- one part beside another
beside_at : {A : Type 0} (l : List A) (i k : ℕ) (a d : A) → i ≢ k → get_or (set l k a) i d ≡ get_or l i d
beside_at l i k a d other = get_or-set_other l k i a d other

pub part_beside : (a : ArenaState) (p q : Spot) (s : SerialState) → p ≢ q → part_at (with_part a q s) p ≡ part_at a p
part_beside a (Owner i) (Owner k) s other = ap (λ (e : Entry SerialState). e.part) (beside_at a.owners i k (record (owner_at a.owners k) { part = s }) no_owner (λ e. other (ap (λ (n : ℕ). Owner n) e)))
part_beside a (Owner i) (Adopted k) s other = refl
part_beside a (Adopted i) (Owner k) s other = refl
part_beside a (Adopted i) (Adopted k) s other = beside_at a.adopted i k s no_part (λ e. other (ap (λ (n : ℕ). Adopted n) e))

-- a part of the same key as before may come back
pub put_back : (a : ArenaState) (p : Spot) (s t : SerialState) → IsArena a → IsSpot a p → CanStand a p s → key_of t ≡ key_of (part_at a p) → IsSerial t → CanStand (with_part a p s) p t
put_back a (Owner k) s t is h stands e serial = subst (λ (x : Entry SerialState). IsOwned a.life a.policy x.slot x.caller t) (sym (get_or-set_same a.owners k (record (owner_at a.owners k) { part = s }) no_owner h))
    (owned_too a.life a.policy _ _ (owner_at a.owners k).part t (is.owners.held.each k (owner_at a.owners k) (at_or a.owners k no_owner h)) e serial)
put_back a (Adopted k) s t is h stands e serial = (
  adopted_too (region_at a.adopted k) t (is.adopted.each k (region_at a.adopted k) (at_or a.adopted k no_part h)) e serial,
  key_region (region_at a.adopted k) t e ∙ sym (ap (λ (x : SerialState). x.region) (get_or-set_same a.adopted k s no_part h) ∙ stands.1),
)

-- ---- where a part is found
pub found_owner : (a : ArenaState) (is : IsArena a) (s : SerialState) (table : List ℕ) → IsSlotTable table a.owners → IsPartOf a s → s.region < 65536 → (s.region < 64) × IsSpot a (Owner (get_or table s.region 0)) × ((part_at a (Owner (get_or table s.region 0))).region ≡ s.region)
found_owner a is s table known there low = ⊎_elim
    (λ o. let k = (is.owners.held.each o.0 o.1 o.2).keyed in let small = is.owners.held.small o.0 o.1 o.2 in
    let here : s.region ≡ o.1.slot = ap region (sym o.3) ∙ k.region_is in
    let at : get_or table s.region 0 ≡ o.0 = ap (λ (r : ℕ). get_or table r 0) here ∙ known.each o.0 o.1 o.2 in (
      omega arith,
      subst (λ (n : ℕ). n < length a.owners) (sym at) (at_below a.owners o.0 o.1 o.2),
      ap (λ (n : ℕ). (owner_at a.owners n).part.region) at ∙ ap (λ (e : Entry SerialState). e.part.region) (or_at a.owners o.0 o.1 no_owner o.2) ∙ ap region o.3,
    ))
    (λ o. let high = (is.adopted.each o.0 s o.1).high in absurd (omega arith))
    there

pub found_adopted : (a : ArenaState) (is : IsArena a) (s : SerialState) → IsPartOf a s → 65536 ≤ s.region → HasRegion a.adopted s.region
found_adopted a is s there high = ⊎_elim
    (λ o. let k = (is.owners.held.each o.0 o.1 o.2).keyed in let small = is.owners.held.small o.0 o.1 o.2 in
    let here : s.region ≡ o.1.slot = ap region (sym o.3) ∙ k.region_is in absurd (omega arith))
    (λ o. (o.0, s, o.1, refl))
    there
