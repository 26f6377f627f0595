-- Maps of several parts as one map: a lookup goes to the part that the key names.
use Rattle.std.proofs.Common.{◌≡◌, ◌≢◌, ℕ, zero, suc, Bool, true, false, cond, List, [], ◌∷◌, ◌++◌, map, set, Option, Some, None, Ordering, refl, sym, ap, subst, ◌∙◌, arith}
use Rattle.std.specs.Prelude.{flat_map}
use Rattle.std.specs.Ordering.{eq_by_cmp}
use Rattle.std.specs.Cmp.{IsTotalOrder}
use Rattle.std.specs.FinMap.{FinMap, IsAntisymmetric, find, get, insert, entries, from_entries, get-insert, get-entries, get-from_entries, same_map}
use mathlib.Core.Option.{some, some-injective, some-ne-none}
use mathlib.Core.Logic.{dite}
use native.Mathlib.Decide.{ℕ_discrete}
use lib.ListN.{get_elem?}
use Rattle.arena_mem.proofs.Entries.{get_beside}
use Rattle.serial_arena.specs.Serial.{SerialState}
use Rattle.arena_list.specs.Rule.Founded.{Differ}
use Rattle.arena_list.proofs.Words.Few.{at_map}
use Rattle.arena_list.proofs.Words.Lists.{at_replaced}
use Rattle.ts_arena.specs.Arena.{region}

abbrev pub orelse : {V : Type 0} → Option V → Option V → Option V
orelse (Some v) r = Some v
orelse None r = r

orelse_none : {V : Type 0} (r : Option V) → orelse r None ≡ r
orelse_none (Some v) = refl
orelse_none None = refl

orelse_cond : {V : Type 0} (b : Bool) (v : V) (x y : Option V) → cond b (Some v) (orelse x y) ≡ orelse (cond b (Some v) x) y
orelse_cond true v x y = refl
orelse_cond false v x y = refl

none_if : {V : Type 0} (r : Option V) → ((v : V) → r ≡ Some v → ⊥) → r ≡ None
none_if None f = refl
none_if (Some v) f = absurd (f v refl)

pub find_both : {K V : Type 0} (R : K → K → Ordering) (es fs : List (K × V)) (q : K) → find R q (es ++ fs) ≡ orelse (find R q es) (find R q fs)
find_both R [] fs q = refl
find_both R (e ∷ es) fs q = ap (cond (eq_by_cmp R q e.0) (Some e.1)) (find_both R es fs q) ∙ orelse_cond (eq_by_cmp R q e.0) e.1 (find R q es) (find R q fs)

-- ---- lists of parts
pub tail_differs : (x : ℕ) (xs : List ℕ) → Differ (x ∷ xs) → Differ xs
tail_differs x xs differ i j y a b = let e : suc i ≡ suc j = differ (suc i) (suc j) y a b in omega arith

pub regions_set : (parts : List SerialState) (k : ℕ) (s t : SerialState) → get_elem? parts k ≡ some s → t.region ≡ s.region → map region (set parts k t) ≡ map region parts
regions_set [] k s t at same = refl
regions_set (x ∷ xs) zero s t at same = (λ i. (same ∙ sym (ap region (some-injective x s at))) i ∷ map region xs)
regions_set (x ∷ xs) (suc k) s t at same = ap (λ (rs : List ℕ). x.region ∷ rs) (regions_set xs k s t at same)

module _ {K V : Type 0} {R : K → K → Ordering} (o : IsTotalOrder R) (same : IsAntisymmetric R) (map_of : SerialState → FinMap R V) (name_of : K → ℕ)
    (named : (s : SerialState) (q : K) (v : V) → get (map_of s) q ≡ Some v → name_of q ≡ s.region) where
  abbrev pub joined : List SerialState → FinMap R V
  joined parts = from_entries (flat_map (λ (s : SerialState). entries (map_of s)) parts)

  abbrev pub in_parts : List SerialState → K → Option V
  in_parts [] q = None
  in_parts (s ∷ ss) q = orelse (get (map_of s) q) (in_parts ss q)

  pub found_in : (parts : List SerialState) (q : K) → find R q (flat_map (λ (s : SerialState). entries (map_of s)) parts) ≡ in_parts parts q
  found_in [] q = refl
  found_in (s ∷ ss) q = find_both R (entries (map_of s)) (flat_map (λ (t : SerialState). entries (map_of t)) ss) q ∙ (λ i. orelse (sym (get-entries (map_of s) q) i) (found_in ss q i))

  get_joined : (parts : List SerialState) (q : K) → get (joined parts) q ≡ in_parts parts q
  get_joined parts q = get-from_entries o _ q ∙ found_in parts q

  get_other : (s : SerialState) (q : K) → name_of q ≢ s.region → get (map_of s) q ≡ None
  get_other s q other = none_if (get (map_of s) q) (λ v is. other (named s q v is))

  pub in_none : (parts : List SerialState) (q : K) → ((k : ℕ) (s : SerialState) → get_elem? parts k ≡ some s → name_of q ≢ s.region) → in_parts parts q ≡ None
  in_none [] q others = refl
  in_none (s ∷ ss) q others = ap (λ r. orelse r (in_parts ss q)) (get_other s q (others 0 s refl)) ∙ in_none ss q (λ k x at. others (suc k) x at)

  in_one : (parts : List SerialState) (k : ℕ) (s : SerialState) (q : K) → Differ (map region parts) → get_elem? parts k ≡ some s → name_of q ≡ s.region → in_parts parts q ≡ get (map_of s) q
  in_one [] k s q differ at is = absurd (some-ne-none s (sym at))
  in_one (x ∷ xs) zero s q differ at is = let here : x ≡ s = some-injective x s at in
      (λ i. orelse (get (map_of (here i)) q) (in_parts xs q))
      ∙ ap (orelse (get (map_of s) q)) (in_none xs q (λ j y at_y e. let z : 0 ≡ suc j = differ 0 (suc j) y.region (ap (λ (t : SerialState). some t.region) here ∙ ap (λ (r : ℕ). some r) (sym is ∙ e)) (at_map region xs j y at_y) in omega arith))
      ∙ orelse_none (get (map_of s) q)
  in_one (x ∷ xs) (suc k) s q differ at is =
      ap (λ r. orelse r (in_parts xs q)) (get_other x q (λ e. let z : 0 ≡ suc k = differ 0 (suc k) s.region (ap (λ (r : ℕ). some r) (sym e ∙ is)) (at_map region xs k s at) in omega arith))
      ∙ in_one xs k s q (tail_differs x.region (map region xs) differ) at is

  in_beside : (parts : List SerialState) (k : ℕ) (s t : SerialState) (q : K) → get_elem? parts k ≡ some s → t.region ≡ s.region → name_of q ≢ s.region → in_parts (set parts k t) q ≡ in_parts parts q
  in_beside [] k s t q at kept other = refl
  in_beside (x ∷ xs) zero s t q at kept other = ap (λ r. orelse r (in_parts xs q)) (get_other t q (λ e. other (e ∙ kept)) ∙ sym (get_other x q (λ e. other (e ∙ ap region (some-injective x s at)))))
  in_beside (x ∷ xs) (suc k) s t q at kept other = ap (orelse (get (map_of x) q)) (in_beside xs k s t q at kept other)

  entries_same : (parts : List SerialState) (k : ℕ) (s t : SerialState) → get_elem? parts k ≡ some s → map_of t ≡ map_of s → flat_map (λ (x : SerialState). entries (map_of x)) (set parts k t) ≡ flat_map (λ (x : SerialState). entries (map_of x)) parts
  entries_same [] k s t at kept = refl
  entries_same (x ∷ xs) zero s t at kept = ap (λ es. es ++ flat_map (λ (y : SerialState). entries (map_of y)) xs) (ap entries (kept ∙ ap map_of (sym (some-injective x s at))))
  entries_same (x ∷ xs) (suc k) s t at kept = ap (λ es. entries (map_of x) ++ es) (entries_same xs k s t at kept)

  part_found : (parts : List SerialState) (q : K) (v : V) → in_parts parts q ≡ Some v → (k : ℕ) × (s : SerialState) × (get_elem? parts k ≡ some s) × (get (map_of s) q ≡ Some v)
  part_found [] q v is = absurd (no_value v is) where
    no_value : (v : V) → None ≡ Some v → ⊥
    no_value v e = subst (λ (r : Option V). is_none r) e tt where
      is_none : Option V → Type 0
      is_none None = Unit {0}
      is_none (Some x) = ⊥
  part_found (x ∷ xs) q v is = by_value (get (map_of x) q) refl is (λ e. part_found xs q v e) where
    by_value : (r : Option V) → get (map_of x) q ≡ r → orelse r (in_parts xs q) ≡ Some v → (in_parts xs q ≡ Some v → (k : ℕ) × (s : SerialState) × (get_elem? xs k ≡ some s) × (get (map_of s) q ≡ Some v))
        → (k : ℕ) × (s : SerialState) × (get_elem? (x ∷ xs) k ≡ some s) × (get (map_of s) q ≡ Some v)
    by_value (Some w) here e behind = (0, x, refl, here ∙ e)
    by_value None here e behind = let rest = behind e in (suc rest.0, rest.1, rest.2, rest.3)

  -- ---- what others cite
  -- a lookup goes to the part that the key names
  pub get_in : (parts : List SerialState) (k : ℕ) (s : SerialState) (q : K) → Differ (map region parts) → get_elem? parts k ≡ some s → name_of q ≡ s.region → get (joined parts) q ≡ get (map_of s) q
  get_in parts k s q differ at is = get_joined parts q ∙ in_one parts k s q differ at is

  -- what is found is found in a part
  pub found_at : (parts : List SerialState) (q : K) (v : V) → get (joined parts) q ≡ Some v → (k : ℕ) × (s : SerialState) × (get_elem? parts k ≡ some s) × (get (map_of s) q ≡ Some v)
  found_at parts q v is = part_found parts q v (sym (get_joined parts q) ∙ is)

  -- one part more or other at one key is the whole so
  pub joined_insert : (parts : List SerialState) (k : ℕ) (s t : SerialState) (p : K) (v : V) → Differ (map region parts) → get_elem? parts k ≡ some s → t.region ≡ s.region → name_of p ≡ s.region
      → map_of t ≡ insert (map_of s) p v → joined (set parts k t) ≡ insert (joined parts) p v
  joined_insert parts k s t p v differ at kept is inserts = same_map o same _ _ (λ q. dite (ℕ_discrete (name_of q) s.region)
      (λ here. get_in (set parts k t) k t q (subst Differ (sym (regions_set parts k s t at kept)) differ) (at_replaced parts k s t at) (here ∙ sym kept)
      ∙ ap (λ m. get m q) inserts ∙ get-insert o (map_of s) p v q
      ∙ ap (cond (eq_by_cmp R q p) (Some v)) (sym (get_in parts k s q differ at here))
      ∙ sym (get-insert o (joined parts) p v q))
      (λ beside. get_joined (set parts k t) q ∙ in_beside parts k s t q at kept beside ∙ sym (get_joined parts q)
      ∙ sym (get_beside o same (joined parts) p v q (λ e. beside (ap name_of e ∙ is)))))

  pub joined_same : (parts : List SerialState) (k : ℕ) (s t : SerialState) → get_elem? parts k ≡ some s → map_of t ≡ map_of s → joined (set parts k t) ≡ joined parts
  joined_same parts k s t at kept = ap (λ es. from_entries {R = R} es) (entries_same parts k s t at kept)
