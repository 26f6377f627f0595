-- Sums over the map of an arena are the sums of its parts.
use Rattle.std.proofs.Common.{◌≡◌, ℕ, zero, suc, ◌+◌, ◌<◌, Bool, true, false, cond, List, [], ◌∷◌, ◌++◌, length, map, Option, Some, None, Ordering, refl, sym, ap, subst, ◌∙◌, arith}
use Rattle.std.specs.Prelude.{T, IsSome, ◌&&◌, flat_map, sum_by}
use Rattle.std.specs.Ordering.{eq_by_cmp, is_eq, is_lt}
use Rattle.std.specs.declared.cmp.Ordering.TheVariants.{Less, Equal, Greater}
use Rattle.std.specs.Cmp.{IsTotalOrder}
use Rattle.std.specs.FinMap.Entries.{below_all}
use Rattle.std.specs.FinMap.{FinMap, IsAntisymmetric, find, is_sorted, get, entries, entries_sorted, from_entries, len, len-entries, len-empty, get-entries, get-from_entries}
use Rattle.std.proofs.lemmas.List.Sums.{sum_by-cons}
use mathlib.Core.Option.{some, some-injective, some-ne-none}
use lib.ListN.{get_elem?}
use Rattle.arena_mem.specs.declared.place.Place.{Place}
use Rattle.arena_mem.specs.declared.place.Buffer.{Buffer}
use Rattle.arena_mem.specs.Places.{buffer_cmp, used}
use Rattle.arena_mem.proofs.Entries.{other_key, same_key, key_sum, key_sum-new, no_entries}
use Rattle.arena_mem.proofs.Maps.{places_total, exact_places, buffers_total, exact_buffers, from_IsSome, len-kept}
use Rattle.serial_arena.specs.Serial.{SerialState, places_of, buffers_of, numbered, used_of}
use Rattle.serial_arena.proofs.Names.{used_is}
use Rattle.arena_list.specs.declared.entry.Entry.{Entry}
use Rattle.arena_list.specs.Rule.Founded.{Differ}
use Rattle.arena_list.proofs.Words.Few.{at_map}
use Rattle.ts_arena.specs.Arena.{ArenaState, IsArena, region, registered_of, arena_used, arena_registered}
use Rattle.ts_arena.specs.Sharing.{Owners}
use Rattle.ts_arena.specs.Sole.{parts_of, all_places, all_buffers, arena_places, arena_buffers}
use Rattle.ts_arena.proofs.Union.{orelse, find_both, tail_differs, found_in, in_none}
use Rattle.ts_arena.proofs.Regions.{serial_of}
use Rattle.ts_arena.proofs.Spots.{part_there, regions_differ}
use Rattle.ts_arena.proofs.Whole.{place_named, buffer_named}

-- ---- entries in order
left_of : (a b : Bool) → T (a && b) → T a
left_of true b p = tt
left_of false b p = p

right_of : (a b : Bool) → T (a && b) → T b
right_of true b p = p
right_of false b p = absurd p

not_equal : (r : Ordering) → T (is_lt r) → is_eq r ≡ false
not_equal Less p = refl
not_equal Equal p = absurd p
not_equal Greater p = absurd p

still_some : {V : Type 0} (b : Bool) (v : V) (r : Option V) → IsSome r → IsSome (cond b (Some v) r)
still_some true v r there = refl
still_some false v r there = there

module _ {K V : Type 0} (R : K → K → Ordering) where
  find_below : (q : K) (es : List (K × V)) → T (below_all R q es) → find R q es ≡ None
  find_below q [] h = refl
  find_below q (e ∷ es) h = ap (λ (b : Bool). cond b (Some e.1) (find R q es)) (not_equal (R q e.0) (left_of _ _ h)) ∙ find_below q es (right_of _ _ h)

module _ {K V : Type 0} {R : K → K → Ordering} (o : IsTotalOrder R) (same : IsAntisymmetric R) where
  -- the key of an entry is found
  is_found : (es : List (K × V)) (k : ℕ) (e : K × V) → get_elem? es k ≡ some e → IsSome (find R e.0 es)
  is_found [] k e at = absurd (some-ne-none e (sym at))
  is_found (x ∷ xs) zero e at = subst IsSome (sym (ap (λ (b : Bool). cond b (Some x.1) (find R e.0 xs)) (same_key o e.0 x.0 (ap (λ (y : K × V). y.0) (sym (some-injective x e at)))))) refl
  is_found (x ∷ xs) (suc k) e at = still_some (eq_by_cmp R e.0 x.0) x.1 (find R e.0 xs) (is_found xs k e at)

  -- entries in order before others that have none of their keys
  sum_both : (f : K → ℕ) (es fs : List (K × V)) → T (is_sorted R es) → ((k : ℕ) (e : K × V) → get_elem? es k ≡ some e → find R e.0 fs ≡ None)
      → key_sum f (from_entries {R = R} (es ++ fs)) ≡ sum_by f (map (λ e. e.0) es) + key_sum f (from_entries {R = R} fs)
  sum_both f [] fs sorted apart = omega arith
  sum_both f (e ∷ es) fs sorted apart =
      let new : get (from_entries {R = R} (es ++ fs)) e.0 ≡ None =
      get-from_entries o (es ++ fs) e.0 ∙ find_both R es fs e.0 ∙ ap (λ (r : Option V). orelse r (find R e.0 fs)) (find_below R e.0 es (left_of _ _ sorted)) ∙ apart 0 e refl in
      key_sum-new o same f (from_entries (es ++ fs)) e.0 e.1 new
      ∙ omega (arith, sum_by-cons f e.0 (map (λ (x : K × V). x.0) es), sum_both f es fs (right_of _ _ sorted) (λ k d at. apart (suc k) d at))

  module _ (map_of : SerialState → FinMap R V) (name_of : K → ℕ) (named : (s : SerialState) (q : K) (v : V) → get (map_of s) q ≡ Some v → name_of q ≡ s.region) where
    key_named : (s : SerialState) (k : ℕ) (e : K × V) → get_elem? (entries (map_of s)) k ≡ some e → name_of e.0 ≡ s.region
    key_named s k e at = from_IsSome (λ r. name_of e.0 ≡ s.region) (find R e.0 (entries (map_of s))) (is_found (entries (map_of s)) k e at) (λ v is. named s e.0 v (get-entries (map_of s) e.0 ∙ is))

    -- the parts' sums together
    sum_joined : (f : K → ℕ) (parts : List SerialState) → Differ (map region parts)
        → key_sum f (from_entries {R = R} (flat_map (λ (s : SerialState). entries (map_of s)) parts)) ≡ sum_by (λ (s : SerialState). key_sum f (map_of s)) parts
    sum_joined f [] differ = ap (λ (es : List (K × V)). sum_by f (map (λ e. e.0) es)) (no_entries R)
    sum_joined f (s ∷ ss) differ =
        sum_both f (entries (map_of s)) (flat_map (λ (t : SerialState). entries (map_of t)) ss) (entries_sorted (map_of s))
        (λ k e at. found_in o same map_of name_of named ss e.0 ∙ in_none o same map_of name_of named ss e.0
        (λ j t at_t is. let z : 0 ≡ suc j = differ 0 (suc j) s.region refl (at_map region ss j t at_t ∙ ap (λ (r : ℕ). some r) (sym is ∙ key_named s k e at)) in omega arith))
        ∙ omega (arith, sum_by-cons (λ (x : SerialState). key_sum f (map_of x)) s ss, sum_joined f ss (tail_differs s.region (map region ss) differ))

-- ---- sums over lists
sum_each : {A : Type 0} (g h : A → ℕ) (xs : List A) → ((k : ℕ) (x : A) → get_elem? xs k ≡ some x → g x ≡ h x) → sum_by g xs ≡ sum_by h xs
sum_each g h [] same = refl
sum_each g h (x ∷ xs) same = omega (arith, sum_by-cons g x xs, sum_by-cons h x xs, same 0 x refl, sum_each g h xs (λ k y at. same (suc k) y at))

pub sum_parts : (h : SerialState → ℕ) (owners : Owners) (adopted : List SerialState)
    → sum_by h (map (λ (e : Entry SerialState). e.part) owners ++ adopted) ≡ sum_by (λ (e : Entry SerialState). h e.part) owners + sum_by h adopted
sum_parts h [] adopted = omega arith
sum_parts h (e ∷ es) adopted = omega (arith, sum_by-cons h e.part (map (λ (x : Entry SerialState). x.part) es ++ adopted), sum_by-cons (λ (x : Entry SerialState). h x.part) e es, sum_parts h es adopted)

-- each key counts one
abbrev one : {K : Type 0} → K → ℕ
one k = 1

ones : {K V : Type 0} (es : List (K × V)) → sum_by one (map (λ e. e.0) es) ≡ length es
ones [] = refl
ones (e ∷ es) = omega (arith, sum_by-cons one e.0 (map (λ e. e.0) es), ones es)

count_is : {K V : Type 0} {R : K → K → Ordering} (m : FinMap R V) → key_sum one m ≡ len m
count_is m = ones (entries m) ∙ sym (len-entries m)

-- ---- the byte strings of one part
lower : (r m : ℕ) (xs : List (List ℕ)) (q : Buffer) → q.number < m → find buffer_cmp q (numbered r m xs) ≡ None
lower r m [] q h = refl
lower r m (x ∷ xs) q h =
    ap (λ (b : Bool). cond b (Some x) (find buffer_cmp q (numbered r (suc m) xs))) (other_key exact_buffers q (record { region = r; number = m }) (λ e. let z : q.number ≡ m = ap (λ (b : Buffer). b.number) e in omega arith))
    ∙ lower r (suc m) xs q (omega arith)

kept_count : (r n : ℕ) (xs : List (List ℕ)) → len (from_entries {R = buffer_cmp} (numbered r n xs)) ≡ length xs
kept_count r n [] = len-empty buffer_cmp (List ℕ)
kept_count r n (x ∷ xs) = len-kept (from_entries (numbered r (suc n) xs)) (record { region = r; number = n }) x (get-from_entries buffers_total (numbered r (suc n) xs) _ ∙ lower r (suc n) xs _ (omega arith))
    ∙ omega (arith, kept_count r (suc n) xs)

-- ---- an arena
module _ (a : ArenaState) (is : IsArena a) where
  -- its sums are those of the maps of its parts
  pub used_parts : sum_by (λ (s : SerialState). used (places_of s)) (parts_of a) ≡ arena_used a
  used_parts =
      sum_each (λ (s : SerialState). used (places_of s)) used_of (parts_of a) (λ k s at. used_is s (serial_of a is s (part_there a k s at)).laid)
      ∙ sum_parts used_of a.owners a.adopted

  pub registered_parts : sum_by (λ (s : SerialState). len (buffers_of s)) (parts_of a) ≡ arena_registered a
  registered_parts =
      sum_each (λ (s : SerialState). len (buffers_of s)) registered_of (parts_of a) (λ k s at. kept_count s.region 0 s.kept)
      ∙ sum_parts registered_of a.owners a.adopted

  -- it has as many places and buffers as its parts together
  pub places_whole : len (arena_places a) ≡ sum_by (λ (s : SerialState). len (places_of s)) (parts_of a)
  unfolding all_places
  places_whole =
      sym (count_is (arena_places a))
      ∙ sum_joined places_total exact_places places_of (λ (p : Place). p.region) place_named one (parts_of a) (regions_differ a is)
      ∙ sum_each (λ (s : SerialState). key_sum one (places_of s)) (λ (s : SerialState). len (places_of s)) (parts_of a) (λ k s at. count_is (places_of s))

  pub buffers_whole : len (arena_buffers a) ≡ sum_by (λ (s : SerialState). len (buffers_of s)) (parts_of a)
  unfolding all_buffers
  buffers_whole =
      sym (count_is (arena_buffers a))
      ∙ sum_joined buffers_total exact_buffers buffers_of (λ (b : Buffer). b.region) buffer_named one (parts_of a) (regions_differ a is)
      ∙ sum_each (λ (s : SerialState). key_sum one (buffers_of s)) (λ (s : SerialState). len (buffers_of s)) (parts_of a) (λ k s at. count_is (buffers_of s))

  -- and its sums are those of its own maps
  pub used_whole : used (arena_places a) ≡ arena_used a
  unfolding used all_places
  used_whole =
      sum_joined places_total exact_places places_of (λ (p : Place). p.region) place_named (λ (p : Place). p.len) (parts_of a) (regions_differ a is)
      ∙ used_parts

  pub registered_whole : len (arena_buffers a) ≡ arena_registered a
  registered_whole = buffers_whole ∙ registered_parts
