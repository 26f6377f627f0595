-- The maps of a plain memory as it grows and is written.
use Rattle.std.proofs.Common.{◌≡◌, ℕ, zero, suc, ◌+◌, ◌-◌, ◌<◌, ◌≤◌, Bool, true, false, cond, List, [], ◌∷◌, ◌++◌, length, get_or, Some, None, inl, inr, ⊎_elim, refl, sym, ap, subst, ◌∙◌, arith}
use Rattle.std.specs.Prelude.{IsSome, take, drop, set, ◌==◌, ◌^◌, replicate, ◌⊎◌}
use Rattle.std.specs.Option.{option_map}
use Rattle.std.specs.Ordering.{eq_by_cmp}
use Rattle.std.specs.FinMap as fin
use Rattle.std.proofs.lemmas.List.{length-append, length-take, length-take-le, take-append-drop, length-drop, length-set, get_or-set_same, get_or-set_other, set-get_or, length_push, get_or_push, get_or_append_left}
use Rattle.std.proofs.Math.ListN.{get_or-eq_default}
use Rattle.std.proofs.lemmas.Bool.{cases_Bool, cases_lt, eqb-true, eqb-false, true_from_ne_false, false_from_ne_true}
use Rattle.arena_mem.specs.declared.place.Place.{Place}
use Rattle.arena_mem.specs.declared.place.Buffer.{Buffer}
use Rattle.arena_mem.specs.Places.{place_cmp, buffer_cmp, Places, Buffers, IsLive, IsKept, KeepsRest, KeepsBuffers, splice, written, replaced, bytes_at, used, AddsAtMostABlock}
use Rattle.arena_mem.specs.Plain.{PlainState, whole_block, placed_from, kept_from, places_of, buffers_of, blocks_of, block_at, with_written, IsPlain}
use Rattle.arena_mem.proofs.Entries.{same_key, other_key, get_inserted, get_beside, stays_there, keeps_rest, IsFresh, altered, get_fresh, from_entries_fresh, stands, from_entries-altered}
use Rattle.arena_mem.proofs.Maps.{places_total, exact_places, buffers_total, exact_buffers, from_IsSome, lives, len-written, used-written, len-inserted, used-inserted, len-kept}

abbrev places : List (List ℕ) → Places
places placed = fin.from_entries (placed_from 0 placed)

abbrev buffers : List (List ℕ) → Buffers
buffers kept = fin.from_entries (kept_from 0 kept)

-- ---- a write to a live place of any map
module _ (m : Places) (p : Place) (start : ℕ) (bytes : List ℕ) (live : IsLive m p) where
  pub written_here : fin.get (written m p start bytes) p ≡ option_map (splice start bytes) (fin.get m p)
  written_here = from_IsSome (λ r. fin.get (replaced m p (option_map (splice start bytes) r)) p ≡ option_map (splice start bytes) r) (fin.get m p) live
      (λ was is. get_inserted places_total exact_places m p _)

  pub written_beside : (q : Place) → (q ≡ p → ⊥) → fin.get (written m p start bytes) q ≡ fin.get m q
  written_beside q other = from_IsSome (λ r. fin.get (replaced m p (option_map (splice start bytes) r)) q ≡ fin.get m q) (fin.get m p) live
      (λ was is. get_beside places_total exact_places m p _ q other)

  pub written_lives : (q : Place) → IsLive m q → IsLive (written m p start bytes) q
  written_lives q there = from_IsSome (λ r. IsLive (replaced m p (option_map (splice start bytes) r)) q) (fin.get m p) live
      (λ was is. stays_there places_total exact_places m p _ q there)

-- as many bytes as before
pub length-splice : (start : ℕ) (bytes was : List ℕ) → start + length bytes ≤ length was → length (splice start bytes was) ≡ length was
length-splice start bytes was fits = simp (length-append, length-take, length-drop) (omega (arith, fits))

-- ---- entries by number
abbrev placed_entry : ℕ → List ℕ → Place × List ℕ
placed_entry block bytes = (whole_block block bytes, bytes)

length-placed : (n : ℕ) (xs : List (List ℕ)) → length (placed_from n xs) ≡ length xs
length-placed n [] = refl
length-placed n (x ∷ xs) = ap suc (length-placed (suc n) xs)

placed_push : (n : ℕ) (xs : List (List ℕ)) (x : List ℕ) (k : ℕ) → n + length xs ≡ k → placed_from n (xs ++ x ∷ []) ≡ placed_from n xs ++ placed_entry k x ∷ []
placed_push n [] x k e = ap (λ (j : ℕ). placed_entry j x ∷ []) (omega (arith, e))
placed_push n (y ∷ xs) x k e = ap (λ es. placed_entry n y ∷ es) (placed_push (suc n) xs x k (omega (arith, e)))

placed_at : (n : ℕ) (xs : List (List ℕ)) (i : ℕ) → i < length xs → get_or (placed_from n xs) i (placed_entry 0 []) ≡ placed_entry (n + i) (block_at xs i)
placed_at n [] i h = absurd (omega (arith, h))
placed_at n (x ∷ xs) zero h = ap (λ k. placed_entry k x) (omega arith)
placed_at n (x ∷ xs) (suc i) h = placed_at (suc n) xs i (omega (arith, h)) ∙ ap (λ k. placed_entry k (block_at xs i)) (omega arith)

abbrev kept_entry : ℕ → List ℕ → Buffer × List ℕ
kept_entry number bytes = (record { region = 0; number = number }, bytes)

length-kept : (n : ℕ) (xs : List (List ℕ)) → length (kept_from n xs) ≡ length xs
length-kept n [] = refl
length-kept n (x ∷ xs) = ap suc (length-kept (suc n) xs)

kept_push : (n : ℕ) (xs : List (List ℕ)) (x : List ℕ) (k : ℕ) → n + length xs ≡ k → kept_from n (xs ++ x ∷ []) ≡ kept_from n xs ++ kept_entry k x ∷ []
kept_push n [] x k e = ap (λ (j : ℕ). kept_entry j x ∷ []) (omega (arith, e))
kept_push n (y ∷ xs) x k e = ap (λ es. kept_entry n y ∷ es) (kept_push (suc n) xs x k (omega (arith, e)))

kept_at : (n : ℕ) (xs : List (List ℕ)) (i : ℕ) → i < length xs → get_or (kept_from n xs) i (kept_entry 0 []) ≡ kept_entry (n + i) (block_at xs i)
kept_at n [] i h = absurd (omega (arith, h))
kept_at n (x ∷ xs) zero h = ap (λ k. kept_entry k x) (omega arith)
kept_at n (x ∷ xs) (suc i) h = kept_at (suc n) xs i (omega (arith, h)) ∙ ap (λ k. kept_entry k (block_at xs i)) (omega arith)

-- ---- a live place is a block
pub record IsBlockOf (placed : List (List ℕ)) (p : Place) : Type 0 where
  pub there : p.block < length placed
  pub place : p ≡ whole_block p.block (block_at placed p.block)
  pub bytes : fin.get (places placed) p ≡ Some (block_at placed p.block)

pub is_block : (placed : List (List ℕ)) (p : Place) → IsLive (places placed) p → IsBlockOf placed p
is_block placed p live = from_IsSome (λ r. IsBlockOf placed p) (fin.get (places placed) p) live (λ v v_is.
    let at = stands places_total exact_places (placed_entry 0 []) (placed_from 0 placed) p v v_is in
    let there : at.0 < length placed = omega (arith, at.1, length-placed 0 placed) in
    let one : placed_entry (0 + at.0) (block_at placed at.0) ≡ (p, v) = sym (placed_at 0 placed at.0 there) ∙ at.2 in
    let named : 0 + at.0 ≡ p.block = ap (λ (x : Place × List ℕ). x.0.block) one in
    let number : at.0 ≡ p.block = omega (arith, named) in
    record {
      there = omega (arith, there, number);
      place = ap (λ (x : Place × List ℕ). x.0) (sym one) ∙ (λ i. whole_block (named i) (block_at placed (number i)));
      bytes = v_is ∙ ap Some (ap (λ (x : Place × List ℕ). x.1) (sym one) ∙ ap (block_at placed) number);
    })

pub fits_block : (placed : List (List ℕ)) (p : Place) → IsLive (places placed) p → length (block_at placed p.block) ≡ p.len
fits_block placed p live = sym (ap (λ (q : Place). q.len) (is_block placed p live).place)

-- ---- one block more
module _ (placed : List (List ℕ)) (bytes : List ℕ) where
  abbrev pub next_place : Place
  next_place = whole_block (length placed) bytes

  fresh_place : IsFresh (placed_entry 0 []) (placed_from 0 placed) next_place
  fresh_place i h e =
      let there : i < length placed = omega (arith, h, length-placed 0 placed) in
      let number : i ≡ length placed = omega (arith, ap (λ (x : Place × List ℕ). x.0.block) (placed_at 0 placed i there), ap (λ (p : Place). p.block) e) in
      omega (arith, there, number)

  pub next_is_new : fin.get (places placed) next_place ≡ None
  next_is_new = get_fresh places_total exact_places (placed_entry 0 []) (placed_from 0 placed) next_place fresh_place

  pub push_inserts : places (placed ++ bytes ∷ []) ≡ fin.insert (places placed) next_place bytes
  push_inserts = ap (λ es. fin.from_entries {R = place_cmp} es) (placed_push 0 placed bytes (length placed) (omega arith))
      ∙ from_entries_fresh places_total exact_places (placed_entry 0 []) (placed_from 0 placed) next_place bytes fresh_place

-- ---- a write into a block
abbrev pub changed : Place → ℕ → List ℕ → Place → List ℕ → List ℕ
changed p start bytes q v = cond (eq_by_cmp place_cmp q p) (splice start bytes v) v

changed_here : (p q : Place) (start : ℕ) (bytes v : List ℕ) → q ≡ p → changed p start bytes q v ≡ splice start bytes v
changed_here p q start bytes v e = ap (λ b. cond b (splice start bytes v) v) (same_key places_total q p e)

changed_beside : (p q : Place) (start : ℕ) (bytes v : List ℕ) → (q ≡ p → ⊥) → changed p start bytes q v ≡ v
changed_beside p q start bytes v other = ap (λ b. cond b (splice start bytes v) v) (other_key exact_places q p other)

-- the blocks behind the one that is written
all_behind : (p : Place) (start : ℕ) (bytes : List ℕ) (n : ℕ) (xs : List (List ℕ)) → p.block < n → placed_from n xs ≡ altered (changed p start bytes) (placed_from n xs)
all_behind p start bytes n [] h = refl
all_behind p start bytes n (x ∷ xs) h =
    let same : x ≡ changed p start bytes (whole_block n x) x = sym (changed_beside p (whole_block n x) start bytes x (λ e. omega (arith, h, ap (λ (q : Place). q.block) e))) in
    (λ i. (whole_block n x, same i) ∷ all_behind p start bytes (suc n) xs (omega (arith, h)) i)

entries_written : (p : Place) (start : ℕ) (bytes : List ℕ) (n k : ℕ) (xs : List (List ℕ)) → k < length xs → p ≡ whole_block (n + k) (block_at xs k) → start + length bytes ≤ length (block_at xs k)
    → placed_from n (with_written xs k start bytes) ≡ altered (changed p start bytes) (placed_from n xs)
entries_written p start bytes n k [] there is fits = absurd (omega (arith, there))
entries_written p start bytes n zero (x ∷ xs) there is fits =
    let here : whole_block n x ≡ p = ap (λ j. whole_block j x) (omega arith) ∙ sym is in
    ap (λ len. let at : Place = record { region = 0; block = n; offset = 0; len = len } in (at, splice start bytes x) ∷ placed_from (suc n) xs) (length-splice start bytes x fits)
    ∙ ap (λ v. (whole_block n x, v) ∷ placed_from (suc n) xs) (sym (changed_here p (whole_block n x) start bytes x here))
    ∙ ap (λ es. (whole_block n x, changed p start bytes (whole_block n x) x) ∷ es) (all_behind p start bytes (suc n) xs (omega (arith, ap (λ (q : Place). q.block) here)))
entries_written p start bytes n (suc k) (x ∷ xs) there is fits =
    ap (λ v. (whole_block n x, v) ∷ placed_from (suc n) (with_written xs k start bytes)) (sym (changed_beside p (whole_block n x) start bytes x (λ e. omega (arith, ap (λ (q : Place). q.block) (e ∙ is)))))
    ∙ ap (λ es. (whole_block n x, changed p start bytes (whole_block n x) x) ∷ es) (entries_written p start bytes (suc n) k xs (omega (arith, there)) (is ∙ ap (λ j. whole_block j (block_at xs k)) (omega arith)) fits)

module _ (placed : List (List ℕ)) (p : Place) (start : ℕ) (bytes : List ℕ) (live : IsLive (places placed) p) (fits : start + length bytes ≤ p.len) where
  block : IsBlockOf placed p
  block = is_block placed p live

  fits_there : start + length bytes ≤ length (block_at placed p.block)
  fits_there = omega (arith, fits, fits_block placed p live)

  pub written_inserts : places (with_written placed p.block start bytes) ≡ fin.insert (places placed) p (splice start bytes (block_at placed p.block))
  written_inserts =
      ap (λ es. fin.from_entries {R = place_cmp} es) (entries_written p start bytes 0 p.block placed block.there (block.place ∙ ap (λ k. whole_block k (block_at placed p.block)) (omega arith)) fits_there)
      ∙ from_entries-altered places_total exact_places (placed_entry 0 []) (changed p start bytes) (placed_from 0 placed) p (block_at placed p.block) block.bytes (λ q v f. ap (λ b. cond b (splice start bytes v) v) f)
      ∙ ap (fin.insert (places placed) p) (changed_here p p start bytes (block_at placed p.block) refl)

  pub written_is : places (with_written placed p.block start bytes) ≡ written (places placed) p start bytes
  written_is = written_inserts ∙ ap (λ r. replaced (places placed) p (option_map (splice start bytes) r)) (sym block.bytes)

  block_stays : (k : ℕ) → length (block_at (with_written placed p.block start bytes) k) ≡ length (block_at placed k)
  block_stays k = ⊎_elim
      (λ less. ap (λ (v : List ℕ). length v) (get_or-set_other placed p.block k (splice start bytes (block_at placed p.block)) [] (λ e. omega (arith, less, e))))
      (λ more. ⊎_elim
      (λ beyond. ap (λ (v : List ℕ). length v) (get_or-set_other placed p.block k (splice start bytes (block_at placed p.block)) [] (λ e. omega (arith, beyond, e))))
      (λ upto. let same : p.block ≡ k = omega (arith, more, upto) in
      ap (λ j. length (block_at (with_written placed p.block start bytes) j)) (sym same)
      ∙ ap (λ (v : List ℕ). length v) (get_or-set_same placed p.block (splice start bytes (block_at placed p.block)) [] block.there)
      ∙ length-splice start bytes (block_at placed p.block) fits_there ∙ ap (λ j. length (block_at placed j)) same)
      (cases_lt p.block k))
      (cases_lt k p.block)

  pub written_plain : IsPlain placed → IsPlain (with_written placed p.block start bytes)
  written_plain plain = record {
    few = omega (arith, plain.few, length-set placed p.block (splice start bytes (block_at placed p.block)));
    short = λ k. omega (arith, plain.short k, block_stays k);
  }

-- ---- the blocks
pub blocks_count : (kept placed : List (List ℕ)) (region : ℕ) (k : ℕ) → length placed ≡ k → blocks_of (record { placed = placed; kept = kept }) region ≡ cond (region == 0) k 0
blocks_count kept placed region k e = ap (λ n. cond (region == 0) n 0) e

pub one_block_more : (kept placed : List (List ℕ)) (bytes : List ℕ) → AddsAtMostABlock (blocks_of (record { placed = placed; kept = kept })) (blocks_of (record { placed = placed ++ bytes ∷ []; kept = kept }))
one_block_more kept placed bytes = (
  0,
  inr (length_push placed bytes),
  λ other beside. let no : (other == 0) ≡ false = false_from_ne_true _ (λ h. beside (eqb-true other 0 h)) in
      ap (λ b. cond b (length (placed ++ bytes ∷ [])) 0) no ∙ sym (ap (λ b. cond b (length placed) 0) no),
)

-- ---- the buffers
abbrev pub next_buffer : List (List ℕ) → Buffer
next_buffer kept = record { region = 0; number = length kept }

module _ (kept : List (List ℕ)) where
  fresh_buffer : IsFresh (kept_entry 0 []) (kept_from 0 kept) (next_buffer kept)
  fresh_buffer i h e =
      let there : i < length kept = omega (arith, h, length-kept 0 kept) in
      let number : i ≡ length kept = omega (arith, ap (λ (x : Buffer × List ℕ). x.0.number) (kept_at 0 kept i there), ap (λ (b : Buffer). b.number) e) in
      omega (arith, there, number)

  pub next_buffer_is_new : fin.get (buffers kept) (next_buffer kept) ≡ None
  next_buffer_is_new = get_fresh buffers_total exact_buffers (kept_entry 0 []) (kept_from 0 kept) (next_buffer kept) fresh_buffer

  pub keep_inserts : (bytes : List ℕ) → buffers (kept ++ bytes ∷ []) ≡ fin.insert (buffers kept) (next_buffer kept) bytes
  keep_inserts bytes = ap (λ es. fin.from_entries {R = buffer_cmp} es) (kept_push 0 kept bytes (length kept) (omega arith))
      ∙ from_entries_fresh buffers_total exact_buffers (kept_entry 0 []) (kept_from 0 kept) (next_buffer kept) bytes fresh_buffer

  pub is_kept : (b : Buffer) → IsKept (buffers kept) b → (b.number < length kept) × (fin.get (buffers kept) b ≡ Some (block_at kept b.number))
  is_kept b live = from_IsSome (λ r. (b.number < length kept) × (fin.get (buffers kept) b ≡ Some (block_at kept b.number))) (fin.get (buffers kept) b) live (λ v v_is.
      let at = stands buffers_total exact_buffers (kept_entry 0 []) (kept_from 0 kept) b v v_is in
      let there : at.0 < length kept = omega (arith, at.1, length-kept 0 kept) in
      let one : kept_entry (0 + at.0) (block_at kept at.0) ≡ (b, v) = sym (kept_at 0 kept at.0 there) ∙ at.2 in
      let number : at.0 ≡ b.number = omega (arith, ap (λ (x : Buffer × List ℕ). x.0.number) one) in
      (omega (arith, there, number), v_is ∙ ap Some (ap (λ (x : Buffer × List ℕ). x.1) (sym one) ∙ ap (block_at kept) number)))

-- ---- a block that is taken out for a moment
set_twice : (xs : List (List ℕ)) (k : ℕ) (x y : List ℕ) → set (set xs k x) k y ≡ set xs k y
set_twice [] k x y = refl
set_twice (z ∷ xs) zero x y = refl
set_twice (z ∷ xs) (suc k) x y = ap (λ ys. z ∷ ys) (set_twice xs k x y)

set_swapped : (xs : List (List ℕ)) (j k : ℕ) (x y : List ℕ) → (j ≡ k → ⊥) → set (set xs j x) k y ≡ set (set xs k y) j x
set_swapped [] j k x y other = refl
set_swapped (z ∷ xs) zero zero x y other = absurd (other refl)
set_swapped (z ∷ xs) zero (suc k) x y other = refl
set_swapped (z ∷ xs) (suc j) zero x y other = refl
set_swapped (z ∷ xs) (suc j) (suc k) x y other = ap (λ ys. z ∷ ys) (set_swapped xs j k x y (λ e. other (ap suc e)))

pub put_back : (xs : List (List ℕ)) (from to : ℕ) (none bytes : List ℕ) → (from ≡ to → ⊥) → set (set (set xs from none) to bytes) from (block_at xs from) ≡ set xs to bytes
put_back xs from to none bytes other =
    ap (λ ys. set ys from (block_at xs from)) (set_swapped xs from to none bytes other)
    ∙ set_twice (set xs to bytes) from none (block_at xs from)
    ∙ ap (set (set xs to bytes) from) (sym (get_or-set_other xs to from bytes [] other))
    ∙ set-get_or (set xs to bytes) from []

-- the front of a block is there already
pub same_front : (bytes : List ℕ) (count : ℕ) → count ≤ length bytes → splice 0 (take count bytes) bytes ≡ bytes
same_front bytes count few = ap (λ n. take count bytes ++ drop n bytes) (let taken : 0 + length (take count bytes) ≡ count = omega (arith, length-take-le count bytes few) in taken) ∙ take-append-drop count bytes
