-- The live places and buffers of a serial arena.
use Rattle.std.proofs.Common.{◌≡◌, ℕ, zero, suc, ◌+◌, ◌-◌, ◌<◌, ◌≤◌, Bool, true, false, cond, List, [], ◌∷◌, ◌++◌, length, get_or, Some, None, inl, inr, ⊎_elim, refl, sym, ap, subst, ◌∙◌, arith}
use Rattle.std.specs.Prelude.{map, replicate, IsSome, ◌==◌, if◌then◌else◌, ◌⊎◌}
use Rattle.std.specs.Option.{option_map}
use Rattle.std.specs.Ordering.{eq_by_cmp}
use Rattle.std.specs.FinMap as fin
use Rattle.std.proofs.lemmas.List.Sums.{sum-map}
use Rattle.std.proofs.lemmas.Simd.{map-map}
use Rattle.std.specs.List.{sum}
use Rattle.std.proofs.lemmas.List.{map-append, length-map, length_push, get_or_append_left, get_or_push}
use Rattle.std.proofs.Math.ListN.{get_or-map, get_or-eq_default}
use Rattle.std.proofs.lemmas.Bool.{cases_Bool, cases_lt, eqb-true, eqb-false, leb-true, leb-false, true_from_ne_false, false_from_ne_true}
use Rattle.arena_mem.specs.declared.place.Place.{Place}
use Rattle.arena_mem.specs.declared.place.Buffer.{Buffer}
use Rattle.arena_mem.specs.Places.{place_cmp, buffer_cmp, IsLive, IsPlaceable, KeepsRest, KeepsBuffers, Apart, round8, splice, written, replaced, used, AddsAtMostABlock}
use Rattle.arena_block.specs.Policy.{IsLength}
use Rattle.serial_arena.specs.declared.span.Span.{Span}
use Rattle.serial_arena.specs.Laid.{Laid, span_at, size_at, filled_to}
use Rattle.serial_arena.specs.Serial.{Placement, SerialState, span_of, spans_of, place_in, numbered, places_of, buffers_of, blocks_of, room_of, fits, opened_size, sizes_for, next_placement, with_place, rewritten, with_bytes, with_kept, used_of}
use Rattle.serial_arena.proofs.Placing.{differ, lie_apart, few_blocks, laid_within, laid_beyond}
use Rattle.arena_mem.proofs.Entries.{same_key, get_inserted, get_beside, stays_there, keeps_rest, IsFresh, AreDistinct, altered, get_fresh, from_entries_fresh, stands, from_entries-altered, len_all}
use Rattle.arena_mem.proofs.Maps.{exact_places, buffers_total, exact_buffers, from_IsSome, used_all}
pub use Rattle.arena_mem.proofs.Maps.{places_total}

-- ---- the entries of the places
abbrev pub nothing : Placement
nothing = record { block = 0; offset = 0; len = 0; bytes = [] }

abbrev pub entry : ℕ → Placement → Place × List ℕ
entry region x = (place_in region x, x.bytes)

abbrev pub placement_at : List Placement → ℕ → Placement
placement_at xs k = get_or xs k nothing

entry_at : (r : ℕ) (xs : List Placement) (k : ℕ) → get_or (map (entry r) xs) k (entry r nothing) ≡ entry r (placement_at xs k)
entry_at r xs k = get_or-map (entry r) xs k nothing

pub span_is : (xs : List Placement) (k : ℕ) → span_at (map span_of xs) k ≡ span_of (placement_at xs k)
span_is xs k = get_or-map span_of xs k nothing

test_same : (n : ℕ) → (n == n) ≡ true
test_same n = true_from_ne_false _ (λ h. eqb-false n n h refl)

test_other : (m n : ℕ) → (m ≡ n → ⊥) → (m == n) ≡ false
test_other m n other = false_from_ne_true _ (λ h. other (eqb-true m n h))

-- what a write makes of the bytes at q
abbrev pub changed : Place → ℕ → List ℕ → Place → List ℕ → List ℕ
changed p start bytes q v = if eq_by_cmp place_cmp q p then splice start bytes v else v

changed_here : (p : Place) (start : ℕ) (bytes v : List ℕ) → changed p start bytes p v ≡ splice start bytes v
changed_here p start bytes v = ap (λ b. cond b (splice start bytes v) v) (same_key places_total p p refl)

entries_rewritten : (r : ℕ) (p : Place) (start : ℕ) (bytes : List ℕ) (xs : List Placement) → map (entry r) (map (rewritten r p start bytes) xs) ≡ altered (changed p start bytes) (map (entry r) xs)
entries_rewritten r p start bytes [] = refl
entries_rewritten r p start bytes (x ∷ xs) = ap (λ es. (place_in r x, changed p start bytes (place_in r x) x.bytes) ∷ es) (entries_rewritten r p start bytes xs)

pub blocks_here : (s : SerialState) → blocks_of s s.region ≡ length s.sizes
blocks_here s = ap (λ b. cond b (length s.sizes) 0) (test_same s.region)

pub blocks_else : (s : SerialState) (region : ℕ) → (region ≡ s.region → ⊥) → blocks_of s region ≡ 0
blocks_else s region other = ap (λ b. cond b (length s.sizes) 0) (test_other region s.region other)

flipped : (p q : Place) → Apart p q → Apart q p
flipped p q a = ⊎_elim (λ r. inl (λ e. r (sym e))) (λ b. inr (⊎_elim (λ r. inl (λ e. r (sym e))) (λ o. inr (⊎_elim (λ l. inr l) (λ l. inl l) o)) b)) a

-- ---- any state
module _ (s : SerialState) where
  -- a live place is a placement
  pub live_at : (p : Place) (v : List ℕ) → fin.get (places_of s) p ≡ Some v → (k : ℕ) × (k < length s.placements) × (entry s.region (placement_at s.placements k) ≡ (p, v))
  live_at p v is =
      let at = stands places_total exact_places (entry s.region nothing) (map (entry s.region) s.placements) p v is in
      (at.0, omega (arith, at.1, length-map s.placements (entry s.region)), sym (entry_at s.region s.placements at.0) ∙ at.2)

  -- a write changes one place
  pub with_bytes_inserts : (p : Place) (start : ℕ) (bytes was : List ℕ) → fin.get (places_of s) p ≡ Some was → places_of (with_bytes s p start bytes) ≡ fin.insert (places_of s) p (splice start bytes was)
  with_bytes_inserts p start bytes was is =
      ap (λ es. fin.from_entries {R = place_cmp} es) (entries_rewritten s.region p start bytes s.placements)
      ∙ from_entries-altered places_total exact_places (entry s.region nothing) (changed p start bytes) (map (entry s.region) s.placements) p was is (λ q v f. ap (λ b. cond b (splice start bytes v) v) f)
      ∙ ap (fin.insert (places_of s) p) (changed_here p start bytes was)

  pub with_bytes_is : (p : Place) (start : ℕ) (bytes : List ℕ) → IsLive (places_of s) p → places_of (with_bytes s p start bytes) ≡ written (places_of s) p start bytes
  with_bytes_is p start bytes live = from_IsSome (λ r. places_of (with_bytes s p start bytes) ≡ replaced (places_of s) p (option_map (splice start bytes) r)) _ live (with_bytes_inserts p start bytes)

  pub with_bytes_here : (p : Place) (start : ℕ) (bytes : List ℕ) → IsLive (places_of s) p → fin.get (places_of (with_bytes s p start bytes)) p ≡ option_map (splice start bytes) (fin.get (places_of s) p)
  with_bytes_here p start bytes live = from_IsSome (λ r. fin.get (places_of (with_bytes s p start bytes)) p ≡ option_map (splice start bytes) r) _ live
      (λ was is. ap (λ m. fin.get m p) (with_bytes_inserts p start bytes was is) ∙ get_inserted places_total exact_places (places_of s) p _)

  pub with_bytes_beside : (p : Place) (start : ℕ) (bytes : List ℕ) → IsLive (places_of s) p → (q : Place) → (q ≡ p → ⊥) → fin.get (places_of (with_bytes s p start bytes)) q ≡ fin.get (places_of s) q
  with_bytes_beside p start bytes live q other = from_IsSome (λ r. fin.get (places_of (with_bytes s p start bytes)) q ≡ fin.get (places_of s) q) _ live
      (λ was is. ap (λ m. fin.get m q) (with_bytes_inserts p start bytes was is) ∙ get_beside places_total exact_places (places_of s) p _ q other)

  pub with_bytes_live : (p : Place) (start : ℕ) (bytes : List ℕ) → IsLive (places_of s) p → (q : Place) → IsLive (places_of s) q → IsLive (places_of (with_bytes s p start bytes)) q
  with_bytes_live p start bytes live q there = from_IsSome (λ r. IsLive (places_of (with_bytes s p start bytes)) q) _ live
      (λ was is. subst (λ m. IsLive m q) (sym (with_bytes_inserts p start bytes was is)) (stays_there places_total exact_places (places_of s) p (splice start bytes was) q there))

-- ---- a state that is laid
module _ (s : SerialState) (laid : Laid s.policy s.sizes (spans_of s)) where
  -- two placements have two places
  pub two_places : (r j k : ℕ) → j < k → k < length s.placements → place_in r (placement_at s.placements j) ≡ place_in r (placement_at s.placements k) → ⊥
  two_places r j k l h e =
      let of_j = span_is s.placements j in
      let of_k = span_is s.placements k in
      differ s.policy s.sizes (spans_of s) laid j k l (omega (arith, h, length-map s.placements span_of))
      (ap (λ (x : Span). x.block) of_j ∙ ap (λ (p : Place). p.block) e ∙ sym (ap (λ (x : Span). x.block) of_k))
      (ap (λ (x : Span). x.offset) of_j ∙ ap (λ (p : Place). p.offset) e ∙ sym (ap (λ (x : Span). x.offset) of_k))

  distinct : AreDistinct (entry s.region nothing) (map (entry s.region) s.placements)
  distinct i j l h e = two_places s.region i j l (omega (arith, h, length-map s.placements (entry s.region)))
      (ap (λ (x : Place × List ℕ). x.0) (sym (entry_at s.region s.placements i)) ∙ e ∙ ap (λ (x : Place × List ℕ). x.0) (entry_at s.region s.placements j))

  apart_at : (j k : ℕ) → j < k → k < length s.placements → Apart (place_in s.region (placement_at s.placements j)) (place_in s.region (placement_at s.placements k))
  apart_at j k l h =
      subst (λ (x : Span). Apart (record { region = s.region; block = x.block; offset = x.offset; len = x.len }) (place_in s.region (placement_at s.placements k))) (span_is s.placements j)
      (subst (λ (x : Span). Apart (record { region = s.region; block = (span_at (spans_of s) j).block; offset = (span_at (spans_of s) j).offset; len = (span_at (spans_of s) j).len }) (record { region = s.region; block = x.block; offset = x.offset; len = x.len })) (span_is s.placements k)
      (lie_apart s.policy s.sizes (spans_of s) laid s.region j k l (omega (arith, h, length-map s.placements span_of))))

  pub places_apart : (p q : Place) → IsLive (places_of s) p → IsLive (places_of s) q → (p ≡ q → ⊥) → Apart p q
  places_apart p q live_p live_q other =
      from_IsSome (λ r. Apart p q) _ live_p (λ v p_is. from_IsSome (λ r. Apart p q) _ live_q (λ w q_is.
      let at_p = live_at s p v p_is in
      let at_q = live_at s q w q_is in
      let here_p : place_in s.region (placement_at s.placements at_p.0) ≡ p = ap (λ (x : Place × List ℕ). x.0) at_p.2 in
      let here_q : place_in s.region (placement_at s.placements at_q.0) ≡ q = ap (λ (x : Place × List ℕ). x.0) at_q.2 in
      subst (λ x. Apart x q) here_p (subst (λ x. Apart (place_in s.region (placement_at s.placements at_p.0)) x) here_q (⊎_elim
      (λ l. apart_at at_p.0 at_q.0 l at_q.1)
      (λ l. ⊎_elim
      (λ m. flipped _ _ (apart_at at_q.0 at_p.0 m at_p.1))
      (λ m. let same : at_p.0 ≡ at_q.0 = omega (arith, l, m) in absurd (other (sym here_p ∙ ap (λ k. place_in s.region (placement_at s.placements k)) same ∙ here_q)))
      (cases_lt at_q.0 at_p.0))
      (cases_lt at_p.0 at_q.0)))))

  count_places : fin.len (places_of s) ≡ length s.placements
  count_places = len_all places_total exact_places (entry s.region nothing) (map (entry s.region) s.placements) distinct ∙ length-map s.placements (entry s.region)

  -- what is used is the sum of the lens of the live places
  pub used_is : used (places_of s) ≡ used_of s
  used_is =
      used_all (entry s.region nothing) (map (entry s.region) s.placements) distinct
      ∙ sym (sum-map (λ (p : Place). p.len) (map (λ (e : Place × List ℕ). e.0) (map (entry s.region) s.placements)))
      ∙ ap sum (map-map (λ (p : Place). p.len) (λ (e : Place × List ℕ). e.0) (map (entry s.region) s.placements) ∙ map-map (λ (e : Place × List ℕ). e.0.len) (entry s.region) s.placements)
      ∙ sum-map (λ (x : Placement). x.len) s.placements

  pub blocks_have_places : (region : ℕ) → blocks_of s region ≤ fin.len (places_of s)
  blocks_have_places region =
      let few = few_blocks s.policy s.sizes (spans_of s) laid in
      let count = length-map s.placements span_of in
      ⊎_elim
      (λ t. omega (arith, count_places, few, count, ap (λ b. cond b (length s.sizes) 0) t))
      (λ f. omega (arith, ap (λ b. cond b (length s.sizes) 0) f))
      (cases_Bool (region == s.region))

-- ---- one placement more
abbrev span_if : SerialState → ℕ → Bool → Span
span_if s len here = record { block = if here then length s.sizes - 1 else length s.sizes; offset = if here then filled_to (spans_of s) else 16; len = len }

abbrev sizes_if : SerialState → ℕ → Bool → List ℕ
sizes_if s bytes here = if here then s.sizes else s.sizes ++ opened_size s bytes ∷ []

pub rounded_length : (bytes : ℕ) → IsPlaceable bytes → IsLength (round8 bytes)
rounded_length bytes ok = record { some = omega (arith, ok.some); most = omega (arith, ok.most); whole = omega arith }

module _ (s : SerialState) (laid : Laid s.policy s.sizes (spans_of s)) (bytes : ℕ) (ok : IsPlaceable bytes) where
  -- what fits wants a block
  pub block_there : round8 bytes ≤ room_of s → 0 < length s.sizes
  block_there le = ⊎_elim (λ l. l)
      (λ none. let no_room : size_at s.sizes (length s.sizes - 1) ≡ 0 = get_or-eq_default s.sizes 0 (omega (arith, none)) in
      absurd (omega (arith, le, no_room, (rounded_length bytes ok).some)))
      (cases_lt 0 (length s.sizes))

  laid_if : (here : Bool) → fits s bytes ≡ here → Laid s.policy (sizes_if s bytes here) (spans_of s ++ span_if s (round8 bytes) here ∷ [])
  laid_if true e = let le = leb-true (round8 bytes) (room_of s) e in laid_within s.policy s.sizes (spans_of s) laid (round8 bytes) (rounded_length bytes ok) (block_there le) le
  laid_if false e = laid_beyond s.policy s.sizes (spans_of s) laid (round8 bytes) (rounded_length bytes ok) (leb-false (round8 bytes) (room_of s) e)

  pub laid_next : Laid s.policy (sizes_for s bytes) (spans_of (with_place s bytes))
  laid_next = subst (Laid s.policy (sizes_for s bytes)) (sym (map-append span_of s.placements (next_placement s bytes ∷ []))) (laid_if (fits s bytes) refl)

  abbrev next_place : Place
  next_place = place_in s.region (next_placement s bytes)

  fresh_next : IsFresh (entry s.region nothing) (map (entry s.region) s.placements) next_place
  fresh_next i h e =
      let there : i < length s.placements = omega (arith, h, length-map s.placements (entry s.region)) in
      let new = get_or_push s.placements (next_placement s bytes) nothing (length s.placements) refl in
      two_places (with_place s bytes) laid_next s.region i (length s.placements) there (omega (arith, length_push s.placements (next_placement s bytes)))
      (ap (place_in s.region) (get_or_append_left s.placements (next_placement s bytes ∷ []) nothing i there)
      ∙ ap (λ (x : Place × List ℕ). x.0) (sym (entry_at s.region s.placements i)) ∙ e ∙ ap (place_in s.region) (sym new))

  -- the next place is new
  pub next_is_new : fin.get (places_of s) next_place ≡ None
  next_is_new = get_fresh places_total exact_places (entry s.region nothing) (map (entry s.region) s.placements) next_place fresh_next

  pub with_place_inserts : places_of (with_place s bytes) ≡ fin.insert (places_of s) next_place (replicate (round8 bytes) 0)
  with_place_inserts =
      ap (λ es. fin.from_entries {R = place_cmp} es) (map-append (entry s.region) s.placements (next_placement s bytes ∷ []))
      ∙ from_entries_fresh places_total exact_places (entry s.region nothing) (map (entry s.region) s.placements) next_place (replicate (round8 bytes) 0) fresh_next

  pub new_place_is_zero : fin.get (places_of (with_place s bytes)) next_place ≡ Some (replicate (round8 bytes) 0)
  new_place_is_zero = ap (λ m. fin.get m next_place) with_place_inserts ∙ get_inserted places_total exact_places (places_of s) _ _

  pub with_place_keeps : KeepsRest (places_of s) (places_of (with_place s bytes))
  with_place_keeps q was is = ap (λ m. fin.get m q) with_place_inserts ∙ keeps_rest places_total exact_places (places_of s) _ _ next_is_new q was is

-- ---- blocks
count_if : (s : SerialState) (bytes : ℕ) (here : Bool) → (length (sizes_if s bytes here) ≡ length s.sizes) ⊎ (length (sizes_if s bytes here) ≡ length s.sizes + 1)
count_if s bytes true = inl refl
count_if s bytes false = inr (length_push s.sizes (opened_size s bytes))

pub one_block_more : (s : SerialState) (bytes : ℕ) → AddsAtMostABlock (blocks_of s) (blocks_of (with_place s bytes))
one_block_more s bytes = (
  s.region,
  ⊎_elim
      (λ same. inl (blocks_here (with_place s bytes) ∙ same ∙ sym (blocks_here s)))
      (λ more. inr (blocks_here (with_place s bytes) ∙ more ∙ ap (λ n. n + 1) (sym (blocks_here s))))
      (count_if s bytes (fits s bytes)),
  λ other beside. blocks_else (with_place s bytes) other beside ∙ sym (blocks_else s other beside),
)

-- ---- the buffers
-- a byte string under its number
abbrev named : ℕ → ℕ → List ℕ → Buffer × List ℕ
named r k x = (record { region = r; number = k }, x)

length-numbered : (r n : ℕ) (xs : List (List ℕ)) → length (numbered r n xs) ≡ length xs
length-numbered r n [] = refl
length-numbered r n (x ∷ xs) = ap suc (length-numbered r (suc n) xs)

numbered-append : (r n : ℕ) (xs : List (List ℕ)) (x : List ℕ) (k : ℕ) → n + length xs ≡ k → numbered r n (xs ++ x ∷ []) ≡ numbered r n xs ++ named r k x ∷ []
numbered-append r n [] x k e = ap (λ (j : ℕ). named r j x ∷ []) (omega (arith, e))
numbered-append r n (y ∷ xs) x k e = ap (λ es. named r n y ∷ es) (numbered-append r (suc n) xs x k (omega (arith, e)))

numbered_at : (r n : ℕ) (xs : List (List ℕ)) (i : ℕ) (d : Buffer × List ℕ) → i < length xs → get_or (numbered r n xs) i d ≡ named r (n + i) (get_or xs i d.1)
numbered_at r n [] i d h = absurd (omega (arith, h))
numbered_at r n (x ∷ xs) zero d h = ap (λ k. named r k x) (omega arith)
numbered_at r n (x ∷ xs) (suc i) d h = numbered_at r (suc n) xs i d (omega (arith, h)) ∙ ap (λ k. named r k (get_or xs i d.1)) (omega arith)

-- the name of the next buffer
abbrev pub next_buffer : SerialState → Buffer
next_buffer s = record { region = s.region; number = length s.kept }

module _ (s : SerialState) where
  fresh_buffer : IsFresh (named 0 0 []) (numbered s.region 0 s.kept) (next_buffer s)
  fresh_buffer i h e =
      let there : i < length s.kept = omega (arith, h, length-numbered s.region 0 s.kept) in
      let at : i ≡ length s.kept = omega (arith, ap (λ (x : Buffer × List ℕ). x.0.number) (numbered_at s.region 0 s.kept i (named 0 0 []) there), ap (λ (b : Buffer). b.number) e) in
      omega (arith, at, there)

  pub next_buffer_is_new : fin.get (buffers_of s) (next_buffer s) ≡ None
  next_buffer_is_new = get_fresh buffers_total exact_buffers (named 0 0 []) (numbered s.region 0 s.kept) (next_buffer s) fresh_buffer

  pub with_kept_inserts : (bytes : List ℕ) → buffers_of (with_kept s bytes) ≡ fin.insert (buffers_of s) (next_buffer s) bytes
  with_kept_inserts bytes =
      ap (λ es. fin.from_entries {R = buffer_cmp} es) (numbered-append s.region 0 s.kept bytes (length s.kept) (omega arith))
      ∙ from_entries_fresh buffers_total exact_buffers (named 0 0 []) (numbered s.region 0 s.kept) (next_buffer s) bytes fresh_buffer

  pub new_buffer_is : (bytes : List ℕ) → fin.get (buffers_of (with_kept s bytes)) (next_buffer s) ≡ Some bytes
  new_buffer_is bytes = ap (λ m. fin.get m (next_buffer s)) (with_kept_inserts bytes) ∙ get_inserted buffers_total exact_buffers (buffers_of s) _ _

  pub with_kept_keeps : (bytes : List ℕ) → KeepsBuffers (buffers_of s) (buffers_of (with_kept s bytes))
  with_kept_keeps bytes b was is = ap (λ m. fin.get m b) (with_kept_inserts bytes) ∙ keeps_rest buffers_total exact_buffers (buffers_of s) _ _ next_buffer_is_new b was is

  -- a live buffer is the byte string of its number
  pub kept_at : (b : Buffer) (v : List ℕ) → fin.get (buffers_of s) b ≡ Some v → (b.number < length s.kept) × (get_or s.kept b.number [] ≡ v)
  kept_at b v is =
      let at = stands buffers_total exact_buffers (named 0 0 []) (numbered s.region 0 s.kept) b v is in
      let there : at.0 < length s.kept = omega (arith, at.1, length-numbered s.region 0 s.kept) in
      let one : named s.region (0 + at.0) (get_or s.kept at.0 []) ≡ (b, v) = sym (numbered_at s.region 0 s.kept at.0 (named 0 0 []) there) ∙ at.2 in
      let number : at.0 ≡ b.number = omega (arith, ap (λ (x : Buffer × List ℕ). x.0.number) one) in
      (omega (arith, there, number), ap (λ k. get_or s.kept k []) (sym number) ∙ ap (λ (x : Buffer × List ℕ). x.1) one)

-- a kept byte string by its number
pub is_kept : (s : SerialState) (b : Buffer) → IsSome (fin.get (buffers_of s) b) → (b.number < length s.kept) × (fin.get (buffers_of s) b ≡ Some (get_or s.kept b.number []))
is_kept s b live = from_IsSome (λ r. (b.number < length s.kept) × (r ≡ Some (get_or s.kept b.number []))) (fin.get (buffers_of s) b) live (λ v v_is.
    let at = kept_at s b v v_is in (at.0, ap Some (sym at.1)))
