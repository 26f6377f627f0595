-- An arena as one memory.
use Rattle.std.proofs.Common.{◌≡◌, ◌≢◌, ℕ, zero, suc, ◌+◌, ◌<◌, Bool, cond, List, [], ◌∷◌, ◌++◌, length, map, get_or, set, Some, None, refl, sym, ap, subst, ◌∙◌, inl, inr, ⊎_elim, arith}
use Rattle.std.specs.Prelude.{IsSome, replicate, flat_map, sum_by, ◌==◌}
use Rattle.std.specs.Option.{option_map}
use Rattle.std.specs.FinMap as fin
use Rattle.std.proofs.lemmas.Bool.{cases_Bool, eqb-true}
use Rattle.std.proofs.lemmas.List.{map-append}
use Rattle.std.proofs.lemmas.List.Sums.{sum_by-cons}
use mathlib.Core.Option.{some, some-injective, some-ne-none}
use lib.ListN.{get_elem?}
use Rattle.arena_mem.specs.declared.place.Place.{Place}
use Rattle.arena_mem.specs.declared.place.Buffer.{Buffer}
use Rattle.arena_mem.specs.declared.memory.MemFault.{MemFault}
use Rattle.arena_mem.specs.declared.memory.MemFault.TheVariants.{NoMemory, BlocksSpent}
use Rattle.arena_mem.specs.Places.{Places, IsPlaceable, IsLive, IsKept, AddsAtMostABlock, NamesFullRegion, round8, splice, written, replaced, place_cmp, buffer_cmp}
use Rattle.arena_mem.proofs.Maps.{places_total, exact_places, buffers_total, exact_buffers, from_IsSome}
use Rattle.arena_mem.proofs.Entries.{get_inserted, get_beside, stays_there, stands, no_entries}
use Rattle.serial_arena.specs.Serial.{SerialState, Placement, IsSerial, places_of, buffers_of, blocks_of, place_in, next_placement, numbered, with_place, with_bytes, with_kept}
use Rattle.serial_arena.proofs.Names.{live_at, with_bytes_inserts, with_place_inserts, next_is_new, next_buffer, next_buffer_is_new, with_kept_inserts, one_block_more}
use Rattle.arena_list.specs.declared.entry.Entry.{Entry}
use Rattle.arena_list.specs.Rule.Founded.{Differ, has, caller}
use Rattle.ts_arena.specs.declared.spot.Spot.{Spot}
use Rattle.ts_arena.specs.declared.spot.Spot.TheVariants.{Owner, Adopted}
use Rattle.ts_arena.specs.Arena.{ArenaState, IsArena, region}
use Rattle.ts_arena.specs.Sharing.{Owners}
use Rattle.ts_arena.specs.Places.{IsPartOf}
use Rattle.ts_arena.specs.Parts.{no_part, no_owner, owner_at, IsSpot, IsSlotTable, part_at, with_part}
use Rattle.ts_arena.specs.Sole.{parts_of, all_places, all_buffers, all_blocks, arena_places, arena_buffers, arena_blocks, IsEntered}
use Rattle.arena_list.proofs.Words.Few.{at_map}
use Rattle.arena_list.proofs.Words.Lists.{at_below}
use Rattle.ts_arena.proofs.Regions.{serial_of}
use Rattle.ts_arena.proofs.Spots.{at_or, or_at, at_set, index_of, at_spot, parts_with, part_there, part_at_spot, regions_differ}
use Rattle.ts_arena.proofs.Union.{get_in, found_at, joined_insert, joined_same}

-- ---- names
pub place_named : (s : SerialState) (p : Place) (v : List ℕ) → fin.get (places_of s) p ≡ Some v → p.region ≡ s.region
place_named s p v is = let at = live_at s p v is in sym (ap (λ (x : Place × List ℕ). x.0.region) at.2)

numbered_region : (r n : ℕ) (xs : List (List ℕ)) (i : ℕ) (d : Buffer × List ℕ) → i < length (numbered r n xs) → (get_or (numbered r n xs) i d).0.region ≡ r
numbered_region r n [] i d h = absurd (omega arith)
numbered_region r n (x ∷ xs) zero d h = refl
numbered_region r n (x ∷ xs) (suc i) d h = numbered_region r (suc n) xs i d (omega arith)

no_buffer : Buffer × List ℕ
no_buffer = (record { region = 0; number = 0 }, [])

pub buffer_named : (s : SerialState) (b : Buffer) (v : List ℕ) → fin.get (buffers_of s) b ≡ Some v → b.region ≡ s.region
buffer_named s b v is = let at = stands buffers_total exact_buffers no_buffer (numbered s.region 0 s.kept) b v is in
    ap (λ (x : Buffer × List ℕ). x.0.region) (sym at.2) ∙ numbered_region s.region 0 s.kept at.0 no_buffer at.1

-- ---- the map at a list of parts
pub places_in : (parts : List SerialState) (k : ℕ) (s : SerialState) (p : Place) → Differ (map region parts) → get_elem? parts k ≡ some s → p.region ≡ s.region → fin.get (all_places parts) p ≡ fin.get (places_of s) p
unfolding all_places
places_in parts k s p differ at is = get_in places_total exact_places places_of (λ (q : Place). q.region) place_named parts k s p differ at is

places_found : (parts : List SerialState) (p : Place) (v : List ℕ) → fin.get (all_places parts) p ≡ Some v → (k : ℕ) × (s : SerialState) × (get_elem? parts k ≡ some s) × (fin.get (places_of s) p ≡ Some v)
unfolding all_places
places_found parts p v is = found_at places_total exact_places places_of (λ (q : Place). q.region) place_named parts p v is

places_insert : (parts : List SerialState) (k : ℕ) (s t : SerialState) (p : Place) (v : List ℕ) → Differ (map region parts) → get_elem? parts k ≡ some s → t.region ≡ s.region → p.region ≡ s.region
    → places_of t ≡ fin.insert (places_of s) p v → all_places (set parts k t) ≡ fin.insert (all_places parts) p v
unfolding all_places
places_insert parts k s t p v differ at kept is inserts = joined_insert places_total exact_places places_of (λ (q : Place). q.region) place_named parts k s t p v differ at kept is inserts

places_same : (parts : List SerialState) (k : ℕ) (s t : SerialState) → get_elem? parts k ≡ some s → places_of t ≡ places_of s → all_places (set parts k t) ≡ all_places parts
unfolding all_places
places_same parts k s t at kept = joined_same places_total exact_places places_of (λ (q : Place). q.region) place_named parts k s t at kept

pub buffers_in : (parts : List SerialState) (k : ℕ) (s : SerialState) (b : Buffer) → Differ (map region parts) → get_elem? parts k ≡ some s → b.region ≡ s.region → fin.get (all_buffers parts) b ≡ fin.get (buffers_of s) b
unfolding all_buffers
buffers_in parts k s b differ at is = get_in buffers_total exact_buffers buffers_of (λ (q : Buffer). q.region) buffer_named parts k s b differ at is

buffers_found : (parts : List SerialState) (b : Buffer) (v : List ℕ) → fin.get (all_buffers parts) b ≡ Some v → (k : ℕ) × (s : SerialState) × (get_elem? parts k ≡ some s) × (fin.get (buffers_of s) b ≡ Some v)
unfolding all_buffers
buffers_found parts b v is = found_at buffers_total exact_buffers buffers_of (λ (q : Buffer). q.region) buffer_named parts b v is

buffers_insert : (parts : List SerialState) (k : ℕ) (s t : SerialState) (b : Buffer) (v : List ℕ) → Differ (map region parts) → get_elem? parts k ≡ some s → t.region ≡ s.region → b.region ≡ s.region
    → buffers_of t ≡ fin.insert (buffers_of s) b v → all_buffers (set parts k t) ≡ fin.insert (all_buffers parts) b v
unfolding all_buffers
buffers_insert parts k s t b v differ at kept is inserts = joined_insert buffers_total exact_buffers buffers_of (λ (q : Buffer). q.region) buffer_named parts k s t b v differ at kept is inserts

buffers_same : (parts : List SerialState) (k : ℕ) (s t : SerialState) → get_elem? parts k ≡ some s → buffers_of t ≡ buffers_of s → all_buffers (set parts k t) ≡ all_buffers parts
unfolding all_buffers
buffers_same parts k s t at kept = joined_same buffers_total exact_buffers buffers_of (λ (q : Buffer). q.region) buffer_named parts k s t at kept

sum_changed : {A : Type 0} (f : A → ℕ) (xs : List A) (k : ℕ) (a b : A) → get_elem? xs k ≡ some a → sum_by f (set xs k b) + f a ≡ sum_by f xs + f b
sum_changed f [] k a b at = absurd (some-ne-none a (sym at))
sum_changed f (x ∷ xs) zero a b at = let same = ap f (some-injective x a at) in omega (arith, sum_by-cons f x xs, sum_by-cons f b xs)
sum_changed f (x ∷ xs) (suc k) a b at = omega (arith, sum_by-cons f x xs, sum_by-cons f x (set xs k b), sum_changed f xs k a b at)

blocks_changed : (parts : List SerialState) (k : ℕ) (s t : SerialState) (r : ℕ) → get_elem? parts k ≡ some s → all_blocks (set parts k t) r + blocks_of s r ≡ all_blocks parts r + blocks_of t r
unfolding all_blocks
blocks_changed parts k s t r at = sum_changed (λ (x : SerialState). blocks_of x r) parts k s t at

-- only the part with a region has blocks in it
no_blocks : (s : SerialState) (r : ℕ) → r ≢ s.region → blocks_of s r ≡ 0
no_blocks s r other = ⊎_elim (λ t. absurd (other (eqb-true r s.region t))) (λ f. ap (λ (b : Bool). cond b (length s.sizes) 0) f) (cases_Bool (r == s.region))

blocks_none : (parts : List SerialState) (r : ℕ) → ((k : ℕ) (s : SerialState) → get_elem? parts k ≡ some s → r ≢ s.region) → sum_by (λ (x : SerialState). blocks_of x r) parts ≡ 0
blocks_none [] r others = refl
blocks_none (x ∷ xs) r others = omega (arith, sum_by-cons (λ (y : SerialState). blocks_of y r) x xs, no_blocks x r (others 0 x refl), blocks_none xs r (λ k s at. others (suc k) s at))

blocks_here : (parts : List SerialState) (k : ℕ) (s : SerialState) → Differ (map region parts) → get_elem? parts k ≡ some s → sum_by (λ (x : SerialState). blocks_of x s.region) parts ≡ blocks_of s s.region
blocks_here [] k s differ at = absurd (some-ne-none s (sym at))
blocks_here (x ∷ xs) zero s differ at = let here : x ≡ s = some-injective x s at in
    omega (
      arith,
      sum_by-cons (λ (y : SerialState). blocks_of y s.region) x xs,
      ap (λ (y : SerialState). blocks_of y s.region) here,
      blocks_none xs s.region (λ j y at_y e. let z : 0 ≡ suc j = differ 0 (suc j) s.region (ap (λ (t : SerialState). some t.region) here) (at_map region xs j y at_y ∙ ap (λ (r : ℕ). some r) (sym e)) in omega arith),
    )
blocks_here (x ∷ xs) (suc k) s differ at =
    omega (
      arith,
      sum_by-cons (λ (y : SerialState). blocks_of y s.region) x xs,
      no_blocks x s.region (λ e. let z : 0 ≡ suc k = differ 0 (suc k) s.region (ap (λ (r : ℕ). some r) (sym e)) (at_map region xs k s at) in omega arith),
      blocks_here xs k s (λ i j y a b. let e : suc i ≡ suc j = differ (suc i) (suc j) y a b in omega arith) at,
    )

-- ---- an arena
-- a live place lies in a part
pub place_there : (a : ArenaState) (p : Place) → IsLive (arena_places a) p → (s : SerialState) × IsPartOf a s × (s.region ≡ p.region)
place_there a p live = from_IsSome (λ r. (s : SerialState) × IsPartOf a s × (s.region ≡ p.region)) _ live
    (λ v found. let at = places_found (parts_of a) p v found in (at.1, part_there a at.0 at.1 at.2, sym (place_named at.1 p v at.3)))

pub buffer_there : (a : ArenaState) (b : Buffer) → IsKept (arena_buffers a) b → (s : SerialState) × IsPartOf a s × (s.region ≡ b.region)
buffer_there a b kept = from_IsSome (λ r. (s : SerialState) × IsPartOf a s × (s.region ≡ b.region)) _ kept
    (λ v found. let at = buffers_found (parts_of a) b v found in (at.1, part_there a at.0 at.1 at.2, sym (buffer_named at.1 b v at.3)))

module _ (a : ArenaState) (is : IsArena a) where
  module _ (q : Spot) (there : IsSpot a q) where
    -- a lookup goes to the part that the name says
    pub place_at : (p : Place) → (part_at a q).region ≡ p.region → fin.get (arena_places a) p ≡ fin.get (places_of (part_at a q)) p
    place_at p same = places_in (parts_of a) (index_of a q) (part_at a q) p (regions_differ a is) (at_spot a q there) (sym same)

    pub buffer_at : (b : Buffer) → (part_at a q).region ≡ b.region → fin.get (arena_buffers a) b ≡ fin.get (buffers_of (part_at a q)) b
    buffer_at b same = buffers_in (parts_of a) (index_of a q) (part_at a q) b (regions_differ a is) (at_spot a q there) (sym same)

    pub live_there : (p : Place) → (part_at a q).region ≡ p.region → IsLive (arena_places a) p → IsLive (places_of (part_at a q)) p
    live_there p same live = subst IsSome (place_at p same) live

    pub kept_there : (b : Buffer) → (part_at a q).region ≡ b.region → IsKept (arena_buffers a) b → IsKept (buffers_of (part_at a q)) b
    kept_there b same kept = subst IsSome (buffer_at b same) kept

    -- the arena with another part there
    module _ (t : SerialState) (kept : t.region ≡ (part_at a q).region) where
      pub whole_insert : (p : Place) (v : List ℕ) → p.region ≡ (part_at a q).region → places_of t ≡ fin.insert (places_of (part_at a q)) p v → arena_places (with_part a q t) ≡ fin.insert (arena_places a) p v
      whole_insert p v same inserts = ap all_places (parts_with a q t there) ∙ places_insert (parts_of a) (index_of a q) (part_at a q) t p v (regions_differ a is) (at_spot a q there) kept same inserts

      pub whole_places : places_of t ≡ places_of (part_at a q) → arena_places (with_part a q t) ≡ arena_places a
      whole_places same = ap all_places (parts_with a q t there) ∙ places_same (parts_of a) (index_of a q) (part_at a q) t (at_spot a q there) same

      pub whole_keep : (b : Buffer) (v : List ℕ) → b.region ≡ (part_at a q).region → buffers_of t ≡ fin.insert (buffers_of (part_at a q)) b v → arena_buffers (with_part a q t) ≡ fin.insert (arena_buffers a) b v
      whole_keep b v same inserts = ap all_buffers (parts_with a q t there) ∙ buffers_insert (parts_of a) (index_of a q) (part_at a q) t b v (regions_differ a is) (at_spot a q there) kept same inserts

      pub whole_buffers : buffers_of t ≡ buffers_of (part_at a q) → arena_buffers (with_part a q t) ≡ arena_buffers a
      whole_buffers same = ap all_buffers (parts_with a q t there) ∙ buffers_same (parts_of a) (index_of a q) (part_at a q) t (at_spot a q there) same

      whole_blocks : (r : ℕ) → arena_blocks (with_part a q t) r + blocks_of (part_at a q) r ≡ arena_blocks a r + blocks_of t r
      whole_blocks r = ap (λ (ps : List SerialState). all_blocks ps r + blocks_of (part_at a q) r) (parts_with a q t there) ∙ blocks_changed (parts_of a) (index_of a q) (part_at a q) t r (at_spot a q there)

      pub blocks_same : ((r : ℕ) → blocks_of t r ≡ blocks_of (part_at a q) r) → (r : ℕ) → arena_blocks (with_part a q t) r ≡ arena_blocks a r
      blocks_same same r = omega (arith, whole_blocks r, same r)

      pub blocks_more : AddsAtMostABlock (blocks_of (part_at a q)) (blocks_of t) → AddsAtMostABlock (arena_blocks a) (arena_blocks (with_part a q t))
      blocks_more adds = (
        adds.0,
        ⊎_elim (λ l. inl (omega (arith, whole_blocks adds.0, l))) (λ l. inr (omega (arith, whole_blocks adds.0, l))) adds.1,
        λ other beside. omega (arith, whole_blocks other, adds.2 other beside),
      )

    blocks_at : arena_blocks a (part_at a q).region ≡ blocks_of (part_at a q) (part_at a q).region
    unfolding all_blocks
    blocks_at = blocks_here (parts_of a) (index_of a q) (part_at a q) (regions_differ a is) (at_spot a q there)

    -- a region that is full in a part is full in the arena
    pub full_there : (f : MemFault) → NamesFullRegion (blocks_of (part_at a q)) f → NamesFullRegion (arena_blocks a) f
    full_there NoMemory full = tt
    full_there (BlocksSpent r) full = ⊎_elim
        (λ t. let here = eqb-true r (part_at a q).region t in ap (arena_blocks a) here ∙ blocks_at ∙ ap (blocks_of (part_at a q)) (sym here) ∙ full)
        (λ f. let none : blocks_of (part_at a q) r ≡ 0 = ap (λ (b : Bool). cond b (length (part_at a q).sizes) 0) f in absurd (omega (arith, none, full)))
        (cases_Bool (r == (part_at a q).region))

  -- ---- what calls do
  module _ (at bytes : ℕ) (low : at < length a.owners) (ok : IsPlaceable bytes) where
    abbrev own : SerialState
    own = part_at a (Owner at)

    abbrev new_place : Place
    new_place = place_in own.region (next_placement own bytes)

    own_serial : IsSerial own
    own_serial = serial_of a is own (part_at_spot a (Owner at) low)

    pub placed_map : arena_places (with_part a (Owner at) (with_place own bytes)) ≡ fin.insert (arena_places a) new_place (replicate (round8 bytes) 0)
    placed_map = whole_insert (Owner at) low (with_place own bytes) refl new_place (replicate (round8 bytes) 0) refl (with_place_inserts own own_serial.laid bytes ok)

    pub placed_fresh : fin.get (arena_places a) new_place ≡ None
    placed_fresh = place_at (Owner at) low new_place refl ∙ next_is_new own own_serial.laid bytes ok

    pub placed_buffers : arena_buffers (with_part a (Owner at) (with_place own bytes)) ≡ arena_buffers a
    placed_buffers = whole_buffers (Owner at) low (with_place own bytes) refl refl

    pub placed_blocks : AddsAtMostABlock (arena_blocks a) (arena_blocks (with_part a (Owner at) (with_place own bytes)))
    placed_blocks = blocks_more (Owner at) low (with_place own bytes) refl (one_block_more own bytes)

  module _ (at : ℕ) (bytes : List ℕ) (low : at < length a.owners) where
    abbrev new_buffer : Buffer
    new_buffer = next_buffer (part_at a (Owner at))

    pub kept_map : arena_buffers (with_part a (Owner at) (with_kept (part_at a (Owner at)) bytes)) ≡ fin.insert (arena_buffers a) new_buffer bytes
    kept_map = whole_keep (Owner at) low (with_kept (part_at a (Owner at)) bytes) refl new_buffer bytes refl (with_kept_inserts (part_at a (Owner at)) bytes)

    pub kept_fresh : fin.get (arena_buffers a) new_buffer ≡ None
    kept_fresh = buffer_at (Owner at) low new_buffer refl ∙ next_buffer_is_new (part_at a (Owner at))

    pub kept_places : arena_places (with_part a (Owner at) (with_kept (part_at a (Owner at)) bytes)) ≡ arena_places a
    kept_places = whole_places (Owner at) low (with_kept (part_at a (Owner at)) bytes) refl refl

    pub kept_blocks : (r : ℕ) → arena_blocks (with_part a (Owner at) (with_kept (part_at a (Owner at)) bytes)) r ≡ arena_blocks a r
    kept_blocks = blocks_same (Owner at) low (with_kept (part_at a (Owner at)) bytes) refl (λ r. refl)

  module _ (q : Spot) (there : IsSpot a q) (p : Place) (start : ℕ) (bytes : List ℕ) (same : (part_at a q).region ≡ p.region) (live : IsLive (arena_places a) p) where
    abbrev wrote : ArenaState
    wrote = with_part a q (with_bytes (part_at a q) p start bytes)

    pub wrote_map : arena_places wrote ≡ written (arena_places a) p start bytes
    wrote_map = from_IsSome (λ r. arena_places wrote ≡ replaced (arena_places a) p (option_map (splice start bytes) r)) (fin.get (arena_places a) p) live
        (λ was found. whole_insert q there (with_bytes (part_at a q) p start bytes) refl p (splice start bytes was) (sym same)
        (with_bytes_inserts (part_at a q) p start bytes was (sym (place_at q there p same) ∙ found)))

    pub wrote_buffers : arena_buffers wrote ≡ arena_buffers a
    wrote_buffers = whole_buffers q there (with_bytes (part_at a q) p start bytes) refl refl

    pub wrote_blocks : (r : ℕ) → arena_blocks wrote r ≡ arena_blocks a r
    wrote_blocks = blocks_same q there (with_bytes (part_at a q) p start bytes) refl (λ r. refl)

-- ---- a written map
module _ (old new : Places) (p : Place) (start : ℕ) (bytes : List ℕ) (live : IsLive old p) (is : new ≡ written old p start bytes) where
  pub written_here : fin.get new p ≡ option_map (splice start bytes) (fin.get old p)
  written_here = ap (λ m. fin.get m p) is ∙ from_IsSome (λ r. fin.get (replaced old p (option_map (splice start bytes) r)) p ≡ option_map (splice start bytes) r) (fin.get old p) live
      (λ was found. get_inserted places_total exact_places old p (splice start bytes was))

  pub written_beside : (q : Place) → (q ≡ p → ⊥) → fin.get new q ≡ fin.get old q
  written_beside q other = ap (λ m. fin.get m q) is ∙ from_IsSome (λ r. fin.get (replaced old p (option_map (splice start bytes) r)) q ≡ fin.get old q) (fin.get old p) live
      (λ was found. get_beside places_total exact_places old p (splice start bytes was) q other)

  pub written_live : (q : Place) → IsLive old q → IsLive new q
  written_live q there = subst (λ m. IsLive m q) (sym is) (from_IsSome (λ r. IsLive (replaced old p (option_map (splice start bytes) r)) q) (fin.get old p) live
      (λ was found. stays_there places_total exact_places old p (splice start bytes was) q there))

-- ---- the table stays
pub table_kept : (table : List ℕ) (a : ArenaState) (q : Spot) (t : SerialState) → IsSpot a q → IsSlotTable table a.owners → IsSlotTable table (with_part a q t).owners
table_kept table a (Owner n) t there known = record {
  each = λ k e at. ⊎_elim
      (λ w. ap (λ (x : Entry SerialState). get_or table x.slot 0) w.1 ∙ known.each n (owner_at a.owners n) (at_or a.owners n no_owner there) ∙ sym w.0)
      (λ w. known.each k e w.1)
      (at_set a.owners n (record (owner_at a.owners n) { part = t }) k e at);
}
table_kept table a (Adopted n) t there known = known

-- ---- an owner that has nothing
module _ (xs ys : List SerialState) (s : SerialState) where
  flat_skip : {A : Type 0} (f : SerialState → List A) (zs : List SerialState) → f s ≡ [] → flat_map f ((zs ++ s ∷ []) ++ ys) ≡ flat_map f (zs ++ ys)
  flat_skip f [] none = ap (λ es. es ++ flat_map f ys) none
  flat_skip f (z ∷ zs) none = ap (λ es. f z ++ es) (flat_skip f zs none)

  sum_skip : (f : SerialState → ℕ) (zs : List SerialState) → f s ≡ 0 → sum_by f ((zs ++ s ∷ []) ++ ys) ≡ sum_by f (zs ++ ys)
  sum_skip f [] none = omega (arith, none, sum_by-cons f s ys)
  sum_skip f (z ∷ zs) none = omega (arith, sum_by-cons f z ((zs ++ s ∷ []) ++ ys), sum_by-cons f z (zs ++ ys), sum_skip f zs none)

  places_skip : s.placements ≡ [] → all_places ((xs ++ s ∷ []) ++ ys) ≡ all_places (xs ++ ys)
  unfolding all_places
  places_skip none = ap (λ es. fin.from_entries es) (flat_skip (λ (x : SerialState). fin.entries (places_of x)) xs
      (ap (λ (ps : List Placement). fin.entries (fin.from_entries {R = place_cmp} (map (λ (x : Placement). (place_in s.region x, x.bytes)) ps))) none ∙ no_entries place_cmp))

  buffers_skip : s.kept ≡ [] → all_buffers ((xs ++ s ∷ []) ++ ys) ≡ all_buffers (xs ++ ys)
  unfolding all_buffers
  buffers_skip none = ap (λ es. fin.from_entries es) (flat_skip (λ (x : SerialState). fin.entries (buffers_of x)) xs
      (ap (λ (ks : List (List ℕ)). fin.entries (fin.from_entries {R = buffer_cmp} (numbered s.region 0 ks))) none ∙ no_entries buffer_cmp))

  blocks_skip : s.sizes ≡ [] → (r : ℕ) → all_blocks ((xs ++ s ∷ []) ++ ys) r ≡ all_blocks (xs ++ ys) r
  unfolding all_blocks
  blocks_skip none r = sum_skip (λ (x : SerialState). blocks_of x r) xs (⊎_elim
      (λ t. ap (λ (b : Bool). cond b (length s.sizes) 0) t ∙ ap (λ (l : List ℕ). length l) none)
      (λ f. ap (λ (b : Bool). cond b (length s.sizes) 0) f)
      (cases_Bool (r == s.region)))

-- entering changes no map
module _ (a b : ArenaState) (who at : ℕ) (entered : IsEntered a who b at) where
  -- the arena as it was, or with an owner more that has nothing
  as_before : (P : ArenaState → Type 0) → P a → ((e : Entry SerialState) → e.part.placements ≡ [] → e.part.kept ≡ [] → e.part.sizes ≡ [] → P (record a { owners = a.owners ++ e ∷ [] })) → P b
  as_before P same more = ⊎_elim
      (λ t. subst P (sym (entered.same t)) same)
      (λ f. let added = entered.added f in let one = added.0 in subst P (sym (added.2 ∙ ap (λ (es : Owners). record a { owners = es }) one.added)) (more _ refl refl refl))
      (cases_Bool (has (map caller a.owners) who))

  parts_more : (e : Entry SerialState) → parts_of (record a { owners = a.owners ++ e ∷ [] }) ≡ (map (λ (x : Entry SerialState). x.part) a.owners ++ e.part ∷ []) ++ a.adopted
  parts_more e = ap (λ (l : List SerialState). l ++ a.adopted) (map-append (λ (x : Entry SerialState). x.part) a.owners (e ∷ []))

  pub entered_life : b.life ≡ a.life
  entered_life = as_before (λ (x : ArenaState). x.life ≡ a.life) refl (λ e _ _ _. refl)

  pub entered_policy : b.policy ≡ a.policy
  entered_policy = as_before (λ (x : ArenaState). x.policy ≡ a.policy) refl (λ e _ _ _. refl)

  pub entered_places : arena_places b ≡ arena_places a
  entered_places = as_before (λ (x : ArenaState). arena_places x ≡ arena_places a) refl
      (λ e none _ _. ap all_places (parts_more e) ∙ places_skip (map (λ (x : Entry SerialState). x.part) a.owners) a.adopted e.part none)

  pub entered_buffers : arena_buffers b ≡ arena_buffers a
  entered_buffers = as_before (λ (x : ArenaState). arena_buffers x ≡ arena_buffers a) refl
      (λ e _ none _. ap all_buffers (parts_more e) ∙ buffers_skip (map (λ (x : Entry SerialState). x.part) a.owners) a.adopted e.part none)

  pub entered_blocks : (r : ℕ) → arena_blocks b r ≡ arena_blocks a r
  entered_blocks r = as_before (λ (x : ArenaState). arena_blocks x r ≡ arena_blocks a r) refl
      (λ e _ _ none. ap (λ (ps : List SerialState). all_blocks ps r) (parts_more e) ∙ blocks_skip (map (λ (x : Entry SerialState). x.part) a.owners) a.adopted e.part none r)

-- ---- lookups, by the parts
-- a part stands somewhere
spot_of : (a : ArenaState) (s : SerialState) → IsPartOf a s → (q : Spot) × IsSpot a q × (part_at a q ≡ s)
spot_of a s there = ⊎_elim
    (λ o. (Owner o.0, at_below a.owners o.0 o.1 o.2, ap (λ (e : Entry SerialState). e.part) (or_at a.owners o.0 o.1 no_owner o.2) ∙ o.3))
    (λ o. (Adopted o.0, at_below a.adopted o.0 s o.1, or_at a.adopted o.0 s no_part o.1))
    there

module _ (a : ArenaState) (is : IsArena a) (s : SerialState) (there : IsPartOf a s) where
  pub places_of_part : (p : Place) → p.region ≡ s.region → fin.get (arena_places a) p ≡ fin.get (places_of s) p
  places_of_part p same = let q = spot_of a s there in place_at a is q.0 q.1 p (ap region q.2 ∙ sym same) ∙ ap (λ (x : SerialState). fin.get (places_of x) p) q.2

  pub buffers_of_part : (b : Buffer) → b.region ≡ s.region → fin.get (arena_buffers a) b ≡ fin.get (buffers_of s) b
  buffers_of_part b same = let q = spot_of a s there in buffer_at a is q.0 q.1 b (ap region q.2 ∙ sym same) ∙ ap (λ (x : SerialState). fin.get (buffers_of x) b) q.2

  pub blocks_of_part : arena_blocks a s.region ≡ blocks_of s s.region
  blocks_of_part = let q = spot_of a s there in subst (λ (x : SerialState). arena_blocks a x.region ≡ blocks_of x x.region) q.2 (blocks_at a is q.0 q.1)
