-- The calls of an arena as one memory.
use Rattle.std.proofs.Common.{◌≡◌, ℕ, ◌+◌, ◌<◌, List, [], length, take, Option, Some, None, Result, Ok, Err, refl, sym, ap, subst, ◌∙◌, inl, get_or, arith}
use Rattle.std.specs.Prelude.{IfOk, IfErr, OnOk, OnErr, replicate, unwrap_or}
use Rattle.std.specs.Option.{option_map}
use Rattle.std.specs.FinMap as fin
use Rattle.arena_mem.specs.declared.place.Place.{Place}
use Rattle.arena_mem.specs.declared.place.Buffer.{Buffer}
use Rattle.arena_mem.specs.declared.memory.MemFault.{MemFault}
use Rattle.arena_mem.specs.Places.{Places, Buffers, IsPlaceable, IsLive, KeepsRest, KeepsBuffers, AddsAtMostABlock, NamesFullRegion, round8, used, splice, written, bytes_at}
use Rattle.arena_mem.specs.Grows.{Grows}
use Rattle.arena_mem.proofs.Maps.{places_total, exact_places, buffers_total, exact_buffers, len-inserted, used-inserted, len-kept, len-written, used-written}
use Rattle.arena_mem.proofs.Entries.{get_inserted, stays_there, keeps_rest}
use Rattle.arena_mem.proofs.Growth.{placed_grows, kept_grows, same_grows}
use Rattle.serial_arena.specs.Serial.{SerialState, blocks_of, place_in, next_placement, with_place, with_bytes, with_kept, places_of}
use Rattle.ts_arena.specs.declared.spot.Spot.{Spot}
use Rattle.ts_arena.specs.declared.spot.Spot.TheVariants.{Owner, Adopted}
use Rattle.ts_arena.specs.Arena.{ArenaState, IsArena}
use Rattle.ts_arena.specs.Parts.{no_owner, IsSpot, IsSlotTable, part_at, with_part}
use Rattle.ts_arena.specs.Sole.{arena_places, arena_buffers, arena_blocks, frame_of}
use Rattle.ts_arena.proofs.Spots.{len_set}
use Rattle.ts_arena.proofs.Frames.{frame_own, frame_written}
use Rattle.ts_arena.proofs.Whole.{full_there, placed_map, placed_fresh, placed_buffers, placed_blocks, kept_map, kept_fresh, kept_places, kept_blocks, table_kept, place_at, wrote_map, wrote_buffers, wrote_blocks, written_here, written_beside, written_live}

-- ---- answers by cases
module _ {T E : Type 0} where
  with_ok : (r : Result T E) (X : Type 0) (P Q : T → Type 0) → OnOk r X → IfOk r P → ((x : T) → X → P x → Q x) → IfOk r Q
  with_ok (Ok x) X P Q done is f = f x done is
  with_ok (Err e) X P Q done is f = tt

  with_err : (r : Result T E) (X : Type 0) (P Q : E → Type 0) → OnErr r X → IfErr r P → ((x : E) → X → P x → Q x) → IfErr r Q
  with_err (Ok x) X P Q undone is f = tt
  with_err (Err e) X P Q undone is f = f e undone is

  on_err : (r : Result T E) (X Y : Type 0) → OnErr r X → (X → Y) → OnErr r Y
  on_err (Ok x) X Y undone f = tt
  on_err (Err e) X Y undone f = f undone

  either : (r : Result T E) (X Y Z : Type 0) → OnOk r X → OnErr r Y → (X → Z) → (Y → Z) → Z
  either (Ok x) X Y Z done undone f g = f done
  either (Err e) X Y Z done undone f g = g undone

-- the owner and the table are still right
pub record StillOwns (at : ℕ) (table : List ℕ) (b : ArenaState) : Type 0 where
  pub own : at < length b.owners
  pub known : IsSlotTable table b.owners

pub still_owns : (at : ℕ) (table : List ℕ) (a : ArenaState) (t : SerialState) → at < length a.owners → IsSlotTable table a.owners → StillOwns at table (with_part a (Owner at) t)
still_owns at table a t low known = record { own = (let same = len_set a.owners at (record (get_or a.owners at no_owner) { part = t }) in omega arith); known = table_kept table a (Owner at) t low known }

-- ---- a placement
module _ (at bytes : ℕ) (a b : ArenaState) (r : Result Place MemFault) (is : IsArena a) (low : at < length a.owners) (ok : IsPlaceable bytes)
    (name : IfOk r (λ p. p ≡ place_in (part_at a (Owner at)).region (next_placement (part_at a (Owner at)) bytes)))
    (placed : OnOk r (b ≡ with_part a (Owner at) (with_place (part_at a (Owner at)) bytes)))
    (same : OnErr r (b ≡ a))
    (fault : IfErr r (NamesFullRegion (blocks_of (part_at a (Owner at))))) where
  abbrev done : ArenaState
  done = with_part a (Owner at) (with_place (part_at a (Owner at)) bytes)

  abbrev there : Place
  there = place_in (part_at a (Owner at)).region (next_placement (part_at a (Owner at)) bytes)

  abbrev zeros : List ℕ
  zeros = replicate (round8 bytes) 0

  new_map : arena_places done ≡ fin.insert (arena_places a) there zeros
  new_map = placed_map a is at bytes low ok

  is_new : fin.get (arena_places a) there ≡ None
  is_new = placed_fresh a is at bytes low ok

  pub place_owns : (table : List ℕ) → IsSlotTable table a.owners → StillOwns at table b
  place_owns table known = either r (b ≡ done) (b ≡ a) (StillOwns at table b) placed same
      (λ e. subst (StillOwns at table) (sym e) (still_owns at table a (with_place (part_at a (Owner at)) bytes) low known))
      (λ e. subst (StillOwns at table) (sym e) (record { own = low; known = known }))

  pub place_frame : frame_of at b ≡ frame_of at a
  place_frame = either r (b ≡ done) (b ≡ a) (frame_of at b ≡ frame_of at a) placed same
      (λ e. ap (frame_of at) e ∙ frame_own at a (with_place (part_at a (Owner at)) bytes) low refl)
      (λ e. ap (frame_of at) e)

  pub place_fresh : IfOk r (λ p. fin.get (arena_places a) p ≡ None)
  place_fresh = with_ok r (b ≡ done) (λ p. p ≡ there) (λ p. fin.get (arena_places a) p ≡ None) placed name (λ p _ e. ap (fin.get (arena_places a)) e ∙ is_new)

  pub place_map : IfOk r (λ p. arena_places b ≡ fin.insert (arena_places a) p (replicate p.len 0))
  place_map = with_ok r (b ≡ done) (λ p. p ≡ there) (λ p. arena_places b ≡ fin.insert (arena_places a) p (replicate p.len 0)) placed name
      (λ p e n. ap arena_places e ∙ new_map ∙ ap (λ (q : Place). fin.insert (arena_places a) q (replicate q.len 0)) (sym n))

  pub place_zeros : IfOk r (λ p. fin.get (arena_places b) p ≡ Some (replicate p.len 0))
  place_zeros = with_ok r (b ≡ done) (λ p. p ≡ there) (λ p. fin.get (arena_places b) p ≡ Some (replicate p.len 0)) placed name
      (λ p e n. ap (λ (q : Place). fin.get (arena_places b) q) n ∙ ap (λ m. fin.get m there) (ap arena_places e ∙ new_map) ∙ get_inserted places_total exact_places (arena_places a) there zeros ∙ ap (λ (q : Place). Some (replicate q.len 0)) (sym n))

  pub place_count : IfOk r (λ p. fin.len (arena_places b) ≡ fin.len (arena_places a) + 1)
  place_count = with_ok r (b ≡ done) (λ p. p ≡ there) (λ p. fin.len (arena_places b) ≡ fin.len (arena_places a) + 1) placed name
      (λ p e n. ap fin.len (ap arena_places e ∙ new_map) ∙ len-inserted (arena_places a) there zeros is_new)

  pub place_space : IfOk r (λ p. used (arena_places b) ≡ used (arena_places a) + p.len)
  place_space = with_ok r (b ≡ done) (λ p. p ≡ there) (λ p. used (arena_places b) ≡ used (arena_places a) + p.len) placed name
      (λ p e n. ap used (ap arena_places e ∙ new_map) ∙ used-inserted (arena_places a) there zeros is_new ∙ ap (λ (q : Place). used (arena_places a) + q.len) (sym n))

  pub place_rest : KeepsRest (arena_places a) (arena_places b)
  place_rest = either r (b ≡ done) (b ≡ a) (KeepsRest (arena_places a) (arena_places b)) placed same
      (λ e q was found. ap (λ m. fin.get m q) (ap arena_places e ∙ new_map) ∙ keeps_rest places_total exact_places (arena_places a) there zeros is_new q was found)
      (λ e q was found. ap (λ m. fin.get m q) (ap arena_places e) ∙ found)

  pub place_buffers : arena_buffers b ≡ arena_buffers a
  place_buffers = either r (b ≡ done) (b ≡ a) (arena_buffers b ≡ arena_buffers a) placed same (λ e. ap arena_buffers e ∙ placed_buffers a is at bytes low ok) (λ e. ap arena_buffers e)

  pub place_live : (q : Place) → IsLive (arena_places a) q → IsLive (arena_places b) q
  place_live q live = either r (b ≡ done) (b ≡ a) (IsLive (arena_places b) q) placed same
      (λ e. subst (λ m. IsLive m q) (sym (ap arena_places e ∙ new_map)) (stays_there places_total exact_places (arena_places a) there zeros q live))
      (λ e. subst (λ m. IsLive m q) (sym (ap arena_places e)) live)

  pub place_blocks : AddsAtMostABlock (arena_blocks a) (arena_blocks b)
  place_blocks = either r (b ≡ done) (b ≡ a) (AddsAtMostABlock (arena_blocks a) (arena_blocks b)) placed same
      (λ e. subst (λ (x : ArenaState). AddsAtMostABlock (arena_blocks a) (arena_blocks x)) (sym e) (placed_blocks a is at bytes low ok))
      (λ e. subst (λ (x : ArenaState). AddsAtMostABlock (arena_blocks a) (arena_blocks x)) (sym e) (0, inl refl, λ other beside. refl))

  pub place_spent : IfErr r (NamesFullRegion (arena_blocks b))
  place_spent = with_err r (b ≡ a) (NamesFullRegion (blocks_of (part_at a (Owner at)))) (NamesFullRegion (arena_blocks b)) same fault
      (λ f e full. subst (λ (x : ArenaState). NamesFullRegion (arena_blocks x) f) (sym e) (full_there a is (Owner at) low f full))

  pub place_grows : Grows (frame_of at) arena_places arena_buffers arena_blocks 1 0 a b
  place_grows = either r (b ≡ done) (b ≡ a) (Grows (frame_of at) arena_places arena_buffers arena_blocks 1 0 a b) placed same
      (λ e. placed_grows (frame_of at) arena_places arena_buffers arena_blocks a b place_frame place_rest (ap fin.len (ap arena_places e ∙ new_map) ∙ len-inserted (arena_places a) there zeros is_new) place_buffers place_blocks)
      (λ e. same_grows (frame_of at) arena_places arena_buffers arena_blocks 1 0 a b e)

-- ---- a byte string kept
module _ {E : Type 0} (at : ℕ) (bytes : List ℕ) (a b : ArenaState) (r : Result Buffer E) (is : IsArena a) (low : at < length a.owners)
    (name : IfOk r (λ k. k ≡ record { region = (part_at a (Owner at)).region; number = length (part_at a (Owner at)).kept }))
    (kept : OnOk r (b ≡ with_part a (Owner at) (with_kept (part_at a (Owner at)) bytes)))
    (same : OnErr r (b ≡ a)) where
  abbrev after : ArenaState
  after = with_part a (Owner at) (with_kept (part_at a (Owner at)) bytes)

  abbrev number : Buffer
  number = record { region = (part_at a (Owner at)).region; number = length (part_at a (Owner at)).kept }

  new_buffers : arena_buffers after ≡ fin.insert (arena_buffers a) number bytes
  new_buffers = kept_map a is at bytes low

  number_is_new : fin.get (arena_buffers a) number ≡ None
  number_is_new = kept_fresh a is at bytes low

  pub keep_owns : (table : List ℕ) → IsSlotTable table a.owners → StillOwns at table b
  keep_owns table known = either r (b ≡ after) (b ≡ a) (StillOwns at table b) kept same
      (λ e. subst (StillOwns at table) (sym e) (still_owns at table a (with_kept (part_at a (Owner at)) bytes) low known))
      (λ e. subst (StillOwns at table) (sym e) (record { own = low; known = known }))

  pub keep_frame : frame_of at b ≡ frame_of at a
  keep_frame = either r (b ≡ after) (b ≡ a) (frame_of at b ≡ frame_of at a) kept same
      (λ e. ap (frame_of at) e ∙ frame_own at a (with_kept (part_at a (Owner at)) bytes) low refl)
      (λ e. ap (frame_of at) e)

  pub keep_fresh : IfOk r (λ k. fin.get (arena_buffers a) k ≡ None)
  keep_fresh = with_ok r (b ≡ after) (λ k. k ≡ number) (λ k. fin.get (arena_buffers a) k ≡ None) kept name (λ k _ n. ap (fin.get (arena_buffers a)) n ∙ number_is_new)

  pub keep_map : IfOk r (λ k. arena_buffers b ≡ fin.insert (arena_buffers a) k bytes)
  keep_map = with_ok r (b ≡ after) (λ k. k ≡ number) (λ k. arena_buffers b ≡ fin.insert (arena_buffers a) k bytes) kept name
      (λ k e n. ap arena_buffers e ∙ new_buffers ∙ ap (λ (q : Buffer). fin.insert (arena_buffers a) q bytes) (sym n))

  pub keep_value : IfOk r (λ k. fin.get (arena_buffers b) k ≡ Some bytes)
  keep_value = with_ok r (b ≡ after) (λ k. k ≡ number) (λ k. fin.get (arena_buffers b) k ≡ Some bytes) kept name
      (λ k e n. ap (fin.get (arena_buffers b)) n ∙ ap (λ m. fin.get m number) (ap arena_buffers e ∙ new_buffers) ∙ get_inserted buffers_total exact_buffers (arena_buffers a) number bytes)

  pub keep_count : IfOk r (λ k. fin.len (arena_buffers b) ≡ fin.len (arena_buffers a) + 1)
  keep_count = with_ok r (b ≡ after) (λ k. k ≡ number) (λ k. fin.len (arena_buffers b) ≡ fin.len (arena_buffers a) + 1) kept name
      (λ k e n. ap fin.len (ap arena_buffers e ∙ new_buffers) ∙ len-kept (arena_buffers a) number bytes number_is_new)

  pub keep_rest : KeepsBuffers (arena_buffers a) (arena_buffers b)
  keep_rest = either r (b ≡ after) (b ≡ a) (KeepsBuffers (arena_buffers a) (arena_buffers b)) kept same
      (λ e q was found. ap (λ m. fin.get m q) (ap arena_buffers e ∙ new_buffers) ∙ keeps_rest buffers_total exact_buffers (arena_buffers a) number bytes number_is_new q was found)
      (λ e q was found. ap (λ m. fin.get m q) (ap arena_buffers e) ∙ found)

  pub keep_places : arena_places b ≡ arena_places a
  keep_places = either r (b ≡ after) (b ≡ a) (arena_places b ≡ arena_places a) kept same (λ e. ap arena_places e ∙ kept_places a is at bytes low) (λ e. ap arena_places e)

  pub keep_blocks : (n : ℕ) → arena_blocks b n ≡ arena_blocks a n
  keep_blocks n = either r (b ≡ after) (b ≡ a) (arena_blocks b n ≡ arena_blocks a n) kept same (λ e. ap (λ (x : ArenaState). arena_blocks x n) e ∙ kept_blocks a is at bytes low n) (λ e. ap (λ (x : ArenaState). arena_blocks x n) e)

  pub keep_grows : Grows (frame_of at) arena_places arena_buffers arena_blocks 0 1 a b
  keep_grows = either r (b ≡ after) (b ≡ a) (Grows (frame_of at) arena_places arena_buffers arena_blocks 0 1 a b) kept same
      (λ e. kept_grows (frame_of at) arena_places arena_buffers arena_blocks a b keep_frame keep_rest (ap fin.len (ap arena_buffers e ∙ new_buffers) ∙ len-kept (arena_buffers a) number bytes number_is_new) keep_places keep_blocks)
      (λ e. same_grows (frame_of at) arena_places arena_buffers arena_blocks 0 1 a b e)

-- ---- a growth, seen through a lent arena
pub grown_through : {S K : Type 0} (key : S → K) (places : S → Places) (buffers : S → Buffers) (blocks : S → ℕ → ℕ) (old new : S) (at : ℕ) (a b : ArenaState) (p q : ℕ) → Grows (frame_of at) arena_places arena_buffers arena_blocks p q a b
    → key new ≡ key old → places old ≡ arena_places a → places new ≡ arena_places b → buffers old ≡ arena_buffers a → buffers new ≡ arena_buffers b → blocks old ≡ arena_blocks a → blocks new ≡ arena_blocks b → Grows key places buffers blocks p q old new
grown_through key places buffers blocks old new at a b p q g k po pn bo bn co cn = record {
  key = k;
  rest = λ x was found. ap (λ m. fin.get m x) pn ∙ g.rest x was (ap (λ m. fin.get m x) (sym po) ∙ found);
  buffers = λ x was found. ap (λ m. fin.get m x) bn ∙ g.buffers x was (ap (λ m. fin.get m x) (sym bo) ∙ found);
  no_fewer_places = omega (arith, g.no_fewer_places, ap fin.len po, ap fin.len pn);
  few_places = omega (arith, g.few_places, ap fin.len po, ap fin.len pn);
  no_fewer_buffers = omega (arith, g.no_fewer_buffers, ap fin.len bo, ap fin.len bn);
  few_buffers = omega (arith, g.few_buffers, ap fin.len bo, ap fin.len bn);
  no_fewer_blocks = λ region. omega (arith, g.no_fewer_blocks region, ap (λ f. f region) co, ap (λ f. f region) cn);
  few_blocks = λ region. omega (arith, g.few_blocks region, ap (λ f. f region) co, ap (λ f. f region) cn);
}

-- ---- a write
owners_long : (a : ArenaState) (q : Spot) (t : SerialState) → length (with_part a q t).owners ≡ length a.owners
owners_long a (Owner n) t = len_set a.owners n (record (get_or a.owners n no_owner) { part = t })
owners_long a (Adopted n) t = refl

module _ (at : ℕ) (a b : ArenaState) (q : Spot) (p : Place) (start : ℕ) (bytes : List ℕ) (is : IsArena a) (low : at < length a.owners) (there : IsSpot a q) (same : (part_at a q).region ≡ p.region) (live : IsLive (arena_places a) p)
    (wrote : b ≡ with_part a q (with_bytes (part_at a q) p start bytes)) where
  pub write_owns : (table : List ℕ) → IsSlotTable table a.owners → StillOwns at table b
  write_owns table known = subst (StillOwns at table) (sym wrote)
      (record { own = (let long = owners_long a q (with_bytes (part_at a q) p start bytes) in omega arith); known = table_kept table a q (with_bytes (part_at a q) p start bytes) there known })

  pub write_frame : frame_of at b ≡ frame_of at a
  write_frame = ap (frame_of at) wrote ∙ frame_written at a q p start bytes there

  pub write_map : arena_places b ≡ written (arena_places a) p start bytes
  write_map = ap arena_places wrote ∙ wrote_map a is q there p start bytes same live

  pub write_here : fin.get (arena_places b) p ≡ option_map (splice start bytes) (fin.get (arena_places a) p)
  write_here = written_here (arena_places a) (arena_places b) p start bytes live write_map

  pub write_others : (x : Place) → (x ≡ p → ⊥) → fin.get (arena_places b) x ≡ fin.get (arena_places a) x
  write_others = written_beside (arena_places a) (arena_places b) p start bytes live write_map

  pub write_live : (x : Place) → IsLive (arena_places a) x → IsLive (arena_places b) x
  write_live = written_live (arena_places a) (arena_places b) p start bytes live write_map

  pub write_count : fin.len (arena_places b) ≡ fin.len (arena_places a)
  write_count = ap fin.len write_map ∙ len-written (arena_places a) p start bytes

  pub write_space : used (arena_places b) ≡ used (arena_places a)
  write_space = ap used write_map ∙ used-written (arena_places a) p start bytes

  pub write_buffers : arena_buffers b ≡ arena_buffers a
  write_buffers = ap arena_buffers wrote ∙ wrote_buffers a is q there p start bytes same live

  pub write_blocks : (n : ℕ) → arena_blocks b n ≡ arena_blocks a n
  write_blocks n = ap (λ (x : ArenaState). arena_blocks x n) wrote ∙ wrote_blocks a is q there p start bytes same live n

-- a copy is a write of what stands in the arena
pub copied_is : (a b : ArenaState) (source q : Spot) (from to : Place) (n : ℕ) → IsArena a → IsSpot a source → (part_at a source).region ≡ from.region
    → b ≡ with_part a q (with_bytes (part_at a q) to 0 (take n (bytes_at (places_of (part_at a source)) from))) → b ≡ with_part a q (with_bytes (part_at a q) to 0 (take n (bytes_at (arena_places a) from)))
copied_is a b source q from to n is there same wrote = wrote ∙ ap (λ (r : Option (List ℕ)). with_part a q (with_bytes (part_at a q) to 0 (take n (unwrap_or r [])))) (sym (place_at a is source there from same))
