-- The regions of registers that end one after the other, and then the two arenas.
use Rattle.std.proofs.Common.{◌≡◌, ◌+◌, ◌≤◌, ℕ, zero, suc, List, [], ◌∷◌, ◌++◌, length, reverse, map, Option, None, Some, refl, sym, ap, ◌∙◌, subst, append_assoc, append-nil, arith}
use Rattle.std.specs.Prelude.{IsSome, flat_map, sum_by}
use Rattle.std.proofs.lemmas.List.{length-append, reverse-append}
use Rattle.std.proofs.lemmas.List.Concat.{flat_map-append}
use Rattle.std.proofs.lemmas.List.Sums.{sum_by-append, sum_by-cons, sum_by_push}
use Rattle.cleanup_list.specs.Told.{Triple, Gains, HasRoom, block}
use Rattle.serial_arena.specs.Serial.{SerialState}
use Rattle.serial_arena.specs.declared.arena.SerialRecord.{SerialRecord}
use Rattle.dyn_message.specs.declared.msg_ref.MsgRef.{MsgRef}
use Rattle.ts_arena.specs.declared.faults.SettleFault.{SettleFault}
use Rattle.ts_arena.specs.declared.faults.SettleFault.TheVariants.{ForeignPass, PassesOut, NoMemory}
use Rattle.ts_arena.specs.declared.life_record.LifeRecord.{LifeRecord}
use Rattle.ts_arena.specs.declared.pass.Pass.{Pass}
use Rattle.ts_arena.specs.declared.side.Side.{Side}
use Rattle.ts_arena.specs.Arena.{registered_of}
use Rattle.ts_arena.specs.Passes.{SharedState, AreAllOf, made_by}
use Rattle.ts_arena.specs.Settling.{RefusesSettle}
use Rattle.ts_arena.proofs.OneByOne.{gains_both, gains_none, room_left}
use Rattle.pb_script.specs.Registers.{RegisterState, cat_registers, in_a}
use Rattle.arena_run.specs.Lives.{HasEnded, HasEndedAll, HeapsFit, count_of, told_of, region_registered, region_told, region_used}

-- REGIONS

block_long : (life region n : ℕ) → length (block life region n) ≡ n
block_long life region zero = refl
block_long life region (suc n) = ap suc (block_long life region n)

region_long : (r : RegisterState) → length (region_told r) ≡ region_registered r
region_long r = long r.region
  where
    long : (region : Option SerialState) → length (told_of region) ≡ count_of registered_of region
    long None = refl
    long (Some s) = block_long s.life s.region (registered_of s)

-- some of the registers have ended, and the left ones are still to end, the last first
pub record HaveEnded (t0 t : Option (List Triple)) (r0 r : ℕ) (sums : SerialRecord) (all left : List RegisterState) : Type 0 where
  pub ended : List RegisterState
  pub whole : all ≡ ended ++ reverse left
  pub told : Gains t0 t (flat_map region_told ended)
  pub tells : HasRoom t0 r0 (length (flat_map region_told ended)) → IsSome t
  pub room : r ≡ r0
  pub registered : sums.registered ≡ sum_by region_registered ended
  pub cleaned : sums.cleaned ≡ sum_by region_registered ended
  pub used : sums.used ≡ sum_by region_used ended

some_told : (t : Option (List Triple)) (room more : ℕ) → HasRoom t room more → IsSome t
some_told None room more h = absurd h
some_told (Some told) room more h = refl

-- a watch that is told nothing tells what it told
pub tells_none : (t : Option (List Triple)) (room : ℕ) → HasRoom t room (length {A = Triple} []) → IsSome t
tells_none t room h = some_told t room 0 h

pub none_ended : (t : Option (List Triple)) (r : ℕ) (sums : SerialRecord) (all left : List RegisterState) → reverse left ≡ all → sums.registered ≡ 0 → sums.cleaned ≡ 0 → sums.used ≡ 0 → HaveEnded t t r r sums all left
none_ended t r sums all left is no_registered no_cleaned none_used = record {
  ended = [];
  whole = sym is;
  told = gains_none t;
  tells = tells_none t r;
  room = refl;
  registered = no_registered;
  cleaned = no_cleaned;
  used = none_used;
}

fewer_room : (t : Option (List Triple)) (room few more : ℕ) → HasRoom t room (few + more) → HasRoom t room few
fewer_room None room few more h = absurd h
fewer_room (Some told) room few more h = omega (arith, h)

module _ (t0 t t' : Option (List Triple)) (r0 r r' : ℕ) (sums sums' : SerialRecord) (all left new : List RegisterState) (x : RegisterState) (o : HaveEnded t0 t r0 r sums all left) (popped : left ≡ new ++ x ∷ []) where
  turned : reverse left ≡ x ∷ reverse new
  turned = ap reverse popped ∙ reverse-append new (x ∷ [])

  -- the sums of those that ended and of this one are within those of all
  pub within : (f : RegisterState → ℕ) → sum_by f o.ended + f x ≤ sum_by f all
  within f = omega (arith, ap (sum_by f) o.whole ∙ sum_by-append f o.ended (reverse left), ap (sum_by f) turned ∙ sum_by-cons f x (reverse new))

  pub one_more : Gains t t' (region_told x) → (HasRoom t r (region_registered x) → IsSome t') → r' ≡ r → sums'.registered ≡ sums.registered + region_registered x → sums'.cleaned ≡ sums.cleaned + region_registered x → sums'.used ≡ sums.used + region_used x
      → HaveEnded t0 t' r0 r' sums' all new
  one_more gained tells room registered cleaned used =
      let told_is : flat_map region_told (o.ended ++ x ∷ []) ≡ flat_map region_told o.ended ++ region_told x = flat_map-append region_told o.ended (x ∷ []) ∙ ap (λ ts. flat_map region_told o.ended ++ ts) (append-nil (region_told x)) in
      record {
        ended = o.ended ++ x ∷ [];
        whole = o.whole ∙ (ap (λ xs. o.ended ++ xs) turned ∙ sym (append_assoc o.ended (x ∷ []) (reverse new)));
        told = subst (Gains t0 t') (sym told_is) (gains_both t0 t t' (flat_map region_told o.ended) (region_told x) o.told gained);
        tells = λ h. tells (subst (HasRoom t r) (region_long x) (subst (λ k. HasRoom t k (length (region_told x))) (sym o.room)
            (room_left t0 t r0 (length (region_told x)) (flat_map region_told o.ended) o.told o.tells (subst (HasRoom t0 r0) (ap length told_is ∙ length-append (flat_map region_told o.ended) (region_told x)) h))));
        room = room ∙ o.room;
        registered = registered ∙ (ap (λ n. n + region_registered x) o.registered ∙ sym (sum_by_push region_registered o.ended x));
        cleaned = cleaned ∙ (ap (λ n. n + region_registered x) o.cleaned ∙ sym (sum_by_push region_registered o.ended x));
        used = used ∙ (ap (λ n. n + region_used x) o.used ∙ sym (sum_by_push region_used o.ended x));
      }

-- all have ended
pub ended_all : (t0 t : Option (List Triple)) (r0 r : ℕ) (sums : SerialRecord) (all left : List RegisterState) (o : HaveEnded t0 t r0 r sums all left) → left ≡ [] → o.ended ≡ all
ended_all t0 t r0 r sums all left o none = sym (o.whole ∙ (ap (λ xs. o.ended ++ reverse xs) none ∙ append-nil o.ended))

-- registers of arena A have no regions
pub no_heaps : (messages : List MsgRef) → HeapsFit (cat_registers messages)
no_heaps messages = record { registered = omega (arith, none region_registered (λ m. refl) messages); used = omega (arith, none region_used (λ m. refl) messages) }
  where
    none : (f : RegisterState → ℕ) → ((m : MsgRef) → f (in_a m) ≡ 0) → (ms : List MsgRef) → sum_by f (map in_a ms) ≡ 0
    none f zero_at [] = refl
    none f zero_at (m ∷ ms) = omega (arith, sum_by-cons f (in_a m) (map in_a ms), zero_at m, none f zero_at ms)

-- ARENAS

-- a side that holds all its passes is refused in want of memory alone
pub want_of_memory : (sh : SharedState) (passes : List Pass) (fault : SettleFault) → AreAllOf sh passes → length passes ≡ made_by sh → RefusesSettle sh passes fault → RefusesSettle sh passes NoMemory
want_of_memory sh passes (ForeignPass place life) all count refused =
    let foreign = refused.2 in absurd (foreign.foreign (sym foreign.life_is ∙ (all refused.0 foreign.pass foreign.there).life_is))
want_of_memory sh passes (PassesOut made given) all count refused = absurd (omega (arith, refused.1, refused.2, refused.3, count))
want_of_memory sh passes NoMemory all count refused = refused

-- the regions, then side a, and then side b
pub ended_in_turn : (registers : List RegisterState) (a b : Side) (last_a last_b : Option LifeRecord) (t0 t1 t2 t3 : Option (List Triple)) (r0 r1 r2 : ℕ) → Gains t0 t1 (flat_map region_told registers) → (HasRoom t0 r0 (length (flat_map region_told registers)) → IsSome t1) → r1 ≡ r0 → r2 ≡ r1
    → HasEnded a last_a t1 r1 t2 → HasEnded b last_b t2 r2 t3 → HasEndedAll registers a b last_a last_b t0 r0 t3
ended_in_turn registers a b last_a last_b t0 t1 t2 t3 r0 r1 r2 gained tells same same' ea eb =
    let heaps = flat_map region_told registers in
    let first = gains_both t0 t1 t2 heaps ea.told gained ea.gained in
    let front : HasRoom t0 r0 (length (heaps ++ ea.told)) → IsSome t2 = λ h. ea.tells (subst (λ k. HasRoom t1 k (length ea.told)) (sym same) (room_left t0 t1 r0 (length ea.told) heaps gained tells (subst (HasRoom t0 r0) (length-append heaps ea.told) h))) in
    record {
      told_a = ea.told;
      told_b = eb.told;
      ends_a = ea.ends;
      ends_b = eb.ends;
      gained = gains_both t0 t2 t3 (heaps ++ ea.told) eb.told first eb.gained;
      tells = λ h. eb.tells (subst (λ k. HasRoom t2 k (length eb.told)) (sym (same' ∙ same)) (room_left t0 t2 r0 (length eb.told) (heaps ++ ea.told) first front (subst (HasRoom t0 r0) (length-append (heaps ++ ea.told) eb.told) h)));
    }
