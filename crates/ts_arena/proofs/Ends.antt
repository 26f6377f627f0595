-- What the end of a whole arena tells.
use Rattle.std.proofs.Common.{◌≡◌, ◌≢◌, ℕ, suc, ◌+◌, ◌^◌, ◌<◌, List, [], ◌∷◌, ◌++◌, map, length, sym, refl, ap, subst, ⊎_elim, arith, Option}
use Rattle.std.specs.Prelude.{flat_map, IsSome}
use Rattle.std.proofs.lemmas.List.{length-append, map-append}
use mathlib.Core.Option.{some}
use lib.ListN.{get_elem?}
use Rattle.cleanup_list.specs.Told.{Triple, Gains, HasRoom, block}
use Rattle.arena_block.specs.declared.policy.Policy.{Policy}
use Rattle.serial_arena.specs.Serial.{SerialState}
use Rattle.arena_list.specs.declared.entry.Entry.{Entry}
use Rattle.arena_list.specs.Rule.Founded.{Differ}
use Rattle.arena_list.proofs.Words.Lists.{at_end}
use Rattle.arena_list.proofs.Words.Few.{at_mapped, len_map, few}
use Rattle.ts_arena.specs.Arena.{ArenaState, IsArena, IsOwned, IsAdopted, AreAdopted, region, registered_of, registered_at}
use Rattle.ts_arena.specs.Sharing.{Owners}
use Rattle.ts_arena.specs.Ending.{owner_told, adopted_told, part_told, cleanups}
use Rattle.ts_arena.proofs.Finding.{differ_more}
use Rattle.ts_arena.proofs.OneByOne.{gains_both, room_left}

owners_told : (life : ℕ) (policy : Policy) (es : Owners) → ((i : ℕ) (e : Entry SerialState) → get_elem? es i ≡ some e → IsOwned life policy e.slot e.caller e.part) → flat_map (λ (e : Entry SerialState). part_told e.part) es ≡ flat_map (owner_told life) es
owners_told life policy [] each = refl
owners_told life policy (e ∷ es) each = let k = (each 0 e refl).keyed in let rest = owners_told life policy es (λ i x at. each (suc i) x at) in
    (λ i. block (k.life_is i) (k.region_is i) (registered_at e) ++ rest i)

regions_told : (ss : List SerialState) → ((i : ℕ) (s : SerialState) → get_elem? ss i ≡ some s → IsAdopted s) → flat_map part_told ss ≡ flat_map adopted_told ss
regions_told [] each = refl
regions_told (s ∷ ss) each = let k = each 0 s refl in let rest = regions_told ss (λ i x at. each (suc i) x at) in
    (λ i. block (k.life_is i) s.region (registered_of s) ++ rest i)

pub sum_two : (x y m n : ℕ) → x ≡ 0 + m → y ≡ x + n → y ≡ m + n
sum_two x y m n a b = omega arith

-- there are fewer adopted regions than numbers of 32 bits
pub few_adopted : (ss : List SerialState) → AreAdopted ss → length ss < 2 ^ 32
few_adopted ss are =
    let small : (i x : ℕ) → get_elem? (map region ss ++ 0 ∷ []) i ≡ some x → x < 2 ^ 32 =
    λ i x at. ⊎_elim
    (λ t. let m = at_mapped region ss i x t in subst (λ (y : ℕ). y < 2 ^ 32) m.2 (are.each i m.0 m.1).named)
    (λ t. let e = t.1 in omega arith)
    (at_end (map region ss) 0 x i at) in
    let f = few (2 ^ 32) (map region ss ++ 0 ∷ [])
    (differ_more (map region ss) 0 are.regions (λ k at. let m = at_mapped region ss k 0 at in let high = (are.each k m.0 m.1).high in let is = m.2 in absurd (omega arith)))
    small in
    let l = length-append (map region ss) (0 ∷ []) in let m = len_map region ss in omega arith

module _ (a : ArenaState) (is : IsArena a) (t0 t1 t2 : Option (List Triple)) (r0 r1 : ℕ)
    (first : Gains t0 t1 (flat_map (λ (e : Entry SerialState). part_told e.part) a.owners)) (second : Gains t1 t2 (flat_map part_told a.adopted)) where
  first_is : Gains t0 t1 (flat_map (owner_told a.life) a.owners)
  first_is = subst (Gains t0 t1) (owners_told a.life a.policy a.owners is.owners.held.each) first

  second_is : Gains t1 t2 (flat_map adopted_told a.adopted)
  second_is = subst (Gains t1 t2) (regions_told a.adopted is.adopted.each) second

  pub all_told : Gains t0 t2 (cleanups a)
  all_told = gains_both t0 t1 t2 (flat_map (owner_told a.life) a.owners) (flat_map adopted_told a.adopted) first_is second_is

  pub all_tells : (HasRoom t0 r0 (length (flat_map (λ (e : Entry SerialState). part_told e.part) a.owners)) → IsSome t1) → (HasRoom t1 r1 (length (flat_map part_told a.adopted)) → IsSome t2) → r1 ≡ r0 → HasRoom t0 r0 (length (cleanups a)) → IsSome t2
  all_tells tells1 tells2 same h = tells2 (subst (HasRoom t1 r1) (ap length (sym (regions_told a.adopted is.adopted.each)))
      (subst (λ (k : ℕ). HasRoom t1 k (length (flat_map adopted_told a.adopted))) (sym same)
      (room_left t0 t1 r0 (length (flat_map adopted_told a.adopted)) (flat_map (owner_told a.life) a.owners) first_is
      (λ g. tells1 (subst (HasRoom t0 r0) (ap length (sym (owners_told a.life a.policy a.owners is.owners.held.each))) g))
      (subst (HasRoom t0 r0) (length-append (flat_map (owner_told a.life) a.owners) (flat_map adopted_told a.adopted)) h))))

-- the adopted regions, and one more
pub adopted_more : (ss : List SerialState) (s : SerialState) → AreAdopted ss → IsAdopted s → ((k : ℕ) (x : SerialState) → get_elem? ss k ≡ some x → x.region ≢ s.region) → AreAdopted (ss ++ s ∷ [])
adopted_more ss s are is new = record {
  regions = subst Differ (sym (map-append region ss (s ∷ []))) (differ_more (map region ss) s.region are.regions (λ k at. let m = at_mapped region ss k s.region at in new k m.0 m.1 m.2));
  each = λ i x at. ⊎_elim (λ t. are.each i x t) (λ t. subst IsAdopted t.1 is) (at_end ss s x i at);
}
