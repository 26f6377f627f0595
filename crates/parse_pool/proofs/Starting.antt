-- An arena whose owners are workers can be shared among workers.
use Rattle.std.proofs.Common.{◌≡◌, ◌⊎◌, ◌+◌, ◌<◌, ◌≤◌, ℕ, zero, suc, not, List, [], ◌∷◌, ◌++◌, map, length, take, refl, sym, ap, ◌∙◌, inl, inr, ⊎_elim, arith, subst}
use Rattle.arena_list.proofs.Words.Lists.{at_below}
use Rattle.std.proofs.lemmas.Bool.{false≢true}
use Rattle.std.proofs.lemmas.List.{length-append}
use mathlib.Core.Option.{some, some-ne-none}
use lib.ListN.{get_elem?}
use Rattle.serial_arena.specs.Serial.{SerialState}
use Rattle.arena_list.specs.declared.entry.Entry.{Entry}
use Rattle.arena_list.specs.Rule.Founded.{Differ, caller, has, without}
use Rattle.arena_list.proofs.Rule.Opening.{at_has, differ_cons, differ_filter, differ_tail, filter_tells}
use Rattle.arena_list.proofs.Words.Few.{at_mapped, few, len_map}
use Rattle.ts_arena.proofs.Finding.{at_take}
use Rattle.ts_arena.specs.Sharing.{Owners}
use Rattle.parse_pool.specs.Starting.{AreBelow, AreCounted}

pub numbered_differ : (numbers : List ℕ) → AreCounted numbers → Differ numbers
numbered_differ numbers own i j x a b = sym (own i x a) ∙ own j x b

pub numbered_front : (count : ℕ) (numbers : List ℕ) → AreCounted numbers → AreCounted (take count numbers)
numbered_front count numbers own i x at = own i x (at_take numbers count i x at).0

in_either : (xs ys : List ℕ) (i x : ℕ) → get_elem? (xs ++ ys) i ≡ some x → ((k : ℕ) × (get_elem? xs k ≡ some x)) ⊎ ((k : ℕ) × (get_elem? ys k ≡ some x))
in_either [] ys i x e = inr (i, e)
in_either (y ∷ xs) ys zero x e = inl (0, e)
in_either (y ∷ xs) ys (suc i) x e = ⊎_elim (λ p. inl (suc p.0, p.1)) (λ p. inr p) (in_either xs ys i x e)

-- numbers that differ, behind others that differ from them
differ_behind : (xs ys : List ℕ) → Differ xs → Differ ys → ((i j x : ℕ) → get_elem? xs i ≡ some x → get_elem? ys j ≡ some x → ⊥) → Differ (xs ++ ys)
differ_behind [] ys one two apart = two
differ_behind (x ∷ xs) ys one two apart =
    differ_cons x (xs ++ ys) (differ_behind xs ys (differ_tail x xs one) two (λ i j z a b. apart (suc i) j z a b))
    (λ i e. ⊎_elim (λ p. let same : 0 ≡ suc p.0 = one 0 (suc p.0) x refl p.1 in omega arith) (λ p. apart 0 p.0 x refl p.1) (in_either xs ys i x e))

-- the owners, and the workers that own nothing yet, are at most 64
pub few_together : (owners : Owners) (numbers : List ℕ) → Differ (map caller owners) → AreBelow 64 owners → AreCounted numbers → length numbers ≤ 64 → length owners + length (without owners numbers) ≤ 64
few_together owners numbers once below own short =
    let names = map (λ (e : Entry SerialState). e.caller) owners in
    let new = without owners numbers in
    let test = λ (c : ℕ). not (has names c) in
    let apart : (i j x : ℕ) → get_elem? names i ≡ some x → get_elem? new j ≡ some x → ⊥ = λ i j x a b.
    let r = filter_tells test numbers j x b in false≢true (ap not (sym (at_has names i x a)) ∙ r.2) in
    let small : (i x : ℕ) → get_elem? (names ++ new) i ≡ some x → x < 64 = λ i x e. ⊎_elim
    (λ p. let at = at_mapped (λ (e : Entry SerialState). e.caller) owners p.0 x p.1 in subst (λ n. n < 64) at.2 (below at.0 (p.0, at.1)))
    (λ p. let r = filter_tells test numbers p.0 x p.1 in let is = own r.0 x r.1 in let there = at_below numbers r.0 x r.1 in omega arith)
    (in_either names new i x e) in
    let n = few 64 (names ++ new) (differ_behind names new once (differ_filter test numbers (numbered_differ numbers own)) apart) small in
    omega (arith, n, length-append names new, len_map (λ (e : Entry SerialState). e.caller) owners)
