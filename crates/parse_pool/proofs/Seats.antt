-- Workers that take their seats one by one, the last first, and leave them so.
use Rattle.std.proofs.Common.{◌≡◌, ◌+◌, ◌<◌, ℕ, zero, suc, List, [], ◌∷◌, ◌++◌, length, reverse, set, Some, refl, sym, ap, ◌∙◌, subst, ⊎_elim, length-append, length-set, append_assoc, append-nil, arith}
use Rattle.std.proofs.lemmas.List.{reverse-append}
use mathlib.Core.Option.{some, some-injective, some-ne-none}
use lib.ListN.{get_elem?}
use Rattle.life_ids.specs.Cache.{CacheState}
use Rattle.ts_arena.proofs.Spots.{at_set}
use Rattle.ts_arena.specs.declared.pass.Pass.{Pass}
use Rattle.parse_pool.specs.Seating.{IsSeated, AreSeated, HaveLeft}
use Rattle.parse_pool.specs.Workers.{WorkerState}

-- the workers of the last passes have their seats, the last first
pub record AreTaking (all left : List Pass) (caches : List CacheState) (workers : List WorkerState) : Type 0 where
  pub rest : List Pass
  pub are : all ≡ left ++ rest
  pub count : length workers ≡ length rest
  pub each : (i : ℕ) (w : WorkerState) (pass : Pass) (cache : CacheState) → get_elem? (reverse workers) i ≡ some w → get_elem? rest i ≡ some pass → get_elem? caches (length left + i) ≡ some cache → IsSeated (length left + i) pass cache w

pub taking_starts : (all : List Pass) (caches : List CacheState) (workers : List WorkerState) → workers ≡ [] → AreTaking all all caches workers
taking_starts all caches workers none = record {
  rest = [];
  are = sym (append-nil all);
  count = ap (λ (ws : List WorkerState). length ws) none;
  each = λ i w pass cache a b c. absurd (some-ne-none pass (sym b));
}

plus_none : (n : ℕ) → n ≡ n + 0
plus_none n = omega arith

module _ (all left new : List Pass) (caches : List CacheState) (workers workers' : List WorkerState) (p : Pass) (w : WorkerState) (popped : left ≡ new ++ p ∷ []) (pushed : workers' ≡ workers ++ w ∷ []) (seat : (cache : CacheState) → get_elem? caches (length new) ≡ some cache → IsSeated (length new) p cache w) where
  turned : reverse workers' ≡ w ∷ reverse workers
  turned = ap (λ (ws : List WorkerState). reverse ws) pushed ∙ reverse-append workers (w ∷ [])

  long : length left ≡ length new + 1
  long = ap (λ (ps : List Pass). length ps) popped ∙ length-append new (p ∷ [])

  here : (o : AreTaking all left caches workers) (i : ℕ) (v : WorkerState) (pass : Pass) (cache : CacheState) → get_elem? (w ∷ reverse workers) i ≡ some v → get_elem? (p ∷ o.rest) i ≡ some pass → get_elem? caches (length new + i) ≡ some cache → IsSeated (length new + i) pass cache v
  here o zero v pass cache a b c =
      subst (λ (u : WorkerState). IsSeated (length new + 0) pass cache u) (some-injective w v a)
      (subst (λ (q : Pass). IsSeated (length new + 0) q cache w) (some-injective p pass b)
      (subst (λ (k : ℕ). IsSeated k p cache w) (plus_none (length new)) (seat cache (ap (λ (k : ℕ). get_elem? caches k) (plus_none (length new)) ∙ c))))
  here o (suc i) v pass cache a b c =
      let same : length left + i ≡ length new + suc i = omega (arith, long) in
      subst (λ (k : ℕ). IsSeated k pass cache v) same (o.each i v pass cache a b (ap (λ (k : ℕ). get_elem? caches k) same ∙ c))

  pub taking_goes : AreTaking all left caches workers → AreTaking all new caches workers'
  taking_goes o = record {
    rest = p ∷ o.rest;
    are = o.are ∙ ap (λ (ps : List Pass). ps ++ o.rest) popped ∙ append_assoc new (p ∷ []) o.rest;
    count = ap (λ (ws : List WorkerState). length ws) pushed ∙ length-append workers (w ∷ []) ∙ (let z : length workers + 1 ≡ suc (length o.rest) = omega (arith, o.count) in z);
    each = λ i v pass cache a b c. here o i v pass cache (sym (ap (λ (ws : List WorkerState). get_elem? ws i) turned) ∙ a) b c;
  }

-- all have their seats, and are in order then
pub all_taken : (all left : List Pass) (caches : List CacheState) (workers workers' : List WorkerState) → left ≡ [] → workers' ≡ reverse workers → length (reverse workers) ≡ length workers → AreTaking all left caches workers → AreSeated all caches workers'
all_taken all left caches workers workers' none is same o = record {
  count = ap (λ (ws : List WorkerState). length ws) is ∙ same ∙ o.count ∙ ap (λ (ps : List Pass). length ps) rest_is;
  each = λ k w pass cache a b c.
      let low : length left + k ≡ k = ap (λ (ps : List Pass). length ps + k) none ∙ (let z : 0 + k ≡ k = omega arith in z) in
      subst (λ (n : ℕ). IsSeated n pass cache w) low
      (o.each k w pass cache (sym (ap (λ (ws : List WorkerState). get_elem? ws k) is) ∙ a) (ap (λ (ps : List Pass). get_elem? ps k) rest_is ∙ b) (ap (λ (n : ℕ). get_elem? caches n) low ∙ c));
}
  where
    rest_is : o.rest ≡ all
    rest_is = sym (o.are ∙ ap (λ (ps : List Pass). ps ++ o.rest) none)

-- WHERE ONE STANDS

at_middle : {A : Type 0} (xs ys : List A) (x : A) → get_elem? (xs ++ (x ∷ ys)) (length xs) ≡ some x
at_middle [] ys x = refl
at_middle (y ∷ xs) ys x = at_middle xs ys x

-- the last one of the front of a list
pub last_of_front : {A : Type 0} (all left new rest : List A) (x : A) → all ≡ left ++ rest → left ≡ new ++ x ∷ [] → get_elem? all (length new) ≡ some x
last_of_front all left new rest x are popped =
    let whole = are ∙ ap (λ ys. ys ++ rest) popped ∙ append_assoc new (x ∷ []) rest in
    ap (λ ys. get_elem? ys (length new)) whole ∙ at_middle new rest x

pub front_short : {A : Type 0} (all left new rest : List A) (x : A) → all ≡ left ++ rest → left ≡ new ++ x ∷ [] → length new < length all
front_short all left new rest x are popped = omega (arith, ap (λ (ys : List _). length ys) are, length-append left rest, ap (λ (ys : List _). length ys) popped, length-append new (x ∷ []))

-- LEAVING

-- the last workers left their seats, the last first
pub record AreLeaving (all left : List WorkerState) (passes : List Pass) (caches : List CacheState) : Type 0 where
  pub rest : List WorkerState
  pub are : all ≡ left ++ rest
  pub count : length passes ≡ length rest
  pub long : length caches ≡ length all
  pub pass : (i : ℕ) (w : WorkerState) (pass : Pass) → get_elem? rest i ≡ some w → get_elem? (reverse passes) i ≡ some pass → w.pass ≡ Some pass
  pub cache : (i : ℕ) (w : WorkerState) (cache : CacheState) → get_elem? rest i ≡ some w → get_elem? caches (length left + i) ≡ some cache → cache ≡ w.cache

pub leaving_starts : (all : List WorkerState) (passes : List Pass) (caches : List CacheState) → passes ≡ [] → length caches ≡ length all → AreLeaving all all passes caches
leaving_starts all passes caches none long = record {
  rest = [];
  are = sym (append-nil all);
  count = ap (λ (ps : List Pass). length ps) none;
  long = long;
  pass = λ i w pass a b. absurd (some-ne-none w (sym a));
  cache = λ i w cache a b. absurd (some-ne-none w (sym a));
}

module _ (all left new : List WorkerState) (passes passes' : List Pass) (caches caches' : List CacheState) (w : WorkerState) (p : Pass) (cache : CacheState) (popped : left ≡ new ++ w ∷ []) (pushed : passes' ≡ passes ++ p ∷ []) (stored : caches' ≡ set caches (length new) cache) (has : w.pass ≡ Some p) (is : cache ≡ w.cache) where
  turned_passes : reverse passes' ≡ p ∷ reverse passes
  turned_passes = ap (λ (ps : List Pass). reverse ps) pushed ∙ reverse-append passes (p ∷ [])

  longer : length left ≡ length new + 1
  longer = ap (λ (ws : List WorkerState). length ws) popped ∙ length-append new (w ∷ [])

  pass_here : (o : AreLeaving all left passes caches) (i : ℕ) (v : WorkerState) (q : Pass) → get_elem? (w ∷ o.rest) i ≡ some v → get_elem? (p ∷ reverse passes) i ≡ some q → v.pass ≡ Some q
  pass_here o zero v q a b = sym (ap (λ (u : WorkerState). u.pass) (some-injective w v a)) ∙ has ∙ ap (λ (r : Pass). Some r) (some-injective p q b)
  pass_here o (suc i) v q a b = o.pass i v q a b

  cache_here : (o : AreLeaving all left passes caches) (i : ℕ) (v : WorkerState) (c : CacheState) → get_elem? (w ∷ o.rest) i ≡ some v → get_elem? (set caches (length new) cache) (length new + i) ≡ some c → c ≡ v.cache
  cache_here o zero v c a b = ⊎_elim
      (λ s. s.1 ∙ is ∙ ap (λ (u : WorkerState). u.cache) (some-injective w v a))
      (λ s. absurd (s.0 (sym (plus_none (length new)))))
      (at_set caches (length new) cache (length new + 0) c b)
  cache_here o (suc i) v c a b = ⊎_elim
      (λ s. let same = s.0 in absurd (omega arith))
      (λ s. let same : length new + suc i ≡ length left + i = omega (arith, longer) in o.cache i v c a (ap (λ (k : ℕ). get_elem? caches k) (sym same) ∙ s.1))
      (at_set caches (length new) cache (length new + suc i) c b)

  pub leaving_goes : AreLeaving all left passes caches → AreLeaving all new passes' caches'
  leaving_goes o = record {
    rest = w ∷ o.rest;
    are = o.are ∙ ap (λ (ws : List WorkerState). ws ++ o.rest) popped ∙ append_assoc new (w ∷ []) o.rest;
    count = ap (λ (ps : List Pass). length ps) pushed ∙ length-append passes (p ∷ []) ∙ (let z : length passes + 1 ≡ suc (length o.rest) = omega (arith, o.count) in z);
    long = ap (λ (cs : List CacheState). length cs) stored ∙ length-set caches (length new) cache ∙ o.long;
    pass = λ i v q a b. pass_here o i v q a (sym (ap (λ (ps : List Pass). get_elem? ps i) turned_passes) ∙ b);
    cache = λ i v c a b. cache_here o i v c a (sym (ap (λ (cs : List CacheState). get_elem? cs (length new + i)) stored) ∙ b);
  }

-- all left their seats, and the passes are in order then
pub all_left : (all left : List WorkerState) (passes passes' : List Pass) (caches : List CacheState) → left ≡ [] → passes' ≡ reverse passes → length (reverse passes) ≡ length passes → AreLeaving all left passes caches → HaveLeft all passes' caches
all_left all left passes passes' caches none is same o = record {
  count = ap (λ (ps : List Pass). length ps) is ∙ same ∙ o.count ∙ ap (λ (ws : List WorkerState). length ws) rest_is;
  pass = λ k w pass a b. o.pass k w pass (ap (λ (ws : List WorkerState). get_elem? ws k) rest_is ∙ a) (sym (ap (λ (ps : List Pass). get_elem? ps k) is) ∙ b);
  cache = λ k w cache a b.
      let low : length left + k ≡ k = ap (λ (ws : List WorkerState). length ws + k) none ∙ (let z : 0 + k ≡ k = omega arith in z) in
      o.cache k w cache (ap (λ (ws : List WorkerState). get_elem? ws k) rest_is ∙ a) (ap (λ (n : ℕ). get_elem? caches n) low ∙ b);
}
  where
    rest_is : o.rest ≡ all
    rest_is = sym (o.are ∙ ap (λ (ws : List WorkerState). ws ++ o.rest) none)
