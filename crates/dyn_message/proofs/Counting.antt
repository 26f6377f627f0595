-- Counting feet.
use Rattle.std.proofs.Common.{◌≡◌, ◌⊎◌, ◌+◌, ◌≤◌, ℕ, zero, suc, Bool, true, false, ◌&&◌, cond, eqb, List, [], ◌∷◌, ◌++◌, true≢false, refl, sym, ap, ◌∙◌, ⊎_elim, inl, inr, arith}
use Rattle.std.proofs.lemmas.Bool.{eqb-true, cases_Bool}
use borrow.Author.Tests.{eq-eqb}
use Rattle.arena_mem.specs.declared.place.Place.{Place}
use Rattle.arena_mem.specs.declared.place.Buffer.{Buffer}
use Rattle.dyn_message.specs.Feet.{Foot, InPlace, InBuffer, same_place, same_buffer, same_foot, times, IsAmong}

pub times_join : (foot : Foot) (xs ys : List Foot) → times foot (xs ++ ys) ≡ times foot xs + times foot ys
times_join foot [] ys = omega arith
times_join foot (x ∷ xs) ys = omega (arith, times_join foot xs ys)

-- the parts of a list have no more than the list
pub times_parts : (foot : Foot) (feet own rest : List Foot) → feet ≡ own ++ rest → times foot feet ≡ times foot own + times foot rest
times_parts foot feet own rest are = ap (times foot) are ∙ times_join foot own rest

both_true : (a b : Bool) → (a && b) ≡ true → (a ≡ true) × (b ≡ true)
both_true true b e = (refl, e)
both_true false b e = grind (arith, e)

eqb_same : (n : ℕ) → eqb n n ≡ true
eqb_same n = eq-eqb n n refl

all_true : (a b c d : Bool) → a ≡ true → b ≡ true → c ≡ true → d ≡ true → (((a && b) && c) && d) ≡ true
all_true a b c d p q r s = rw (p, q, r, s) refl

two_true : (a b : Bool) → a ≡ true → b ≡ true → (a && b) ≡ true
two_true a b p q = rw (p, q) refl

pub same_itself : (foot : Foot) → same_foot foot foot ≡ true
same_itself (InPlace p) = all_true _ _ _ _ (eqb_same p.region) (eqb_same p.block) (eqb_same p.offset) (eqb_same p.len)
same_itself (InBuffer b) = two_true _ _ (eqb_same b.region) (eqb_same b.number)

pub place_same : (p q : Place) → same_place p q ≡ true → p ≡ q
place_same p q e =
    let last = both_true _ (eqb p.len q.len) e in
    let third = both_true _ (eqb p.offset q.offset) last.0 in
    let second = both_true (eqb p.region q.region) (eqb p.block q.block) third.0 in
    let region = eqb-true p.region q.region second.0 in
    let block = eqb-true p.block q.block second.1 in
    let offset = eqb-true p.offset q.offset third.1 in
    let len = eqb-true p.len q.len last.1 in
    λ i. record { region = region i; block = block i; offset = offset i; len = len i }

buffer_same : (a b : Buffer) → same_buffer a b ≡ true → a ≡ b
buffer_same a b e =
    let both = both_true (eqb a.region b.region) (eqb a.number b.number) e in
    let region = eqb-true a.region b.region both.0 in
    let number = eqb-true a.number b.number both.1 in
    λ i. record { region = region i; number = number i }

pub foot_same : (one other : Foot) → same_foot one other ≡ true → one ≡ other
foot_same (InPlace p) (InPlace q) e = ap InPlace (place_same p q e)
foot_same (InBuffer a) (InBuffer b) e = ap InBuffer (buffer_same a b e)
foot_same (InPlace p) (InBuffer b) e = absurd (true≢false (sym e))
foot_same (InBuffer b) (InPlace p) e = absurd (true≢false (sym e))

-- the first of a list is among it
pub times_first : (foot : Foot) (feet : List Foot) → times foot (foot ∷ feet) ≡ 1 + times foot feet
times_first foot feet = ap (λ b. cond b 1 0 + times foot feet) (same_itself foot)

-- one foot by itself
pub once_one : (other foot : Foot) → times foot (other ∷ []) ≤ 1
once_one other foot = by_same (same_foot foot other)
  where
    by_same : (t : Bool) → cond t (suc zero) zero + zero ≤ 1
    by_same true = omega arith
    by_same false = omega arith

pub one_is : (other foot : Foot) → IsAmong foot (other ∷ []) → foot ≡ other
one_is other foot among = ⊎_elim
    (λ same. foot_same foot other same)
    (λ apart. absurd (none among (ap (λ (b : Bool). cond b (suc zero) zero + zero) apart)))
    (cases_Bool (same_foot foot other))
  where
    none : 1 ≤ times foot (other ∷ []) → times foot (other ∷ []) ≡ 0 → ⊥
    none some is = omega (arith, some, is)

-- it is another one
pub not_one : (other foot : Foot) → (foot ≡ other → ⊥) → times foot (other ∷ []) ≡ 0
not_one other foot differs = ⊎_elim
    (λ same. absurd (differs (foot_same foot other same)))
    (λ apart. ap (λ (b : Bool). cond b (suc zero) zero + zero) apart)
    (cases_Bool (same_foot foot other))

-- it isn't among them
pub none_of : (foot : Foot) (feet : List Foot) → (IsAmong foot feet → ⊥) → times foot feet ≡ 0
none_of foot feet none = by_count (times foot feet) refl
  where
    by_count : (n : ℕ) → n ≡ times foot feet → times foot feet ≡ 0
    by_count zero is = sym is
    by_count (suc n) is = absurd (none (omega (arith, is)))

-- it is among these, or it isn't
pub among_or : (foot : Foot) (feet : List Foot) → IsAmong foot feet ⊎ (times foot feet ≡ 0)
among_or foot feet = by_count (times foot feet) refl
  where
    by_count : (n : ℕ) → n ≡ times foot feet → IsAmong foot feet ⊎ (times foot feet ≡ 0)
    by_count zero is = inr (sym is)
    by_count (suc n) is = inl (omega (arith, is))
