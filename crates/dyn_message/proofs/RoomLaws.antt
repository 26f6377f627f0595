-- Room for one element more: where a list is full, and what the next room costs.
use Rattle.std.proofs.Common.{◌≡◌, ◌+◌, ◌*◌, ◌^◌, ◌<◌, ◌≤◌, ℕ, zero, suc, Bool, true, false, true≢false, subst, ◌&&◌, cond, eqb, ltb, leb, refl, sym, ap, ◌∙◌, ⊎_elim, arith, pow-suc}
use Rattle.std.specs.Prelude.{◌||◌}
use Rattle.std.proofs.lemmas.Bool.{cases_lt, cases_Bool, lt-ltb, le-ltb, lt-leb, le-leb, eqb-true}
use borrow.Author.Tests.{eq-eqb}
use Rattle.pb_schema.specs.Meter.{round8, rooms, follower_bytes, followers_bytes, array_bytes}
use Rattle.dyn_message.specs.Arrays.{IsLeastRoom}
use Rattle.dyn_message.specs.Rooms.{is_full}

-- ROOMS

pub room_above : (k : ℕ) → suc k ≤ rooms k
room_above zero = omega arith
room_above (suc k) = omega (arith, pow-suc 2 k, room_above k)

pub room_doubles : (k : ℕ) → rooms (suc k) ≡ 2 * rooms k
room_doubles k = omega (arith, pow-suc 2 k)

pub first_room : rooms 0 ≡ 4
first_room = refl

rooms_ascend : (j k : ℕ) → j ≤ k → rooms j ≤ rooms k
rooms_ascend j zero le = ap_le j zero (omega (arith, le))
  where
    ap_le : (j k : ℕ) → j ≡ k → rooms j ≤ rooms k
    ap_le j k e = omega (arith, ap rooms e)
rooms_ascend j (suc k) le = ⊎_elim
    (λ less. omega (arith, rooms_ascend j k (omega (arith, less)), room_doubles k))
    (λ same. let e : j ≡ suc k = omega (arith, le, same) in omega (arith, ap rooms e))
    (cases_lt j (suc k))

-- the least room for a count: a room that is as great as the count
pub least_is : (d k count : ℕ) → IsLeastRoom d count → count ≤ rooms k → d ≤ k
least_is zero k count least enough = omega arith
least_is (suc d) k count least enough = ⊎_elim
    (λ below. absurd (omega (arith, least, enough, rooms_ascend k d (omega (arith, below)))))
    (λ le. le)
    (cases_lt k (suc d))

-- FULL

-- a product with a room that was doubled is a multiple of 8
whole : (k size : ℕ) → round8 (rooms (suc k) * size) ≡ rooms (suc k) * size
whole k size = let x = 2 ^ k * size in eight (rooms (suc k) * size) (2 ^ k * size) (ap (λ n. n * size) (room_doubles k) ∙ assoc (2 ^ k) size)
  where
    eight : (n x : ℕ) → n ≡ 8 * x → round8 n ≡ n
    eight n x is = omega (arith, is)

    assoc : (a b : ℕ) → 2 * (4 * a) * b ≡ 8 * (a * b)
    assoc a b = omega arith

-- a count with as many bytes as a room has as many elements
pub mul_le : (a b size : ℕ) → a ≤ b → a * size ≤ b * size
mul_le a b size le = grind (arith, le)

pub as_many : (a b size : ℕ) → 1 ≤ size → a ≤ b → b * size ≤ a * size → a ≡ b
as_many a b zero some le e = absurd (omega (arith, some))
as_many a b (suc size) some le e = ⊎_elim
    (λ less. absurd (omega (arith, e, less, mul_le a b size le)))
    (λ more. omega (arith, le, more))
    (cases_lt a b)

least_of_four : (d : ℕ) → IsLeastRoom d 4 → d ≡ 0
least_of_four zero least = refl
least_of_four (suc d) least = absurd (omega (arith, least, room_above d, rooms_ascend 0 d (omega arith)))

-- a list with as many elements as its room
pub full_is : (len count size d : ℕ) → 1 ≤ size → count ≤ rooms d → IsLeastRoom d count → len ≡ round8 (rooms d * size) → is_full len count size ≡ true → count ≡ rooms d
full_is len count size d some enough least room full = ⊎_elim
    (λ four. let is : count ≡ 4 = eqb-true count 4 four in
    is ∙ ap rooms (sym (least_of_four d (subst (IsLeastRoom d) is least))))
    (λ other. by_room d enough least room (eqb-true (count * size) len (ap (λ b. b || eqb (count * size) len) (sym other) ∙ full)))
    (cases_Bool (eqb count 4))
  where
    by_room : (d : ℕ) → count ≤ rooms d → IsLeastRoom d count → len ≡ round8 (rooms d * size) → count * size ≡ len → count ≡ rooms d
    by_room zero enough least room is = as_many count (rooms 0) size some enough (omega (arith, is, room))
    by_room (suc k) enough least room is = as_many count (rooms (suc k)) size some enough (omega (arith, is, room, whole k size))

pub not_full : (len count size d : ℕ) → count ≤ rooms d → len ≡ round8 (rooms d * size) → is_full len count size ≡ false → count + 1 ≤ rooms d
not_full len count size d enough room full = ⊎_elim
    (λ less. omega (arith, less))
    (λ more. let is : count ≡ rooms d = omega (arith, enough, more) in absurd (true≢false (sym (by_room d is room) ∙ full)))
    (cases_lt count (rooms d))
  where
    by_room : (d : ℕ) → count ≡ rooms d → len ≡ round8 (rooms d * size) → is_full len count size ≡ true
    by_room zero is room = ap (λ b. b || eqb (count * size) len) (eq-eqb count 4 is)
    by_room (suc k) is room = either (eqb count 4) (eqb (count * size) len) (eq-eqb (count * size) len (ap (λ n. n * size) is ∙ sym (room ∙ whole k size)))
      where
        either : (a b : Bool) → b ≡ true → (a || b) ≡ true
        either true b e = refl
        either false b e = e

-- COST

not_here : (size count k : ℕ) → (rooms k ≡ count → ⊥) → follower_bytes size count (count + 1) k ≡ 0
not_here size count k apart = ⊎_elim
    (λ (below : rooms k < count). ap (λ a. cond (a && ltb (rooms k) (count + 1)) (round8 (2 * rooms k * size)) 0) (lt-leb count (rooms k) below))
    (λ (above : count ≤ rooms k). pick (leb count (rooms k)) (ltb (rooms k) (count + 1)) (le-ltb (rooms k) (count + 1) (more above)))
    (cases_lt (rooms k) count)
  where
    pick : (a b : Bool) → b ≡ false → cond (a && b) (round8 (2 * rooms k * size)) 0 ≡ 0
    pick true b e = ap (λ b. cond b (round8 (2 * rooms k * size)) 0) e
    pick false b e = refl

    more : count ≤ rooms k → count + 1 ≤ rooms k
    more above = ⊎_elim (λ same. absurd (apart (omega (arith, same, above)))) (λ greater. greater) (cases_lt (rooms k) (count + 1))

none_before : (size count n : ℕ) → ((k : ℕ) → k < n → rooms k ≡ count → ⊥) → followers_bytes size count (count + 1) n ≡ 0
none_before size count zero apart = refl
none_before size count (suc n) apart = omega (arith, none_before size count n (λ k less. apart k (omega (arith, less))), not_here size count n (apart n (omega arith)))

rooms_differ : (j k : ℕ) → j < k → rooms j < rooms k
rooms_differ j k l = omega (arith, rooms_ascend (suc j) k (omega (arith, l)), room_doubles j, room_above j)

here : (size d : ℕ) → follower_bytes size (rooms d) (rooms d + 1) d ≡ round8 (2 * rooms d * size)
here size d = ap (λ a. cond (a && ltb (rooms d) (rooms d + 1)) (round8 (2 * rooms d * size)) 0) (le-leb (rooms d) (rooms d) (omega arith))
    ∙ ap (λ b. cond b (round8 (2 * rooms d * size)) 0) (lt-ltb (rooms d) (rooms d + 1) (omega arith))

one_among : (size d n : ℕ) → d < n → followers_bytes size (rooms d) (rooms d + 1) n ≡ round8 (2 * rooms d * size)
one_among size d zero less = absurd (omega (arith, less))
one_among size d (suc n) less = ⊎_elim
    (λ before. omega (arith, one_among size d n before, not_here size (rooms d) n (λ e. omega (arith, rooms_differ d n before, e))))
    (λ last. let is : d ≡ n = omega (arith, less, last) in subst (λ m. followers_bytes size (rooms d) (rooms d + 1) m + follower_bytes size (rooms d) (rooms d + 1) m ≡ round8 (2 * rooms d * size)) is
    (omega (arith, none_before size (rooms d) d (λ k below e. omega (arith, rooms_differ k d below, e)), here size d)))
    (cases_lt d n)

-- what the next element places: the first room, the next one where the last is full, or nothing
pub first_cost : (size : ℕ) → array_bytes size 0 1 ≡ round8 (4 * size)
first_cost size = omega arith

pub next_cost : (size d count : ℕ) → 1 ≤ count → count ≡ rooms d → array_bytes size count (count + 1) ≡ round8 (2 * count * size)
next_cost size d zero some is = absurd (omega (arith, some))
next_cost size d (suc c) some is =
    let all = one_among size d (suc c + 1) (omega (arith, is, room_above d)) in
    let followers : followers_bytes size (suc c) (suc c + 1) (suc c + 1) ≡ round8 (2 * suc c * size) = subst (λ n. followers_bytes size n (n + 1) (suc c + 1) ≡ round8 (2 * n * size)) (sym is) all in
    omega (arith, followers)

pub no_cost : (size d count : ℕ) → 1 ≤ count → count + 1 ≤ rooms d → IsLeastRoom d count → array_bytes size count (count + 1) ≡ 0
no_cost size d zero some enough least = absurd (omega (arith, some))
no_cost size d (suc c) some enough least =
    let none = none_before size (suc c) (suc c + 1) (λ k less e. omega (arith, e, enough, rooms_ascend d k (least_is d k (suc c) least (omega (arith, e))))) in
    omega (arith, none)

-- a room that is the least for a count is the least for one more, where it has room for it
pub still_least : (d count : ℕ) → IsLeastRoom d count → IsLeastRoom d (count + 1)
still_least zero count least = tt
still_least (suc d) count least = omega (arith, least)

-- the greatest room that is doubled
pub half_of_most : (d : ℕ) → rooms d < 2 ^ 26 → rooms d ≤ 2 ^ 25
half_of_most d less = ⊎_elim
    (λ small. omega (arith, rooms_ascend d 23 (omega (arith, small))))
    (λ great. absurd (omega (arith, less, rooms_ascend 24 d great)))
    (cases_lt d 24)
