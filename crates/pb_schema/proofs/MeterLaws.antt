-- Laws of the meters: arrays count the same in one go and in parts.
use Rattle.std.proofs.Common.{◌≡◌, ℕ, zero, suc, ◌+◌, ◌-◌, ◌*◌, ◌<◌, ◌≤◌, Bool, true, false, cond, ◌&&◌, ltb, leb, refl, sym, ap, ◌∙◌, ⊎_elim, arith, pow-suc}
use Rattle.std.proofs.lemmas.Bool.{cases_lt, lt-ltb, le-ltb, lt-leb, le-leb}
use Rattle.pb_schema.specs.Meter.{round8, rooms, follower_bytes, followers_bytes, first_bytes, array_bytes, placed_bytes, cleanups, GrowsInParts}

-- a room is greater than its place
room_above : (k : ℕ) → suc k ≤ rooms k
room_above zero = omega arith
room_above (suc k) = omega (arith, pow-suc 2 k, room_above k)

-- an array that isn't on the way, since its room is not below the last count, or is below the first
not_on : (size before after k : ℕ) → after ≤ rooms k → follower_bytes size before after k ≡ 0
not_on size before after k h = pick (leb before (rooms k)) (ltb (rooms k) after) (le-ltb (rooms k) after h)
  where
    pick : (a b : Bool) → b ≡ false → cond (a && b) (round8 (2 * rooms k * size)) 0 ≡ 0
    pick true b e = ap (λ b. cond b (round8 (2 * rooms k * size)) 0) e
    pick false b e = refl

not_from : (size before after k : ℕ) → rooms k < before → follower_bytes size before after k ≡ 0
not_from size before after k h = ap (λ a. cond (a && ltb (rooms k) after) (round8 (2 * rooms k * size)) 0) (lt-leb before (rooms k) h)

-- the same array, where it is on both ways or on none
follower_same : (size a b c d k : ℕ) → leb a (rooms k) ≡ leb c (rooms k) → ltb (rooms k) b ≡ ltb (rooms k) d → follower_bytes size a b k ≡ follower_bytes size c d k
follower_same size a b c d k e f = ap (λ x. cond (x && ltb (rooms k) b) (round8 (2 * rooms k * size)) 0) e ∙ ap (λ x. cond (leb c (rooms k) && x) (round8 (2 * rooms k * size)) 0) f

follower_parts : (size before between after k : ℕ) → before ≤ between → between ≤ after → follower_bytes size before after k ≡ follower_bytes size before between k + follower_bytes size between after k
follower_parts size before between after k h l =
    ⊎_elim
    (λ (small : rooms k < between).
    let first = follower_same size before after before between k refl (lt-ltb (rooms k) after (omega (arith, small, l)) ∙ sym (lt-ltb (rooms k) between small)) in
    let none = not_from size between after k small in
    omega (arith, first, none))
    (λ (great : between ≤ rooms k).
    let second = follower_same size before after between after k (le-leb before (rooms k) (omega (arith, great, h)) ∙ sym (le-leb between (rooms k) great)) refl in
    let none = not_on size before between k great in
    omega (arith, second, none))
    (cases_lt (rooms k) between)

followers_parts : (size before between after count : ℕ) → before ≤ between → between ≤ after → followers_bytes size before after count ≡ followers_bytes size before between count + followers_bytes size between after count
followers_parts size before between after zero h l = refl
followers_parts size before between after (suc count) h l = omega (arith, followers_parts size before between after count h l, follower_parts size before between after count h l)

-- no array past the last count is on the way
followers_more : (size before after more : ℕ) → followers_bytes size before after (after + more) ≡ followers_bytes size before after after
followers_more size before after zero = let same : after + 0 ≡ after = omega arith in ap (followers_bytes size before after) same
followers_more size before after (suc more) =
    let same : after + suc more ≡ suc (after + more) = omega arith in
    let none = not_on size before after (after + more) (omega (arith, room_above (after + more))) in
    ap (followers_bytes size before after) same ∙ omega (arith, followers_more size before after more, none)

first_parts : (size before between after : ℕ) → before ≤ between → between ≤ after → first_bytes size before after ≡ first_bytes size before between + first_bytes size between after
first_parts size zero zero after h l = omega arith
first_parts size zero (suc between) zero h l = absurd (omega (arith, l))
first_parts size zero (suc between) (suc after) h l = let same : round8 (rooms 0 * size) ≡ round8 (rooms 0 * size) + 0 = omega arith in same
first_parts size (suc before) zero after h l = absurd (omega (arith, h))
first_parts size (suc before) (suc between) after h l = refl

array_parts : (size before between after : ℕ) → before ≤ between → between ≤ after → array_bytes size before after ≡ array_bytes size before between + array_bytes size between after
array_parts size before between after h l =
    let first = first_parts size before between after h l in
    let all : between + (after - between) ≡ after = omega (arith, l) in
    let shorter : followers_bytes size before between after ≡ followers_bytes size before between between = ap (followers_bytes size before between) (sym all) ∙ followers_more size before between (after - between) in
    omega (arith, first, shorter, followers_parts size before between after after h l)

array_none : (size count : ℕ) → array_bytes size count count ≡ 0
array_none size count = omega (arith, array_parts size count count count (omega arith) (omega arith))

pub placed_in_parts : (sizes : ℕ → ℕ) → GrowsInParts (placed_bytes sizes)
placed_in_parts sizes = record { none = array_none; parts = array_parts }

pub cleanups_in_parts : GrowsInParts cleanups
cleanups_in_parts = record { none = λ size count. refl; parts = λ size before between after h l. refl }
