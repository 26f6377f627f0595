-- Steps of a loop that reads or writes the wire format: what a definition says one byte or one frame on.
use Rattle.std.proofs.Common.{◌≡◌, ℕ, zero, suc, ◌+◌, ◌-◌, ◌*◌, ◌/◌, ◌%◌, ◌^◌, ◌<◌, ◌≤◌, List, [], ◌∷◌, ◌++◌, length, get_or, take, drop, Bool, true, false, cond, Option, None, Some, option_map, option_and_then, Result, Ok, Err, refl, sym, ap, ◌∙◌, ⊎_elim, arith, length-take-le, drop-drop, pow-add, ltb, leb, ◌&&◌}
use Rattle.std.proofs.lemmas.Bool.{cases_lt, lt-ltb, le-ltb, le-leb, cond-true, cond-false, and_from, and_parts, ltb-true, leb-true}
use Rattle.std.proofs.lemmas.Option.{none-some, same_Some, option_and_then_some, cond_some}
use Rattle.std.proofs.lemmas.List.{at_drop_more, at_drop_all, drop_more, take_more}
use Rattle.pb_schema.specs.Varint.{seven_bits, varint_bytes, varint_at, tag_bytes, groups, varint_of}
use Rattle.pb_schema.specs.Frames.{payload_at, frame_at, behind, frames_from, frames_of}
use Rattle.pb_schema.specs.Text.{framed}

-- the value that was mapped
pub option_map_some : {A B P : Type 0} (f : A → B) (o : Option A) (y : B) → option_map f o ≡ Some y → ((x : A) → o ≡ Some x → f x ≡ y → P) → P
option_map_some f None y e k = absurd (none-some y e)
option_map_some f (Some x) y e k = k x refl (same_Some (f x) y e)

some_where : {A : Type 0} (b : Bool) (o : Option A) (y : A) → cond b o None ≡ Some y → (b ≡ true) × (o ≡ Some y)
some_where true o y e = (refl, e)
some_where false o y e = absurd (none-some y e)

pub option_map-map : {A B C : Type 0} (f : A → B) (g : B → C) (o : Option A) → option_map g (option_map f o) ≡ option_map (λ x. g (f x)) o
option_map-map f g None = refl
option_map-map f g (Some x) = refl

pub option_map_same : {A B : Type 0} (f g : A → B) (o : Option A) → ((x : A) → f x ≡ g x) → option_map f o ≡ option_map g o
option_map_same f g None h = refl
option_map_same f g (Some x) h = ap Some (h x)

-- VARINTS

-- the last byte of a varint is below 128
pub varint_bytes_last : (most b : ℕ) (s : List ℕ) → b < 128 → varint_bytes (suc most) (b ∷ s) ≡ Some 1
varint_bytes_last most b s h = cond-true (ltb b 128) _ _ (lt-ltb b 128 h)

-- one more byte stands behind a byte from 128 on
pub varint_bytes_more : (most b : ℕ) (s : List ℕ) → 128 ≤ b → varint_bytes (suc most) (b ∷ s) ≡ option_map suc (varint_bytes most s)
varint_bytes_more most b s h = cond-false (ltb b 128) _ _ (le-ltb b 128 h)

pub varint_bytes_none : (most : ℕ) → varint_bytes most [] ≡ None
varint_bytes_none zero = refl
varint_bytes_none (suc most) = refl

-- the same at an index
pub varint_bytes_at_last : (most i : ℕ) (s : List ℕ) → i < length s → get_or s i 0 < 128 → varint_bytes (suc most) (drop i s) ≡ Some 1
varint_bytes_at_last most i s l h = at_drop_more (varint_bytes (suc most)) s i 0 l ∙ varint_bytes_last most (get_or s i 0) (drop (i + 1) s) h

pub varint_bytes_at_more : (most i : ℕ) (s : List ℕ) → i < length s → 128 ≤ get_or s i 0 → varint_bytes (suc most) (drop i s) ≡ option_map suc (varint_bytes most (drop (i + 1) s))
varint_bytes_at_more most i s l h = at_drop_more (varint_bytes (suc most)) s i 0 l ∙ varint_bytes_more most (get_or s i 0) (drop (i + 1) s) h

pub varint_bytes_at_end : (most i : ℕ) (s : List ℕ) → length s ≤ i → varint_bytes most (drop i s) ≡ None
varint_bytes_at_end most i s h = at_drop_all (varint_bytes most) s i h ∙ varint_bytes_none most

-- a varint has a byte, at most `most`, and no more than stand there
pub varint_bytes_within : (most : ℕ) (s : List ℕ) (n : ℕ) → varint_bytes most s ≡ Some n → (1 ≤ n) × (n ≤ most) × (n ≤ length s)
varint_bytes_within zero s n e = absurd (none-some n e)
varint_bytes_within (suc most) [] n e = absurd (none-some n e)
varint_bytes_within (suc most) (b ∷ s) n e =
    ⊎_elim
    (λ (h : b < 128). let one : 1 ≡ n = same_Some 1 n (sym (varint_bytes_last most b s h) ∙ e) in (omega arith, omega arith, omega arith))
    (λ (h : 128 ≤ b).
    option_map_some suc (varint_bytes most s) n (sym (varint_bytes_more most b s h) ∙ e)
    λ m was is. let within = varint_bytes_within most s m was in (omega arith, omega arith, omega arith))
    (cases_lt b 128)

-- where a loop over a varint's bytes stands: the first i bytes go on
pub record ContinuedTo (most : ℕ) (s : List ℕ) (i : ℕ) : Type 0 where
  pub rest : varint_bytes most s ≡ option_map (λ n. i + n) (varint_bytes (most - i) (drop i s))

shifted_none : (o : Option ℕ) → o ≡ option_map (λ n. 0 + n) o
shifted_none None = refl
shifted_none (Some n) = let same : n ≡ 0 + n = omega arith in ap Some same

pub continued_none : (most : ℕ) (s : List ℕ) → ContinuedTo most s 0
continued_none most s =
    let all : most ≡ most - 0 = omega arith in
    record { rest = shifted_none (varint_bytes most s) ∙ ap (λ m. option_map (λ n. 0 + n) (varint_bytes m s)) all }

at_step : (most i : ℕ) (s : List ℕ) → i < most → (o : Option ℕ) → varint_bytes (suc (most - (i + 1))) (drop i s) ≡ o → varint_bytes (most - i) (drop i s) ≡ o
at_step most i s m o e = let same : most - i ≡ suc (most - (i + 1)) = omega arith in ap (λ n. varint_bytes n (drop i s)) same ∙ e

pub continued_more : (most : ℕ) (s : List ℕ) (i : ℕ) → ContinuedTo most s i → i < most → i < length s → 128 ≤ get_or s i 0 → ContinuedTo most s (i + 1)
continued_more most s i c m l h = record {
  rest =
      c.rest
      ∙ (ap (λ o. option_map (λ n. i + n) o) (at_step most i s m _ (varint_bytes_at_more (most - (i + 1)) i s l h))
      ∙ (option_map-map suc (λ n. i + n) (varint_bytes (most - (i + 1)) (drop (i + 1) s))
      ∙ option_map_same (λ n. i + suc n) (λ n. i + 1 + n) (varint_bytes (most - (i + 1)) (drop (i + 1) s)) (λ n. omega arith)));
}

-- the byte at i ends the varint
pub continued_end : (most : ℕ) (s : List ℕ) (i : ℕ) → ContinuedTo most s i → i < most → i < length s → get_or s i 0 < 128 → varint_bytes most s ≡ Some (i + 1)
continued_end most s i c m l h = c.rest ∙ ap (λ o. option_map (λ n. i + n) o) (at_step most i s m _ (varint_bytes_at_last (most - (i + 1)) i s l h))

-- its value too
pub continued_value : (most : ℕ) (s : List ℕ) (i : ℕ) → ContinuedTo most s i → i < most → i < length s → get_or s i 0 < 128 → varint_at most s ≡ Some (seven_bits (take (i + 1) s) % 2 ^ 64, i + 1)
continued_value most s i c m l h = ap (λ o. option_map (λ n. (seven_bits (take n s) % 2 ^ 64, n)) o) (continued_end most s i c m l h)

-- the bytes end before the varint does
pub continued_cut : (most : ℕ) (s : List ℕ) (i : ℕ) → ContinuedTo most s i → length s ≤ i → varint_at most s ≡ None
continued_cut most s i c h = ap (λ o. option_map (λ n. (seven_bits (take n s) % 2 ^ 64, n)) o) (c.rest ∙ ap (λ o. option_map (λ n. i + n) o) (varint_bytes_at_end (most - i) i s h))

-- `most` bytes go on
pub continued_long : (most : ℕ) (s : List ℕ) (i : ℕ) → ContinuedTo most s i → most ≤ i → varint_at most s ≡ None
continued_long most s i c h =
    let none : most - i ≡ 0 = omega arith in
    ap (λ o. option_map (λ n. (seven_bits (take n s) % 2 ^ 64, n)) o) (c.rest ∙ ap (λ m. option_map (λ n. i + n) (varint_bytes m (drop i s))) none)

seven_bits_push : (s : List ℕ) (b : ℕ) → seven_bits (s ++ b ∷ []) ≡ seven_bits s + b % 128 * 2 ^ (7 * length s)
seven_bits_push [] b = omega arith
seven_bits_push (a ∷ s) b =
    let longer : 7 * suc (length s) ≡ 7 + 7 * length s = omega arith in
    let power : 2 ^ (7 * suc (length s)) ≡ 128 * 2 ^ (7 * length s) = ap (λ n. 2 ^ n) longer ∙ pow-add 2 7 (7 * length s) in
    omega (arith, seven_bits_push s b, ap (λ p. b % 128 * p) power)

-- the number spelled by one byte more
pub seven_bits_more : (s : List ℕ) (i : ℕ) → i < length s → seven_bits (take (i + 1) s) ≡ seven_bits (take i s) + get_or s i 0 % 128 * 2 ^ (7 * i)
seven_bits_more s i l =
    ap seven_bits (take_more s i 0 l)
    ∙ (seven_bits_push (take i s) (get_or s i 0)
    ∙ ap (λ n. seven_bits (take i s) + get_or s i 0 % 128 * 2 ^ (7 * n)) (length-take-le i s (omega arith)))

pub seven_bits_below : (s : List ℕ) → seven_bits s < 2 ^ (7 * length s)
seven_bits_below [] = omega arith
seven_bits_below (a ∷ s) =
    let longer : 7 * suc (length s) ≡ 7 + 7 * length s = omega arith in
    let power : 2 ^ (7 * suc (length s)) ≡ 128 * 2 ^ (7 * length s) = ap (λ n. 2 ^ n) longer ∙ pow-add 2 7 (7 * length s) in
    omega (arith, seven_bits_below s, power)

-- FRAMES

-- n bytes that are skipped are n bytes dropped
pub frames_from-skip : (n : ℕ) (s : List ℕ) → frames_from n s ≡ frames_of (drop n s)
frames_from-skip zero s = refl
frames_from-skip (suc n) [] = refl
frames_from-skip (suc n) (b ∷ s) = frames_from-skip n s

-- the frame at the front, from its prefix
pub frame_at_whole : (s : List ℕ) (len n : ℕ) → varint_at tag_bytes s ≡ Some (len, n) → len < 2 ^ 31 → n + len ≤ length s → frame_at s ≡ Some (take len (drop n s), n + len)
frame_at_whole s len n e short fits =
    ap (λ o. option_and_then (λ prefix. payload_at prefix.0 prefix.1 s) o) e
    ∙ cond-true (ltb len (2 ^ 31) && leb (n + len) (length s)) _ _ (and_from _ _ (lt-ltb len (2 ^ 31) short) (le-leb (n + len) (length s) fits))

pub frame_at_no_prefix : (s : List ℕ) → varint_at tag_bytes s ≡ None → frame_at s ≡ None
frame_at_no_prefix s e = ap (λ o. option_and_then (λ prefix. payload_at prefix.0 prefix.1 s) o) e

-- what a varint at the front is
pub varint_at_parts : {P : Type 0} (most : ℕ) (s : List ℕ) (v n : ℕ) → varint_at most s ≡ Some (v, n) → (varint_bytes most s ≡ Some n → v ≡ seven_bits (take n s) % 2 ^ 64 → P) → P
varint_at_parts most s v n e k =
    option_map_some (λ n. (seven_bits (take n s) % 2 ^ 64, n)) (varint_bytes most s) (v, n) e
    λ m was is. let same : m ≡ n = ap (λ p. p.1) is in k (was ∙ ap Some same) (sym (ap (λ p. p.0) is) ∙ ap (λ n. seven_bits (take n s) % 2 ^ 64) same)

pub varint_at_within : (most : ℕ) (s : List ℕ) (v n : ℕ) → varint_at most s ≡ Some (v, n) → (1 ≤ n) × (n ≤ most) × (n ≤ length s)
varint_at_within most s v n e = varint_at_parts most s v n e λ was is. varint_bytes_within most s n was

-- what a frame at the front is
pub record FrameParts (s payload : List ℕ) (n : ℕ) : Type 0 where
  pub len : ℕ
  pub prefix_bytes : ℕ
  pub prefix : varint_at tag_bytes s ≡ Some (len, prefix_bytes)
  pub short : len < 2 ^ 31
  pub fits : prefix_bytes + len ≤ length s
  pub payload_is : payload ≡ take len (drop prefix_bytes s)
  pub bytes : n ≡ prefix_bytes + len

pub frame_at_parts : (s payload : List ℕ) (n : ℕ) → frame_at s ≡ Some (payload, n) → FrameParts s payload n
frame_at_parts s payload n e =
    option_and_then_some (λ prefix. payload_at prefix.0 prefix.1 s) (varint_at tag_bytes s) (payload, n) e
    λ prefix was there.
    let whole = cond_some (ltb prefix.0 (2 ^ 31) && leb (prefix.1 + prefix.0) (length s)) (take prefix.0 (drop prefix.1 s), prefix.1 + prefix.0) (payload, n) there in
    let tests = and_parts (ltb prefix.0 (2 ^ 31)) (leb (prefix.1 + prefix.0) (length s)) whole.0 in
    record {
      len = prefix.0;
      prefix_bytes = prefix.1;
      prefix = was;
      short = ltb-true prefix.0 (2 ^ 31) tests.0;
      fits = leb-true (prefix.1 + prefix.0) (length s) tests.1;
      payload_is = sym (ap (λ p. p.0) whole.1);
      bytes = sym (ap (λ p. p.1) whole.1);
    }

-- a frame has a byte, and no more than stand there
pub frame_at_within : (s payload : List ℕ) (n : ℕ) → frame_at s ≡ Some (payload, n) → (1 ≤ n) × (n ≤ length s)
frame_at_within s payload n e =
    let parts = frame_at_parts s payload n e in
    let within = varint_at_within tag_bytes s parts.len parts.prefix_bytes parts.prefix in
    (omega (arith, within.0, parts.bytes), omega (arith, parts.bytes, parts.fits))

-- what a frame at the front makes of the payloads of the rest
abbrev after_frame : Option (List ℕ × ℕ) → List ℕ → Result (List (List ℕ)) ℕ
after_frame o s = elim o [ None ↦ Err 0 | Some frame ↦ behind frame.0 (frames_from (frame.1 - 1) s) ]

frames_of_front : (b : ℕ) (s : List ℕ) → frames_of (b ∷ s) ≡ after_frame (frame_at (b ∷ s)) s
frames_of_front b s = refl

dropped_more : (s : List ℕ) (at n : ℕ) → 1 ≤ n → drop (n - 1) (drop (at + 1) s) ≡ drop (at + n) s
dropped_more s at n h = let same : at + 1 + (n - 1) ≡ at + n = omega arith in drop-drop (n - 1) (at + 1) s ∙ ap (λ k. drop k s) same

pub frames_more : (s : List ℕ) (at : ℕ) (payload : List ℕ) (n : ℕ) → at < length s → frame_at (drop at s) ≡ Some (payload, n) → frames_of (drop at s) ≡ behind payload (frames_of (drop (at + n) s))
frames_more s at payload n l e =
    let within = frame_at_within (drop at s) payload n e in
    let front = drop_more s at 0 l in
    ap frames_of front
    ∙ (frames_of_front (get_or s at 0) (drop (at + 1) s)
    ∙ (ap (λ o. after_frame o (drop (at + 1) s)) (sym (ap frame_at front) ∙ e)
    ∙ ap (behind payload) (frames_from-skip (n - 1) (drop (at + 1) s) ∙ ap frames_of (dropped_more s at n within.0))))

pub frames_cut : (s : List ℕ) (at : ℕ) → at < length s → frame_at (drop at s) ≡ None → frames_of (drop at s) ≡ Err 0
frames_cut s at l e =
    let front = drop_more s at 0 l in
    ap frames_of front
    ∙ (frames_of_front (get_or s at 0) (drop (at + 1) s)
    ∙ ap (λ o. after_frame o (drop (at + 1) s)) (sym (ap frame_at front) ∙ e))

pub frames_end : (s : List ℕ) (at : ℕ) → length s ≤ at → frames_of (drop at s) ≡ Ok []
frames_end s at h = at_drop_all frames_of s at h

-- TEXT

pub groups_last : (more v : ℕ) → v < 128 → groups more v ≡ v ∷ []
groups_last zero v h = refl
groups_last (suc more) v h = cond-true (ltb v 128) _ _ (lt-ltb v 128 h)

pub groups_more : (more v : ℕ) → 128 ≤ v → groups (suc more) v ≡ (v % 128 + 128) ∷ groups more (v / 128)
groups_more more v h = cond-false (ltb v 128) _ _ (le-ltb v 128 h)

pub last_group : (v : ℕ) → v < 2 ^ 64 → v / 2 ^ 63 < 2
last_group v h = omega arith

pub length-groups : (more v : ℕ) → (1 ≤ length (groups more v)) × (length (groups more v) ≤ more + 1)
length-groups zero v = (omega arith, omega arith)
length-groups (suc more) v =
    ⊎_elim
    (λ (h : v < 128). let one = ap length (groups_last (suc more) v h) in (omega (arith, one), omega (arith, one)))
    (λ (h : 128 ≤ v). let one = ap length (groups_more more v h) in let rest = length-groups more (v / 128) in (omega (arith, one), omega (arith, one, rest.1)))
    (cases_lt v 128)

pub length-varint_of : (v : ℕ) → length (varint_of v) ≤ 10
length-varint_of v = (length-groups 9 v).1

-- the prefix of a text below 128 bytes is one byte
pub framed_short : (s : List ℕ) → length s < 128 → framed s ≡ length s ∷ s
framed_short s h = ap (λ prefix. prefix ++ s) (groups_last 9 (length s) h)
