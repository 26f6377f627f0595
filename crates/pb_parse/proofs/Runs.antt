-- A run of bytes that gets longer.
use Rattle.std.proofs.Common.{◌≡◌, ◌≢◌, ℕ, zero, suc, ◌+◌, ◌-◌, ◌<◌, ◌≤◌, List, [], ◌∷◌, ◌++◌, length, take, drop, refl, sym, ap, ◌∙◌, append_assoc, zero-add, arith, drop-drop, length-drop, length-take, length-take-le}

take_none : (n : ℕ) → (let none : List ℕ = [] in take n none ≡ none)
take_none zero = refl
take_none (suc n) = refl

pub take_sum : (a b : ℕ) (xs : List ℕ) → take (a + b) xs ≡ take a xs ++ take b (drop a xs)
take_sum zero b xs = ap (λ n. take n xs) (zero-add b)
take_sum (suc a) b [] = take_none (suc a + b) ∙ sym (take_none b)
take_sum (suc a) b (x ∷ xs) =
    let more : suc a + b ≡ suc (a + b) = omega arith in
    ap (λ n. take n (x ∷ xs)) more ∙ ap (λ ys. x ∷ ys) (take_sum a b xs)

-- bytes that stand right behind a run come into it
pub run_longer : (copied bytes : List ℕ) (start end from to : ℕ) → end ≡ from → start ≤ end → from ≤ to
    → copied ++ take (to - start) (drop start bytes) ≡ (copied ++ take (end - start) (drop start bytes)) ++ take (to - from) (drop from bytes)
run_longer copied bytes start end from to e h k =
    let sum : to - start ≡ (end - start) + (to - from) = omega (arith, e, h, k) in
    let here : start + (end - start) ≡ from = omega (arith, e, h) in
    ap (λ n. copied ++ take n (drop start bytes)) sum
    ∙ (ap (λ s. copied ++ s) (take_sum (end - start) (to - from) (drop start bytes))
    ∙ (ap (λ s. copied ++ (take (end - start) (drop start bytes) ++ take (to - from) s)) (drop-drop (end - start) start bytes ∙ ap (λ n. drop n bytes) here)
    ∙ sym (append_assoc copied (take (end - start) (drop start bytes)) (take (to - from) (drop from bytes)))))

-- what is left behind a place, in two steps
pub left_behind : (a b : ℕ) (s : List ℕ) → a ≤ b → drop (b - a) (drop a s) ≡ drop b s
left_behind a b s h =
    let sum : a + (b - a) ≡ b = omega (arith, h) in
    drop-drop (b - a) a s ∙ ap (λ n. drop n s) sum

pub no_bytes : (s : List ℕ) → length s ≡ 0 → s ≡ []
no_bytes [] e = refl
no_bytes (x ∷ s) e = absurd (omega (arith, e))

-- nothing is left from the end of a front on, and something before it
pub none_left : (at end : ℕ) (bytes : List ℕ) → end ≤ at → drop at (take end bytes) ≡ []
none_left at end bytes h = no_bytes (drop at (take end bytes)) (omega (arith, length-drop at (take end bytes), length-take end bytes, h))

pub some_left : (at end : ℕ) (bytes : List ℕ) → at < end → end ≤ length bytes → drop at (take end bytes) ≢ []
some_left at end bytes h fits none = absurd (omega (arith, length-drop at (take end bytes), length-take-le end bytes fits, ap length none, h))

pub all_left : (at : ℕ) (bytes : List ℕ) → length bytes ≤ at → drop at bytes ≡ []
all_left at bytes h = no_bytes (drop at bytes) (omega (arith, length-drop at bytes, h))

pub more_left : (at : ℕ) (bytes : List ℕ) → at < length bytes → drop at bytes ≢ []
more_left at bytes h none = absurd (omega (arith, length-drop at bytes, ap length none, h))
