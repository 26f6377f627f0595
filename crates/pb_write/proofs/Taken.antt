-- What a sink took, call by call.
use Rattle.std.proofs.Common.{◌≡◌, ◌+◌, ◌-◌, ◌^◌, ◌<◌, ◌≤◌, ℕ, min, suc, List, [], ◌∷◌, ◌++◌, length, take, drop, Option, None, Some, sym, ap, ◌∙◌, subst, append_assoc, take-append-drop, length-append, length-take-le, zero-add, arith}
use Rattle.std.specs.Io.KnownBytes.{Appends, append_known}
use Rattle.std.proofs.KnownBytes.{Appends-trans}
use Rattle.std.proofs.lemmas.List.{take-take, drop-take, take-append-le}
use Rattle.arena_mem.specs.Outside.{TookPart, KeepsTaken}
use Rattle.pb_write.specs.Writes.{Counts}

suc_add : (a b : ℕ) → suc a + b ≡ suc (a + b)
suc_add a b = omega arith

-- two pieces of a list, one behind the other
pub take_two : (a b : ℕ) (xs : List ℕ) → take a xs ++ take b (drop a xs) ≡ take (a + b) xs
take_two a b xs =
    ap (λ ys. ys ++ take b (drop a xs)) (sym (take-take a (a + b) xs (omega arith))) ∙ ap (λ ys. take a (take (a + b) xs) ++ ys) (sym (drop-take a b xs)) ∙ take-append-drop a (take (a + b) xs)

pub took_more : (a b c : Option (List ℕ)) (bytes piece : List ℕ) (done count : ℕ) → piece ≡ drop done bytes → Appends a b (take done bytes) → Appends b c (take count piece) → Appends a c (take (done + count) bytes)
took_more a b c bytes piece done count is_rest first second =
    subst (Appends a c) (ap (λ ys. take done bytes ++ take count ys) is_rest ∙ take_two done count bytes) (Appends-trans a b c _ _ first second)

pub KeepsTaken-trans : (a b c : Option (List ℕ)) → KeepsTaken a b → KeepsTaken b c → KeepsTaken a c
KeepsTaken-trans None b c p q = tt
KeepsTaken-trans (Some x) None c p q = absurd p
KeepsTaken-trans (Some x) (Some y) None p q = absurd q
KeepsTaken-trans (Some x) (Some y) (Some z) p q = omega arith

-- COUNTING

pub Counts-refl : (a : Option (List ℕ)) (n : ℕ) → Counts a a n n
Counts-refl None n = tt
Counts-refl (Some x) n = (omega arith, omega arith)

pub Counts-trans : (a b c : Option (List ℕ)) (before middle after : ℕ) → Counts a b before middle → Counts b c middle after → Counts a c before after
Counts-trans None b c before middle after p q = tt
Counts-trans (Some x) None c before middle after p q = absurd p
Counts-trans (Some x) (Some y) None before middle after p q = absurd q
Counts-trans (Some x) (Some y) (Some z) before middle after p q = (omega (arith, p.0, q.0), omega (arith, p.0, q.0, p.1, q.1))

-- a piece of so many bytes more was taken
pub counts_piece : (b c : Option (List ℕ)) (piece : List ℕ) (middle after count : ℕ) → Appends b c (take count piece) → count ≤ length piece → after ≡ min (middle + count) (2 ^ 64 - 1) → Counts b c middle after
counts_piece None c piece middle after count taken less is = tt
counts_piece (Some y) None piece middle after count taken less is = absurd taken
counts_piece (Some y) (Some z) piece middle after count taken less is =
    let sizes : length z ≡ length y + count = ap (λ (l : List ℕ). length l) taken ∙ length-append y (take count piece) ∙ ap (λ n. length y + n) (length-take-le count piece less) in
    (omega (arith, sizes), omega (arith, sizes, is))

-- a front of what stands behind x, seen from a longer y
front_behind : (x y piece front rest : List ℕ) (count : ℕ) → length x ≤ length y → y ++ piece ≡ x ++ front → count < length piece
    → (n : ℕ) × (n < length (front ++ rest)) × (y ++ take count piece ≡ x ++ take n (front ++ rest))
front_behind x y piece front rest count longer same few =
    let whole = x ++ (front ++ rest) in
    let sizes = sym (length-append y piece) ∙ ap length same ∙ length-append x front in
    let total = length-append front rest in
    let n = length y + count - length x in
    let is_sum : length y + count ≡ length x + n = omega arith in
    let short : length y + count ≤ length (x ++ front) = omega (arith, length-append x front) in
    let in_piece : count ≤ length piece = omega arith in (
      n,
      omega arith,
      sym (take_behind y piece count)
          ∙ ap (take (length y + count)) same
          ∙ sym (take-append-le (length y + count) (x ++ front) rest short)
          ∙ ap (take (length y + count)) (append_assoc x front rest)
          ∙ ap (λ k. take k whole) is_sum ∙ take_behind x (front ++ rest) n,
    )
  where
    take_behind : (a b : List ℕ) (k : ℕ) → take (length a + k) (a ++ b) ≡ a ++ take k b
    take_behind [] b k = ap (λ m. take m b) (zero-add k)
    take_behind (v ∷ a) b k = ap (λ m. take m (v ∷ (a ++ b))) (suc_add (length a) k) ∙ ap (λ l. v ∷ l) (take_behind a b k)

-- where handing over failed, a front of everything was taken, and not all of it
pub part_handed_over : (a b c : Option (List ℕ)) (piece front rest whole : List ℕ) → KeepsTaken a b → Appends a (append_known b piece) front → TookPart b c piece → whole ≡ front ++ rest → TookPart a c whole
part_handed_over None b c piece front rest whole longer p q e = tt
part_handed_over (Some x) None c piece front rest whole longer p q e = absurd p
part_handed_over (Some x) (Some y) None piece front rest whole longer p q e = absurd q
part_handed_over (Some x) (Some y) (Some z) piece front rest whole longer p q e =
    let behind = front_behind x y piece front rest q.0 longer p q.1 in
    (behind.0, subst (λ w. behind.0 < length w) (sym e) behind.1, q.2 ∙ behind.2 ∙ ap (λ w. x ++ take behind.0 w) (sym e))
