-- Rows of bytes that are filled up to a place and zeroed behind it.
use Rattle.std.proofs.Common.{◌≡◌, ℕ, ◌+◌, ◌-◌, ◌≤◌, List, ◌++◌, length, take, drop, sym, ap, ◌∙◌, arith, rules}
use Rattle.std.specs.Prelude.{replicate}
use Rattle.std.proofs.lemmas.List.{same_lists, places, take-append-drop, take-take, drop-take, drop-drop, drop-append-le, take-replicate, drop-replicate, replicate-append-replicate}
use Rattle.arena_block.specs.Ahead.{IsZeroed}

-- a write within what is filled
pub overwritten_front : (n at : ℕ) (row bytes : List ℕ) → at + length bytes ≤ n → n ≤ length row
    → take n (take at row ++ bytes ++ drop (at + length bytes) row) ≡ take at (take n row) ++ bytes ++ drop (at + length bytes) (take n row)
overwritten_front n at row bytes fits there = same_lists _ _ (search (rules, places)) (λ k d h. grind (arith, places))

-- a part of what is filled
pub part_front : (n at len : ℕ) (row : List ℕ) → at + len ≤ n → n ≤ length row → take len (drop at (take n row)) ≡ take len (drop at row)
part_front n at len row fits there = same_lists _ _ (search (rules, places)) (λ k d h. grind (arith, places))

-- more of what is zeroed counts as filled
pub filled_further : (size n more : ℕ) (row : List ℕ) → IsZeroed size n row → n + more ≤ length row → take (n + more) row ≡ take n row ++ replicate more 0
filled_further size n more row is fits =
    sym (take-append-drop n (take (n + more) row))
    ∙ (λ i. take-take n (n + more) row (omega arith) i ++ drop-take n more row i)
    ∙ ap (λ zs. take n row ++ take more zs) is.zeros
    ∙ ap (λ zs. take n row ++ zs) (take-replicate more (length row - n) 0 (omega (arith, fits)))

pub zeroed_further : (size n more : ℕ) (row : List ℕ) → IsZeroed size n row → n + more ≤ length row → IsZeroed size (n + more) row
zeroed_further size n more row is fits = record {
  there = fits;
  within = is.within;
  zeros =
      sym (drop-drop more n row) ∙ ap (drop more) is.zeros ∙ drop-replicate more (length row - n) 0
      ∙ ap (λ k. replicate k 0) (omega arith);
}

-- more is zeroed
pub zeroed_more : (size n : ℕ) (row new : List ℕ) → IsZeroed size n row → new ≡ row ++ replicate (length new - length row) 0 → length row ≤ length new → length new ≤ size → IsZeroed size n new
zeroed_more size n row new is more longer within = record {
  there = omega (arith, is.there, longer);
  within = within;
  zeros =
      ap (drop n) more
      ∙ drop-append-le n row (replicate (length new - length row) 0) is.there
      ∙ ap (λ zs. zs ++ replicate (length new - length row) 0) is.zeros
      ∙ replicate-append-replicate (length row - n) (length new - length row) 0
      ∙ ap (λ k. replicate k 0) (omega (arith, is.there, longer));
}

-- what was there before more was zeroed
pub more_front : (n : ℕ) (row new zs : List ℕ) → n ≤ length row → new ≡ row ++ zs → take n new ≡ take n row
more_front n row new zs there more = ap (take n) more ∙ front
  where
    front : take n (row ++ zs) ≡ take n row
    front = same_lists _ _ (search (rules, places)) (λ k d h. grind (arith, places))
