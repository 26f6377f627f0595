-- Numbers one after another in a payload, one number on.
use Rattle.std.proofs.Common.{◌≡◌, ◌≢◌, ℕ, zero, suc, ◌+◌, ◌-◌, ◌<◌, ◌≤◌, List, [], ◌∷◌, length, take, drop, Option, None, Some, Result, Ok, Err, refl, ap, ◌∙◌, arith, take_all}
use Rattle.std.proofs.lemmas.List.{at_drop_all}
use Rattle.pb_schema.specs.declared.wire_fault.WireFault.{WireFault}
use Rattle.pb_schema.specs.Varint.{value_bytes}
use Rattle.pb_schema.specs.Reads.{◌>>=◌, value_read}
use Rattle.pb_schema.specs.Form.{read_scalar, read_varint}
use Rattle.pb_schema.specs.Walk.{numbers_end}
use Rattle.pb_schema.specs.TreeOf.{elements_from}
use Rattle.pb_schema.proofs.FormLaws.{bind_ok, read_varint_ok, read_varint_some, read_bytes_ok, read_bytes_of}

-- WHETHER THEY ARE WHOLE

numbers_skip : (wire skip at : ℕ) (s : List ℕ) → skip ≤ length s → numbers_end wire at skip s ≡ numbers_end wire (at + skip) 0 (drop skip s)
numbers_skip wire zero at s h = let here : at ≡ at + 0 = omega arith in ap (λ n. numbers_end wire n 0 s) here
numbers_skip wire (suc skip) at [] h = absurd (omega (arith, h))
numbers_skip wire (suc skip) at (b ∷ s) h =
    let here : suc at + skip ≡ at + suc skip = omega arith in
    numbers_skip wire skip (suc at) s (omega (arith, h)) ∙ ap (λ n. numbers_end wire n 0 (drop skip s)) here

abbrev numbers_then : ℕ → ℕ → List ℕ → Result ℕ WireFault → Result ℕ WireFault
numbers_then wire at s r = r >>= λ n. numbers_end wire (suc at) (n - 1) s

pub numbers_step : (wire at : ℕ) (s : List ℕ) (n : ℕ) → read_scalar wire at s ≡ Ok n → 0 < n → n ≤ length s → numbers_end wire at 0 s ≡ numbers_end wire (at + n) 0 (drop n s)
numbers_step wire at [] n e some fits = absurd (omega (arith, some, fits))
numbers_step wire at (b ∷ s) n e some fits =
    let here : suc at + (n - 1) ≡ at + n = omega (arith, some) in
    let behind : suc (n - 1) ≡ n = omega (arith, some) in
    ap (numbers_then wire at s) e
    ∙ (numbers_skip wire (n - 1) (suc at) s (omega (arith, fits))
    ∙ (ap (λ k. numbers_end wire k 0 (drop (n - 1) s)) here
    ∙ ap (λ k. numbers_end wire (at + n) 0 (drop k (b ∷ s))) behind))

pub numbers_bad : (wire at : ℕ) (s : List ℕ) (d : WireFault) → s ≢ [] → read_scalar wire at s ≡ Err d → numbers_end wire at 0 s ≡ Err d
numbers_bad wire at [] d some e = absurd (some refl)
numbers_bad wire at (b ∷ s) d some e = ap (numbers_then wire at s) e

pub numbers_none : (wire at : ℕ) → numbers_end wire at 0 [] ≡ Ok at
numbers_none wire at = refl

-- EACH OF THEM

-- how many bytes a number has doesn't depend on where it begins
pub scalar_anywhere : (wire at other : ℕ) (s : List ℕ) (n : ℕ) → read_scalar wire at s ≡ Ok n → read_scalar wire other s ≡ Ok n
scalar_anywhere zero at other s n e =
    bind_ok (read_varint value_bytes at s) _ n e
    λ found was is. ap (λ r. r >>= λ value. Ok value.1) (read_varint_some value_bytes other s found.0 found.1 (read_varint_ok value_bytes at s found was)) ∙ is
scalar_anywhere (suc zero) at other s n e = read_bytes_ok 8 at s n e λ same fits. read_bytes_of 8 other s fits ∙ ap Ok same
scalar_anywhere (suc (suc zero)) at other s n e = e
scalar_anywhere (suc (suc (suc zero))) at other s n e = e
scalar_anywhere (suc (suc (suc (suc zero)))) at other s n e = e
scalar_anywhere (suc (suc (suc (suc (suc zero))))) at other s n e = read_bytes_ok 4 at s n e λ same fits. read_bytes_of 4 other s fits ∙ ap Ok same
scalar_anywhere (suc (suc (suc (suc (suc (suc wire)))))) at other s n e = e

elements_skip : (wire skip : ℕ) (s : List ℕ) → elements_from wire skip s ≡ elements_from wire 0 (drop skip s)
elements_skip wire zero s = refl
elements_skip wire (suc skip) [] = refl
elements_skip wire (suc skip) (b ∷ s) = elements_skip wire skip s

abbrev elements_then : ℕ → ℕ → List ℕ → Option ℕ → List (List ℕ)
elements_then wire b s o = elim o [ None ↦ [] | Some n ↦ take n (b ∷ s) ∷ elements_from wire (n - 1) s ]

pub elements_step : (wire at : ℕ) (s : List ℕ) (n : ℕ) → read_scalar wire at s ≡ Ok n → 0 < n → n ≤ length s → elements_from wire 0 s ≡ take n s ∷ elements_from wire 0 (drop n s)
elements_step wire at [] n e some fits = absurd (omega (arith, some, fits))
elements_step wire at (b ∷ s) n e some fits =
    let behind : suc (n - 1) ≡ n = omega (arith, some) in
    ap (λ r. elements_then wire b s (value_read r)) (scalar_anywhere wire at 0 (b ∷ s) n e)
    ∙ ap (λ rest. take n (b ∷ s) ∷ rest) (elements_skip wire (n - 1) s ∙ ap (λ k. elements_from wire 0 (drop k (b ∷ s))) behind)

-- a payload that is one number
pub elements_one : (wire at : ℕ) (s : List ℕ) → read_scalar wire at s ≡ Ok (length s) → s ≢ [] → elements_from wire 0 s ≡ s ∷ []
elements_one wire at [] e some = absurd (some refl)
elements_one wire at (b ∷ s) e some =
    let whole = b ∷ s in
    elements_step wire at whole (length whole) e (omega arith) (omega arith)
    ∙ (ap (λ x. x ∷ elements_from wire 0 (drop (length whole) whole)) (take_all (length whole) whole (omega arith))
    ∙ ap (λ x. whole ∷ x) (at_drop_all (elements_from wire 0) whole (length whole) (omega arith)))
