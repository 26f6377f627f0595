-- How long the payloads of a file are together, and how many they are.
use Rattle.std.proofs.Common.{◌≡◌, ◌+◌, ◌≤◌, ℕ, List, [], ◌∷◌, ◌++◌, length, Ok, ap, ◌∙◌, length-append, arith}
use Rattle.std.specs.Prelude.{sum_by}
use Rattle.std.proofs.lemmas.List.Sums.{sum_by-cons}
use Rattle.pb_schema.specs.Frames.{Frames, frames_of}
use Rattle.pb_schema.specs.Varint.{IsContinued}
use Rattle.pb_schema.proofs.FrameLaws.{frames_found}

some_bytes : (s : List ℕ) → IsContinued s → 1 ≤ length s
some_bytes [] continued = absurd continued
some_bytes (b ∷ s) continued = omega arith

-- each frame has a prefix, of one byte at least
payloads_fit : (payloads : List (List ℕ)) (s : List ℕ) → Frames s payloads → sum_by length payloads + length payloads ≤ length s
payloads_fit [] s framed = omega arith
payloads_fit (payload ∷ payloads) s framed =
    let sum = sum_by-cons length payload payloads in
    let size = ap length framed.2 ∙ length-append framed.0 (payload ++ framed.1) in
    let inner = length-append payload framed.1 in
    omega (arith, sum, size, inner, some_bytes framed.0 framed.3.continued, payloads_fit payloads framed.1 framed.5)

pub frames_fit : (s : List ℕ) (payloads : List (List ℕ)) → frames_of s ≡ Ok payloads → sum_by length payloads + length payloads ≤ length s
frames_fit s payloads e = payloads_fit payloads s (frames_found payloads s e)
