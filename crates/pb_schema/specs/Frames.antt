-- Frames: a file as a sequence of payloads, each behind a prefix that tells its length (the guide on techniques,
-- "Streaming Multiple Messages").
use Rattle.std.specs.Prelude.{◌≡◌, ◌+◌, ◌-◌, ◌^◌, ◌<◌, ℕ, zero, suc, List, [], ◌∷◌, ◌++◌, length, take, drop, Option, None, Some, Result, Ok, Err, nat_lt, nat_le, ◌&&◌, option_and_then, if◌then◌else◌}
use Rattle.pb_schema.specs.Varint.{Varint, varint_at, length_bytes}

-- the prefixes and the payloads, in order, are the bytes
abbrev pub Frames : List ℕ → List (List ℕ) → Type 0
Frames s [] = s ≡ []
Frames s (payload ∷ payloads) =
    (prefix : List ℕ) × (rest : List ℕ) × (s ≡ prefix ++ (payload ++ rest))
    × Varint prefix length_bytes (length payload) × (length payload < 2 ^ 31) × Frames rest payloads

-- the payload behind a prefix of n bytes that tells the length, where all of it is there; and where it ends
abbrev pub payload_at : ℕ → ℕ → List ℕ → Option (List ℕ × ℕ)
payload_at len n s =
    if nat_lt len (2 ^ 31) && nat_le (n + len) (length s) then Some (take len (drop n s), n + len) else None

-- the payload of the frame at the front, and how many bytes the frame has
abbrev pub frame_at : List ℕ → Option (List ℕ × ℕ)
frame_at s = option_and_then (λ prefix. payload_at prefix.0 prefix.1 s) (varint_at length_bytes s)

-- one payload more in front, or one whole frame more before the cut
abbrev pub behind : List ℕ → Result (List (List ℕ)) ℕ → Result (List (List ℕ)) ℕ
behind payload (Ok payloads) = Ok (payload ∷ payloads)
behind payload (Err cut) = Err (suc cut)

-- the frames behind some bytes that are skipped
abbrev pub frames_from : ℕ → List ℕ → Result (List (List ℕ)) ℕ
frames_from skip [] = Ok []
frames_from (suc skip) (b ∷ s) = frames_from skip s
frames_from zero (b ∷ s) =
    elim (frame_at (b ∷ s)) [ None ↦ Err 0 | Some frame ↦ behind frame.0 (frames_from (frame.1 - 1) s) ]

-- the payloads, or the number of whole frames before the first place where none can be read
abbrev pub frames_of : List ℕ → Result (List (List ℕ)) ℕ
frames_of s = frames_from 0 s
