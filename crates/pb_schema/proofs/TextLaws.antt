-- What is written is read back.
use Rattle.std.proofs.Common.{◌≡◌, ℕ, ◌^◌, ◌<◌, List, [], ◌∷◌, length, Ok, All, flat_map, refl, arith, append_assoc}
use Rattle.std.proofs.lemmas.List.Elements.{All-head, All-tail}
use Rattle.pb_schema.specs.Varint.{Varint, tag_bytes, varint_of}
use Rattle.pb_schema.specs.Frames.{Frames, frames_of}
use Rattle.pb_schema.specs.Text.{framed}
use Rattle.pb_schema.proofs.VarintLaws.{varint_of_is, groups_short}
use Rattle.pb_schema.proofs.FrameLaws.{frames_of_frames}

-- five bytes are enough for a prefix
prefix_is : (s : List ℕ) → length s < 2 ^ 31 → Varint (varint_of (length s)) tag_bytes (length s)
prefix_is s h = varint_of_is (length s) tag_bytes (omega arith) (groups_short 9 (length s) 4 (omega arith))

framed_frames : (payloads : List (List ℕ)) → All (λ payload. length payload < 2 ^ 31) payloads → Frames (flat_map framed payloads) payloads
framed_frames [] h = refl
framed_frames (payload ∷ payloads) h =
    let short = All-head (λ payload. length payload < 2 ^ 31) payload payloads h in
    (varint_of (length payload), flat_map framed payloads, append_assoc (varint_of (length payload)) payload (flat_map framed payloads), prefix_is payload short, short, framed_frames payloads (All-tail (λ payload. length payload < 2 ^ 31) payload payloads h))

pub frames_are_read_back : (payloads : List (List ℕ)) → All (λ payload. length payload < 2 ^ 31) payloads → frames_of (flat_map framed payloads) ≡ Ok payloads
frames_are_read_back payloads h = frames_of_frames (flat_map framed payloads) payloads (framed_frames payloads h)
