-- What cutting a file into frames answers, unless memory runs out.
use Rattle.std.specs.Prelude.{◌≡◌, ◌^◌, ℕ, ⊤, nat_lt, nat_le, length, List, Result, Ok, Err, if◌then◌else◌}
use Rattle.pb_schema.specs.Frames.{frames_of}
use Rattle.pb_wire.specs.declared.frame_fault.FrameFault.{FrameFault}
use Rattle.pb_wire.specs.declared.frame_fault.FrameFault.TheVariants.{FrameCut, TooManyFrames, NoMemory}

-- so many frames are taken
abbrev pub most_frames : ℕ
most_frames = 2 ^ 20

-- the payloads, where all bytes are whole frames and no more than are taken; too many, where as many as are taken are
-- whole and bytes follow; else the number of whole frames before the first place where none can be read
abbrev pub answer_from : Result (List (List ℕ)) ℕ → Result (List (List ℕ)) FrameFault
answer_from (Ok payloads) = if nat_le (length payloads) most_frames then Ok payloads else Err TooManyFrames
answer_from (Err cut) = if nat_lt cut most_frames then Err (FrameCut cut) else Err TooManyFrames

abbrev pub answer_of : List ℕ → Result (List (List ℕ)) FrameFault
answer_of bytes = answer_from (frames_of bytes)

-- a result, seen by `view`, is the answer, or want of memory
abbrev pub Answers
    : {X : Type 0} → (X → List (List ℕ)) → Result X FrameFault → Result (List (List ℕ)) FrameFault → Type 0
Answers view (Ok x) answer = answer ≡ Ok (view x)
Answers view (Err (FrameCut index)) answer = answer ≡ Err (FrameCut index)
Answers view (Err TooManyFrames) answer = answer ≡ Err TooManyFrames
Answers view (Err NoMemory) answer = ⊤
