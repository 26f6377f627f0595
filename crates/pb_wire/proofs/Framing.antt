-- Reading frames at a place of the bytes, one after another.
use Rattle.std.proofs.Common.{◌≡◌, ◌+◌, ◌-◌, ◌^◌, ◌<◌, ◌≤◌, ℕ, suc, List, [], ◌∷◌, ◌++◌, length, get_or, take, drop, Option, None, Some, Result, Ok, Err, refl, sym, ap, ◌∙◌, subst, ⊎_elim, ltb, leb, length-append, length-drop, drop-drop, append-nil, arith}
use Rattle.std.specs.Prelude.{IsSome}
use Rattle.std.proofs.Math.ListN.{get_or-append}
use Rattle.std.proofs.Math.Seq.{get_or-append_seam, drop-append_seam}
use Rattle.std.proofs.lemmas.List.{drop_more, drop-map, drop-append-le, map-append}
use Rattle.std.proofs.lemmas.Bool.{cases_lt, lt-ltb, le-ltb, le-leb, lt-leb, cond-true, cond-false}
use Rattle.std.proofs.lemmas.Option.{none-some, same_Some}
use Rattle.pb_schema.specs.Varint.{varint_at, length_bytes}
use Rattle.pb_schema.specs.Frames.{frame_at, behind, frames_of}
use Rattle.pb_schema.proofs.FormLaws.{same_ok, not_ok}
use Rattle.pb_schema.proofs.VarintLaws.{same_cons}
use Rattle.pb_schema.proofs.Steps.{frame_at_whole, frame_at_within, frames_more, frames_cut, frames_end}
use Rattle.pb_schema.proofs.FrameLaws.{cases_option}
use Rattle.pb_wire.specs.declared.frame_fault.FrameFault.TheVariants.{FrameCut, TooManyFrames}
use Rattle.pb_wire.specs.Placed.{found_from}
use Rattle.pb_wire.specs.FramePlaces.{frame_from, Begins, AllFollow, payload_at, payload_of, payloads_at}
use Rattle.pb_wire.specs.FrameAnswers.{answer_from, answer_of, most_frames}

-- what was found, counted from where it stands
pub record Found {A : Type 0} (found : Option (A × ℕ)) (start : ℕ) (x : A) (end : ℕ) : Type 0 where
  pub bytes : ℕ
  pub is : found ≡ Some (x, bytes)
  pub end_is : end ≡ start + bytes

abbrev from : {A : Type 0} → ℕ → Option (A × ℕ) → Option (A × ℕ)
from start None = None
from start (Some x) = Some (x.0, start + x.1)

pub found_there : {A : Type 0} (found : Option (A × ℕ)) (start : ℕ) (x : A) (end : ℕ) → Some (x, end) ≡ from start found → Found found start x end
found_there None start x end e = absurd (none-some (x, end) (sym e))
found_there {A} (Some p) start x end e =
    let same : ◌≡◌ {A = A × ℕ} (x, end) (p.0, start + p.1) = same_Some (x, end) (p.0, start + p.1) e in
    let wrap : A → Option (A × ℕ) = λ y. Some (y, p.1) in
    record { bytes = p.1; is = ap wrap (sym (ap (λ (q : A × ℕ). q.0) same)); end_is = ap (λ (q : A × ℕ). q.1) same }

pub varint_found : (found : Option (ℕ × ℕ)) (start v end : ℕ) → Some (v, end) ≡ found_from start found → Found found start v end
varint_found None start v end e = found_there None start v end e
varint_found (Some p) start v end e = found_there (Some p) start v end e

pub frame_found : (found : Option (List ℕ × ℕ)) (start : ℕ) (payload : List ℕ) (end : ℕ) → Some (payload, end) ≡ frame_from start found → Found found start payload end
frame_found None start payload end e = found_there None start payload end e
frame_found (Some p) start payload end e = found_there (Some p) start payload end e

pub no_frame_found : (found : Option (List ℕ × ℕ)) (start : ℕ) → None ≡ frame_from start found → found ≡ None
no_frame_found None start e = refl
no_frame_found (Some p) start e = absurd (none-some (p.0, start + p.1) e)

-- a frame that was found begins where it was looked for
pub begins : (bytes : List ℕ) (start : ℕ) (frame : List ℕ × ℕ) → start ≤ length bytes → frame_at (drop start bytes) ≡ Some frame → Begins bytes start
begins bytes start frame within is = record { within = within; whole = subst IsSome (sym is) refl }

-- the frame whose payload has `len` bytes behind its prefix
pub frame_read : (bytes : List ℕ) (start len at : ℕ) → Some (len, at) ≡ found_from start (varint_at length_bytes (drop start bytes)) → len < 2 ^ 31 → at + len ≤ length bytes → Some (take (at + len - at) (drop at bytes), at + len) ≡ frame_from start (frame_at (drop start bytes))
frame_read bytes start len at read short fits =
    let s = drop start bytes in
    let prefix = varint_found (varint_at length_bytes s) start len at read in
    let ends = prefix.end_is in
    let inside : prefix.bytes + len ≤ length s = omega (arith, length-drop start bytes, ends, fits) in
    let same_len : at + len - at ≡ len = omega arith in
    let same_place : drop at bytes ≡ drop prefix.bytes s = ap (λ k. drop k bytes) ends ∙ sym (drop-drop prefix.bytes start bytes) in
    let payload : take (at + len - at) (drop at bytes) ≡ take len (drop prefix.bytes s) = ap (λ k. take k (drop at bytes)) same_len ∙ ap (take len) same_place in
    let wrap : List ℕ → Option (List ℕ × ℕ) = λ p. Some (p, at + len) in
    let there : at + len ≡ start + (prefix.bytes + len) = omega (arith, ends) in
    ap wrap payload
    ∙ (ap (λ k. Some (take len (drop prefix.bytes s), k)) there
    ∙ sym (ap (frame_from start) (frame_at_whole s len prefix.bytes prefix.is short inside)))

-- what the frames before make of the frames behind them
pub after : List (List ℕ) → Result (List (List ℕ)) ℕ → Result (List (List ℕ)) ℕ
after [] r = r
after (payload ∷ payloads) r = behind payload (after payloads r)

after_push : (payloads : List (List ℕ)) (payload : List ℕ) (r : Result (List (List ℕ)) ℕ) → after (payloads ++ payload ∷ []) r ≡ after payloads (behind payload r)
unfolding after
after_push [] payload r = refl
after_push (first ∷ payloads) payload r = ap (behind first) (after_push payloads payload r)

after_ok : (payloads others : List (List ℕ)) → after payloads (Ok others) ≡ Ok (payloads ++ others)
unfolding after
after_ok [] others = refl
after_ok (first ∷ payloads) others = ap (behind first) (after_ok payloads others)

after_err : (payloads : List (List ℕ)) (cut : ℕ) → after payloads (Err cut) ≡ Err (length payloads + cut)
unfolding after
after_err [] cut = let none : cut ≡ 0 + cut = omega arith in ap Err none
after_err (first ∷ payloads) cut = let one : suc (length payloads + cut) ≡ suc (length payloads) + cut = omega arith in ap (behind first) (after_err payloads cut) ∙ ap Err one

-- where a reader of frames stands: these payloads lie before the place
abbrev pub ReadTo : List ℕ → ℕ → List (List ℕ) → Type 0
ReadTo bytes at payloads = after payloads (frames_of (drop at bytes)) ≡ frames_of bytes

pub read_none : (bytes : List ℕ) → ReadTo bytes 0 []
unfolding after
read_none bytes = refl

pub read_frame : (bytes : List ℕ) (at n : ℕ) (payloads : List (List ℕ)) (payload : List ℕ) → ReadTo bytes at payloads → at < length bytes → frame_at (drop at bytes) ≡ Some (payload, n) → ReadTo bytes (at + n) (payloads ++ payload ∷ [])
read_frame bytes at n payloads payload so_far more e =
    after_push payloads payload (frames_of (drop (at + n) bytes))
    ∙ (ap (after payloads) (sym (frames_more bytes at payload n more e)) ∙ so_far)

-- the frame at the place is cut
pub read_cut : (bytes : List ℕ) (at n : ℕ) (payloads : List (List ℕ)) → ReadTo bytes at payloads → at < length bytes → frame_at (drop at bytes) ≡ None → length payloads ≡ n → n < 2 ^ 20 → answer_of bytes ≡ Err (FrameCut n)
read_cut bytes at n payloads so_far more e count few =
    let here : length payloads + 0 ≡ n = omega (arith, count) in
    ap answer_from (sym so_far ∙ (ap (after payloads) (frames_cut bytes at more e) ∙ (after_err payloads 0 ∙ ap Err here)))
    ∙ cond-true (ltb n most_frames) _ _ (lt-ltb n (2 ^ 20) few)

many_whole : (payloads : List (List ℕ)) → 2 ^ 20 < length payloads → answer_from (Ok payloads) ≡ Err TooManyFrames
many_whole payloads many = cond-false (leb (length payloads) most_frames) _ _ (lt-leb (length payloads) most_frames many)

many_cut : (cut : ℕ) → 2 ^ 20 ≤ cut → answer_from (Err cut) ≡ Err TooManyFrames
many_cut cut many = cond-false (ltb cut most_frames) _ _ (le-ltb cut most_frames many)

many_behind : (payloads : List (List ℕ)) (payload : List ℕ) (r : Result (List (List ℕ)) ℕ) → 2 ^ 20 ≤ length payloads → answer_from (after payloads (behind payload r)) ≡ Err TooManyFrames
many_behind payloads payload (Ok others) many =
    ap answer_from (after_ok payloads (payload ∷ others)) ∙ many_whole (payloads ++ payload ∷ others) (omega (arith, many, length-append payloads (payload ∷ others)))
many_behind payloads payload (Err cut) many = ap answer_from (after_err payloads (suc cut)) ∙ many_cut (length payloads + suc cut) (omega (arith, many))

-- as many frames as are taken are whole, and bytes follow
pub read_many : (bytes : List ℕ) (at : ℕ) (payloads : List (List ℕ)) → ReadTo bytes at payloads → at < length bytes → 2 ^ 20 ≤ length payloads → answer_of bytes ≡ Err TooManyFrames
read_many bytes at payloads so_far more many =
    ap answer_from (sym so_far)
    ∙ ⊎_elim
    (λ none.
    let here : length payloads + 0 ≡ length payloads = omega arith in
    ap (λ r. answer_from (after payloads r)) (frames_cut bytes at more none) ∙ (ap answer_from (after_err payloads 0) ∙ many_cut (length payloads + 0) (omega (arith, many))))
    (λ some. ap (λ r. answer_from (after payloads r)) (frames_more bytes at some.0.0 some.0.1 more some.1) ∙ many_behind payloads some.0.0 (frames_of (drop (at + some.0.1) bytes)) many)
    (cases_option (frame_at (drop at bytes)))

-- no bytes are left
pub read_all : (bytes : List ℕ) (at : ℕ) (payloads : List (List ℕ)) → ReadTo bytes at payloads → length bytes ≤ at → length payloads ≤ 2 ^ 20 → answer_of bytes ≡ Ok payloads
read_all bytes at payloads so_far past few =
    ap answer_from (sym so_far ∙ (ap (after payloads) (frames_end bytes at past) ∙ (after_ok payloads [] ∙ ap Ok (append-nil payloads))))
    ∙ cond-true (leb (length payloads) most_frames) _ _ (le-leb (length payloads) (2 ^ 20) few)

-- WHAT FOLLOWS EACH FRAME

-- so far: what is cut from the start of each frame on are those that start there or behind it, and then what is cut from the place on
abbrev pub FollowTo : List ℕ → ℕ → List ℕ → Type 0
FollowTo bytes at starts = (index : ℕ) → index < length starts → after (payloads_at bytes (drop index starts)) (frames_of (drop at bytes)) ≡ frames_of (drop (get_or starts index 0) bytes)

pub follow_none : (bytes starts : List ℕ) → starts ≡ [] → FollowTo bytes 0 starts
follow_none bytes starts none = λ index h. absurd (omega (arith, h, ap length none))

pub follow_more : (bytes : List ℕ) (at n : ℕ) (starts payload : List ℕ) → FollowTo bytes at starts → at < length bytes → frame_at (drop at bytes) ≡ Some (payload, n) → FollowTo bytes (at + n) (starts ++ at ∷ [])
unfolding after
follow_more bytes at n starts payload so_far more e = λ index h. ⊎_elim (earlier index) (newest index h) (cases_lt index (length starts))
  where
    last : payload_at bytes at ≡ payload
    last = ap payload_of e

    earlier : (index : ℕ) → index < length starts → after (payloads_at bytes (drop index (starts ++ at ∷ []))) (frames_of (drop (at + n) bytes)) ≡ frames_of (drop (get_or (starts ++ at ∷ []) index 0) bytes)
    earlier index h =
        let before = payloads_at bytes (drop index starts) in
        ap (λ xs. after (payloads_at bytes xs) (frames_of (drop (at + n) bytes))) (drop-append-le index starts (at ∷ []) (omega (arith, h)))
        ∙ ap (λ ps. after ps (frames_of (drop (at + n) bytes))) (map-append (payload_at bytes) (drop index starts) (at ∷ []) ∙ ap (λ p. before ++ p ∷ []) last)
        ∙ after_push before payload (frames_of (drop (at + n) bytes)) ∙ ap (after before) (sym (frames_more bytes at payload n more e)) ∙ so_far index h
        ∙ ap (λ k. frames_of (drop k bytes)) (sym (get_or-append starts (at ∷ []) 0 index h))

    newest : (index : ℕ) → index < length (starts ++ at ∷ []) → length starts ≤ index → after (payloads_at bytes (drop index (starts ++ at ∷ []))) (frames_of (drop (at + n) bytes)) ≡ frames_of (drop (get_or (starts ++ at ∷ []) index 0) bytes)
    newest index h past =
        let is : index ≡ length starts = omega (arith, h, past, length-append starts (at ∷ [])) in
        ap (λ k. after (payloads_at bytes (drop k (starts ++ at ∷ []))) (frames_of (drop (at + n) bytes))) is
        ∙ ap (λ xs. after (payloads_at bytes xs) (frames_of (drop (at + n) bytes))) (drop-append_seam starts (at ∷ []))
        ∙ ap (λ p. behind p (frames_of (drop (at + n) bytes))) last ∙ sym (frames_more bytes at payload n more e)
        ∙ ap (λ k. frames_of (drop k bytes)) (sym (ap (λ k. get_or (starts ++ at ∷ []) k 0) is ∙ get_or-append_seam starts at [] 0))

pub follow_all : (bytes : List ℕ) (at : ℕ) (starts : List ℕ) → FollowTo bytes at starts → length bytes ≤ at → AllFollow bytes starts
follow_all bytes at starts so_far past = λ index h.
    let ps = payloads_at bytes (drop index starts) in
    sym (so_far index h) ∙ ap (after ps) (frames_end bytes at past) ∙ after_ok ps [] ∙ ap Ok (append-nil ps)

-- the frames behind the first of some frames
rest_of_behind : (p q : List ℕ) (r : Result (List (List ℕ)) ℕ) (ps : List (List ℕ)) → behind p r ≡ Ok (q ∷ ps) → r ≡ Ok ps
rest_of_behind p q (Ok others) ps e = ap Ok (same_cons p q others ps (same_ok (p ∷ others) (q ∷ ps) e)).1
rest_of_behind p q (Err cut) ps e = not_ok (suc cut) (q ∷ ps) e

pub follow_frame : (bytes starts : List ℕ) (index end : ℕ) (payload : List ℕ) → AllFollow bytes starts → index < length starts
    → Some (payload, end) ≡ frame_from (get_or starts index 0) (frame_at (drop (get_or starts index 0) bytes)) → frames_of (drop end bytes) ≡ Ok (drop (index + 1) (payloads_at bytes starts))
follow_frame bytes starts index end payload follow inside e =
    let start = get_or starts index 0 in
    let there = frame_found (frame_at (drop start bytes)) start payload end e in
    let size = frame_at_within (drop start bytes) payload there.bytes there.is in
    let whole =
    sym (frames_more bytes start payload there.bytes (omega (arith, size, length-drop start bytes)) there.is) ∙ follow index inside ∙ ap (λ xs. Ok (payloads_at bytes xs)) (drop_more starts index 0 inside) in
    ap (λ k. frames_of (drop k bytes)) there.end_is ∙ rest_of_behind payload (payload_at bytes start) (frames_of (drop (start + there.bytes) bytes)) (payloads_at bytes (drop (index + 1) starts)) whole
    ∙ ap Ok (sym (drop-map (payload_at bytes) (index + 1) starts))
