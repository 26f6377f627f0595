-- Laws of frames: one list of payloads, found exactly, and the cut index.
use Rattle.std.proofs.Common.{◌≡◌, ◌≢◌, ◌⊎◌, ℕ, zero, suc, ◌+◌, ◌^◌, ◌<◌, ◌≤◌, List, [], ◌∷◌, ◌++◌, length, take, drop, Option, None, Some, Result, Ok, Err, refl, sym, ap, ◌∙◌, subst, inl, inr, ⊎_elim, arith, length-append, length-drop, length-take-le, take-append-drop, drop-drop, append_assoc, append-nil, is_ok}
use Rattle.std.proofs.lemmas.List.{take_at, drop_at}
use Rattle.std.proofs.lemmas.Option.{none-some}
use Rattle.std.proofs.lemmas.Bool.{false≢true}
use Rattle.pb_schema.specs.Varint.{Varint, varint_at, tag_bytes}
use Rattle.pb_schema.specs.Frames.{Frames, frame_at, behind, frames_of}
use Rattle.pb_schema.proofs.Steps.{frame_at_parts, frame_at_whole, frames_more, frames_cut}
use Rattle.pb_schema.proofs.VarintLaws.{varint_at_front, varint_at_found, same_cons}

pub cases_option : {A : Type 0} (o : Option A) → (o ≡ None) ⊎ ((x : A) × (o ≡ Some x))
cases_option None = inl refl
cases_option (Some x) = inr (x, refl)

-- a list begins with what it is cut into
pub cut_twice : (s : List ℕ) (n m : ℕ) → s ≡ take n s ++ (take m (drop n s) ++ drop (n + m) s)
cut_twice s n m =
    sym (take-append-drop n s)
    ∙ ap (λ r. take n s ++ r) (sym (take-append-drop m (drop n s)) ∙ ap (λ r. take m (drop n s) ++ r) (drop-drop m n s))

pub drop_two : (s t u : List ℕ) → drop (length s + length t) (s ++ (t ++ u)) ≡ u
drop_two s t u = ap (drop (length s + length t)) (sym (append_assoc s t u)) ∙ drop_at (s ++ t) u (length s + length t) (length-append s t)

-- no frame stands at the front
abbrev pub NoFrame : List ℕ → Type 0
NoFrame s = (prefix payload tail : List ℕ) → s ≡ prefix ++ (payload ++ tail) → Varint prefix tag_bytes (length payload) → length payload < 2 ^ 31 → ⊥

-- a frame that stands at the front is found, whatever follows
frame_at_front : (s prefix payload rest : List ℕ) → s ≡ prefix ++ (payload ++ rest) → Varint prefix tag_bytes (length payload) → length payload < 2 ^ 31 → frame_at s ≡ Some (payload, length prefix + length payload)
frame_at_front s prefix payload rest e p short =
    let there : varint_at tag_bytes s ≡ Some (length payload, length prefix) = ap (varint_at tag_bytes) e ∙ varint_at_front tag_bytes prefix (payload ++ rest) (length payload) p in
    let size : length prefix + length payload ≤ length s = omega (arith, ap length e, length-append prefix (payload ++ rest), length-append payload rest) in
    let behind_prefix : drop (length prefix) s ≡ payload ++ rest = ap (drop (length prefix)) e ∙ drop_at prefix (payload ++ rest) (length prefix) refl in
    frame_at_whole s (length payload) (length prefix) there short size
    ∙ ap (λ r. Some (r, length prefix + length payload)) (ap (take (length payload)) behind_prefix ∙ take_at payload rest (length payload) refl)

-- what is found is a frame
record FrameFound (s payload : List ℕ) (n : ℕ) : Type 0 where
  prefix : List ℕ
  cut : s ≡ prefix ++ (payload ++ drop n s)
  tells : Varint prefix tag_bytes (length payload)
  short : length payload < 2 ^ 31

frame_found : (s payload : List ℕ) (n : ℕ) → frame_at s ≡ Some (payload, n) → FrameFound s payload n
frame_found s payload n e =
    let parts = frame_at_parts s payload n e in
    let found = varint_at_found tag_bytes s parts.len parts.prefix_bytes parts.prefix in
    let size : length payload ≡ parts.len = ap length parts.payload_is ∙ length-take-le parts.len (drop parts.prefix_bytes s) (omega (arith, parts.fits, length-drop parts.prefix_bytes s)) in
    record {
      prefix = take parts.prefix_bytes s;
      cut =
          cut_twice s parts.prefix_bytes parts.len
          ∙ ap (λ r. take parts.prefix_bytes s ++ r) (ap (λ r. r ++ drop (parts.prefix_bytes + parts.len) s) (sym parts.payload_is) ∙ ap (λ k. payload ++ drop k s) (sym parts.bytes));
      tells = subst (Varint (take parts.prefix_bytes s) tag_bytes) (sym size) found.1;
      short = omega (arith, size, parts.short);
    }

-- the payloads of bytes that begin with a frame
frames_of_more : (s payload : List ℕ) (n : ℕ) → (s ≢ []) → frame_at s ≡ Some (payload, n) → frames_of s ≡ behind payload (frames_of (drop n s))
frames_of_more [] payload n ne e = absurd (ne refl)
frames_of_more (b ∷ s) payload n ne e = frames_more (b ∷ s) 0 payload n (omega arith) e ∙ ap (λ k. behind payload (frames_of (drop k (b ∷ s)))) zeroth
  where
    zeroth : 0 + n ≡ n
    zeroth = omega arith

frames_of_none : (s : List ℕ) → (s ≢ []) → frame_at s ≡ None → frames_of s ≡ Err 0
frames_of_none [] ne e = absurd (ne refl)
frames_of_none (b ∷ s) ne e = frames_cut (b ∷ s) 0 (omega arith) e

not_empty : (s prefix payload rest : List ℕ) → s ≡ prefix ++ (payload ++ rest) → Varint prefix tag_bytes (length payload) → s ≢ []
not_empty s [] payload rest e p empty = p.continued
not_empty s (b ∷ prefix) payload rest e p empty = absurd (omega (arith, ap length (sym e ∙ empty)))

-- the payloads, or the whole frames before the cut, of frames in front of other bytes
behind_all : List (List ℕ) → Result (List (List ℕ)) ℕ → Result (List (List ℕ)) ℕ
behind_all [] r = r
behind_all (payload ∷ payloads) r = behind payload (behind_all payloads r)

behind_all-ok : (payloads : List (List ℕ)) → behind_all payloads (Ok []) ≡ Ok payloads
unfolding behind_all
behind_all-ok [] = refl
behind_all-ok (payload ∷ payloads) = ap (behind payload) (behind_all-ok payloads)

behind_all-err : (payloads : List (List ℕ)) → behind_all payloads (Err 0) ≡ Err (length payloads)
unfolding behind_all
behind_all-err [] = refl
behind_all-err (payload ∷ payloads) = ap (behind payload) (behind_all-err payloads)

-- what a frame makes of the bytes behind it
frames_of_frame : (s payload : List ℕ) (n : ℕ) → (s ≢ []) → frame_at s ≡ Some (payload, n) → (rest : List ℕ) → drop n s ≡ rest → frames_of s ≡ behind payload (frames_of rest)
frames_of_frame s payload n ne e rest is = frames_of_more s payload n ne e ∙ ap (λ r. behind payload (frames_of r)) is

frames_of_after : (s rest : List ℕ) (payloads : List (List ℕ)) → Frames s payloads → frames_of (s ++ rest) ≡ behind_all payloads (frames_of rest)
unfolding behind_all
frames_of_after s rest [] p = ap (λ x. frames_of (x ++ rest)) p
frames_of_after s rest (payload ∷ payloads) p =
    let prefix = p.0 in
    let tail = p.1 in
    let whole : s ++ rest ≡ prefix ++ (payload ++ (tail ++ rest)) =
    ap (λ x. x ++ rest) p.2 ∙ (append_assoc prefix (payload ++ tail) rest ∙ ap (λ x. prefix ++ x) (append_assoc payload tail rest)) in
    frames_of_frame (s ++ rest) payload (length prefix + length payload)
    (not_empty (s ++ rest) prefix payload (tail ++ rest) whole p.3)
    (frame_at_front (s ++ rest) prefix payload (tail ++ rest) whole p.3 p.4)
    (tail ++ rest) (ap (drop (length prefix + length payload)) whole ∙ drop_two prefix payload (tail ++ rest))
    ∙ ap (behind payload) (frames_of_after tail rest payloads p.5)

-- the payloads of frames are found
pub frames_of_frames : (s : List ℕ) (payloads : List (List ℕ)) → Frames s payloads → frames_of s ≡ Ok payloads
frames_of_frames s payloads p = ap frames_of (sym (append-nil s)) ∙ (frames_of_after s [] payloads p ∙ behind_all-ok payloads)

err-ok : {A E : Type 0} (e : E) (x : A) → ◌≡◌ {A = Result A E} (Err e) (Ok x) → ⊥
err-ok e x h = false≢true (ap is_ok h)

same_Ok : {A E : Type 0} {x y : A} → ◌≡◌ {A = Result A E} (Ok x) (Ok y) → x ≡ y
same_Ok e = cc

same_Err : {A E : Type 0} {x y : E} → ◌≡◌ {A = Result A E} (Err x) (Err y) → x ≡ y
same_Err e = cc

behind_ok : (payload : List ℕ) (r : Result (List (List ℕ)) ℕ) (payloads : List (List ℕ)) → behind payload r ≡ Ok payloads → (rest : List (List ℕ)) × (payload ∷ rest ≡ payloads) × (r ≡ Ok rest)
behind_ok payload (Ok rest) payloads e = (rest, same_Ok e, refl)
behind_ok payload (Err cut) payloads e = absurd (err-ok (suc cut) payloads e)

behind_err : (payload : List ℕ) (r : Result (List (List ℕ)) ℕ) (n : ℕ) → behind payload r ≡ Err n → (cut : ℕ) × (suc cut ≡ n) × (r ≡ Err cut)
behind_err payload (Ok rest) n e = absurd (err-ok n (payload ∷ rest) (sym e))
behind_err payload (Err cut) n e = (cut, same_Err e, refl)

pub not_nil : {A : Type 0} (a : A) (s : List A) → (a ∷ s) ≢ []
not_nil a s e = absurd (omega (arith, ap length e))

-- what stands at the front of bytes
record FrameMore (s : List ℕ) : Type 0 where
  payload : List ℕ
  n : ℕ
  found : FrameFound s payload n
  more : frames_of s ≡ behind payload (frames_of (drop n s))

front_cases : (s : List ℕ) → (s ≢ []) → ((frame_at s ≡ None) × (frames_of s ≡ Err 0)) ⊎ FrameMore s
front_cases s ne =
    ⊎_elim
    (λ none. inl (none, frames_of_none s ne none))
    (λ some. inr (record { payload = some.0.0; n = some.0.1; found = frame_found s some.0.0 some.0.1 some.1; more = frames_of_more s some.0.0 some.0.1 ne some.1 }))
    (cases_option (frame_at s))

-- the payloads that are found are those of frames
pub frames_found : (payloads : List (List ℕ)) (s : List ℕ) → frames_of s ≡ Ok payloads → Frames s payloads
frames_found [] [] e = refl
frames_found [] (b ∷ s) e =
    ⊎_elim
    (λ none. absurd (err-ok 0 [] (sym none.1 ∙ e)))
    (λ front. let there = behind_ok front.payload (frames_of (drop front.n (b ∷ s))) [] (sym front.more ∙ e) in absurd (not_nil front.payload there.0 there.1))
    (front_cases (b ∷ s) (not_nil b s))
frames_found (payload ∷ payloads) [] e = absurd (not_nil payload payloads (sym (same_Ok e)))
frames_found (payload ∷ payloads) (b ∷ s) e =
    ⊎_elim
    (λ none. absurd (err-ok 0 (payload ∷ payloads) (sym none.1 ∙ e)))
    (λ front.
    let there = behind_ok front.payload (frames_of (drop front.n (b ∷ s))) (payload ∷ payloads) (sym front.more ∙ e) in
    let same = same_cons front.payload payload there.0 payloads there.1 in
    let found : FrameFound (b ∷ s) payload front.n = subst (λ x. FrameFound (b ∷ s) x front.n) same.0 front.found in
    (found.prefix, drop front.n (b ∷ s), found.cut, found.tells, found.short, frames_found payloads (drop front.n (b ∷ s)) (there.2 ∙ ap Ok same.1)))
    (front_cases (b ∷ s) (not_nil b s))

pub one_framing : (s : List ℕ) (ps qs : List (List ℕ)) → Frames s ps → Frames s qs → ps ≡ qs
one_framing s ps qs p q = same_Ok (sym (frames_of_frames s ps p) ∙ frames_of_frames s qs q)

no_frame : (s : List ℕ) → frame_at s ≡ None → NoFrame s
no_frame s e prefix payload tail cut tells short = absurd (none-some (payload, length prefix + length payload) (sym e ∙ frame_at_front s prefix payload tail cut tells short))

-- where the bytes are cut: whole frames, and then bytes at whose front none stands
abbrev pub CutAt : List ℕ → ℕ → Type 0
CutAt s n = (front : List ℕ) × (rest : List ℕ) × (payloads : List (List ℕ)) × (s ≡ front ++ rest) × Frames front payloads × (length payloads ≡ n) × (rest ≢ []) × NoFrame rest

cut_behind : (s payload : List ℕ) (k n : ℕ) → FrameFound s payload k → CutAt (drop k s) n → CutAt s (suc n)
cut_behind s payload k n found c =
    let front = found.prefix ++ (payload ++ c.0) in
    let whole : s ≡ front ++ c.1 =
    found.cut
    ∙ (ap (λ x. found.prefix ++ (payload ++ x)) c.3
    ∙ sym (append_assoc found.prefix (payload ++ c.0) c.1 ∙ ap (λ x. found.prefix ++ x) (append_assoc payload c.0 c.1))) in
    (front, c.1, payload ∷ c.2, whole, (found.prefix, c.0, refl, found.tells, found.short, c.4), ap suc c.5, c.6, c.7)

pub cut_found : (n : ℕ) (s : List ℕ) → frames_of s ≡ Err n → CutAt s n
cut_found n [] e = absurd (err-ok n [] (sym e))
cut_found zero (b ∷ s) e =
    ⊎_elim
    (λ none. ([], b ∷ s, [], refl, refl, refl, not_nil b s, no_frame (b ∷ s) none.0))
    (λ front. let there = behind_err front.payload (frames_of (drop front.n (b ∷ s))) 0 (sym front.more ∙ e) in absurd (omega (arith, there.1)))
    (front_cases (b ∷ s) (not_nil b s))
cut_found (suc n) (b ∷ s) e =
    ⊎_elim
    (λ none. absurd (omega (arith, same_Err (sym none.1 ∙ e))))
    (λ front.
    let there = behind_err front.payload (frames_of (drop front.n (b ∷ s))) (suc n) (sym front.more ∙ e) in
    let same : there.0 ≡ n = omega (arith, there.1) in
    cut_behind (b ∷ s) front.payload front.n n front.found (cut_found n (drop front.n (b ∷ s)) (there.2 ∙ ap Err same)))
    (front_cases (b ∷ s) (not_nil b s))

pub cut_exact : (n : ℕ) (s : List ℕ) → CutAt s n → frames_of s ≡ Err n
cut_exact n s c =
    let here : frames_of c.1 ≡ Err 0 =
    ⊎_elim
    (λ none. none.1)
    (λ front. absurd (c.7 front.found.prefix front.payload (drop front.n c.1) front.found.cut front.found.tells front.found.short))
    (front_cases c.1 c.6) in
    ap frames_of c.3
    ∙ (frames_of_after c.0 c.1 c.2 c.4
    ∙ (ap (behind_all c.2) here
    ∙ (behind_all-err c.2 ∙ ap Err c.5)))
