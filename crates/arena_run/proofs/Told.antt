-- How far the text of a fault is told.
use Rattle.std.proofs.Common.{◌≡◌, ◌+◌, ◌<◌, ◌≤◌, ℕ, List, [], ◌∷◌, ◌++◌, length, get_or, take, drop, Option, None, Some, Result, Ok, Err, refl, sym, ap, ◌∙◌, append_assoc, append-nil, take-append-drop, length-append, arith}
use Rattle.std.specs.Prelude.{OnOk, OnErr}
use Rattle.std.specs.Io.KnownBytes.{Appends, append_known}
use Rattle.std.proofs.lemmas.List.{take_more, take_all}
use Rattle.arena_mem.specs.declared.outside.Failed.{Failed}
use Rattle.arena_mem.specs.Outside.{HasCause, KeepsTaken, TookPart}
use Rattle.pb_write.proofs.Taken.{part_handed_over}
use Rattle.arena_run.specs.declared.fault.Fault.{Fault}
use Rattle.arena_run.specs.declared.tell.Piece.{Piece}
use Rattle.arena_run.specs.FaultTexts.{IsTold, TookFront, fault_text_of, piece_text, pieces_text}

-- PIECES

pieces_join : (xs ys : List Piece) → pieces_text (xs ++ ys) ≡ pieces_text xs ++ pieces_text ys
pieces_join [] ys = refl
pieces_join (x ∷ xs) ys = ap (λ s. piece_text x ++ s) (pieces_join xs ys) ∙ sym (append_assoc (piece_text x) (pieces_text xs) (pieces_text ys))

-- one piece more
pub pieces_more : (xs : List Piece) (i : ℕ) (d : Piece) → i < length xs → pieces_text (take (i + 1) xs) ≡ pieces_text (take i xs) ++ piece_text (get_or xs i d)
pieces_more xs i d within =
    ap pieces_text (take_more xs i d within) ∙ pieces_join (take i xs) (get_or xs i d ∷ []) ∙ ap (λ s. pieces_text (take i xs) ++ s) (append-nil (piece_text (get_or xs i d)))

-- those up to one, and those behind it
pub pieces_apart : (xs : List Piece) (i : ℕ) (d : Piece) → i < length xs → pieces_text xs ≡ (pieces_text (take i xs) ++ piece_text (get_or xs i d)) ++ pieces_text (drop (i + 1) xs)
pieces_apart xs i d within =
    ap pieces_text (sym (take-append-drop (i + 1) xs)) ∙ pieces_join (take (i + 1) xs) (drop (i + 1) xs) ∙ ap (λ s. s ++ pieces_text (drop (i + 1) xs)) (pieces_more xs i d within)

pub pieces_all : (xs : List Piece) (i : ℕ) → length xs ≤ i → pieces_text (take i xs) ≡ pieces_text xs
pieces_all xs i past = ap pieces_text (take_all i xs past)

-- WHAT A SINK TOOK

keeps : (a b : Option (List ℕ)) (s : List ℕ) → Appends a b s → KeepsTaken a b
keeps None b s p = tt
keeps (Some x) None s p = p
keeps (Some x) (Some y) s p = let size = ap length p ∙ length-append x s in omega (arith, size)

behind : (a b : Option (List ℕ)) (front piece : List ℕ) → Appends a b front → Appends a (append_known b piece) (front ++ piece)
behind None b front piece p = tt
behind (Some x) None front piece p = p
behind (Some x) (Some y) front piece p = ap (λ s. s ++ piece) p ∙ append_assoc x front piece

-- where a piece isn't taken whole, a front of all of them is, and not all
pub part_behind : (a b c : Option (List ℕ)) (front piece rest whole : List ℕ) → Appends a b front → TookPart b c piece → whole ≡ (front ++ piece) ++ rest → TookPart a c whole
part_behind a b c front piece rest whole p q e = part_handed_over a b c piece (front ++ piece) rest whole (keeps a b front p) (behind a b front piece p) q e

all_front : (was now : Option (List ℕ)) (text : List ℕ) → Appends was now text → TookFront was now text
all_front None now text p = tt
all_front (Some x) None text p = p
all_front (Some x) (Some y) text p = (length text, omega arith, p ∙ ap (λ s. x ++ s) (sym (take_all (length text) text (omega arith))))

part_front : (was now : Option (List ℕ)) (text : List ℕ) → TookPart was now text → TookFront was now text
part_front None now text p = tt
part_front (Some x) None text p = p
part_front (Some x) (Some y) text p = (p.0, omega (arith, p.1), p.2)

-- whatever the sink answered
pub is_told : (fault : Fault) (was now : Option (List ℕ)) (before after : ℕ) (r : Result (Unit {0}) Failed) → OnOk r (Appends was now (fault_text_of fault)) → OnErr r (TookPart was now (fault_text_of fault)) → HasCause before after r
    → IsTold fault was now before after
is_told fault was now before after (Ok v) ok err cause = record { whole = λ _. ok; front = all_front was now (fault_text_of fault) ok; counts = cause.never_falls }
is_told fault was now before after (Err e) ok err cause = record { whole = λ still. absurd (still cause.failed); front = part_front was now (fault_text_of fault) err; counts = cause.never_falls }
