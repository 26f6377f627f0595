-- Text that is written piece by piece, each behind the one before.
use Rattle.std.proofs.Common.{◌≡◌, ◌≤◌, ◌<◌, ◌^◌, ℕ, List, [], ◌++◌, length, Option, Result, Ok, Err, refl, sym, ap, ◌∙◌, subst, append_assoc, append-nil, length-append, arith}
use Rattle.std.specs.Prelude.{OnOk, OnErr}
use Rattle.std.specs.Io.KnownBytes.{Appends}
use Rattle.arena_mem.specs.declared.outside.Failed.{Failed}
use Rattle.arena_mem.specs.Outside.{TookPart, KeepsTaken, Gathers}
use Rattle.pb_write.specs.Writes.{Sends, Writes}
use Rattle.pb_write.proofs.Taken.{KeepsTaken-trans}
use Rattle.pb_write.proofs.Gathering.{gathered_none, gathered_two, gathered_behind, part_of_more, part_behind, part_passed}

-- what was gathered is handed over, and then the bytes are
pub passed_on : (a b c : Option (List ℕ)) (before after bytes : List ℕ) (r : Result (Unit {0}) Failed) → KeepsTaken a b → Appends a b before → OnOk r (Appends b c bytes) → OnErr r (TookPart b c bytes) → after ≡ [] → Writes a before c after r bytes
passed_on a b c before after bytes (Ok v) longer given ok err is = record { ok = gathered_none a b c before after bytes given ok is; err = tt }
passed_on a b c before after bytes (Err e) longer given ok err is = record { ok = tt; err = part_passed a b c before bytes (before ++ bytes) longer given err refl }

pub writes_nothing : (a : Option (List ℕ)) (before : List ℕ) → Gathers a before a before []
writes_nothing a before = gathered_behind a before before [] (sym (append-nil before))

-- the last of two pieces
pub writes_last : (a b c : Option (List ℕ)) (before middle after first second whole : List ℕ) (r : Result (Unit {0}) Failed) → KeepsTaken a b → Gathers a before b middle first → Writes b middle c after r second → whole ≡ first ++ second → Writes a before c after r whole
writes_last a b c before middle after first second whole (Ok v) longer one two is = record { ok = gathered_two a b c before middle after first second whole one two.ok is; err = tt }
writes_last a b c before middle after first second whole (Err e) longer one two is = record {
  ok = tt;
  err = part_behind a b c before middle first second (before ++ whole) longer one two.err (ap (λ l. before ++ l) is);
}

pub writes_same : (a b : Option (List ℕ)) (before after text whole : List ℕ) (r : Result (Unit {0}) Failed) → text ≡ whole → Writes a before b after r text → Writes a before b after r whole
writes_same a b before after text whole r is writes = subst (Writes a before b after r) is writes

-- the first of two pieces, where it failed
pub failed_first : (a b : Option (List ℕ)) (before first rest whole : List ℕ) → TookPart a b (before ++ first) → whole ≡ first ++ rest → TookPart a b (before ++ whole)
failed_first a b before first rest whole part is = part_of_more a b (before ++ first) rest (before ++ whole) part (ap (λ l. before ++ l) is ∙ sym (append_assoc before first rest))

-- the second of two pieces, where it failed, before a third
pub failed_next : (a b c : Option (List ℕ)) (before middle front first rest whole : List ℕ) → KeepsTaken a b → Gathers a before b middle front → TookPart b c (middle ++ first) → whole ≡ front ++ (first ++ rest) → TookPart a c (before ++ whole)
failed_next a b c before middle front first rest whole longer one part is =
    failed_first a c before (front ++ first) rest whole (part_behind a b c before middle front first (before ++ (front ++ first)) longer one part refl) (is ∙ sym (append_assoc front first rest))

-- HOW FAR A TEXT IS WRITTEN

-- the whole but for the rest is written
pub record IsWritten (was : Option (List ℕ)) (before : List ℕ) (now : Option (List ℕ)) (after whole rest : List ℕ) : Type 0 where
  pub front : List ℕ
  pub is : whole ≡ front ++ rest
  pub gathers : Gathers was before now after front

pub written_none : (a : Option (List ℕ)) (before whole : List ℕ) → IsWritten a before a before whole whole
written_none a before whole = record { front = []; is = refl; gathers = writes_nothing a before }

pub written_more : (a b c : Option (List ℕ)) (before middle after whole rest own later : List ℕ) → IsWritten a before b middle whole rest → rest ≡ own ++ later → Gathers b middle c after own → IsWritten a before c after whole later
written_more a b c before middle after whole rest own later so_far rest_is one = record {
  front = so_far.front ++ own;
  is = so_far.is ∙ ap (λ l. so_far.front ++ l) rest_is ∙ sym (append_assoc so_far.front own later);
  gathers = gathered_two a b c before middle after so_far.front own (so_far.front ++ own) so_far.gathers one refl;
}

pub written_failed : (a b c : Option (List ℕ)) (before middle whole rest own later : List ℕ) → KeepsTaken a b → IsWritten a before b middle whole rest → rest ≡ own ++ later → TookPart b c (middle ++ own) → TookPart a c (before ++ whole)
written_failed a b c before middle whole rest own later longer so_far rest_is part =
    failed_next a b c before middle so_far.front own later whole longer so_far.gathers part (so_far.is ∙ ap (λ l. so_far.front ++ l) rest_is)

pub written_last : (a b c : Option (List ℕ)) (before middle after whole rest own : List ℕ) (r : Result (Unit {0}) Failed) → KeepsTaken a b → IsWritten a before b middle whole rest → rest ≡ own → Writes b middle c after r own → Writes a before c after r whole
written_last a b c before middle after whole rest own r longer so_far rest_is last =
    writes_last a b c before middle after so_far.front own whole r longer so_far.gathers last (so_far.is ∙ ap (λ l. so_far.front ++ l) rest_is)

pub written_all : (a b : Option (List ℕ)) (before after whole rest : List ℕ) → IsWritten a before b after whole rest → rest ≡ [] → Gathers a before b after whole
written_all a b before after whole rest so_far none =
    gathered_two a a b before before after [] whole whole (writes_nothing a before) (all so_far) refl
  where
    all : IsWritten a before b after whole rest → Gathers a before b after whole
    all w = subst (λ l. Gathers a before b after l) (sym (w.is ∙ ap (λ l. w.front ++ l) none ∙ append-nil w.front)) w.gathers

pub piece_short : (a b : Option (List ℕ)) (before after whole rest own later : List ℕ) → IsWritten a before b after whole rest → rest ≡ own ++ later → length whole < 2 ^ 63 → length own < 2 ^ 63
piece_short a b before after whole rest own later so_far rest_is short =
    omega (arith, short, ap (λ (l : List ℕ). length l) so_far.is, length-append so_far.front rest, ap (λ (l : List ℕ). length l) rest_is, length-append own later)

-- FAILING

pub failed_with : (a b : Option (List ℕ)) (before after whole : List ℕ) (r : Result (Unit {0}) Failed) (e : Failed) → r ≡ Err e → TookPart a b (before ++ whole) → Writes a before b after r whole
failed_with a b before after whole r e is part = subst (λ q. Writes a before b after q whole) (sym is) (record { ok = tt; err = part })

pub sends_more : (a b c : Option (List ℕ)) (m n k : ℕ) (r q : Result (Unit {0}) Failed) (e : Failed) → KeepsTaken a b → m ≤ n → Sends b c n k (Err e) → r ≡ Err e → Sends a c m k r
sends_more a b c m n k r q e longer less sent is = subst (Sends a c m k) (sym is) (record {
  longer = KeepsTaken-trans a b c longer sent.longer;
  cause = record { never_falls = omega (arith, less, sent.cause.never_falls); failed = omega (arith, less, sent.cause.failed) };
})

-- WHAT IS IN A ROOM

pub room_put : (x y text : List ℕ) → x ≡ [] → ((s : List ℕ) → x ≡ s → length (text ++ s) < 2 ^ 63 → y ≡ text ++ s) → length text < 2 ^ 63 → y ≡ text
room_put x y text empty puts short =
    let whole = append-nil text in
    puts [] empty (omega (arith, short, ap (λ (s : List ℕ). length s) whole)) ∙ whole

-- THE LAST CALL

-- what is gathered is handed over last, and fails
pub part_at_last : (a b c : Option (List ℕ)) (before middle piece text : List ℕ) (r : Result (Unit {0}) Failed) → KeepsTaken a b → before ≡ [] → Gathers a before b middle text → piece ≡ middle → OnErr r (TookPart b c piece) → OnErr r (TookPart a c text)
part_at_last a b c before middle piece text (Ok v) longer none gathers is part = tt
part_at_last a b c before middle piece text (Err e) longer none gathers is part =
    part_behind a b c before middle text [] text longer gathers (subst (TookPart b c) (is ∙ sym (append-nil middle)) part) (sym (ap (λ l. l ++ (text ++ [])) none ∙ append-nil text))
