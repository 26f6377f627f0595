-- What a sink took and what is gathered for it, piece by piece.
use Rattle.std.proofs.Common.{◌≡◌, ℕ, List, [], ◌++◌, Option, None, Some, refl, sym, ap, ◌∙◌, append_assoc, append-nil, arith}
use Rattle.std.specs.Io.KnownBytes.{Appends, append_known}
use Rattle.std.proofs.KnownBytes.{Appends-trans, Keeps-refl, append_known-grown}
use Rattle.arena_mem.specs.Outside.{TookPart, KeepsTaken, Gathers}
use Rattle.pb_write.proofs.Taken.{part_handed_over}

pub KeepsTaken-refl : (a : Option (List ℕ)) → KeepsTaken a a
KeepsTaken-refl None = tt
KeepsTaken-refl (Some x) = omega arith

-- bytes are put behind what is gathered
pub gathered_behind : (a : Option (List ℕ)) (before now bytes : List ℕ) → now ≡ before ++ bytes → Gathers a before a now bytes
gathered_behind a before now bytes is = append_known-grown (append_known a before) a before now bytes (Keeps-refl (append_known a before)) is

-- what was gathered is handed over, and then the bytes are
pub gathered_none : (a b c : Option (List ℕ)) (before now bytes : List ℕ) → Appends a b before → Appends b c bytes → now ≡ [] → Gathers a before c now bytes
gathered_none None b c before now bytes given passed is = tt
gathered_none (Some x) None c before now bytes given passed is = absurd given
gathered_none (Some x) (Some y) None before now bytes given passed is = absurd passed
gathered_none (Some x) (Some y) (Some z) before now bytes given passed is = ap (λ l. z ++ l) is ∙ append-nil z ∙ passed ∙ ap (λ l. l ++ bytes) given

-- two pieces, one behind the other
pub gathered_two : (a b c : Option (List ℕ)) (before middle now first second whole : List ℕ) → Gathers a before b middle first → Gathers b middle c now second → whole ≡ first ++ second → Gathers a before c now whole
gathered_two a b c before middle now first second whole one two is = Appends-whole (append_known a before) (append_known c now) (first ++ second) whole (Appends-trans (append_known a before) (append_known b middle) (append_known c now) first second one two) is
  where
    Appends-whole : (p q : Option (List ℕ)) (xs ys : List ℕ) → Appends p q xs → ys ≡ xs → Appends p q ys
    Appends-whole None q xs ys given same = tt
    Appends-whole (Some p) None xs ys given same = given
    Appends-whole (Some p) (Some q) xs ys given same = given ∙ ap (λ l. p ++ l) (sym same)

-- WHERE THE SINK FAILED

-- a front of what is gathered is one of what was to be written
pub part_of_more : (a b : Option (List ℕ)) (piece rest whole : List ℕ) → TookPart a b piece → whole ≡ piece ++ rest → TookPart a b whole
part_of_more a b piece rest whole part is = part_handed_over a a b piece piece rest whole (KeepsTaken-refl a) (is_all a piece) part is
  where
    is_all : (o : Option (List ℕ)) (xs : List ℕ) → Appends o (append_known o xs) xs
    is_all None xs = tt
    is_all (Some x) xs = refl

-- a front of the second piece, behind the first
pub part_behind : (a b c : Option (List ℕ)) (before middle first second whole : List ℕ) → KeepsTaken a b → Gathers a before b middle first → TookPart b c (middle ++ second) → whole ≡ before ++ (first ++ second) → TookPart a c whole
part_behind a b c before middle first second whole longer one part is = part_handed_over a b c (middle ++ second) whole [] whole longer (so_far a b longer one) part (sym (append-nil whole))
  where
    so_far : (p q : Option (List ℕ)) → KeepsTaken p q → Gathers p before q middle first → Appends p (append_known q (middle ++ second)) whole
    so_far None q kept given = tt
    so_far (Some x) None kept given = absurd kept
    so_far (Some x) (Some y) kept given =
        sym (append_assoc y middle second) ∙ ap (λ l. l ++ second) (given ∙ append_assoc x before first) ∙ append_assoc x (before ++ first) second
        ∙ ap (λ l. x ++ l) (append_assoc before first second ∙ sym is)

-- a front of the bytes, which go to the sink behind all that was gathered
pub part_passed : (a b c : Option (List ℕ)) (before bytes whole : List ℕ) → KeepsTaken a b → Appends a b before → TookPart b c bytes → whole ≡ before ++ bytes → TookPart a c whole
part_passed a b c before bytes whole longer given part is = part_handed_over a b c bytes whole [] whole longer (so_far a b longer given) part (sym (append-nil whole))
  where
    so_far : (p q : Option (List ℕ)) → KeepsTaken p q → Appends p q before → Appends p (append_known q bytes) whole
    so_far None q kept handed = tt
    so_far (Some x) None kept handed = absurd kept
    so_far (Some x) (Some y) kept handed = ap (λ l. l ++ bytes) handed ∙ append_assoc x before bytes ∙ ap (λ l. x ++ l) (sym is)
