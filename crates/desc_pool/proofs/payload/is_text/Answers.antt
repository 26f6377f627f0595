use Rattle.std.proofs.Common.{◌≡◌, Bool, true, false, refl, sym, List, ℕ}
use Rattle.std.specs.Str.{IsUtf8, is_utf8}
use Rattle.std.proofs.lemmas.Str.{IsUtf8-from_is_utf8, is_utf8-from_IsUtf8}
use Rattle.desc_pool.proofs.payload.is_text.Goals as goal

no_text : (s : List ℕ) → (IsUtf8 s → ⊥) → is_utf8 s ≡ false
no_text s never = cases (is_utf8 s) refl
  where
    cases : (t : Bool) → is_utf8 s ≡ t → t ≡ false
    cases false e = refl
    cases true e = absurd (never (IsUtf8-from_is_utf8 s e))

pub returns-in-Ok : goal.returns-in-Ok
returns-in-Ok c = sym (is_utf8-from_IsUtf8 c.args.bytes.now c.in-Ok.ensures.cases.1)

pub returns-in-Err : goal.returns-in-Err
returns-in-Err c = sym (no_text c.args.bytes.now c.in-Err.ensures.cases.0)
