use Rattle.std.proofs.Common.{◌≡◌, ℕ, ◌-◌, List, Bool, true, false, Ok, refl, sym, ap, ◌∙◌, cond, take, drop, length, take_all, length-drop, arith}
use Rattle.std.specs.Str.{IsUtf8, is_utf8}
use Rattle.std.proofs.lemmas.Str.{IsUtf8-from_is_utf8, is_utf8-from_IsUtf8}
use Rattle.pb_schema.specs.declared.wire_fault.WireKind.TheVariants.{NotUtf8}
use Rattle.pb_schema.specs.Reads.{fault, fault_read}
use Rattle.pb_parse.proofs.exact.check_text.Goals as goal

no_text : (s : List ℕ) → (IsUtf8 s → ⊥) → is_utf8 s ≡ false
no_text s never = cases (is_utf8 s) refl
  where
    cases : (t : Bool) → is_utf8 s ≡ t → t ≡ false
    cases false e = refl
    cases true e = absurd (never (IsUtf8-from_is_utf8 s e))

-- a slice up to the end is all that is left
to_end : (bytes : List ℕ) (start : ℕ) → take (length bytes - start) (drop start bytes) ≡ drop start bytes
to_end bytes start = take_all (length bytes - start) (drop start bytes) (omega (arith, length-drop start bytes))

pub returns-in-Ok : goal.returns-in-Ok
returns-in-Ok c =
    let start = c.args.start in
    let bytes = c.args.bytes.now in
    let text : is_utf8 (drop start bytes) ≡ true = ap is_utf8 (sym (to_end bytes start)) ∙ is_utf8-from_IsUtf8 (take (length bytes - start) (drop start bytes)) c.in-Ok.ensures.cases.1 in
    sym (ap (λ t. fault_read (cond t (Ok start) (fault NotUtf8 start))) text)

pub returns-in-Err : goal.returns-in-Err
returns-in-Err c =
    let start = c.args.start in
    let bytes = c.args.bytes.now in
    let none : is_utf8 (drop start bytes) ≡ false = ap is_utf8 (sym (to_end bytes start)) ∙ no_text (take (length bytes - start) (drop start bytes)) c.in-Err.ensures.cases.0 in
    ap fault_read c.refuse.ensures ∙ sym (ap (λ t. fault_read (cond t (Ok start) (fault NotUtf8 start))) none)
