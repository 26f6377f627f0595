-- Payloads one behind the other: records without a fault in front are walked over, so that what stands behind them is read as it is; and the records of both are those of the first and then those of the second.
use Rattle.std.proofs.Common.{◌≡◌, ℕ, ◌+◌, ◌-◌, List, [], ◌∷◌, ◌++◌, length, drop, None, Ok, refl, sym, ap, ◌∙◌, subst, arith, length-append, append_assoc}
use Rattle.std.proofs.lemmas.List.{drop_at}
use Rattle.pb_schema.specs.declared.kind.FieldType.{FieldType}
use Rattle.pb_schema.specs.declared.schema.Schema.{Schema}
use Rattle.pb_schema.specs.Fits.{fields_of}
use Rattle.pb_schema.specs.Walk.{in_message, walk, walk_left, deeper_left}
use Rattle.pb_schema.specs.Records.{Record, AreRecords, RecordsWithin}
use Rattle.pb_schema.specs.Broken.{most_levels}
use Rattle.pb_schema.specs.Fault.{fault_of}
use Rattle.pb_schema.specs.TreeOf.{records_in, or_none}
use Rattle.pb_schema.proofs.WalkSteps.{walk_more, walk_left_is}
use Rattle.pb_schema.proofs.RecordsFront.{each_front, record_size, records_of_spans}
use Rattle.pb_schema.proofs.FaultLaws.{walk_ok}
use Rattle.pb_schema.proofs.Runs.{Each}
use Rattle.pb_schema.proofs.SoundRecords.{Holds, Sound, anywhere, typed_held, spans_join, walk_sound}
use Rattle.pb_schema.proofs.FittedLaws.{no_fault_sound, sound_records, sound_unbroken}

over : (schema : Schema) (left : ℕ) (fields : List FieldType) (rs : List Record) (at : ℕ) (x y : List ℕ) → RecordsWithin left x rs → Each (Holds schema left fields) rs → walk schema (deeper_left schema left) (in_message fields) at 0 (x ++ y) ≡ walk schema (deeper_left schema left) (in_message fields) (at + length x) 0 y
over schema left fields [] at x y are hold =
    let none : at ≡ at + length x = omega (arith, ap length are) in
    ap (λ s. walk schema (deeper_left schema left) (in_message fields) at 0 (s ++ y)) are ∙ ap (λ n. walk schema (deeper_left schema left) (in_message fields) n 0 y) none
over schema left fields (r ∷ rs) at x y are hold =
    let rest = are.0 in
    let s = x ++ y in
    let here : s ≡ r.span ++ (rest ++ y) = ap (λ t. t ++ y) are.2 ∙ append_assoc r.span rest y in
    let front = each_front left at s (rest ++ y) r are.1 here in
    let whole = front.whole in
    let held = typed_held schema left fields at s front.form whole (anywhere schema left) front.held (subst (Holds schema left fields) (sym front.is) hold.0) in
    let some = record_size left r are.1 in
    let behind : drop whole.size s ≡ rest ++ y = ap (λ n. drop n s) front.size ∙ (ap (drop (length r.span)) here ∙ drop_at r.span (rest ++ y) (length r.span) refl) in
    let size : length x ≡ length r.span + length rest = ap length are.2 ∙ length-append r.span rest in
    let end : at + whole.size + length rest ≡ at + length x = omega (arith, size, front.size) in
    walk_more schema (deeper_left schema left) (in_message fields) at s front.form whole front.form_is refl held (omega (arith, front.size, some)) (omega (arith, front.size, ap length here, length-append r.span (rest ++ y)))
    ∙ (ap (walk schema (deeper_left schema left) (in_message fields) (at + whole.size) 0) behind
    ∙ (over schema left fields rs (at + whole.size) rest y are.3 hold.1
    ∙ ap (λ n. walk schema (deeper_left schema left) (in_message fields) n 0 y) end))

-- sound bytes in front are walked over
pub walk_over : (schema : Schema) (left : ℕ) (fields : List FieldType) (at : ℕ) (x y : List ℕ) → Sound schema left fields x → walk schema (deeper_left schema left) (in_message fields) at 0 (x ++ y) ≡ walk schema (deeper_left schema left) (in_message fields) (at + length x) 0 y
walk_over schema left fields at x y p = over schema left fields p.rs at x y p.are p.hold

-- behind a payload without a fault nothing else makes a whole without one than another
pub fault_behind : (schema : Schema) (type_no depth : ℕ) (x y : List ℕ) → fault_of schema type_no depth x ≡ None → fault_of schema type_no depth (x ++ y) ≡ None → fault_of schema type_no depth y ≡ None
fault_behind schema type_no depth x y front whole =
    let left = most_levels - depth in
    let fields = fields_of schema type_no in
    let inside = in_message fields in
    let found = walk_ok (walk_left schema left 0 inside 0 (x ++ y)) whole in
    let read : walk schema (deeper_left schema left) inside (0 + length x) 0 y ≡ Ok found.0 =
    sym (walk_over schema left fields 0 x y (no_fault_sound schema type_no depth x front)) ∙ (sym (walk_left_is schema left 0 inside 0 (x ++ y)) ∙ found.1) in
    sound_unbroken schema type_no depth y (walk_sound schema left fields 0 (0 + length x) y found.0 read)

-- the records of both
pub records_join : (schema : Schema) (left : ℕ) (fields : List FieldType) (x y : List ℕ) → Sound schema left fields x → Sound schema left fields y → records_in left (x ++ y) ≡ records_in left x ++ records_in left y
records_join schema left fields x y p q =
    ap or_none (records_of_spans left (p.rs ++ q.rs) (x ++ y) (spans_join (AreRecords left) p.rs q.rs x y p.are q.are))
    ∙ (ap (λ rs. rs ++ q.rs) (sym (sound_records schema left fields x p)) ∙ ap (λ rs. records_in left x ++ rs) (sym (sound_records schema left fields y q)))

pub records_behind : (schema : Schema) (type_no depth : ℕ) (x y : List ℕ) → fault_of schema type_no depth x ≡ None → fault_of schema type_no depth (x ++ y) ≡ None → records_in (most_levels - depth) (x ++ y) ≡ records_in (most_levels - depth) x ++ records_in (most_levels - depth) y
records_behind schema type_no depth x y front whole =
    records_join schema (most_levels - depth) (fields_of schema type_no) x y (no_fault_sound schema type_no depth x front) (no_fault_sound schema type_no depth y (fault_behind schema type_no depth x y front whole))
