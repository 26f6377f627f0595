-- Reading records at a place of the bytes, one after another.
use Rattle.std.proofs.Common.{◌≡◌, ◌≢◌, ℕ, zero, suc, ◌+◌, ◌-◌, ◌<◌, ◌≤◌, List, [], length, drop, Bool, true, false, ◌&&◌, eqb, Some, Result, Ok, Err, refl, sym, ap, ◌∙◌, arith, drop-drop, length-drop}
use Rattle.std.proofs.lemmas.Bool.{eq-eqb, ne_eqb, and_from}
use Rattle.std.proofs.lemmas.List.{at_drop_all}
use Rattle.pb_schema.specs.declared.wire_fault.WireKind.TheVariants.{Cut, GroupEnd}
use Rattle.pb_schema.specs.declared.wire_fault.WireFault.{WireFault}
use Rattle.pb_schema.specs.Reads.{◌>>=◌, read_map}
use Rattle.pb_schema.specs.Form.{Form, form_at}
use Rattle.pb_schema.specs.Fits.{no_types}
use Rattle.pb_schema.specs.Walk.{in_group, Stop, closed, read_held, walk, walk_left, deeper_left, record_left}
use Rattle.pb_schema.proofs.FormLaws.{not_ok, same_ok}
use Rattle.pb_schema.proofs.WalkSteps.{walk_fault, walk_ends, walk_held_fault, walk_more, held_end, held_group, held_plain, walk_left_is}
use Rattle.pb_wire.specs.declared.wire_record.WireRecord.{WireRecord}
use Rattle.pb_wire.specs.PlacedRecord.{placed}

-- the form of a record that was read
pub record Read (r : Result Form WireFault) (at : ℕ) (w : WireRecord) : Type 0 where
  pub form : Form
  pub is : r ≡ Ok form
  pub there : w ≡ placed at form

pub read_ok : (r : Result Form WireFault) (at : ℕ) (w : WireRecord) → Ok w ≡ read_map (placed at) r → Read r at w
read_ok (Ok form) at w e = record { form = form; is = refl; there = same_ok w (placed at form) e }
read_ok (Err d) at w e = not_ok d w (sym e)

same_err : {A E : Type 0} (x y : E) → ◌≡◌ {A = Result A E} (Err x) (Err y) → x ≡ y
same_err x y e = cc

pub read_err : {A B : Type 0} (f : A → B) (r : Result A WireFault) (d : WireFault) → Err d ≡ read_map f r → r ≡ Err d
read_err f (Ok x) d e = not_ok d (f x) e
read_err f (Err b) d e = ap Err (sym (same_err d b e))

not_empty : (bytes : List ℕ) (at : ℕ) → at < length bytes → drop at bytes ≢ []
not_empty bytes at h e = absurd (omega (arith, h, length-drop at bytes, ap length e))

-- the records of a group, from a place on
abbrev pub group_from : List ℕ → ℕ → ℕ → ℕ → Result Stop WireFault
group_from bytes left number at = walk_left no_types left 0 (in_group [] number) at (drop at bytes)

pub group_fault : (bytes : List ℕ) (left number at : ℕ) (d : WireFault) → at < length bytes → Err d ≡ read_map (placed at) (form_at at (drop at bytes)) → group_from bytes left number at ≡ Err d
group_fault bytes left number at d h e =
    walk_left_is no_types left 0 (in_group [] number) at (drop at bytes)
    ∙ walk_fault no_types (deeper_left no_types left) (in_group [] number) at (drop at bytes) d (not_empty bytes at h) (read_err (placed at) (form_at at (drop at bytes)) d e)

pub group_ends : (bytes : List ℕ) (left number at : ℕ) (w : WireRecord) → at < length bytes → Ok w ≡ read_map (placed at) (form_at at (drop at bytes)) → w.wire ≡ 4 → w.number ≡ number → group_from bytes left number at ≡ Ok (at, w.end)
group_ends bytes left number at w h e wire same =
    let s = drop at bytes in
    let front = read_ok (form_at at s) at w e in
    let form = front.form in
    let wire_is : form.wire ≡ 4 = sym (ap (λ (x : WireRecord). x.wire) front.there) ∙ wire in
    let number_is : form.number ≡ number = sym (ap (λ (x : WireRecord). x.number) front.there) ∙ same in
    walk_left_is no_types left 0 (in_group [] number) at s
    ∙ (walk_ends no_types (deeper_left no_types left) (in_group [] number) at s form (not_empty bytes at h) front.is (and_from (eqb form.wire 4) (eqb form.number number) (eq-eqb form.wire 4 wire_is) (eq-eqb form.number number number_is))
    ∙ ap (λ n. Ok (at, n)) (sym (ap (λ (x : WireRecord). x.end) front.there)))

and_false : (a b : Bool) → b ≡ false → (a && b) ≡ false
and_false true b e = e
and_false false b e = refl

false_and : (a b : Bool) → a ≡ false → (a && b) ≡ false
false_and true b e = cc
false_and false b e = refl

pub group_of_another : (bytes : List ℕ) (left number at : ℕ) (w : WireRecord) → at < length bytes → Ok w ≡ read_map (placed at) (form_at at (drop at bytes)) → w.wire ≡ 4 → w.number ≢ number → group_from bytes left number at ≡ Err (record { kind = GroupEnd; byte = at })
group_of_another bytes left number at w h e wire other =
    let s = drop at bytes in
    let front = read_ok (form_at at s) at w e in
    let form = front.form in
    let wire_is : form.wire ≡ 4 = sym (ap (λ (x : WireRecord). x.wire) front.there) ∙ wire in
    let number_is : w.number ≡ form.number = ap (λ (x : WireRecord). x.number) front.there in
    walk_left_is no_types left 0 (in_group [] number) at s
    ∙ walk_held_fault no_types (deeper_left no_types left) (in_group [] number) at s form _ (not_empty bytes at h) front.is
    (and_false (eqb form.wire 4) (eqb form.number number) (ne_eqb form.number number (λ same. other (number_is ∙ same))))
    (held_end no_types (deeper_left no_types left) [] at s form wire_is)

-- a group that stands in the bytes, one level deeper
deeper_from : (bytes : List ℕ) (left at : ℕ) (form : Form) → deeper_left no_types (suc left) at (in_group [] form.number) (at + form.payload) (drop form.payload (drop at bytes)) ≡ group_from bytes left form.number (at + form.payload)
deeper_from bytes left at form =
    ap (λ s. walk_left no_types left at (in_group [] form.number) (at + form.payload) s) (drop-drop form.payload at bytes)
    ∙ (walk_left_is no_types left at (in_group [] form.number) (at + form.payload) (drop (at + form.payload) bytes)
    ∙ sym (walk_left_is no_types left 0 (in_group [] form.number) (at + form.payload) (drop (at + form.payload) bytes)))

-- the record at the front is a group, read one level deeper
pub held_deeper : (bytes : List ℕ) (left at : ℕ) (form : Form) → form.wire ≡ 3 → read_held no_types (deeper_left no_types (suc left)) [] at (drop at bytes) form ≡ (group_from bytes left form.number (at + form.payload) >>= λ stop. Ok (closed form at stop))
held_deeper bytes left at form wire =
    held_group no_types (deeper_left no_types (suc left)) [] at (drop at bytes) form wire
    ∙ ap (λ r. r >>= λ stop. Ok (closed form at stop)) (deeper_from bytes left at form)

-- the same by the record that was read
read_deeper : (bytes : List ℕ) (left at : ℕ) (w : WireRecord) (form : Form) → w ≡ placed at form → w.wire ≡ 3 → 1 ≤ left → read_held no_types (deeper_left no_types left) [] at (drop at bytes) form ≡ (group_from bytes (left - 1) w.number w.payload >>= λ stop. Ok (closed form at stop))
read_deeper bytes zero at w form there wire some = absurd (omega (arith, some))
read_deeper bytes (suc left) at w form there wire some =
    let one : left ≡ suc left - 1 = omega arith in
    held_deeper bytes left at form (sym (ap (λ (x : WireRecord). x.wire) there) ∙ wire)
    ∙ (ap (λ n. group_from bytes left n (at + form.payload) >>= λ stop. Ok (closed form at stop)) (sym (ap (λ (x : WireRecord). x.number) there))
    ∙ (ap (λ n. group_from bytes left w.number n >>= λ stop. Ok (closed form at stop)) (sym (ap (λ (x : WireRecord). x.payload) there))
    ∙ ap (λ n. group_from bytes n w.number w.payload >>= λ stop. Ok (closed form at stop)) one))

pub group_group_fault : (bytes : List ℕ) (left number at : ℕ) (w : WireRecord) (d : WireFault) → at < length bytes → Ok w ≡ read_map (placed at) (form_at at (drop at bytes)) → w.wire ≡ 3 → 1 ≤ left → Err d ≡ group_from bytes (left - 1) w.number w.payload → group_from bytes left number at ≡ Err d
group_group_fault bytes left number at w d h e wire some deeper =
    let s = drop at bytes in
    let front = read_ok (form_at at s) at w e in
    let form = front.form in
    let wire_is : form.wire ≡ 3 = sym (ap (λ (x : WireRecord). x.wire) front.there) ∙ wire in
    walk_left_is no_types left 0 (in_group [] number) at s
    ∙ walk_held_fault no_types (deeper_left no_types left) (in_group [] number) at s form d (not_empty bytes at h) front.is
    (false_and (eqb form.wire 4) (eqb form.number number) (ne_eqb form.wire 4 (λ four. absurd (omega (arith, four, wire_is)))))
    (read_deeper bytes left at w form front.there wire some ∙ ap (λ r. r >>= λ stop. Ok (closed form at stop)) (sym deeper))

pub group_group_more : (bytes : List ℕ) (left number at : ℕ) (w : WireRecord) (stop end : ℕ) → at < length bytes → Ok w ≡ read_map (placed at) (form_at at (drop at bytes)) → w.wire ≡ 3 → 1 ≤ left → Ok (stop, end) ≡ group_from bytes (left - 1) w.number w.payload → at < end → end ≤ length bytes → group_from bytes left number at ≡ group_from bytes left number end
group_group_more bytes left number at w stop end h e wire some deeper more fits =
    let s = drop at bytes in
    let front = read_ok (form_at at s) at w e in
    let form = front.form in
    let whole = closed form at (stop, end) in
    let wire_is : form.wire ≡ 3 = sym (ap (λ (x : WireRecord). x.wire) front.there) ∙ wire in
    let there : at + whole.size ≡ end = omega (arith, more) in
    walk_left_is no_types left 0 (in_group [] number) at s
    ∙ (walk_more no_types (deeper_left no_types left) (in_group [] number) at s form whole front.is
    (false_and (eqb form.wire 4) (eqb form.number number) (ne_eqb form.wire 4 (λ four. absurd (omega (arith, four, wire_is)))))
    (read_deeper bytes left at w form front.there wire some ∙ ap (λ r. r >>= λ stop. Ok (closed form at stop)) (sym deeper))
    (omega (arith, more)) (omega (arith, more, fits, length-drop at bytes))
    ∙ (ap (λ t. walk no_types (deeper_left no_types left) (in_group [] number) (at + whole.size) 0 t) (drop-drop whole.size at bytes)
    ∙ (ap (λ n. walk no_types (deeper_left no_types left) (in_group [] number) n 0 (drop n bytes)) there
    ∙ sym (walk_left_is no_types left 0 (in_group [] number) end (drop end bytes)))))

pub group_plain_more : (bytes : List ℕ) (left number at : ℕ) (w : WireRecord) → at < length bytes → Ok w ≡ read_map (placed at) (form_at at (drop at bytes)) → w.wire ≢ 3 → w.wire ≢ 4 → at < w.end → w.end ≤ length bytes → group_from bytes left number at ≡ group_from bytes left number w.end
group_plain_more bytes left number at w h e no_start no_end more fits =
    let s = drop at bytes in
    let front = read_ok (form_at at s) at w e in
    let form = front.form in
    let wire_is : w.wire ≡ form.wire = ap (λ (x : WireRecord). x.wire) front.there in
    let there : w.end ≡ at + form.size = ap (λ (x : WireRecord). x.end) front.there in
    walk_left_is no_types left 0 (in_group [] number) at s
    ∙ (walk_more no_types (deeper_left no_types left) (in_group [] number) at s form form front.is
    (false_and (eqb form.wire 4) (eqb form.number number) (ne_eqb form.wire 4 (λ four. no_end (wire_is ∙ four))))
    (held_plain no_types (deeper_left no_types left) [] at s form (λ three. no_start (wire_is ∙ three)) (λ four. no_end (wire_is ∙ four)))
    (omega (arith, more, there)) (omega (arith, there, fits, length-drop at bytes))
    ∙ (ap (λ t. walk no_types (deeper_left no_types left) (in_group [] number) (at + form.size) 0 t) (drop-drop form.size at bytes)
    ∙ (ap (λ n. walk no_types (deeper_left no_types left) (in_group [] number) n 0 (drop n bytes)) (sym there)
    ∙ sym (walk_left_is no_types left 0 (in_group [] number) w.end (drop w.end bytes)))))

pub group_cut : (bytes : List ℕ) (left number at : ℕ) → at ≤ length bytes → length bytes ≤ at → group_from bytes left number at ≡ Err (record { kind = Cut; byte = length bytes })
group_cut bytes left number at within past =
    let here : at ≡ length bytes = omega (arith, within, past) in
    walk_left_is no_types left 0 (in_group [] number) at (drop at bytes)
    ∙ (at_drop_all (λ t. walk no_types (deeper_left no_types left) (in_group [] number) at 0 t) bytes at past
    ∙ ap (λ n. Err (record { kind = Cut; byte = n })) here)

-- a group as a record
pub record_group_fault : (bytes : List ℕ) (left at : ℕ) (w : WireRecord) (d : WireFault) → Ok w ≡ read_map (placed at) (form_at at (drop at bytes)) → w.wire ≡ 3 → 1 ≤ left → Err d ≡ group_from bytes (left - 1) w.number w.payload → Err d ≡ read_map (placed at) (record_left no_types left [] at (drop at bytes))
record_group_fault bytes left at w d e wire some deeper =
    let front = read_ok (form_at at (drop at bytes)) at w e in
    ap (λ r. read_map (placed at) (r >>= λ stop. Ok (closed front.form at stop))) deeper
    ∙ (ap (read_map (placed at)) (sym (read_deeper bytes left at w front.form front.there wire some))
    ∙ ap (λ r. read_map (placed at) (r >>= λ form. read_held no_types (deeper_left no_types left) [] at (drop at bytes) form)) (sym front.is))

pub record_group : (bytes : List ℕ) (left at : ℕ) (w : WireRecord) (stop end : ℕ) → Ok w ≡ read_map (placed at) (form_at at (drop at bytes)) → w.wire ≡ 3 → 1 ≤ left → Ok (stop, end) ≡ group_from bytes (left - 1) w.number w.payload → at ≤ end → Ok (record w { payload_len = stop - w.payload; end = end }) ≡ read_map (placed at) (record_left no_types left [] at (drop at bytes))
record_group bytes left at w stop end e wire some deeper more =
    let front = read_ok (form_at at (drop at bytes)) at w e in
    let there : at + (end - at) ≡ end = omega (arith, more) in
    ap (λ (x : WireRecord). Ok (record x { payload_len = stop - x.payload; end = end })) front.there
    ∙ (ap (λ n. Ok (record (placed at front.form) { payload_len = stop - (at + front.form.payload); end = n })) (sym there)
    ∙ (ap (λ r. read_map (placed at) (r >>= λ stop. Ok (closed front.form at stop))) deeper
    ∙ (ap (read_map (placed at)) (sym (read_deeper bytes left at w front.form front.there wire some))
    ∙ ap (λ r. read_map (placed at) (r >>= λ form. read_held no_types (deeper_left no_types left) [] at (drop at bytes) form)) (sym front.is))))
