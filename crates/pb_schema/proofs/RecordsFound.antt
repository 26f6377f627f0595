-- Laws of records: the function finds exactly what the relation says.
use Rattle.std.proofs.Common.{◌≡◌, ◌≢◌, ◌⊎◌, ℕ, zero, suc, ◌+◌, ◌-◌, ◌*◌, ◌≤◌, List, [], ◌∷◌, ◌++◌, length, take, drop, Bool, true, false, eqb, Some, Result, Ok, refl, sym, ap, ◌∙◌, subst, inl, inr, ⊎_elim, arith, length-append, length-drop, length-take-le, take-append-drop, drop-drop, append_assoc}
use Rattle.std.proofs.lemmas.Bool.{false≢true, eq-eqb, eqb-true, and_parts}
use Rattle.std.proofs.lemmas.List.{take_at}
use Rattle.pb_schema.specs.declared.wire_fault.WireKind.TheVariants.{Cut, GroupEnd, TooDeep}
use Rattle.pb_schema.specs.declared.wire_fault.WireFault.{WireFault}
use Rattle.pb_schema.specs.Varint.{Varint, tag_bytes, length_bytes, value_bytes}
use Rattle.pb_schema.specs.Tag.{IsTag}
use Rattle.pb_schema.specs.Reads.{◌>>=◌}
use Rattle.pb_schema.specs.Form.{Form, form_at, read_payload, read_scalar, read_bytes, read_varint}
use Rattle.pb_schema.specs.Fits.{no_types}
use Rattle.pb_schema.specs.Walk.{in_group, Stop, closed, read_held, ends, walk, walk_left, deeper_left}
use Rattle.pb_schema.specs.Records.{Record, Spells, IsRecord, Spans, AreRecords, record_of}
use Rattle.pb_schema.proofs.Steps.{varint_at_within}
use Rattle.pb_schema.proofs.VarintLaws.{varint_at_front, varint_at_found}
use Rattle.pb_schema.proofs.FormLaws.{not_ok, same_ok, bind_ok, TagParts, FormParts, form_ok, read_delimited_ok, read_bytes_ok, read_varint_ok}
use Rattle.pb_schema.proofs.WalkSteps.{after_ends, held_end, held_group, held_plain, walk_left_is}

cases_bool : (b : Bool) → (b ≡ true) ⊎ (b ≡ false)
cases_bool true = inl refl
cases_bool false = inr refl

not_eqb : (a b : ℕ) → eqb a b ≡ false → a ≢ b
not_eqb a b differ same = absurd (false≢true (sym differ ∙ eq-eqb a b same))

nothing_taken : (n : ℕ) → take {A = ℕ} n [] ≡ []
nothing_taken zero = refl
nothing_taken (suc n) = refl

-- a front in two parts
take_two : (a b : ℕ) (s : List ℕ) → take (a + b) s ≡ take a s ++ take b (drop a s)
take_two zero b s = let same : 0 + b ≡ b = omega arith in ap (λ n. take n s) same
take_two (suc a) b [] = nothing_taken (suc a + b) ∙ sym (nothing_taken b)
take_two (suc a) b (x ∷ s) =
    let same : suc a + b ≡ suc (a + b) = omega arith in
    ap (λ n. take n (x ∷ s)) same ∙ ap (λ t. x ∷ t) (take_two a b s)

-- TAGS

pub tag_found : (s : List ℕ) (number wire n : ℕ) → TagParts s number wire n → IsTag (take n s) number wire
tag_found s number wire n p = record {
  varint = (varint_at_found tag_bytes s (number * 8 + wire) n p.varint).1;
  below = p.below;
  least = p.least;
  most = omega (arith, p.below);
  wire_type = p.wire_type;
}

pub tag_front : (tag x : List ℕ) (number wire : ℕ) → IsTag tag number wire → TagParts (tag ++ x) number wire (length tag)
tag_front tag x number wire p =
    let there = varint_at_front tag_bytes tag x (number * 8 + wire) p.varint in
    let size = varint_at_within tag_bytes (tag ++ x) (number * 8 + wire) (length tag) there in
    record { varint = there; below = p.below; least = p.least; wire_type = p.wire_type; some = size.0; within = size.2 }

-- PLAIN RECORDS

-- a payload by itself, without a length in front of it
abbrev pub alone : ℕ → ℕ → List ℕ → Result (ℕ × ℕ) WireFault
alone wire at t = read_scalar wire at t >>= λ n. Ok (0, n)

alone_parts : {P : Type 0} (wire at : ℕ) (t : List ℕ) (front len : ℕ) → alone wire at t ≡ Ok (front, len) → (read_scalar wire at t ≡ Ok len → 0 ≡ front → P) → P
alone_parts wire at t front len e k =
    bind_ok (read_scalar wire at t) _ (front, len) e
    λ n was is.
    let same : ◌≡◌ {A = ℕ × ℕ} (0, n) (front, len) = same_ok (0, n) (front, len) is in
    k (was ∙ ap Ok (ap (λ (p : ℕ × ℕ). p.1) same)) (ap (λ (p : ℕ × ℕ). p.0) same)

-- behind the tag stands the payload alone
alone_there : (t : List ℕ) (front len : ℕ) → 0 ≡ front → take (front + len) t ≡ take len (drop front t)
alone_there t front len none =
    let same : front + len ≡ len = omega (arith, none) in
    ap (λ n. take n t) same ∙ ap (λ n. take len (drop n t)) none

fixed_found : (size at : ℕ) (t : List ℕ) (front len : ℕ) → read_bytes size at t ≡ Ok len → 0 ≡ front → (length (take len (drop front t)) ≡ size) × (take (front + len) t ≡ take len (drop front t))
fixed_found size at t front len e none =
    read_bytes_ok size at t len e
    λ same fits.
    (length-take-le len (drop front t) (omega (arith, same, fits, none, length-drop front t)) ∙ sym same, alone_there t front len none)

spells_found : (AreRecords : List ℕ → Type 0) (number wire at : ℕ) (t : List ℕ) (front len : ℕ) → wire ≤ 5 → wire ≢ 3 → wire ≢ 4 → read_payload wire at t ≡ Ok (front, len) → Spells AreRecords number wire (take len (drop front t)) (take (front + len) t)
spells_found AreRecords number zero at t front len h no_start no_end e =
    alone_parts 0 at t front len e
    λ there none.
    bind_ok (read_varint value_bytes at t) _ len there
    λ found was is.
    let varint = varint_at_found value_bytes t found.0 found.1 (read_varint_ok value_bytes at t found was) in
    let size : found.1 ≡ len = same_ok found.1 len is in
    (found.0, subst (λ s. Varint s value_bytes found.0) (ap (λ n. take n t) size ∙ ap (λ n. take len (drop n t)) none) varint.1, alone_there t front len none)
spells_found AreRecords number (suc zero) at t front len h no_start no_end e = alone_parts 1 at t front len e λ there none. fixed_found 8 at t front len there none
spells_found AreRecords number (suc (suc zero)) at t front len h no_start no_end e =
    read_delimited_ok at t (front, len) e
    λ parts.
    let varint = varint_at_found length_bytes t len front parts.len.varint in
    let size : length (take len (drop front t)) ≡ len = length-take-le len (drop front t) (omega (arith, parts.within, length-drop front t)) in
    (take front t, subst (Varint (take front t) length_bytes) (sym size) varint.1, omega (arith, size, parts.len.below), take_two front len t)
spells_found AreRecords number (suc (suc (suc zero))) at t front len h no_start no_end e = absurd (no_start refl)
spells_found AreRecords number (suc (suc (suc (suc zero)))) at t front len h no_start no_end e = absurd (no_end refl)
spells_found AreRecords number (suc (suc (suc (suc (suc zero))))) at t front len h no_start no_end e = alone_parts 5 at t front len e λ there none. fixed_found 4 at t front len there none
spells_found AreRecords number (suc (suc (suc (suc (suc (suc wire)))))) at t front len h no_start no_end e = absurd (omega (arith, h))

-- the form of a record is a record, unless it is that of a group
plain_found : (AreRecords : List ℕ → Type 0) (at : ℕ) (s : List ℕ) (form : Form) → FormParts at s form → form.wire ≢ 3 → form.wire ≢ 4 → IsRecord AreRecords (record_of form s)
plain_found AreRecords at s form p no_start no_end =
    let t = drop p.tag_size s in
    let payload : take form.payload_len (drop p.front t) ≡ take form.payload_len (drop form.payload s) =
    ap (take form.payload_len) (drop-drop p.front p.tag_size s ∙ ap (λ n. drop n s) (sym p.payload_is)) in
    let size : form.size ≡ p.tag_size + (p.front + form.payload_len) = omega (arith, p.size_is, p.payload_is) in (
      take p.tag_size s,
      take (p.front + form.payload_len) t,
      tag_found s form.number form.wire p.tag_size p.tag,
      subst (λ x. Spells AreRecords form.number form.wire x (take (p.front + form.payload_len) t)) payload (spells_found AreRecords form.number form.wire (at + p.tag_size) t p.front form.payload_len p.tag.wire_type no_start no_end p.part),
      ap (λ n. take n s) size ∙ take_two p.tag_size (p.front + form.payload_len) s,
    )

-- GROUPS

-- what is read at the front is a record, and bytes of it are there
pub record RecordFound (levels : ℕ) (s : List ℕ) (whole : Form) : Type 0 where
  pub is : IsRecord (AreRecords levels) (record_of whole s)
  pub some : 1 ≤ whole.size
  pub within : whole.size ≤ length s

-- what is read up to the end of a group are records and the end tag
record GroupFound (levels number at : ℕ) (s : List ℕ) (stop : Stop) : Type 0 where
  rs : List Record
  contents : List ℕ
  end : List ℕ
  rest : List ℕ
  cut : s ≡ contents ++ (end ++ rest)
  spans : Spans (AreRecords levels) rs contents
  tag : IsTag end number 4
  stop_is : stop.0 ≡ at + length contents
  behind_is : stop.1 ≡ at + (length contents + length end)

-- each record at the front is one, with so many levels
abbrev pub EachFound : ℕ → Type 0
EachFound levels = (at : ℕ) (s : List ℕ) (form whole : Form) → form_at at s ≡ Ok form → read_held no_types (deeper_left no_types levels) [] at s form ≡ Ok whole → RecordFound levels s whole

-- the end tag of a group by itself
end_tag : (at : ℕ) (s : List ℕ) (form : Form) → FormParts at s form → form.wire ≡ 4 → IsTag (take form.size s) form.number 4
end_tag at s form p wire =
    let none : read_payload 4 (at + p.tag_size) (drop p.tag_size s) ≡ Ok (p.front, form.payload_len) = ap (λ w. read_payload w (at + p.tag_size) (drop p.tag_size s)) (sym wire) ∙ p.part in
    let same : ◌≡◌ {A = ℕ × ℕ} (0, 0) (p.front, form.payload_len) = same_ok (0, 0) (p.front, form.payload_len) none in
    let front : 0 ≡ p.front = ap (λ (x : ℕ × ℕ). x.0) same in
    let len : 0 ≡ form.payload_len = ap (λ (x : ℕ × ℕ). x.1) same in
    let size : p.tag_size ≡ form.size = omega (arith, front, len, p.size_is, p.payload_is) in
    subst (λ n. IsTag (take n s) form.number 4) size (subst (IsTag (take p.tag_size s) form.number) wire (tag_found s form.number form.wire p.tag_size p.tag))

-- the start tag of a group
start_tag : (at : ℕ) (s : List ℕ) (form : Form) → FormParts at s form → form.wire ≡ 3 → IsTag (take form.payload s) form.number form.wire
start_tag at s form p wire =
    let none : read_payload 3 (at + p.tag_size) (drop p.tag_size s) ≡ Ok (p.front, form.payload_len) = ap (λ w. read_payload w (at + p.tag_size) (drop p.tag_size s)) (sym wire) ∙ p.part in
    let same : ◌≡◌ {A = ℕ × ℕ} (0, 0) (p.front, form.payload_len) = same_ok (0, 0) (p.front, form.payload_len) none in
    let front : 0 ≡ p.front = ap (λ (x : ℕ × ℕ). x.0) same in
    let size : p.tag_size ≡ form.payload = omega (arith, front, p.payload_is) in
    subst (λ n. IsTag (take n s) form.number form.wire) size (tag_found s form.number form.wire p.tag_size p.tag)

-- the end tag ends the group at once
group_ended : (levels number at b : ℕ) (s : List ℕ) (form : Form) (stop : Stop) → form_at at (b ∷ s) ≡ Ok form → ends (Some number) form ≡ true → ◌≡◌ {A = Result Stop WireFault} (Ok (at, at + form.size)) (Ok stop) → GroupFound levels number at (b ∷ s) stop
group_ended levels number at b s form stop e is_end same =
    form_ok at (b ∷ s) form e
    λ p.
    let tests = and_parts (eqb form.wire 4) (eqb form.number number) is_end in
    let wire = eqb-true form.wire 4 tests.0 in
    let number_is = eqb-true form.number number tests.1 in
    let stop_is = same_ok (at, at + form.size) stop same in
    let size : length (take form.size (b ∷ s)) ≡ form.size = length-take-le form.size (b ∷ s) p.within in
    record {
      rs = [];
      contents = [];
      end = take form.size (b ∷ s);
      rest = drop form.size (b ∷ s);
      cut = sym (take-append-drop form.size (b ∷ s));
      spans = refl;
      tag = subst (λ n. IsTag (take form.size (b ∷ s)) n 4) number_is (end_tag at (b ∷ s) form p wire);
      stop_is = omega (arith, ap (λ (x : Stop). x.0) stop_is);
      behind_is = omega (arith, ap (λ (x : Stop). x.1) stop_is, size);
    }

-- a record in front of the rest of the group
group_more : (levels number at : ℕ) (s : List ℕ) (whole : Form) (stop : Stop) → RecordFound levels s whole → GroupFound levels number (at + whole.size) (drop whole.size s) stop → GroupFound levels number at s stop
group_more levels number at s whole stop front rest =
    let span = take whole.size s in
    let size : length span ≡ whole.size = length-take-le whole.size s front.within in
    let both = length-append span rest.contents in
    let tail = rest.end ++ rest.rest in
    record {
      rs = record_of whole s ∷ rest.rs;
      contents = span ++ rest.contents;
      end = rest.end;
      rest = rest.rest;
      cut = sym (take-append-drop whole.size s) ∙ (ap (λ t. span ++ t) rest.cut ∙ sym (append_assoc span rest.contents tail));
      spans = (rest.contents, front.is, refl, rest.spans);
      tag = rest.tag;
      stop_is = omega (arith, rest.stop_is, size, both);
      behind_is = omega (arith, rest.behind_is, size, both);
    }

walk_found : (levels : ℕ) → EachFound levels → (number skip at : ℕ) (s : List ℕ) (stop : Stop) → walk no_types (deeper_left no_types levels) (in_group [] number) at skip s ≡ Ok stop → GroupFound levels number (at + skip) (drop skip s) stop
walk_found levels each number skip at [] stop e = not_ok (record { kind = Cut; byte = at }) stop e
walk_found levels each number (suc skip) at (b ∷ s) stop e =
    let here : suc at + skip ≡ at + suc skip = omega arith in
    subst (λ n. GroupFound levels number n (drop skip s) stop) here (walk_found levels each number skip (suc at) s stop e)
walk_found levels each number zero at (b ∷ s) stop e =
    let here : at ≡ at + 0 = omega arith in
    subst (λ n. GroupFound levels number n (b ∷ s) stop) here
    (bind_ok (form_at at (b ∷ s)) (λ form. after_ends no_types (deeper_left no_types levels) (in_group [] number) at b s form (ends (Some number) form)) stop e
    λ form was is.
    ⊎_elim
    (λ (is_end : ends (Some number) form ≡ true). group_ended levels number at b s form stop was is_end (sym (ap (after_ends no_types (deeper_left no_types levels) (in_group [] number) at b s form) is_end) ∙ is))
    (λ (goes_on : ends (Some number) form ≡ false).
    bind_ok (read_held no_types (deeper_left no_types levels) [] at (b ∷ s) form) (λ whole. walk no_types (deeper_left no_types levels) (in_group [] number) (suc at) (whole.size - 1) s) stop (sym (ap (after_ends no_types (deeper_left no_types levels) (in_group [] number) at b s form) goes_on) ∙ is)
    λ whole held more.
    let front = each at (b ∷ s) form whole was held in
    let place : suc at + (whole.size - 1) ≡ at + whole.size = omega (arith, front.some) in
    let size : suc (whole.size - 1) ≡ whole.size = omega (arith, front.some) in
    let behind = walk_found levels each number (whole.size - 1) (suc at) s stop more in
    group_more levels number at (b ∷ s) whole stop front
    (subst (λ n. GroupFound levels number (at + whole.size) (drop n (b ∷ s)) stop) size
    (subst (λ n. GroupFound levels number n (drop (whole.size - 1) s) stop) place behind)))
    (cases_bool (ends (Some number) form)))

-- a group at the front is a record
group_found : (levels at : ℕ) (s : List ℕ) (form : Form) (stop : Stop) → FormParts at s form → form.wire ≡ 3 → GroupFound levels form.number (at + form.payload) (drop form.payload s) stop → RecordFound (suc levels) s (closed form at stop)
group_found levels at s form stop p wire found =
    let whole = closed form at stop in
    let both = length-append found.contents found.end in
    let all = length-append (found.contents ++ found.end) found.rest in
    let front : form.payload ≤ length s = omega (arith, p.size_is, p.within) in
    let inside : drop form.payload s ≡ (found.contents ++ found.end) ++ found.rest = found.cut ∙ sym (append_assoc found.contents found.end found.rest) in
    let count = ap length inside in
    let len : whole.payload_len ≡ length found.contents = omega (arith, found.stop_is) in
    let size : whole.size ≡ form.payload + length (found.contents ++ found.end) = omega (arith, found.behind_is, both) in
    let payload : take whole.payload_len (drop whole.payload s) ≡ found.contents =
    ap (λ n. take n (drop form.payload s)) len ∙ (ap (take (length found.contents)) found.cut ∙ take_at found.contents (found.end ++ found.rest) (length found.contents) refl) in
    let behind : take (length (found.contents ++ found.end)) (drop form.payload s) ≡ found.contents ++ found.end =
    ap (take (length (found.contents ++ found.end))) inside ∙ take_at (found.contents ++ found.end) found.rest (length (found.contents ++ found.end)) refl in
    let spelled : Spells (AreRecords (suc levels)) form.number 3 found.contents (found.contents ++ found.end) = (found.end, (found.rs, found.spans), found.tag, refl) in
    record {
      is = (
        take form.payload s,
        found.contents ++ found.end,
        start_tag at s form p wire,
        subst (λ w. Spells (AreRecords (suc levels)) form.number w (take whole.payload_len (drop whole.payload s)) (found.contents ++ found.end)) (sym wire)
            (subst (λ x. Spells (AreRecords (suc levels)) form.number 3 x (found.contents ++ found.end)) (sym payload) spelled),
        ap (λ n. take n s) size ∙ (take_two form.payload (length (found.contents ++ found.end)) s ∙ ap (λ t. take form.payload s ++ t) behind),
      );
      some = omega (arith, size, p.payload_is, p.tag.some);
      within = omega (arith, size, count, all, front, length-drop form.payload s);
    }

-- any other record at the front
other_found : (levels at : ℕ) (s : List ℕ) (form whole : Form) → FormParts at s form → form.wire ≢ 3 → read_held no_types (deeper_left no_types levels) [] at s form ≡ Ok whole → RecordFound levels s whole
other_found levels at s form whole p no_start e =
    ⊎_elim
    (λ (is_end : eqb form.wire 4 ≡ true). not_ok (record { kind = GroupEnd; byte = at }) whole (sym (held_end no_types (deeper_left no_types levels) [] at s form (eqb-true form.wire 4 is_end)) ∙ e))
    (λ (differ : eqb form.wire 4 ≡ false).
    let no_end = not_eqb form.wire 4 differ in
    let same : form ≡ whole = same_ok form whole (sym (held_plain no_types (deeper_left no_types levels) [] at s form no_start no_end) ∙ e) in
    subst (RecordFound levels s) same (record { is = plain_found (AreRecords levels) at s form p no_start no_end; some = omega (arith, p.size_is, p.payload_is, p.tag.some); within = p.within }))
    (cases_bool (eqb form.wire 4))

pub each_found : (levels : ℕ) → EachFound levels
each_found zero at s form whole was e =
    form_ok at s form was
    λ p.
    ⊎_elim
    (λ (is_start : eqb form.wire 3 ≡ true). not_ok (record { kind = TooDeep; byte = at }) whole (sym (held_group no_types (deeper_left no_types zero) [] at s form (eqb-true form.wire 3 is_start)) ∙ e))
    (λ (differ : eqb form.wire 3 ≡ false). other_found zero at s form whole p (not_eqb form.wire 3 differ) e)
    (cases_bool (eqb form.wire 3))
each_found (suc levels) at s form whole was e =
    form_ok at s form was
    λ p.
    ⊎_elim
    (λ (is_start : eqb form.wire 3 ≡ true).
    let wire = eqb-true form.wire 3 is_start in
    bind_ok (walk_left no_types levels at (in_group [] form.number) (at + form.payload) (drop form.payload s)) (λ stop. Ok (closed form at stop)) whole (sym (held_group no_types (deeper_left no_types (suc levels)) [] at s form wire) ∙ e)
    λ stop read is.
    let zeroth : at + form.payload + 0 ≡ at + form.payload = omega arith in
    let found = walk_found levels (each_found levels) form.number 0 (at + form.payload) (drop form.payload s) stop (sym (walk_left_is no_types levels at (in_group [] form.number) (at + form.payload) (drop form.payload s)) ∙ read) in
    subst (RecordFound (suc levels) s) (same_ok (closed form at stop) whole is)
    (group_found levels at s form stop p wire (subst (λ n. GroupFound levels form.number n (drop form.payload s) stop) zeroth found)))
    (λ (differ : eqb form.wire 3 ≡ false). other_found (suc levels) at s form whole p (not_eqb form.wire 3 differ) e)
    (cases_bool (eqb form.wire 3))
