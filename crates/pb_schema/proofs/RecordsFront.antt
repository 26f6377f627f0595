-- Laws of records: a record that stands at the front is found, whatever follows; and what the bytes are cut into.
use Rattle.std.proofs.Common.{◌≡◌, ◌≢◌, ◌⊎◌, ℕ, zero, suc, ◌+◌, ◌-◌, ◌<◌, ◌≤◌, List, [], ◌∷◌, ◌++◌, length, take, drop, Bool, true, false, ◌&&◌, eqb, Option, None, Some, option_map, Result, Ok, Err, refl, sym, ap, ◌∙◌, subst, inl, inr, ⊎_elim, arith, length-append, take-append-drop, drop-drop, append_assoc}
use Rattle.std.proofs.lemmas.Bool.{false≢true, eq-eqb, ne_eqb, eqb-true, and_from}
use Rattle.std.proofs.lemmas.List.{take_at, drop_at}
use Rattle.std.proofs.lemmas.Option.{none-some, same_Some}
use Rattle.pb_schema.specs.declared.wire_fault.WireFault.{WireFault}
use Rattle.pb_schema.specs.Varint.{value_bytes, length_bytes, varint_at}
use Rattle.pb_schema.specs.Tag.{IsTag}
use Rattle.pb_schema.specs.Reads.{◌>>=◌, value_read}
use Rattle.pb_schema.specs.Form.{Form, form_at, read_payload, read_scalar, read_bytes}
use Rattle.pb_schema.specs.Fits.{no_types}
use Rattle.pb_schema.specs.Walk.{in_group, Stop, closed, read_held, walk, walk_left, deeper_left, record_left}
use Rattle.pb_schema.specs.Records.{Record, Spells, IsRecord, Spans, AreRecords, RecordsWithin, Records, record_of, records_from, records_within, records_of}
use Rattle.pb_schema.proofs.Steps.{option_map_some, varint_at_within}
use Rattle.pb_schema.proofs.VarintLaws.{same_cons, varint_at_front}
use Rattle.pb_schema.proofs.FrameLaws.{cases_option, not_nil}
use Rattle.pb_schema.proofs.FormLaws.{bind_ok, TagParts, form_of_parts, read_delimited_of, read_bytes_of, read_varint_some}
use Rattle.pb_schema.proofs.WalkSteps.{walk_ends, walk_more, held_group, held_plain, walk_left_is}
use Rattle.pb_schema.proofs.RecordsFound.{RecordFound, each_found, tag_front, alone}

-- PLAIN RECORDS

-- a payload that stands behind its tag
pub record PayloadFront (wire at : ℕ) (t payload behind : List ℕ) : Type 0 where
  pub front : ℕ
  pub len : ℕ
  pub is : read_payload wire at t ≡ Ok (front, len)
  pub size : front + len ≡ length behind
  pub there : take len (drop front t) ≡ payload

alone_front : (wire at : ℕ) (payload behind rest : List ℕ) → read_payload wire at (behind ++ rest) ≡ alone wire at (behind ++ rest) → read_scalar wire at (payload ++ rest) ≡ Ok (length payload) → behind ≡ payload → PayloadFront wire at (behind ++ rest) payload behind
alone_front wire at payload behind rest as_scalar e same = record {
  front = 0;
  len = length payload;
  is = as_scalar ∙ ap (λ r. r >>= λ n. Ok (0, n)) (ap (λ b. read_scalar wire at (b ++ rest)) same ∙ e);
  size = omega (arith, ap length same);
  there = ap (λ b. take (length payload) (b ++ rest)) same ∙ take_at payload rest (length payload) refl;
}

fixed_front : (size at : ℕ) (payload rest : List ℕ) → length payload ≡ size → read_bytes size at (payload ++ rest) ≡ Ok (length payload)
fixed_front size at payload rest e = read_bytes_of size at (payload ++ rest) (omega (arith, e, length-append payload rest)) ∙ ap Ok (sym e)

pub payload_front : (AreRecords : List ℕ → Type 0) (number wire at : ℕ) (payload behind rest : List ℕ) → wire ≢ 3 → Spells AreRecords number wire payload behind → PayloadFront wire at (behind ++ rest) payload behind
payload_front AreRecords number zero at payload behind rest no_start p =
    let found = varint_at_front value_bytes payload rest p.0 p.1 in
    alone_front 0 at payload behind rest refl (ap (λ r. r >>= λ value. Ok value.1) (read_varint_some value_bytes at (payload ++ rest) p.0 (length payload) found)) p.2
payload_front AreRecords number (suc zero) at payload behind rest no_start p = alone_front 1 at payload behind rest refl (fixed_front 8 at payload rest p.0) p.1
payload_front AreRecords number (suc (suc zero)) at payload behind rest no_start p =
    let len = p.0 in
    let t = behind ++ rest in
    let whole : t ≡ len ++ (payload ++ rest) = ap (λ b. b ++ rest) p.3 ∙ append_assoc len payload rest in
    let found : varint_at length_bytes t ≡ Some (length payload, length len) = ap (varint_at length_bytes) whole ∙ varint_at_front length_bytes len (payload ++ rest) (length payload) p.1 in
    let size = varint_at_within length_bytes t (length payload) (length len) found in
    let count : length behind ≡ length len + length payload = ap length p.3 ∙ length-append len payload in
    let behind_len : drop (length len) t ≡ payload ++ rest = ap (drop (length len)) whole ∙ drop_at len (payload ++ rest) (length len) refl in
    record {
      front = length len;
      len = length payload;
      is = read_delimited_of at t (length len, length payload) (record {
        len = record { varint = found; below = p.2; some = size.0; within = size.2 };
        within = omega (arith, count, length-append behind rest);
      });
      size = sym count;
      there = ap (take (length payload)) behind_len ∙ take_at payload rest (length payload) refl;
    }
payload_front AreRecords number (suc (suc (suc zero))) at payload behind rest no_start p = absurd (no_start refl)
payload_front AreRecords number (suc (suc (suc (suc zero)))) at payload behind rest no_start p = absurd p
payload_front AreRecords number (suc (suc (suc (suc (suc zero))))) at payload behind rest no_start p = alone_front 5 at payload behind rest refl (fixed_front 4 at payload rest p.0) p.1
payload_front AreRecords number (suc (suc (suc (suc (suc (suc wire)))))) at payload behind rest no_start p = absurd p

-- no record is an end tag
no_end_spelled : (AreRecords : List ℕ → Type 0) (number wire : ℕ) (payload behind : List ℕ) → Spells AreRecords number wire payload behind → wire ≢ 4
no_end_spelled AreRecords number wire payload behind p four = absurd (subst (λ w. Spells AreRecords number w payload behind) four p)

-- THE RECORD AT THE FRONT

pub record FrontFound (levels at : ℕ) (s : List ℕ) (r : Record) : Type 0 where
  pub form : Form
  pub whole : Form
  pub form_is : form_at at s ≡ Ok form
  pub no_end : form.wire ≢ 4
  pub held : read_held no_types (deeper_left no_types levels) [] at s form ≡ Ok whole
  pub size : whole.size ≡ length r.span
  pub is : record_of whole s ≡ r

same_record : (number wire : ℕ) (payload span : List ℕ) (r : Record) → number ≡ r.number → wire ≡ r.wire → payload ≡ r.payload → span ≡ r.span → ◌≡◌ {A = Record} (record { number = number; wire = wire; payload = payload; span = span }) r
same_record number wire payload span r a b c d =
    ap (λ x. record { number = x; wire = wire; payload = payload; span = span }) a
    ∙ (ap (λ x. record { number = r.number; wire = x; payload = payload; span = span }) b
    ∙ (ap (λ x. record { number = r.number; wire = r.wire; payload = x; span = span }) c
    ∙ ap (λ x. record { number = r.number; wire = r.wire; payload = r.payload; span = x }) d))

plain_front : (levels at : ℕ) (s rest : List ℕ) (r : Record) → IsRecord (AreRecords levels) r → s ≡ r.span ++ rest → r.wire ≢ 3 → FrontFound levels at s r
plain_front levels at s rest r p e no_start =
    let tag = p.0 in
    let behind = p.1 in
    let n = length tag in
    let whole_is : s ≡ tag ++ (behind ++ rest) = e ∙ (ap (λ x. x ++ rest) p.4 ∙ append_assoc tag behind rest) in
    let behind_tag : drop n s ≡ behind ++ rest = ap (drop n) whole_is ∙ drop_at tag (behind ++ rest) n refl in
    let front = payload_front (AreRecords levels) r.number r.wire (at + n) r.payload behind rest no_start p.3 in
    let form : Form = record { number = r.number; wire = r.wire; payload = n + front.front; payload_len = front.len; size = n + front.front + front.len } in
    let span_size : length r.span ≡ n + length behind = ap length p.4 ∙ length-append tag behind in
    let size : form.size ≡ length r.span = omega (arith, span_size, front.size) in
    let no_end = no_end_spelled (AreRecords levels) r.number r.wire r.payload behind p.3 in
    record {
      form = form;
      whole = form;
      form_is = form_of_parts at s r.number r.wire n front.front front.len (subst (λ x. TagParts x r.number r.wire n) (sym whole_is) (tag_front tag (behind ++ rest) r.number r.wire p.2)) (ap (read_payload r.wire (at + n)) behind_tag ∙ front.is);
      no_end = no_end;
      held = held_plain no_types (deeper_left no_types levels) [] at s form no_start no_end;
      size = size;
      is = same_record r.number r.wire _ _ r refl refl
          (ap (take front.len) (sym (drop-drop front.front n s) ∙ ap (drop front.front) behind_tag) ∙ front.there)
          (ap (λ k. take k s) size ∙ (ap (take (length r.span)) e ∙ take_at r.span rest (length r.span) refl));
    }

-- each record that stands at the front is found, with so many levels
abbrev pub EachFront : ℕ → Type 0
EachFront levels = (at : ℕ) (s rest : List ℕ) (r : Record) → IsRecord (AreRecords levels) r → s ≡ r.span ++ rest → FrontFound levels at s r

and_no : (a b : Bool) → a ≡ false → (a && b) ≡ false
and_no true b e = cc
and_no false b e = refl

-- the tag of a group by itself
bare_form : (at number wire : ℕ) (s tag x : List ℕ) → s ≡ tag ++ x → IsTag tag number wire → read_payload wire (at + length tag) (drop (length tag) s) ≡ Ok (0, 0) → form_at at s ≡ Ok (record { number = number; wire = wire; payload = length tag + 0; payload_len = 0; size = length tag + 0 + 0 })
bare_form at number wire s tag x e p none = form_of_parts at s number wire (length tag) 0 0 (subst (λ y. TagParts y number wire (length tag)) (sym e) (tag_front tag x number wire p)) none

walk_front : (levels : ℕ) → EachFront levels → (number at : ℕ) (rs : List Record) (contents end rest : List ℕ) → Spans (AreRecords levels) rs contents → IsTag end number 4 → walk no_types (deeper_left no_types levels) (in_group [] number) at 0 (contents ++ (end ++ rest)) ≡ Ok (at + length contents, at + (length contents + length end))
walk_front levels each number at [] contents end rest p q =
    let s = contents ++ (end ++ rest) in
    let here : s ≡ end ++ rest = ap (λ x. x ++ (end ++ rest)) p in
    let none = ap length p in
    let form : Form = record { number = number; wire = 4; payload = length end + 0; payload_len = 0; size = length end + 0 + 0 } in
    let some = (tag_front end rest number 4 q).some in
    let filled : s ≢ [] = λ empty. absurd (omega (arith, ap length empty, ap length here, length-append end rest, some)) in
    let stop : at ≡ at + length contents = omega (arith, none) in
    let behind : at + (length end + 0 + 0) ≡ at + (length contents + length end) = omega (arith, none) in
    walk_ends no_types (deeper_left no_types levels) (in_group [] number) at s form filled (bare_form at number 4 s end rest here q refl) (and_from (eqb 4 4) (eqb number number) refl (eq-eqb number number refl))
    ∙ (ap (λ n. Ok (n, at + (length end + 0 + 0))) stop ∙ ap (λ n. Ok (at + length contents, n)) behind)
walk_front levels each number at (r ∷ rs) contents end rest p q =
    let s = contents ++ (end ++ rest) in
    let tail = p.0 ++ (end ++ rest) in
    let here : s ≡ r.span ++ tail = ap (λ x. x ++ (end ++ rest)) p.2 ∙ append_assoc r.span p.0 (end ++ rest) in
    let front = each at s tail r p.1 here in
    let count : length contents ≡ length r.span + length p.0 = ap length p.2 ∙ length-append r.span p.0 in
    let filled = ap length here in
    let all = length-append r.span tail in
    let some : 1 ≤ length r.span = record_size r p.1 in
    let size = front.size in
    let stop : at + front.whole.size + length p.0 ≡ at + length contents = omega (arith, count, size) in
    let behind : at + front.whole.size + (length p.0 + length end) ≡ at + (length contents + length end) = omega (arith, count, size) in
    walk_more no_types (deeper_left no_types levels) (in_group [] number) at s front.form front.whole front.form_is (and_no (eqb front.form.wire 4) (eqb front.form.number number) (ne_eqb front.form.wire 4 front.no_end)) front.held (omega (arith, size, some)) (omega (arith, size, filled, all))
    ∙ (ap (λ x. walk no_types (deeper_left no_types levels) (in_group [] number) (at + front.whole.size) 0 x) (ap (λ n. drop n s) size ∙ (ap (drop (length r.span)) here ∙ drop_at r.span tail (length r.span) refl))
    ∙ (walk_front levels each number (at + front.whole.size) rs p.0 end rest p.3 q
    ∙ ◌∙◌ {b = Ok (at + length contents, at + front.whole.size + (length p.0 + length end))} (ap (λ n. Ok (n, at + front.whole.size + (length p.0 + length end))) stop) (ap (λ n. Ok (at + length contents, n)) behind)))
  where
    record_size : (r : Record) → IsRecord (AreRecords levels) r → 1 ≤ length r.span
    record_size r p =
        let some = (tag_front p.0 p.1 r.number r.wire p.2).some in
        omega (arith, some, ap length p.4, length-append p.0 p.1)

-- a group that stands at the front
group_front : (levels at : ℕ) → EachFront levels → (s rest : List ℕ) (r : Record) → IsRecord (AreRecords (suc levels)) r → s ≡ r.span ++ rest → r.wire ≡ 3 → FrontFound (suc levels) at s r
group_front levels at each s rest r p e wire =
    let tag = p.0 in
    let behind = p.1 in
    let n = length tag in
    let spelled : Spells (AreRecords (suc levels)) r.number 3 r.payload behind = subst (λ w. Spells (AreRecords (suc levels)) r.number w r.payload behind) wire p.3 in
    let end = spelled.0 in
    let whole_is : s ≡ tag ++ (behind ++ rest) = e ∙ (ap (λ x. x ++ rest) p.4 ∙ append_assoc tag behind rest) in
    let behind_tag : drop n s ≡ behind ++ rest = ap (drop n) whole_is ∙ drop_at tag (behind ++ rest) n refl in
    let inside : behind ++ rest ≡ r.payload ++ (end ++ rest) = ap (λ x. x ++ rest) spelled.3 ∙ append_assoc r.payload end rest in
    let zeroth : n ≡ n + 0 = omega arith in
    let form : Form = record { number = r.number; wire = 3; payload = n + 0; payload_len = 0; size = n + 0 + 0 } in
    let start : IsTag tag r.number 3 = subst (IsTag tag r.number) wire p.2 in
    let contents : drop (n + 0) s ≡ r.payload ++ (end ++ rest) = ap (λ k. drop k s) (sym zeroth) ∙ (behind_tag ∙ inside) in
    let there = at + (n + 0) in
    let stop : Stop = (there + length r.payload, there + (length r.payload + length end)) in
    let read : walk_left no_types levels at (in_group [] r.number) there (drop (n + 0) s) ≡ Ok stop =
    ap (λ x. walk_left no_types levels at (in_group [] r.number) there x) contents
    ∙ (walk_left_is no_types levels at (in_group [] r.number) there (r.payload ++ (end ++ rest))
    ∙ walk_front levels each r.number there spelled.1.0 r.payload end rest spelled.1.1 spelled.2) in
    let whole = closed form at stop in
    let count : length r.span ≡ n + (length r.payload + length end) = omega (arith, ap length p.4, length-append tag behind, ap length spelled.3, length-append r.payload end) in
    let size : whole.size ≡ length r.span = omega (arith, count) in
    let len : whole.payload_len ≡ length r.payload = omega arith in
    record {
      form = form;
      whole = whole;
      form_is = bare_form at r.number 3 s tag (behind ++ rest) whole_is start refl;
      no_end = λ four. absurd (omega (arith, four));
      held = held_group no_types (deeper_left no_types (suc levels)) [] at s form refl ∙ ap (λ x. x >>= λ stop. Ok (closed form at stop)) read;
      size = size;
      is = same_record r.number 3 _ _ r refl (sym wire)
          (ap (λ k. take k (drop (n + 0) s)) len ∙ (ap (take (length r.payload)) contents ∙ take_at r.payload (end ++ rest) (length r.payload) refl))
          (ap (λ k. take k s) size ∙ (ap (take (length r.span)) e ∙ take_at r.span rest (length r.span) refl));
    }

-- no level is left for a group
no_group : (r : Record) → IsRecord (AreRecords 0) r → r.wire ≢ 3
no_group r p wire = absurd ((subst (λ w. Spells (AreRecords 0) r.number w r.payload p.1) wire p.3).1)

cases_eq : (a b : ℕ) → (a ≡ b) ⊎ (a ≢ b)
cases_eq a b = cases (eqb a b) refl
  where
    cases : (t : Bool) → eqb a b ≡ t → (a ≡ b) ⊎ (a ≢ b)
    cases true e = inl (eqb-true a b e)
    cases false e = inr (λ same. absurd (false≢true (sym e ∙ eq-eqb a b same)))

pub each_front : (levels : ℕ) → EachFront levels
each_front zero at s rest r p e = plain_front 0 at s rest r p e (no_group r p)
each_front (suc levels) at s rest r p e =
    ⊎_elim
    (λ (wire : r.wire ≡ 3). group_front levels at (each_front levels) s rest r p e wire)
    (λ (other : r.wire ≢ 3). plain_front (suc levels) at s rest r p e other)
    (cases_eq r.wire 3)

-- ONE AFTER ANOTHER

-- the form of the record at the front, where one stands there
abbrev pub first_of : ℕ → List ℕ → Option Form
first_of levels s = value_read (record_left no_types levels [] 0 s)

record_from-skip : (levels skip : ℕ) (s : List ℕ) → records_from (first_of levels) skip s ≡ records_from (first_of levels) 0 (drop skip s)
record_from-skip levels zero s = refl
record_from-skip levels (suc skip) [] = refl
record_from-skip levels (suc skip) (b ∷ s) = record_from-skip levels skip s

-- what the record at the front makes of the rest
abbrev after_first : ℕ → ℕ → List ℕ → Option Form → Option (List Record)
after_first levels b s o = elim o [ None ↦ None | Some form ↦ option_map (λ rs. record_of form (b ∷ s) ∷ rs) (records_from (first_of levels) (form.size - 1) s) ]

records_more : (levels b : ℕ) (s : List ℕ) (form : Form) → first_of levels (b ∷ s) ≡ Some form → 1 ≤ form.size → records_within levels (b ∷ s) ≡ option_map (λ rs. record_of form (b ∷ s) ∷ rs) (records_within levels (drop form.size (b ∷ s)))
records_more levels b s form e some =
    let size : suc (form.size - 1) ≡ form.size = omega (arith, some) in
    ap (after_first levels b s) e
    ∙ ap (λ o. option_map (λ rs. record_of form (b ∷ s) ∷ rs) o) (record_from-skip levels (form.size - 1) s ∙ ap (λ n. records_within levels (drop n (b ∷ s))) size)

-- the first record, from what is found at the front
first_found : (levels : ℕ) (s : List ℕ) (whole : Form) → first_of levels s ≡ Some whole → RecordFound levels s whole
first_found levels s whole e =
    bind_ok (form_at 0 s) (λ form. read_held no_types (deeper_left no_types levels) [] 0 s form) whole (some_ok (record_left no_types levels [] 0 s) whole e)
    λ form was held. each_found levels 0 s form whole was held
  where
    some_ok : (r : Result Form WireFault) (whole : Form) → value_read r ≡ Some whole → r ≡ Ok whole
    some_ok (Ok x) whole e = ap Ok (same_Some x whole e)
    some_ok (Err d) whole e = absurd (none-some whole e)

pub records_found : (levels : ℕ) (rs : List Record) (s : List ℕ) → records_within levels s ≡ Some rs → RecordsWithin levels s rs
records_found levels [] [] e = refl
records_found levels [] (b ∷ s) e =
    ⊎_elim
    (λ none. absurd (none-some [] (sym (ap (after_first levels b s) none) ∙ e)))
    (λ some.
    option_map_some (λ rs. record_of some.0 (b ∷ s) ∷ rs) (records_within levels (drop some.0.size (b ∷ s))) [] (sym (records_more levels b s some.0 some.1 (first_found levels (b ∷ s) some.0 some.1).some) ∙ e)
    λ rest was is. absurd (not_nil (record_of some.0 (b ∷ s)) rest is))
    (cases_option (first_of levels (b ∷ s)))
records_found levels (r ∷ rs) [] e = absurd (not_nil r rs (sym (same_Some [] (r ∷ rs) e)))
records_found levels (r ∷ rs) (b ∷ s) e =
    ⊎_elim
    (λ none. absurd (none-some (r ∷ rs) (sym (ap (after_first levels b s) none) ∙ e)))
    (λ some.
    let whole = some.0 in
    let found = first_found levels (b ∷ s) whole some.1 in
    option_map_some (λ rs. record_of whole (b ∷ s) ∷ rs) (records_within levels (drop whole.size (b ∷ s))) (r ∷ rs) (sym (records_more levels b s whole some.1 found.some) ∙ e)
    λ rest was is.
    let same = same_cons (record_of whole (b ∷ s)) r rest rs is in
    let cut : b ∷ s ≡ r.span ++ drop whole.size (b ∷ s) = sym (take-append-drop whole.size (b ∷ s)) ∙ ap (λ (x : Record). x.span ++ drop whole.size (b ∷ s)) same.0 in
    (drop whole.size (b ∷ s), subst (IsRecord (AreRecords levels)) same.0 found.is, cut, records_found levels rs (drop whole.size (b ∷ s)) (was ∙ ap Some same.1)))
    (cases_option (first_of levels (b ∷ s)))

-- the record that stands at the front is the first
first_front : (levels : ℕ) (s rest : List ℕ) (r : Record) → IsRecord (AreRecords levels) r → s ≡ r.span ++ rest → (whole : Form) × (first_of levels s ≡ Some whole) × (whole.size ≡ length r.span) × (record_of whole s ≡ r)
first_front levels s rest r p e =
    let front = each_front levels 0 s rest r p e in
    (front.whole, ap value_read (ap (λ x. x >>= λ form. read_held no_types (deeper_left no_types levels) [] 0 s form) front.form_is ∙ front.held), front.size, front.is)

pub record_size : (levels : ℕ) (r : Record) → IsRecord (AreRecords levels) r → 1 ≤ length r.span
record_size levels r p =
    let some = (tag_front p.0 p.1 r.number r.wire p.2).some in
    omega (arith, some, ap length p.4, length-append p.0 p.1)

records_behind : (levels : ℕ) (s rest : List ℕ) (r : Record) → IsRecord (AreRecords levels) r → s ≡ r.span ++ rest → records_within levels s ≡ option_map (λ rs. r ∷ rs) (records_within levels rest)
records_behind levels [] rest r p e = absurd (omega (arith, record_size levels r p, ap length e, length-append r.span rest))
records_behind levels (b ∷ s) rest r p e =
    let first = first_front levels (b ∷ s) rest r p e in
    let some = record_size levels r p in
    let behind : drop first.0.size (b ∷ s) ≡ rest = ap (λ n. drop n (b ∷ s)) first.2 ∙ (ap (drop (length r.span)) e ∙ drop_at r.span rest (length r.span) refl) in
    records_more levels b s first.0 first.1 (omega (arith, first.2, some))
    ∙ (ap (λ x. option_map (λ rs. x ∷ rs) (records_within levels (drop first.0.size (b ∷ s)))) first.3
    ∙ ap (λ x. option_map (λ rs. r ∷ rs) (records_within levels x)) behind)

pub records_of_spans : (levels : ℕ) (rs : List Record) (s : List ℕ) → RecordsWithin levels s rs → records_within levels s ≡ Some rs
records_of_spans levels [] s p = ap (records_within levels) p
records_of_spans levels (r ∷ rs) s p =
    records_behind levels s p.0 r p.1 p.2 ∙ ap (λ o. option_map (λ rs. r ∷ rs) o) (records_of_spans levels rs p.0 p.3)

-- AS MANY LEVELS AS BYTES

-- how groups that are nested otherwise are spelled
pub spells_with : (A B : List ℕ → Type 0) (number wire : ℕ) (payload behind : List ℕ) → Spells A number wire payload behind → (wire ≡ 3 → A payload → B payload) → Spells B number wire payload behind
spells_with A B number zero payload behind p f = p
spells_with A B number (suc zero) payload behind p f = p
spells_with A B number (suc (suc zero)) payload behind p f = p
spells_with A B number (suc (suc (suc zero))) payload behind p f = (p.0, f refl p.1, p.2, p.3)
spells_with A B number (suc (suc (suc (suc zero)))) payload behind p f = p
spells_with A B number (suc (suc (suc (suc (suc zero))))) payload behind p f = p
spells_with A B number (suc (suc (suc (suc (suc (suc wire)))))) payload behind p f = p

group_size : (A : List ℕ → Type 0) (r : Record) → IsRecord A r → r.wire ≡ 3 → suc (length r.payload) < length r.span
group_size A r p wire =
    let spelled : Spells A r.number 3 r.payload p.1 = subst (λ w. Spells A r.number w r.payload p.1) wire p.3 in
    let start = (tag_front p.0 p.1 r.number r.wire p.2).some in
    let end = (tag_front spelled.0 [] r.number 4 spelled.2).some in
    omega (arith, start, end, ap length p.4, length-append p.0 p.1, ap length spelled.3, length-append r.payload spelled.0)

-- records of no more than m bytes need no more than m levels
abbrev Enough : ℕ → Type 0
Enough m = (levels : ℕ) (rs : List Record) (s : List ℕ) → length s ≤ m → RecordsWithin levels s rs → RecordsWithin m s rs

record_enough : (m levels : ℕ) (r : Record) → Enough m → length r.span ≤ suc m → IsRecord (AreRecords levels) r → IsRecord (AreRecords (suc m)) r
record_enough m zero r enough h q = (q.0, q.1, q.2, spells_with (AreRecords 0) (AreRecords (suc m)) r.number r.wire r.payload q.1 q.3 (λ wire none. absurd none), q.4)
record_enough m (suc less) r enough h q = (
  q.0,
  q.1,
  q.2,
  spells_with (AreRecords (suc less)) (AreRecords (suc m)) r.number r.wire r.payload q.1 q.3 (λ wire cut.
      let size = group_size (AreRecords (suc less)) r q wire in
      (cut.0, enough less cut.0 r.payload (omega (arith, size, h)) cut.1)),
  q.4,
)

spans_enough : (m : ℕ) → Enough m → Enough (suc m)
spans_enough m enough levels [] s h p = p
spans_enough m enough levels (r ∷ rs) s h p =
    let all : length s ≡ length r.span + length p.0 = ap length p.2 ∙ length-append r.span p.0 in
    (p.0, record_enough m levels r enough (omega (arith, h, all)) p.1, p.2, spans_enough m enough levels rs p.0 (omega (arith, h, all)) p.3)

none_enough : Enough 0
none_enough levels [] s h p = p
none_enough levels (r ∷ rs) s h p = absurd (omega (arith, h, record_size levels r p.1, ap length p.2, length-append r.span p.0))

levels_enough : (m : ℕ) → Enough m
levels_enough zero = none_enough
levels_enough (suc m) = spans_enough m (levels_enough m)

pub records_exact : (s : List ℕ) (rs : List Record) → Records s rs → records_of s ≡ Some rs
records_exact s rs p = records_of_spans (length s) rs s (levels_enough (length s) p.0 rs s (same_size (length s)) p.1)
  where
    same_size : (n : ℕ) → n ≤ n
    same_size n = omega arith

pub records_found_any : (s : List ℕ) (rs : List Record) → records_of s ≡ Some rs → Records s rs
records_found_any s rs e = (length s, records_found (length s) rs s e)

pub one_list_of_records : (s : List ℕ) (rs qs : List Record) → Records s rs → Records s qs → rs ≡ qs
one_list_of_records s rs qs p q = same_Some rs qs (sym (records_exact s rs p) ∙ records_exact s qs q)
