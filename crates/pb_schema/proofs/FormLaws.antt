-- The form of a record, from its parts and back.
use Rattle.std.proofs.Common.{◌≡◌, ℕ, zero, suc, ◌+◌, ◌*◌, ◌/◌, ◌%◌, ◌^◌, ◌<◌, ◌≤◌, List, length, drop, Bool, true, false, cond, Option, None, Some, Result, Ok, Err, refl, ap, ◌∙◌, subst, arith, length-drop, ltb, leb, ◌&&◌, is_ok}
use Rattle.std.proofs.lemmas.Bool.{false≢true, lt-ltb, le-leb, ltb-true, leb-true, cond-true, and_from, and_parts}
use Rattle.pb_schema.specs.declared.wire_fault.WireKind.TheVariants.{BadTag, BadLength, Cut}
use Rattle.pb_schema.specs.declared.wire_fault.WireFault.{WireFault}
use Rattle.pb_schema.specs.Varint.{varint_at, tag_bytes, length_bytes, value_bytes}
use Rattle.pb_schema.specs.Reads.{fault, ◌>>=◌}
use Rattle.pb_schema.specs.Form.{Form, varint_fault, read_varint, is_tag, read_tag, read_length, read_bytes, read_scalar, read_payload, form_at}
use Rattle.pb_schema.proofs.Steps.{varint_at_within}

pub not_ok : {A E P : Type 0} (e : E) (x : A) → ◌≡◌ {A = Result A E} (Err e) (Ok x) → P
not_ok e x h = absurd (false≢true (ap is_ok h))

pub same_ok : {A E : Type 0} (x y : A) → ◌≡◌ {A = Result A E} (Ok x) (Ok y) → x ≡ y
same_ok x y e = cc

-- what was read before what was read
pub bind_ok : {A B P : Type 0} (r : Result A WireFault) (f : A → Result B WireFault) (y : B) → (r >>= f) ≡ Ok y → ((x : A) → r ≡ Ok x → f x ≡ Ok y → P) → P
bind_ok (Ok x) f y e k = k x refl e
bind_ok (Err d) f y e k = not_ok d y e

-- a test that was passed
pub tested_ok : {A P : Type 0} (b : Bool) (x y : A) (d : WireFault) → cond b (Ok x) (Err d) ≡ Ok y → (b ≡ true → x ≡ y → P) → P
tested_ok true x y d e k = k refl (same_ok x y e)
tested_ok false x y d e k = not_ok d y e

-- VARINTS

abbrev varint_or : Option (ℕ × ℕ) → ℕ → ℕ → List ℕ → Result (ℕ × ℕ) WireFault
varint_or o most at s = elim o [ Some found ↦ Ok (found.0, found.1) | None ↦ fault (varint_fault most s) at ]

varint_or_ok : (o : Option (ℕ × ℕ)) (most at : ℕ) (s : List ℕ) (v : ℕ × ℕ) → varint_or o most at s ≡ Ok v → o ≡ Some v
varint_or_ok None most at s v e = not_ok (record { kind = varint_fault most s; byte = at }) v e
varint_or_ok (Some found) most at s v e = ap Some (same_ok (found.0, found.1) v e)

pub read_varint_ok : (most at : ℕ) (s : List ℕ) (v : ℕ × ℕ) → read_varint most at s ≡ Ok v → varint_at most s ≡ Some v
read_varint_ok most at s v e = varint_or_ok (varint_at most s) most at s v e

pub read_varint_some : (most at : ℕ) (s : List ℕ) (v n : ℕ) → varint_at most s ≡ Some (v, n) → read_varint most at s ≡ Ok (v, n)
read_varint_some most at s v n e = ap (λ o. varint_or o most at s) e

pub read_varint_none : (most at : ℕ) (s : List ℕ) → varint_at most s ≡ None → read_varint most at s ≡ fault (varint_fault most s) at
read_varint_none most at s e = ap (λ o. varint_or o most at s) e

-- TAGS

pub record TagParts (s : List ℕ) (number wire n : ℕ) : Type 0 where
  pub varint : varint_at tag_bytes s ≡ Some (number * 8 + wire, n)
  pub below : number * 8 + wire < 2 ^ 32
  pub least : 1 ≤ number
  pub wire_type : wire ≤ 5
  pub some : 1 ≤ n
  pub within : n ≤ length s

pub read_tag_ok : {P : Type 0} (at : ℕ) (s : List ℕ) (tag : ℕ × ℕ × ℕ) → read_tag at s ≡ Ok tag → (TagParts s tag.0 tag.1 tag.2 → P) → P
read_tag_ok at s tag e k =
    bind_ok (read_varint tag_bytes at s) _ tag e
    λ found was is.
    tested_ok (is_tag found.0) _ tag _ is
    λ test same.
    let first = and_parts (ltb found.0 (2 ^ 32) && leb 1 (found.0 / 8)) (leb (found.0 % 8) 5) test in
    let two = and_parts (ltb found.0 (2 ^ 32)) (leb 1 (found.0 / 8)) first.0 in
    let there = read_varint_ok tag_bytes at s found was in
    let size = varint_at_within tag_bytes s found.0 found.1 there in
    let number : found.0 / 8 ≡ tag.0 = ap (λ t. t.0) same in
    let wire : found.0 % 8 ≡ tag.1 = ap (λ t. t.1) same in
    let bytes : found.1 ≡ tag.2 = ap (λ t. t.2) same in
    let whole : found.0 ≡ tag.0 * 8 + tag.1 = omega (arith, number, wire) in
    let short = ltb-true found.0 (2 ^ 32) two.0 in
    let least = leb-true 1 (found.0 / 8) two.1 in
    let most = leb-true (found.0 % 8) 5 first.1 in
    k (record {
      varint = there ∙ (ap (λ v. Some (v, found.1)) whole ∙ ap (λ n. Some (tag.0 * 8 + tag.1, n)) bytes);
      below = omega (arith, whole, short);
      least = omega (arith, number, least);
      wire_type = omega (arith, wire, most);
      some = omega (arith, bytes, size.0);
      within = omega (arith, bytes, size.2);
    })

pub read_tag_of : (at : ℕ) (s : List ℕ) (number wire n : ℕ) → TagParts s number wire n → read_tag at s ≡ Ok (number, wire, n)
read_tag_of at s number wire n p =
    let eighth : (number * 8 + wire) / 8 ≡ number = omega (arith, p.wire_type) in
    let rest : (number * 8 + wire) % 8 ≡ wire = omega (arith, p.wire_type) in
    ap (λ r. r >>= λ tag. cond (is_tag tag.0) (Ok (tag.0 / 8, tag.0 % 8, tag.1)) (fault BadTag at)) (read_varint_some tag_bytes at s (number * 8 + wire) n p.varint)
    ∙ (cond-true (is_tag (number * 8 + wire)) _ _ (and_from _ _ (and_from _ _ (lt-ltb (number * 8 + wire) (2 ^ 32) p.below) (le-leb 1 ((number * 8 + wire) / 8) (omega (arith, eighth, p.least)))) (le-leb ((number * 8 + wire) % 8) 5 (omega (arith, rest, p.wire_type))))
    ∙ (ap (λ m. Ok (m, (number * 8 + wire) % 8, n)) eighth ∙ ap (λ m. Ok (number, m, n)) rest))

-- PAYLOADS

pub read_bytes_ok : {P : Type 0} (len at : ℕ) (s : List ℕ) (n : ℕ) → read_bytes len at s ≡ Ok n → (len ≡ n → len ≤ length s → P) → P
read_bytes_ok len at s n e k = tested_ok (leb len (length s)) len n (record { kind = Cut; byte = at }) e λ test same. k same (leb-true len (length s) test)

pub read_bytes_of : (len at : ℕ) (s : List ℕ) → len ≤ length s → read_bytes len at s ≡ Ok len
read_bytes_of len at s h = cond-true (leb len (length s)) _ _ (le-leb len (length s) h)

pub record LengthParts (s : List ℕ) (len n : ℕ) : Type 0 where
  pub varint : varint_at length_bytes s ≡ Some (len, n)
  pub below : len < 2 ^ 31
  pub some : 1 ≤ n
  pub within : n ≤ length s

pub read_length_ok : {P : Type 0} (at : ℕ) (s : List ℕ) (len : ℕ × ℕ) → read_length at s ≡ Ok len → (LengthParts s len.0 len.1 → P) → P
read_length_ok at s len e k =
    bind_ok (read_varint length_bytes at s) _ len e
    λ found was is.
    tested_ok (ltb found.0 (2 ^ 31)) found len _ is
    λ test same.
    let there = read_varint_ok length_bytes at s len (was ∙ ap Ok same) in
    let size = varint_at_within length_bytes s len.0 len.1 there in
    let value : found.0 ≡ len.0 = ap (λ t. t.0) same in
    let short = ltb-true found.0 (2 ^ 31) test in
    k (record { varint = there; below = omega (arith, value, short); some = size.0; within = size.2 })

pub read_length_of : (at : ℕ) (s : List ℕ) (len n : ℕ) → LengthParts s len n → read_length at s ≡ Ok (len, n)
read_length_of at s len n p =
    ap (λ r. r >>= λ found. cond (ltb found.0 (2 ^ 31)) (Ok found) (fault BadLength at)) (read_varint_some length_bytes at s len n p.varint)
    ∙ cond-true (ltb len (2 ^ 31)) _ _ (lt-ltb len (2 ^ 31) p.below)

-- a length and its payload
pub record DelimitedParts (s : List ℕ) (part : ℕ × ℕ) : Type 0 where
  pub len : LengthParts s part.1 part.0
  pub within : part.0 + part.1 ≤ length s

pub read_delimited_ok : {P : Type 0} (at : ℕ) (s : List ℕ) (part : ℕ × ℕ) → read_payload 2 at s ≡ Ok part → (DelimitedParts s part → P) → P
read_delimited_ok at s part e k =
    bind_ok (read_length at s) _ part e
    λ len was is.
    read_length_ok at s len was
    λ parts.
    bind_ok (read_bytes len.0 (at + len.1) (drop len.1 s)) _ part is
    λ n there same.
    read_bytes_ok len.0 (at + len.1) (drop len.1 s) n there
    λ same_len fits.
    let whole : (len.1, n) ≡ part = same_ok (len.1, n) part same in
    let front : len.1 ≡ part.0 = ap (λ t. t.0) whole in
    let back : len.0 ≡ part.1 = same_len ∙ ap (λ t. t.1) whole in
    k (record {
      len = record {
        varint = parts.varint ∙ (ap (λ v. Some (v, len.1)) back ∙ ap (λ n. Some (part.1, n)) front);
        below = omega (arith, back, parts.below);
        some = omega (arith, front, parts.some);
        within = omega (arith, front, parts.within);
      };
      within = omega (arith, front, back, fits, parts.within, length-drop len.1 s);
    })

pub read_delimited_of : (at : ℕ) (s : List ℕ) (part : ℕ × ℕ) → DelimitedParts s part → read_payload 2 at s ≡ Ok part
read_delimited_of at s part p =
    ap (λ r. r >>= λ len. read_bytes len.0 (at + len.1) (drop len.1 s) >>= λ n. Ok (len.1, n)) (read_length_of at s part.1 part.0 p.len)
    ∙ ap (λ r. r >>= λ n. Ok (part.0, n)) (read_bytes_of part.1 (at + part.0) (drop part.0 s) (omega (arith, p.within, length-drop part.0 s)))

pub read_scalar_within : {P : Type 0} (wire at : ℕ) (s : List ℕ) (n : ℕ) → read_scalar wire at s ≡ Ok n → (n ≤ length s → P) → P
read_scalar_within zero at s n e k =
    bind_ok (read_varint value_bytes at s) _ n e
    λ found was is.
    let size = varint_at_within value_bytes s found.0 found.1 (read_varint_ok value_bytes at s found was) in
    let same : found.1 ≡ n = same_ok found.1 n is in
    k (omega (arith, same, size.2))
read_scalar_within (suc zero) at s n e k = read_bytes_ok 8 at s n e λ same fits. k (omega (arith, same, fits))
read_scalar_within (suc (suc zero)) at s n e k = let same : 0 ≡ n = same_ok 0 n e in k (omega (arith, same))
read_scalar_within (suc (suc (suc zero))) at s n e k = let same : 0 ≡ n = same_ok 0 n e in k (omega (arith, same))
read_scalar_within (suc (suc (suc (suc zero)))) at s n e k = let same : 0 ≡ n = same_ok 0 n e in k (omega (arith, same))
read_scalar_within (suc (suc (suc (suc (suc zero))))) at s n e k = read_bytes_ok 4 at s n e λ same fits. k (omega (arith, same, fits))
read_scalar_within (suc (suc (suc (suc (suc (suc wire)))))) at s n e k = let same : 0 ≡ n = same_ok 0 n e in k (omega (arith, same))

-- a payload by itself, without a length in front of it
alone_within : {P : Type 0} (wire at : ℕ) (s : List ℕ) (part : ℕ × ℕ) → (read_scalar wire at s >>= λ n. Ok (0, n)) ≡ Ok part → (part.0 + part.1 ≤ length s → P) → P
alone_within wire at s part e k =
    bind_ok (read_scalar wire at s) _ part e
    λ n was is.
    read_scalar_within wire at s n was
    λ within.
    let whole : (0, n) ≡ part = same_ok (0, n) part is in
    let front : 0 ≡ part.0 = ap (λ t. t.0) whole in
    let back : n ≡ part.1 = ap (λ t. t.1) whole in
    k (omega (arith, front, back, within))

pub read_payload_within : {P : Type 0} (wire at : ℕ) (s : List ℕ) (part : ℕ × ℕ) → read_payload wire at s ≡ Ok part → (part.0 + part.1 ≤ length s → P) → P
read_payload_within zero at s part e k = alone_within 0 at s part e k
read_payload_within (suc zero) at s part e k = alone_within 1 at s part e k
read_payload_within (suc (suc zero)) at s part e k = read_delimited_ok at s part e λ parts. k parts.within
read_payload_within (suc (suc (suc wire))) at s part e k = alone_within (suc (suc (suc wire))) at s part e k

-- FORMS

pub record FormParts (at : ℕ) (s : List ℕ) (form : Form) : Type 0 where
  pub tag_size : ℕ
  pub tag : TagParts s form.number form.wire tag_size
  pub front : ℕ
  pub part : read_payload form.wire (at + tag_size) (drop tag_size s) ≡ Ok (front, form.payload_len)
  pub payload_is : form.payload ≡ tag_size + front
  pub size_is : form.size ≡ form.payload + form.payload_len
  pub within : form.size ≤ length s

form_from : ℕ × ℕ × ℕ → ℕ × ℕ → Form
form_from tag part = record { number = tag.0; wire = tag.1; payload = tag.2 + part.0; payload_len = part.1; size = tag.2 + part.0 + part.1 }

pub form_ok : {P : Type 0} (at : ℕ) (s : List ℕ) (form : Form) → form_at at s ≡ Ok form → (FormParts at s form → P) → P
unfolding form_from
form_ok at s form e k =
    bind_ok (read_tag at s) _ form e
    λ tag was is.
    read_tag_ok at s tag was
    λ tag_parts.
    bind_ok (read_payload tag.1 (at + tag.2) (drop tag.2 s)) _ form is
    λ part there same.
    read_payload_within tag.1 (at + tag.2) (drop tag.2 s) part there
    λ within.
    let whole : form_from tag part ≡ form = same_ok (form_from tag part) form same in
    let fits : tag.2 + part.0 + part.1 ≤ length s = omega (arith, within, tag_parts.within, length-drop tag.2 s) in
    k (subst (FormParts at s) whole (record { tag_size = tag.2; tag = tag_parts; front = part.0; part = there; payload_is = refl; size_is = refl; within = fits }))

pub form_of_parts : (at : ℕ) (s : List ℕ) (number wire n front len : ℕ) → TagParts s number wire n → read_payload wire (at + n) (drop n s) ≡ Ok (front, len) → form_at at s ≡ Ok (record { number = number; wire = wire; payload = n + front; payload_len = len; size = n + front + len })
unfolding form_from
form_of_parts at s number wire n front len tag part =
    ap (λ r. r >>= λ tag. read_payload tag.1 (at + tag.2) (drop tag.2 s) >>= λ part. Ok (form_from tag part)) (read_tag_of at s number wire n tag)
    ∙ ap (λ r. r >>= λ part. Ok (form_from (number, wire, n) part)) part

-- a record has a byte, and no more than stand there
pub form_within : {P : Type 0} (at : ℕ) (s : List ℕ) (form : Form) → form_at at s ≡ Ok form → ((1 ≤ form.size) × (form.size ≤ length s) × (1 ≤ form.payload) × (form.size ≡ form.payload + form.payload_len) → P) → P
form_within at s form e k = form_ok at s form e λ p. k (omega (arith, p.payload_is, p.size_is, p.tag.some), p.within, omega (arith, p.payload_is, p.tag.some), p.size_is)
