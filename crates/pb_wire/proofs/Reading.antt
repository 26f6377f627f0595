-- Reading varints at a place of the bytes.
use Rattle.std.proofs.Common.{◌≡◌, ◌⊎◌, ◌+◌, ◌-◌, ◌*◌, ◌%◌, ◌^◌, ◌<◌, ◌≤◌, ℕ, List, length, get_or, take, drop, Option, None, Some, Ok, Err, min, refl, sym, ap, ◌∙◌, inl, inr, ⊎_elim, ltb, if◌then◌else◌, length-drop, arith}
use Rattle.std.proofs.Math.Nat.{add-mod}
use Rattle.std.proofs.lemmas.Bool.{cases_lt}
use Rattle.std.proofs.lemmas.List.{get_or-drop}
use Rattle.std.proofs.lemmas.Option.{none-some, same_Some}
use Rattle.pb_schema.specs.declared.wire_fault.WireKind.TheVariants.{Cut, LongVarint}
use Rattle.pb_schema.specs.Varint.{seven_bits, varint_at}
use Rattle.pb_schema.specs.Form.{read_varint}
use Rattle.pb_schema.proofs.Steps.{ContinuedTo, continued_none, continued_more, continued_value, continued_cut, continued_long, seven_bits_more}
use Rattle.pb_schema.proofs.FormLaws.{read_varint_some, read_varint_none}
use Rattle.pb_wire.specs.Placed.{found_from, moved}

-- what was found, counted from the start of all bytes
pub moved_found : (start most : ℕ) (s : List ℕ) (v n end : ℕ) → varint_at most s ≡ Some (v, n) → end ≡ start + n → Some (v, end) ≡ found_from start (varint_at most s)
moved_found start most s v n end e is_end = ap (λ k. Some (v, k)) is_end ∙ sym (ap (found_from start) e)

-- the same as a result
found_read : (o : Option (ℕ × ℕ)) (start most : ℕ) (s : List ℕ) (v end : ℕ) → varint_at most s ≡ o → Some (v, end) ≡ found_from start o → Ok (v, end) ≡ moved start (read_varint most start s)
found_read None start most s v end is e = absurd (none-some (v, end) (sym e))
found_read (Some x) start most s v end is e =
    let same = same_Some (v, end) (x.0, start + x.1) e in
    ap Ok same ∙ sym (ap (moved start) (read_varint_some most start s x.0 x.1 is))

pub some_read : (start most : ℕ) (s : List ℕ) (v end : ℕ) → Some (v, end) ≡ found_from start (varint_at most s) → Ok (v, end) ≡ moved start (read_varint most start s)
some_read start most s v end e = found_read (varint_at most s) start most s v end refl e

none_from : (o : Option (ℕ × ℕ)) (start : ℕ) → None ≡ found_from start o → o ≡ None
none_from None start e = refl
none_from (Some x) start e = absurd (none-some (x.0, start + x.1) e)

pub none_read : (bytes : List ℕ) (start most : ℕ) → None ≡ found_from start (varint_at most (drop start bytes)) → Err (record { kind = if ltb (length bytes - start) most then Cut else LongVarint; byte = start }) ≡ moved start (read_varint most start (drop start bytes))
none_read bytes start most e =
    ap (λ n. Err (record { kind = if ltb n most then Cut else LongVarint; byte = start })) (sym (length-drop start bytes))
    ∙ sym (ap (moved start) (read_varint_none most start (drop start bytes) (none_from (varint_at most (drop start bytes)) start e)))

-- one byte more of a varint, modulo 2 ^ 64
seven_bits_so_far : (s : List ℕ) (i value low : ℕ) → i < length s → value ≡ seven_bits (take i s) % 2 ^ 64 → low ≡ get_or s i 0 % 128 → (value + low * 2 ^ (7 * i) % 2 ^ 64) % 2 ^ 64 ≡ seven_bits (take (i + 1) s) % 2 ^ 64
seven_bits_so_far s i value low within is_value is_low =
    let m : ℕ = 2 ^ 64 in
    ap (λ n. (n + low * 2 ^ (7 * i) % m) % m) is_value
    ∙ (sym (add-mod (seven_bits (take i s)) (low * 2 ^ (7 * i)) m)
    ∙ (ap (λ b. (seven_bits (take i s) + b * 2 ^ (7 * i)) % m) is_low ∙ ap (λ n. n % m) (sym (seven_bits_more s i within))))

-- where a reader of a varint stands, in the bytes from `start` on
pub record ReadTo (bytes : List ℕ) (start most i value : ℕ) : Type 0 where
  pub continued : ContinuedTo most (drop start bytes) i
  pub value_is : value ≡ seven_bits (take i (drop start bytes)) % 2 ^ 64

pub read_more : (bytes : List ℕ) (start most i value low : ℕ) → ReadTo bytes start most i value → i < most → start + i < length bytes → 128 ≤ get_or bytes (start + i) 0 → low ≡ get_or bytes (start + i) 0 % 128
    → ReadTo bytes start most (i + 1) ((value + low * 2 ^ (7 * i) % 2 ^ 64) % 2 ^ 64)
read_more bytes start most i value low so_far within inside big is_low =
    let s = drop start bytes in
    let at = get_or-drop start bytes i 0 in
    let here : i < length s = omega (arith, length-drop start bytes, inside) in
    let big_here : 128 ≤ get_or s i 0 = omega (arith, at, big) in
    record {
      continued = continued_more most s i so_far.continued within here big_here;
      value_is = seven_bits_so_far s i value low here so_far.value_is (is_low ∙ ap (λ b. b % 128) (sym at));
    }

pub read_last : (bytes : List ℕ) (start most i value low end : ℕ) → ReadTo bytes start most i value → i < most → start + i < length bytes → get_or bytes (start + i) 0 < 128 → low ≡ get_or bytes (start + i) 0 % 128 → end ≡ start + i + 1
    → Some ((value + low * 2 ^ (7 * i) % 2 ^ 64) % 2 ^ 64, end) ≡ found_from start (varint_at most (drop start bytes))
read_last bytes start most i value low end so_far within inside small is_low is_end =
    let s = drop start bytes in
    let at = get_or-drop start bytes i 0 in
    let here : i < length s = omega (arith, length-drop start bytes, inside) in
    let small_here : get_or s i 0 < 128 = omega (arith, at, small) in
    ap (λ v. Some (v, end)) (seven_bits_so_far s i value low here so_far.value_is (is_low ∙ ap (λ b. b % 128) (sym at)))
    ∙ moved_found start most s _ (i + 1) end (continued_value most s i so_far.continued within here small_here) (omega (arith, is_end))

-- a varint of one byte
pub read_first : (bytes : List ℕ) (start most byte : ℕ) → 1 ≤ most → start < length bytes → byte ≡ get_or bytes start 0 → byte < 128 → Some (byte, start + 1) ≡ found_from start (varint_at most (drop start bytes))
read_first bytes start most byte some inside is_byte small =
    let s = drop start bytes in
    let here : 0 < length s = omega (arith, length-drop start bytes, inside) in
    let first : start + 0 ≡ start = omega arith in
    let at : get_or s 0 0 ≡ byte = get_or-drop start bytes 0 0 ∙ (ap (λ k. get_or bytes k 0) first ∙ sym is_byte) in
    let small_here : get_or s 0 0 < 128 = omega (arith, at, small) in
    let one : seven_bits (take 1 s) ≡ 0 + get_or s 0 0 % 128 * 1 = seven_bits_more s 0 here in
    let value : seven_bits (take 1 s) % 2 ^ 64 ≡ byte = omega (arith, one, at, small) in
    moved_found start most s byte 1 (start + 1) (continued_value most s 0 (continued_none most s) some here small_here ∙ ap (λ v. Some (v, 1)) value) refl

-- a varint of two bytes
pub read_second : (bytes : List ℕ) (start most value : ℕ) → 2 ≤ most → start + 1 < length bytes → 128 ≤ get_or bytes start 0 → get_or bytes (start + 1) 0 < 128 → value ≡ get_or bytes start 0 % 128 + get_or bytes (start + 1) 0 * 128 → Some (value, start + 2) ≡ found_from start (varint_at most (drop start bytes))
read_second bytes start most value some inside big small is_value =
    let s = drop start bytes in
    let first : start + 0 ≡ start = omega arith in
    let here : 1 < length s = omega (arith, length-drop start bytes, inside) in
    let at : get_or s 0 0 ≡ get_or bytes start 0 = get_or-drop start bytes 0 0 ∙ ap (λ k. get_or bytes k 0) first in
    let then_ : get_or s 1 0 ≡ get_or bytes (start + 1) 0 = get_or-drop start bytes 1 0 in
    let big_here : 128 ≤ get_or s 0 0 = omega (arith, at, big) in
    let small_here : get_or s 1 0 < 128 = omega (arith, then_, small) in
    let goes_on = continued_more most s 0 (continued_none most s) (omega (arith, some)) (omega (arith, here)) big_here in
    let one : seven_bits (take 1 s) ≡ 0 + get_or s 0 0 % 128 * 1 = seven_bits_more s 0 (omega (arith, here)) in
    let two : seven_bits (take 2 s) ≡ seven_bits (take 1 s) + get_or s 1 0 % 128 * 128 = seven_bits_more s 1 here in
    let whole : seven_bits (take 2 s) % 2 ^ 64 ≡ value = omega (arith, one, two, at, then_, small, is_value) in
    moved_found start most s value 2 (start + 2) (continued_value most s 1 goes_on some here small_here ∙ ap (λ v. Some (v, 2)) whole) refl

-- no byte is the last
pub read_cut : (bytes : List ℕ) (start most i value : ℕ) → ReadTo bytes start most i value → min most (length bytes - start) ≤ i → None ≡ found_from start (varint_at most (drop start bytes))
read_cut bytes start most i value so_far past =
    let s = drop start bytes in
    let size = length-drop start bytes in
    let end : (length s ≤ i) ⊎ (most ≤ i) = ⊎_elim (λ less. inl (omega (arith, size, less, past))) (λ more. inr more) (cases_lt i most) in
    sym (ap (found_from start) (⊎_elim (continued_cut most s i so_far.continued) (continued_long most s i so_far.continued) end))
