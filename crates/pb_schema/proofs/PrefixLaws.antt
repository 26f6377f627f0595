-- A front of bytes without a fault is read as the whole is, as far as it goes: each reader gives the same answer or a cut.
use Rattle.std.proofs.Common.{◌≡◌, ◌⊎◌, inl, inr, ℕ, zero, suc, ◌+◌, ◌-◌, ◌%◌, ◌^◌, ◌<◌, ◌≤◌, List, [], ◌∷◌, ◌++◌, length, take, drop, Bool, true, false, cond, Option, None, Some, Result, Ok, refl, sym, ap, ◌∙◌, arith, nat_lt, nat_le, ◌/◌, length-drop}
use Rattle.std.specs.Option.{option_map}
use Rattle.std.proofs.lemmas.List.{take-append-le, drop-append-le}
use Rattle.std.proofs.lemmas.Bool.{lt-ltb}
use Rattle.std.proofs.lemmas.Option.{none-some, same_Some}
use Rattle.pb_schema.specs.declared.kind.FieldType.{FieldType}
use Rattle.pb_schema.specs.declared.schema.Schema.{Schema}
use Rattle.pb_schema.specs.declared.wire_fault.WireKind.TheVariants.{Cut, GroupEnd, TooDeep, LongVarint, BadTag, BadLength}
use Rattle.pb_schema.specs.declared.wire_fault.WireFault.{WireFault}
use Rattle.pb_schema.specs.Varint.{seven_bits, varint_bytes, tag_bytes, length_bytes, value_bytes}
use Rattle.pb_schema.specs.Reads.{fault, ◌>>=◌, fault_read}
use Rattle.pb_schema.specs.Form.{Form, varint_fault, read_varint, is_tag, read_tag, read_length, read_bytes, read_scalar, read_payload, form_at}
use Rattle.pb_schema.specs.Record.{record_of}
use Rattle.pb_schema.specs.Fits.{contents_of, fields_of, fields_within}
use Rattle.pb_schema.specs.Walk.{Inside, in_message, in_group, Stop, Deeper, read_contents, is_group, is_end_tag, closed, read_group, read_plain, read_held, ends, walk, too_deep, walk_left, deeper_left}
use Rattle.pb_schema.specs.Broken.{most_levels}
use Rattle.pb_schema.specs.Fault.{fault_of}
use Rattle.pb_schema.proofs.FormLaws.{not_ok, bind_ok, read_varint_ok, read_tag_ok, read_length_ok, read_bytes_ok, form_within}
use Rattle.pb_schema.proofs.FaultLaws.{walk_ok}
use Rattle.pb_schema.proofs.WalkSteps.{walk_left_is}

-- THE SAME ANSWER, OR A CUT

-- what a front is read as where the whole is read as this
data Front {A : Type 0} (r : Result A WireFault) (x : A) : Type 0 where
  same : r ≡ Ok x → Front r x
  cut : (byte : ℕ) → r ≡ fault Cut byte → Front r x

-- one read after another
front_then : {A B : Type 0} (r : Result A WireFault) (x : A) (f : A → Result B WireFault) (y : B) → Front r x → (r ≡ Ok x → Front (f x) y) → Front (r >>= f) y
front_then r x f y (cut byte e) k = cut byte (ap (λ q. q >>= f) e)
front_then r x f y (same e) k = behind (k e)
  where
    behind : Front (f x) y → Front (r >>= f) y
    behind (same p) = same (ap (λ q. q >>= f) e ∙ p)
    behind (cut byte p) = cut byte (ap (λ q. q >>= f) e ∙ p)

-- VARINTS

-- a varint of the whole ends in the front, or the front is too short for it
abbrev VarintFront : ℕ → List ℕ → ℕ → Type 0
VarintFront most x n = ((varint_bytes most x ≡ Some n) × (n ≤ length x)) ⊎ ((varint_bytes most x ≡ None) × (length x < most))

bytes_front : (most : ℕ) (x y : List ℕ) (n : ℕ) → varint_bytes most (x ++ y) ≡ Some n → VarintFront most x n
bytes_front zero x y n e = absurd (none-some n e)
bytes_front (suc most) [] y n e = inr (refl, omega arith)
bytes_front (suc most) (b ∷ x) y n e = pick (nat_lt b 128) e (λ m. bytes_front most x y m)
  where
    more : (m : ℕ) → suc m ≡ n → VarintFront most x m → ((option_map suc (varint_bytes most x) ≡ Some n) × (n ≤ length (b ∷ x))) ⊎ ((option_map suc (varint_bytes most x) ≡ None) × (length (b ∷ x) < suc most))
    more m is (inl p) = inl (ap (option_map suc) p.0 ∙ ap (λ k. Some k) is, omega (arith, p.1, is))
    more m is (inr p) = inr (ap (option_map suc) p.0, omega (arith, p.1))

    whole : (o : Option ℕ) → varint_bytes most (x ++ y) ≡ o → option_map suc o ≡ Some n → ((m : ℕ) → varint_bytes most (x ++ y) ≡ Some m → VarintFront most x m) → ((option_map suc (varint_bytes most x) ≡ Some n) × (n ≤ length (b ∷ x))) ⊎ ((option_map suc (varint_bytes most x) ≡ None) × (length (b ∷ x) < suc most))
    whole None was e k = absurd (none-some n e)
    whole (Some m) was e k = more m (same_Some (suc m) n e) (k m was)

    pick : (t : Bool) → cond t (Some 1) (option_map suc (varint_bytes most (x ++ y))) ≡ Some n → ((m : ℕ) → varint_bytes most (x ++ y) ≡ Some m → VarintFront most x m) → ((cond t (Some 1) (option_map suc (varint_bytes most x)) ≡ Some n) × (n ≤ length (b ∷ x))) ⊎ ((cond t (Some 1) (option_map suc (varint_bytes most x)) ≡ None) × (length (b ∷ x) < suc most))
    pick true e k = inl (e, omega (arith, same_Some 1 n e))
    pick false e k = whole (varint_bytes most (x ++ y)) refl e k

abbrev value_of : List ℕ → ℕ → ℕ × ℕ
value_of s n = (seven_bits (take n s) % 2 ^ 64, n)

abbrev read_or : ℕ → ℕ → List ℕ → Option (ℕ × ℕ) → Result (ℕ × ℕ) WireFault
read_or most at s o = elim o [ Some found ↦ Ok (found.0, found.1) | None ↦ fault (varint_fault most s) at ]

short_cut : (most : ℕ) (x : List ℕ) → length x < most → varint_fault most x ≡ Cut
short_cut most x h = ap (λ b. cond b Cut LongVarint) (lt-ltb (length x) most h)

varint_front : (most at : ℕ) (x y : List ℕ) (found : ℕ × ℕ) → read_varint most at (x ++ y) ≡ Ok found → Front (read_varint most at x) found
varint_front most at x y found e = whole (varint_bytes most (x ++ y)) refl (read_varint_ok most at (x ++ y) found e)
  where
    either : (n : ℕ) → value_of (x ++ y) n ≡ found → VarintFront most x n → Front (read_varint most at x) found
    either n is (inl p) =
        same (ap (λ o. read_or most at x (option_map (value_of x) o)) p.0 ∙ ap (λ v. Ok v) (ap (λ t. (seven_bits t % 2 ^ 64, n)) (sym (take-append-le n x y p.1)) ∙ is))
    either n is (inr p) = cut at (ap (λ o. read_or most at x (option_map (value_of x) o)) p.0 ∙ ap (λ k. fault k at) (short_cut most x p.1))

    whole : (o : Option ℕ) → varint_bytes most (x ++ y) ≡ o → option_map (value_of (x ++ y)) o ≡ Some found → Front (read_varint most at x) found
    whole None was is = absurd (none-some found is)
    whole (Some n) was is = either n (same_Some (value_of (x ++ y) n) found is) (bytes_front most x y n was)

-- FORMS

tag_front : (at : ℕ) (x y : List ℕ) (tag : ℕ × ℕ × ℕ) → read_tag at (x ++ y) ≡ Ok tag → Front (read_tag at x) tag
tag_front at x y tag e =
    bind_ok (read_varint tag_bytes at (x ++ y)) (λ v. cond (is_tag v.0) (Ok (v.0 / 8, v.0 % 8, v.1)) (fault BadTag at)) tag e
    λ v was is. front_then (read_varint tag_bytes at x) v (λ v. cond (is_tag v.0) (Ok (v.0 / 8, v.0 % 8, v.1)) (fault BadTag at)) tag (varint_front tag_bytes at x y v was) λ here. same is

length_front : (at : ℕ) (x y : List ℕ) (len : ℕ × ℕ) → read_length at (x ++ y) ≡ Ok len → Front (read_length at x) len
length_front at x y len e =
    bind_ok (read_varint length_bytes at (x ++ y)) (λ v. cond (nat_lt v.0 (2 ^ 31)) (Ok v) (fault BadLength at)) len e
    λ v was is. front_then (read_varint length_bytes at x) v (λ v. cond (nat_lt v.0 (2 ^ 31)) (Ok v) (fault BadLength at)) len (varint_front length_bytes at x y v was) λ here. same is

bytes_there : (len at : ℕ) (x y : List ℕ) (n : ℕ) → read_bytes len at (x ++ y) ≡ Ok n → Front (read_bytes len at x) n
bytes_there len at x y n e = read_bytes_ok len at (x ++ y) n e λ is within. pick (nat_le len (length x)) is
  where
    pick : (t : Bool) → len ≡ n → Front (cond t (Ok len) (fault Cut at)) n
    pick true is = same (ap (λ k. Ok k) is)
    pick false is = cut at refl

scalar_front : (wire at : ℕ) (x y : List ℕ) (n : ℕ) → read_scalar wire at (x ++ y) ≡ Ok n → Front (read_scalar wire at x) n
scalar_front zero at x y n e =
    bind_ok (read_varint value_bytes at (x ++ y)) (λ v. Ok v.1) n e
    λ v was is. front_then (read_varint value_bytes at x) v (λ v. Ok v.1) n (varint_front value_bytes at x y v was) λ here. same is
scalar_front (suc zero) at x y n e = bytes_there 8 at x y n e
scalar_front (suc (suc zero)) at x y n e = same e
scalar_front (suc (suc (suc zero))) at x y n e = same e
scalar_front (suc (suc (suc (suc zero)))) at x y n e = same e
scalar_front (suc (suc (suc (suc (suc zero))))) at x y n e = bytes_there 4 at x y n e
scalar_front (suc (suc (suc (suc (suc (suc wire)))))) at x y n e = same e

abbrev alone : ℕ → Result (ℕ × ℕ) WireFault
alone n = Ok (0, n)

alone_front : (wire at : ℕ) (x y : List ℕ) (part : ℕ × ℕ) → (read_scalar wire at (x ++ y) >>= alone) ≡ Ok part → Front (read_scalar wire at x >>= alone) part
alone_front wire at x y part e =
    bind_ok (read_scalar wire at (x ++ y)) alone part e
    λ n was is. front_then (read_scalar wire at x) n alone part (scalar_front wire at x y n was) λ here. same is

payload_front : (wire at : ℕ) (x y : List ℕ) (part : ℕ × ℕ) → read_payload wire at (x ++ y) ≡ Ok part → Front (read_payload wire at x) part
payload_front zero at x y part e = alone_front 0 at x y part e
payload_front (suc zero) at x y part e = alone_front 1 at x y part e
payload_front (suc (suc (suc wire))) at x y part e = alone_front (suc (suc (suc wire))) at x y part e
payload_front (suc (suc zero)) at x y part e =
    let after : ℕ × ℕ → List ℕ → Result (ℕ × ℕ) WireFault = λ len s. read_bytes len.0 (at + len.1) s >>= λ n. Ok (len.1, n) in
    bind_ok (read_length at (x ++ y)) (λ len. after len (drop len.1 (x ++ y))) part e
    λ len was is. front_then (read_length at x) len (λ len. after len (drop len.1 x)) part (length_front at x y len was)
    λ here. read_length_ok at x len here
    λ parts.
    let there : after len (drop len.1 x ++ y) ≡ Ok part = ap (after len) (sym (drop-append-le len.1 x y parts.within)) ∙ is in
    bind_ok (read_bytes len.0 (at + len.1) (drop len.1 x ++ y)) (λ n. Ok (len.1, n)) part there
    λ n found last. front_then (read_bytes len.0 (at + len.1) (drop len.1 x)) n (λ n. Ok (len.1, n)) part (bytes_there len.0 (at + len.1) (drop len.1 x) y n found) λ _. same last

abbrev form_from : ℕ × ℕ × ℕ → ℕ × ℕ → Result Form WireFault
form_from tag part = Ok (record { number = tag.0; wire = tag.1; payload = tag.2 + part.0; payload_len = part.1; size = tag.2 + part.0 + part.1 })

form_front : (at : ℕ) (x y : List ℕ) (form : Form) → form_at at (x ++ y) ≡ Ok form → Front (form_at at x) form
form_front at x y form e =
    let after : ℕ × ℕ × ℕ → List ℕ → Result Form WireFault = λ tag s. read_payload tag.1 (at + tag.2) s >>= form_from tag in
    bind_ok (read_tag at (x ++ y)) (λ tag. after tag (drop tag.2 (x ++ y))) form e
    λ tag was is. front_then (read_tag at x) tag (λ tag. after tag (drop tag.2 x)) form (tag_front at x y tag was)
    λ here. read_tag_ok at x tag here
    λ parts.
    let there : after tag (drop tag.2 x ++ y) ≡ Ok form = ap (after tag) (sym (drop-append-le tag.2 x y parts.within)) ∙ is in
    bind_ok (read_payload tag.1 (at + tag.2) (drop tag.2 x ++ y)) (form_from tag) form there
    λ part found last. front_then (read_payload tag.1 (at + tag.2) (drop tag.2 x)) part (form_from tag) form (payload_front tag.1 (at + tag.2) (drop tag.2 x) y part found) λ _. same last

-- RECORDS

-- a record of a form that is read in the front is the same in the whole
record_front : (at : ℕ) (x y : List ℕ) (form : Form) → form_at at x ≡ Ok form → (record_of form (x ++ y) ≡ record_of form x) × (drop form.payload (x ++ y) ≡ drop form.payload x ++ y) × (take form.payload_len (drop form.payload (x ++ y)) ≡ take form.payload_len (drop form.payload x))
record_front at x y form e = form_within at x form e λ p.
    let behind : drop form.payload (x ++ y) ≡ drop form.payload x ++ y = drop-append-le form.payload x y (omega (arith, p.1, p.3)) in
    let payload : take form.payload_len (drop form.payload (x ++ y)) ≡ take form.payload_len (drop form.payload x) =
    ap (take form.payload_len) behind ∙ take-append-le form.payload_len (drop form.payload x) y (omega (arith, length-drop form.payload x, p.1, p.3)) in
    let span : take form.size (x ++ y) ≡ take form.size x = take-append-le form.size x y p.1 in (
      ap (λ t. record { number = form.number; wire = form.wire; payload = t; span = take form.size (x ++ y) }) payload
          ∙ ap (λ t. record { number = form.number; wire = form.wire; payload = take form.payload_len (drop form.payload x); span = t }) span,
      behind,
      payload,
    )

-- what stands in a group
abbrev DeeperFront : Deeper → Type 0
DeeperFront deeper = (tag : ℕ) (fields : List FieldType) (number at : ℕ) (x y : List ℕ) (stop : Stop) → deeper tag (in_group fields number) at (x ++ y) ≡ Ok stop → Front (deeper tag (in_group fields number) at x) stop

group_front : (schema : Schema) (deeper : Deeper) → DeeperFront deeper → (fields : List FieldType) (at : ℕ) (x y : List ℕ) (form whole : Form) → form_at at x ≡ Ok form → read_group schema deeper fields at (x ++ y) form ≡ Ok whole → Front (read_group schema deeper fields at x form) whole
group_front schema deeper goes fields at x y form whole here e =
    let parts = record_front at x y form here in
    let inner = fields_within schema (contents_of schema fields (record_of form x)) in
    let there : (deeper at (in_group inner form.number) (at + form.payload) (drop form.payload x ++ y) >>= λ stop. Ok (closed form at stop)) ≡ Ok whole =
    ap (λ s. deeper at (in_group inner form.number) (at + form.payload) s >>= λ stop. Ok (closed form at stop)) (sym parts.1)
    ∙ (ap (λ r. deeper at (in_group (fields_within schema (contents_of schema fields r)) form.number) (at + form.payload) (drop form.payload (x ++ y)) >>= λ stop. Ok (closed form at stop)) (sym parts.0) ∙ e) in
    bind_ok (deeper at (in_group inner form.number) (at + form.payload) (drop form.payload x ++ y)) (λ stop. Ok (closed form at stop)) whole there
    λ stop was is. front_then (deeper at (in_group inner form.number) (at + form.payload) (drop form.payload x)) stop (λ stop. Ok (closed form at stop)) whole
    (goes at inner form.number (at + form.payload) (drop form.payload x) y stop was) λ _. same is

plain_front : (schema : Schema) (deeper : Deeper) (fields : List FieldType) (at : ℕ) (x y : List ℕ) (form whole : Form) → form_at at x ≡ Ok form → read_plain schema deeper fields at (x ++ y) form ≡ Ok whole → Front (read_plain schema deeper fields at x form) whole
plain_front schema deeper fields at x y form whole here e =
    let parts = record_front at x y form here in
    same
    (ap (λ t. read_contents schema deeper at (at + form.payload) t (contents_of schema fields (record_of form x)) >>= λ _. Ok form) (sym parts.2)
    ∙ (ap (λ r. read_contents schema deeper at (at + form.payload) (take form.payload_len (drop form.payload (x ++ y))) (contents_of schema fields r) >>= λ _. Ok form) (sym parts.0) ∙ e))

abbrev held_by : Schema → Deeper → List FieldType → ℕ → List ℕ → Form → Bool → Bool → Result Form WireFault
held_by schema deeper fields at s form start end = elim start [
  | true ↦ read_group schema deeper fields at s form
  | false ↦ elim end [ true ↦ fault GroupEnd at | false ↦ read_plain schema deeper fields at s form ]
]

held_front : (schema : Schema) (deeper : Deeper) → DeeperFront deeper → (fields : List FieldType) (at : ℕ) (x y : List ℕ) (form whole : Form) → form_at at x ≡ Ok form → read_held schema deeper fields at (x ++ y) form ≡ Ok whole → Front (read_held schema deeper fields at x form) whole
held_front schema deeper goes fields at x y form whole here e = pick (is_group form) (is_end_tag form) e
  where
    pick : (start end : Bool) → held_by schema deeper fields at (x ++ y) form start end ≡ Ok whole → Front (held_by schema deeper fields at x form start end) whole
    pick true end e = group_front schema deeper goes fields at x y form whole here e
    pick false true e = not_ok (record { kind = GroupEnd; byte = at }) whole e
    pick false false e = plain_front schema deeper fields at x y form whole here e

-- RECORDS ONE AFTER ANOTHER

abbrev after_form : Schema → Deeper → Inside → ℕ → ℕ → List ℕ → List ℕ → Form → Bool → Result Stop WireFault
after_form schema deeper inside at b s whole form is_end = elim is_end [
  | true ↦ Ok (at, at + form.size)
  | false ↦ read_held schema deeper inside.fields at whole form >>= λ w. walk schema deeper inside (suc at) (w.size - 1) s
]

-- in a group
walk_group : (schema : Schema) (deeper : Deeper) → DeeperFront deeper → (fields : List FieldType) (number at skip : ℕ) (x y : List ℕ) (stop : Stop) → walk schema deeper (in_group fields number) at skip (x ++ y) ≡ Ok stop → Front (walk schema deeper (in_group fields number) at skip x) stop
walk_group schema deeper goes fields number at zero [] y stop e = cut at refl
walk_group schema deeper goes fields number at (suc skip) [] y stop e = cut at refl
walk_group schema deeper goes fields number at (suc skip) (b ∷ x) y stop e = walk_group schema deeper goes fields number (suc at) skip x y stop e
walk_group schema deeper goes fields number at zero (b ∷ x) y stop e =
    let inside = in_group fields number in
    bind_ok (form_at at (b ∷ (x ++ y))) (λ form. after_form schema deeper inside at b (x ++ y) (b ∷ (x ++ y)) form (ends inside.group form)) stop e
    λ form was is. front_then (form_at at (b ∷ x)) form (λ form. after_form schema deeper inside at b x (b ∷ x) form (ends inside.group form)) stop (form_front at (b ∷ x) y form was)
    λ here. pick form here (ends inside.group form) is (λ k w. walk_group schema deeper goes fields number (suc at) k x y stop w)
  where
    pick : (form : Form) → form_at at (b ∷ x) ≡ Ok form → (t : Bool) → after_form schema deeper (in_group fields number) at b (x ++ y) (b ∷ (x ++ y)) form t ≡ Ok stop
        → ((k : ℕ) → walk schema deeper (in_group fields number) (suc at) k (x ++ y) ≡ Ok stop → Front (walk schema deeper (in_group fields number) (suc at) k x) stop) → Front (after_form schema deeper (in_group fields number) at b x (b ∷ x) form t) stop
    pick form here true is more = same is
    pick form here false is more =
        bind_ok (read_held schema deeper fields at (b ∷ (x ++ y)) form) (λ w. walk schema deeper (in_group fields number) (suc at) (w.size - 1) (x ++ y)) stop is
        λ whole held rest. front_then (read_held schema deeper fields at (b ∷ x) form) whole (λ w. walk schema deeper (in_group fields number) (suc at) (w.size - 1) x) stop
        (held_front schema deeper goes fields at (b ∷ x) y form whole here held) λ _. more (whole.size - 1) rest

left_front : (schema : Schema) (left : ℕ) → DeeperFront (deeper_left schema left)
left_front schema zero tag fields number at x y stop e = not_ok (record { kind = TooDeep; byte = tag }) stop e
left_front schema (suc zero) tag fields number at x y stop e =
    walk_group schema too_deep (λ tag fields number at x y stop e. not_ok (record { kind = TooDeep; byte = tag }) stop e) fields number at 0 x y stop e
left_front schema (suc (suc left)) tag fields number at x y stop e = walk_group schema (walk_left schema left) (left_front schema (suc left)) fields number at 0 x y stop e

-- in a message, whose end is that of the bytes
data Sounds (r : Result Stop WireFault) : Type 0 where
  sound : (stop : Stop) → r ≡ Ok stop → Sounds r
  broken_off : (byte : ℕ) → r ≡ fault Cut byte → Sounds r

sound_then : {A : Type 0} (r : Result A WireFault) (x : A) (f : A → Result Stop WireFault) → Front r x → (r ≡ Ok x → Sounds (f x)) → Sounds (r >>= f)
sound_then r x f (cut byte e) k = broken_off byte (ap (λ q. q >>= f) e)
sound_then r x f (same e) k = behind (k e)
  where
    behind : Sounds (f x) → Sounds (r >>= f)
    behind (sound stop p) = sound stop (ap (λ q. q >>= f) e ∙ p)
    behind (broken_off byte p) = broken_off byte (ap (λ q. q >>= f) e ∙ p)

walk_message : (schema : Schema) (deeper : Deeper) → DeeperFront deeper → (fields : List FieldType) (at skip : ℕ) (x y : List ℕ) (stop : Stop) → walk schema deeper (in_message fields) at skip (x ++ y) ≡ Ok stop → Sounds (walk schema deeper (in_message fields) at skip x)
walk_message schema deeper goes fields at zero [] y stop e = sound (at, at) refl
walk_message schema deeper goes fields at (suc skip) [] y stop e = sound (at, at) refl
walk_message schema deeper goes fields at (suc skip) (b ∷ x) y stop e = walk_message schema deeper goes fields (suc at) skip x y stop e
walk_message schema deeper goes fields at zero (b ∷ x) y stop e =
    let inside = in_message fields in
    bind_ok (form_at at (b ∷ (x ++ y))) (λ form. after_form schema deeper inside at b (x ++ y) (b ∷ (x ++ y)) form false) stop e
    λ form was is. sound_then (form_at at (b ∷ x)) form (λ form. after_form schema deeper inside at b x (b ∷ x) form false) (form_front at (b ∷ x) y form was)
    λ here.
    bind_ok (read_held schema deeper fields at (b ∷ (x ++ y)) form) (λ w. walk schema deeper inside (suc at) (w.size - 1) (x ++ y)) stop is
    λ whole held rest. sound_then (read_held schema deeper fields at (b ∷ x) form) whole (λ w. walk schema deeper inside (suc at) (w.size - 1) x)
    (held_front schema deeper goes fields at (b ∷ x) y form whole here held) λ _. walk_message schema deeper goes fields (suc at) (whole.size - 1) x y stop rest

-- a front of bytes without a fault has none, or is cut
pub front_fault : (schema : Schema) (type_no depth : ℕ) (x y : List ℕ) → fault_of schema type_no depth (x ++ y) ≡ None → (fault_of schema type_no depth x ≡ None) ⊎ ((byte : ℕ) × (fault_of schema type_no depth x ≡ Some (record { kind = Cut; byte = byte })))
front_fault schema type_no depth x y e =
    let left = most_levels - depth in
    let inside = in_message (fields_of schema type_no) in
    let ok = walk_ok (walk_left schema left 0 inside 0 (x ++ y)) e in
    cases (walk_message schema (deeper_left schema left) (left_front schema left) (fields_of schema type_no) 0 0 x y ok.0 (sym (walk_left_is schema left 0 inside 0 (x ++ y)) ∙ ok.1))
  where
    walked : fault_of schema type_no depth x ≡ fault_read (walk schema (deeper_left schema (most_levels - depth)) (in_message (fields_of schema type_no)) 0 0 x)
    walked = ap fault_read (walk_left_is schema (most_levels - depth) 0 (in_message (fields_of schema type_no)) 0 x)

    cases : Sounds (walk schema (deeper_left schema (most_levels - depth)) (in_message (fields_of schema type_no)) 0 0 x) → (fault_of schema type_no depth x ≡ None) ⊎ ((byte : ℕ) × (fault_of schema type_no depth x ≡ Some (record { kind = Cut; byte = byte })))
    cases (sound stop p) = inl (walked ∙ ap fault_read p)
    cases (broken_off byte p) = inr (byte, walked ∙ ap fault_read p)
