-- The same bytes read from a later byte on give the same answer, with each place and each fault moved by as much.
use Rattle.std.proofs.Common.{◌≡◌, ◌≢◌, ℕ, zero, suc, ◌+◌, ◌-◌, List, [], ◌∷◌, ◌++◌, length, take, drop, Bool, true, false, cond, Option, None, Some, Result, Ok, Err, refl, sym, ap, ◌∙◌, arith, nat_lt, nat_le, ◌^◌, eqb, subst, append-nil, append_assoc, length-append, length-take-le, take-append-drop}
use Rattle.std.specs.Option.{option_map}
use Rattle.std.specs.Str.{is_utf8}
use Rattle.pb_schema.specs.declared.kind.FieldType.{FieldType}
use Rattle.pb_schema.specs.declared.schema.Schema.{Schema}
use Rattle.pb_schema.specs.declared.wire_fault.WireKind.TheVariants.{GroupEnd}
use Rattle.pb_schema.specs.declared.wire_fault.WireFault.{WireFault}
use Rattle.pb_schema.specs.Varint.{varint_at, tag_bytes, length_bytes, value_bytes}
use Rattle.pb_schema.specs.Reads.{fault, moved, ◌>>=◌, fault_read}
use Rattle.pb_schema.specs.Form.{Form, varint_fault, read_varint, is_tag, read_tag, read_length, read_bytes, read_scalar, read_payload, form_at}
use Rattle.pb_schema.specs.Record.{record_of}
use Rattle.pb_schema.specs.Fits.{Contents, Anything, Numbers, Utf8, Message, contents_of, fields_of, fields_within}
use Rattle.pb_schema.specs.Walk.{Inside, in_message, in_group, Stop, Deeper, numbers_end, read_contents, is_group, is_end_tag, closed, read_group, read_plain, read_held, ends, at_end, walk, too_deep, walk_left, deeper_left, record_left}
use Rattle.pb_schema.specs.Broken.{most_levels}
use Rattle.pb_schema.specs.Fault.{fault_of}
use Rattle.std.proofs.lemmas.Option.{none-some, same_Some}
use Rattle.pb_schema.proofs.FormLaws.{not_ok}
use Rattle.pb_schema.proofs.FaultLaws.{held_untyped}
use Rattle.pb_schema.proofs.RecordsFound.{each_found}
use Rattle.pb_schema.proofs.SoundRecords.{Sound, record_holds, sound_join}
use Rattle.pb_schema.proofs.WalkSteps.{walk_left_is}
use Rattle.pb_schema.proofs.AppendLaws.{walk_over}
use Rattle.pb_schema.proofs.FittedLaws.{no_fault_sound, sound_unbroken}

-- THE SAME ANSWER, MOVED

-- what was read is changed by f, and a fault is moved
abbrev pub shifted : {A B : Type 0} → (A → B) → ℕ → Result A WireFault → Result B WireFault
shifted f n (Ok x) = Ok (f x)
shifted f n (Err d) = Err (moved n d)

abbrev kept : {A : Type 0} → A → A
kept x = x

bind_moved : {A B : Type 0} (n : ℕ) (f : A → A) (h : B → B) (r : Result A WireFault) (g other : A → Result B WireFault) → ((x : A) → other (f x) ≡ shifted h n (g x)) → (shifted f n r >>= other) ≡ shifted h n (r >>= g)
bind_moved n f h (Ok x) g other same = same x
bind_moved n f h (Err d) g other same = refl

-- a reader whose first part is moved
then_moved : {A B : Type 0} (n : ℕ) (f : A → A) (h : B → B) (far near : Result A WireFault) → far ≡ shifted f n near → (g other : A → Result B WireFault) → ((x : A) → other (f x) ≡ shifted h n (g x)) → (far >>= other) ≡ shifted h n (near >>= g)
then_moved n f h far near e g other same = ap (λ r. r >>= other) e ∙ bind_moved n f h near g other same

if_moved : {A : Type 0} (n : ℕ) (h : A → A) (t : Bool) (far near away there : Result A WireFault) → far ≡ shifted h n near → away ≡ shifted h n there → cond t far away ≡ shifted h n (cond t near there)
if_moved n h true far near away there e o = e
if_moved n h false far near away there e o = o

add_more : (n at k : ℕ) → n + at + k ≡ n + (at + k)
add_more n at k = omega arith

suc_more : (n at : ℕ) → suc (n + at) ≡ n + suc at
suc_more n at = omega arith

-- FORMS

varint_moved : (n most at : ℕ) (s : List ℕ) → read_varint most (n + at) s ≡ shifted kept n (read_varint most at s)
varint_moved n most at s = pick (varint_at most s)
  where
    pick : (o : Option (ℕ × ℕ)) → elim o as (λ _. Result (ℕ × ℕ) WireFault) [ Some found ↦ Ok (found.0, found.1) | None ↦ fault (varint_fault most s) (n + at) ] ≡ shifted kept n (elim o as (λ _. Result (ℕ × ℕ) WireFault) [ Some found ↦ Ok (found.0, found.1) | None ↦ fault (varint_fault most s) at ])
    pick None = refl
    pick (Some found) = refl

tag_moved : (n at : ℕ) (s : List ℕ) → read_tag (n + at) s ≡ shifted kept n (read_tag at s)
tag_moved n at s = then_moved n kept kept _ _ (varint_moved n tag_bytes at s) _ _ λ tag. if_moved n kept (is_tag tag.0) _ _ _ _ refl refl

length_moved : (n at : ℕ) (s : List ℕ) → read_length (n + at) s ≡ shifted kept n (read_length at s)
length_moved n at s = then_moved n kept kept _ _ (varint_moved n length_bytes at s) _ _ λ len. if_moved n kept (nat_lt len.0 (2 ^ 31)) _ _ _ _ refl refl

bytes_moved : (n len at : ℕ) (s : List ℕ) → read_bytes len (n + at) s ≡ shifted kept n (read_bytes len at s)
bytes_moved n len at s = if_moved n kept (nat_le len (length s)) _ _ _ _ refl refl

scalar_moved : (n wire at : ℕ) (s : List ℕ) → read_scalar wire (n + at) s ≡ shifted kept n (read_scalar wire at s)
scalar_moved n zero at s = then_moved n kept kept _ _ (varint_moved n value_bytes at s) _ _ λ value. refl
scalar_moved n (suc zero) at s = bytes_moved n 8 at s
scalar_moved n (suc (suc zero)) at s = refl
scalar_moved n (suc (suc (suc zero))) at s = refl
scalar_moved n (suc (suc (suc (suc zero)))) at s = refl
scalar_moved n (suc (suc (suc (suc (suc zero))))) at s = bytes_moved n 4 at s
scalar_moved n (suc (suc (suc (suc (suc (suc wire)))))) at s = refl

abbrev alone : ℕ → Result (ℕ × ℕ) WireFault
alone k = Ok (0, k)

one_moved : (n wire at : ℕ) (s : List ℕ) → (read_scalar wire (n + at) s >>= alone) ≡ shifted kept n (read_scalar wire at s >>= alone)
one_moved n wire at s = then_moved n kept kept _ _ (scalar_moved n wire at s) alone alone λ k. refl

payload_moved : (n wire at : ℕ) (s : List ℕ) → read_payload wire (n + at) s ≡ shifted kept n (read_payload wire at s)
payload_moved n zero at s = one_moved n 0 at s
payload_moved n (suc zero) at s = one_moved n 1 at s
payload_moved n (suc (suc zero)) at s =
    then_moved n kept kept _ _ (length_moved n at s) _ _ λ len.
    then_moved n kept kept _ _ (ap (λ place. read_bytes len.0 place (drop len.1 s)) (add_more n at len.1) ∙ bytes_moved n len.0 (at + len.1) (drop len.1 s)) _ _ λ k. refl
payload_moved n (suc (suc (suc wire))) at s = one_moved n (suc (suc (suc wire))) at s

form_moved : (n at : ℕ) (s : List ℕ) → form_at (n + at) s ≡ shifted kept n (form_at at s)
form_moved n at s =
    then_moved n kept kept _ _ (tag_moved n at s) _ _ λ tag.
    then_moved n kept kept _ _ (ap (λ place. read_payload tag.1 place (drop tag.2 s)) (add_more n at tag.2) ∙ payload_moved n tag.1 (at + tag.2) (drop tag.2 s)) _ _ λ part. refl

-- WHAT A RECORD HOLDS

abbrev place_moved : ℕ → ℕ → ℕ
place_moved n at = n + at

abbrev stop_moved : ℕ → Stop → Stop
stop_moved n stop = (n + stop.0, n + stop.1)

numbers_moved : (n wire at skip : ℕ) (s : List ℕ) → numbers_end wire (n + at) skip s ≡ shifted (place_moved n) n (numbers_end wire at skip s)
numbers_moved n wire at skip [] = refl
numbers_moved n wire at (suc skip) (b ∷ s) = ap (λ place. numbers_end wire place skip s) (suc_more n at) ∙ numbers_moved n wire (suc at) skip s
numbers_moved n wire at zero (b ∷ s) =
    then_moved n kept (place_moved n) (read_scalar wire (n + at) (b ∷ s)) (read_scalar wire at (b ∷ s)) (scalar_moved n wire at (b ∷ s)) (λ k. numbers_end wire (suc at) (k - 1) s) (λ k. numbers_end wire (suc (n + at)) (k - 1) s)
    λ k. ap (λ place. numbers_end wire place (k - 1) s) (suc_more n at) ∙ numbers_moved n wire (suc at) (k - 1) s

abbrev DeeperMoved : ℕ → Deeper → Type 0
DeeperMoved n deeper = (tag : ℕ) (inside : Inside) (at : ℕ) (s : List ℕ) → deeper (n + tag) inside (n + at) s ≡ shifted (stop_moved n) n (deeper tag inside at s)

contents_moved : (n : ℕ) (schema : Schema) (deeper : Deeper) → DeeperMoved n deeper → (tag at : ℕ) (payload : List ℕ) (contents : Contents) → read_contents schema deeper (n + tag) (n + at) payload contents ≡ shifted (place_moved n) n (read_contents schema deeper tag at payload contents)
contents_moved n schema deeper goes tag at payload Anything = refl
contents_moved n schema deeper goes tag at payload (Numbers wire) = numbers_moved n wire at 0 payload
contents_moved n schema deeper goes tag at payload Utf8 = if_moved n (place_moved n) (is_utf8 payload) _ _ _ _ refl refl
contents_moved n schema deeper goes tag at payload (Message type_no) = then_moved n (stop_moved n) (place_moved n) _ _ (goes tag (in_message (fields_of schema type_no)) at payload) _ _ λ stop. refl

closed_moved : (n : ℕ) (form : Form) (at : ℕ) (stop : Stop) → closed form (n + at) (stop_moved n stop) ≡ closed form at stop
closed_moved n form at stop =
    let len : (n + stop.0) - (n + at + form.payload) ≡ stop.0 - (at + form.payload) = omega arith in
    let size : (n + stop.1) - (n + at) ≡ stop.1 - at = omega arith in
    ap (λ k. record form { payload_len = k; size = (n + stop.1) - (n + at) }) len ∙ ap (λ k. record form { payload_len = stop.0 - (at + form.payload); size = k }) size

group_moved : (n : ℕ) (schema : Schema) (deeper : Deeper) → DeeperMoved n deeper → (fields : List FieldType) (at : ℕ) (s : List ℕ) (form : Form) → read_group schema deeper fields (n + at) s form ≡ shifted kept n (read_group schema deeper fields at s form)
group_moved n schema deeper goes fields at s form =
    let inside = in_group (fields_within schema (contents_of schema fields (record_of form s))) form.number in
    then_moved n (stop_moved n) kept
    (deeper (n + at) inside (n + at + form.payload) (drop form.payload s))
    (deeper at inside (at + form.payload) (drop form.payload s))
    (ap (λ place. deeper (n + at) inside place (drop form.payload s)) (add_more n at form.payload) ∙ goes at inside (at + form.payload) (drop form.payload s))
    (λ stop. Ok (closed form at stop)) (λ stop. Ok (closed form (n + at) stop))
    λ stop. ap Ok (closed_moved n form at stop)

plain_moved : (n : ℕ) (schema : Schema) (deeper : Deeper) → DeeperMoved n deeper → (fields : List FieldType) (at : ℕ) (s : List ℕ) (form : Form) → read_plain schema deeper fields (n + at) s form ≡ shifted kept n (read_plain schema deeper fields at s form)
plain_moved n schema deeper goes fields at s form =
    let payload = take form.payload_len (drop form.payload s) in
    let contents = contents_of schema fields (record_of form s) in
    then_moved n (place_moved n) kept
    (read_contents schema deeper (n + at) (n + at + form.payload) payload contents)
    (read_contents schema deeper at (at + form.payload) payload contents)
    (ap (λ place. read_contents schema deeper (n + at) place payload contents) (add_more n at form.payload) ∙ contents_moved n schema deeper goes at (at + form.payload) payload contents)
    (λ _. Ok form) (λ _. Ok form) λ _. refl

held_moved : (n : ℕ) (schema : Schema) (deeper : Deeper) → DeeperMoved n deeper → (fields : List FieldType) (at : ℕ) (s : List ℕ) (form : Form) → read_held schema deeper fields (n + at) s form ≡ shifted kept n (read_held schema deeper fields at s form)
held_moved n schema deeper goes fields at s form = pick (is_group form) (is_end_tag form)
  where
    pick : (start end : Bool) → elim start as (λ _. Result Form WireFault) [ true ↦ read_group schema deeper fields (n + at) s form | false ↦ elim end as (λ _. Result Form WireFault) [ true ↦ fault GroupEnd (n + at) | false ↦ read_plain schema deeper fields (n + at) s form ] ] ≡ shifted kept n (elim start as (λ _. Result Form WireFault) [ true ↦ read_group schema deeper fields at s form | false ↦ elim end as (λ _. Result Form WireFault) [ true ↦ fault GroupEnd at | false ↦ read_plain schema deeper fields at s form ] ])
    pick true end = group_moved n schema deeper goes fields at s form
    pick false true = refl
    pick false false = plain_moved n schema deeper goes fields at s form

-- RECORDS ONE AFTER ANOTHER

end_moved : (n : ℕ) (group : Option ℕ) (at : ℕ) → at_end group (n + at) ≡ shifted (stop_moved n) n (at_end group at)
end_moved n None at = refl
end_moved n (Some number) at = refl

walk_moved : (n : ℕ) (schema : Schema) (deeper : Deeper) → DeeperMoved n deeper → (inside : Inside) (at skip : ℕ) (s : List ℕ) → walk schema deeper inside (n + at) skip s ≡ shifted (stop_moved n) n (walk schema deeper inside at skip s)
walk_moved n schema deeper goes inside at skip [] = end_moved n inside.group at
walk_moved n schema deeper goes inside at (suc skip) (b ∷ s) = ap (λ place. walk schema deeper inside place skip s) (suc_more n at) ∙ walk_moved n schema deeper goes inside (suc at) skip s
walk_moved n schema deeper goes inside at zero (b ∷ s) =
    then_moved n kept (stop_moved n) (form_at (n + at) (b ∷ s)) (form_at at (b ∷ s)) (form_moved n at (b ∷ s)) (near at) (near (n + at))
    λ form. either form (ends inside.group form) (λ whole. ap (λ place. walk schema deeper inside place (whole.size - 1) s) (suc_more n at) ∙ walk_moved n schema deeper goes inside (suc at) (whole.size - 1) s)
  where
    behind : ℕ → Form → Result Stop WireFault
    behind place form = read_held schema deeper inside.fields place (b ∷ s) form >>= λ whole. walk schema deeper inside (suc place) (whole.size - 1) s

    near : ℕ → Form → Result Stop WireFault
    near place form = elim (ends inside.group form) [ true ↦ Ok (place, place + form.size) | false ↦ behind place form ]

    either : (form : Form) (t : Bool) → ((whole : Form) → walk schema deeper inside (suc (n + at)) (whole.size - 1) s ≡ shifted (stop_moved n) n (walk schema deeper inside (suc at) (whole.size - 1) s)) → elim t as (λ _. Result Stop WireFault) [ true ↦ Ok (n + at, n + at + form.size) | false ↦ behind (n + at) form ] ≡ shifted (stop_moved n) n (elim t as (λ _. Result Stop WireFault) [ true ↦ Ok (at, at + form.size) | false ↦ behind at form ])
    either form true more = ap (λ k. Ok (n + at, k)) (add_more n at form.size)
    either form false more = then_moved n kept (stop_moved n) _ _ (held_moved n schema deeper goes inside.fields at (b ∷ s) form) _ _ more

left_moved : (n : ℕ) (schema : Schema) (left : ℕ) → DeeperMoved n (deeper_left schema left)
left_moved n schema zero tag inside at s = refl
left_moved n schema (suc zero) tag inside at s = walk_moved n schema too_deep (λ tag inside at s. refl) inside at 0 s
left_moved n schema (suc (suc left)) tag inside at s = walk_moved n schema (walk_left schema left) (left_moved n schema (suc left)) inside at 0 s

-- THE FIRST FAULT

fault_moved : {A : Type 0} (f : A → A) (n : ℕ) (r : Result A WireFault) → fault_read (shifted f n r) ≡ option_map (moved n) (fault_read r)
fault_moved f n (Ok x) = refl
fault_moved f n (Err d) = refl

-- behind bytes without a fault
pub rest_fault : (schema : Schema) (type_no depth : ℕ) (x y : List ℕ) → fault_of schema type_no depth x ≡ None → fault_of schema type_no depth (x ++ y) ≡ option_map (moved (length x)) (fault_of schema type_no depth y)
rest_fault schema type_no depth x y none =
    let left = most_levels - depth in
    let fields = fields_of schema type_no in
    let inside = in_message fields in
    let deeper = deeper_left schema left in
    let place : 0 + length x ≡ length x + 0 = omega arith in
    ap fault_read (walk_left_is schema left 0 inside 0 (x ++ y))
    ∙ (ap fault_read (walk_over schema left fields 0 x y (no_fault_sound schema type_no depth x none))
    ∙ (ap (λ at. fault_read (walk schema deeper inside at 0 y)) place
    ∙ (ap fault_read (walk_moved (length x) schema deeper (left_moved (length x) schema left) inside 0 0 y)
    ∙ (fault_moved (stop_moved (length x)) (length x) (walk schema deeper inside 0 0 y)
    ∙ ap (λ r. option_map (moved (length x)) (fault_read r)) (sym (walk_left_is schema left 0 inside 0 y))))))

-- of the record in front
bind_fault : {A B C : Type 0} (r : Result A WireFault) (f : A → Result B WireFault) (g : B → Result C WireFault) (d : WireFault) → (r >>= f) ≡ Err d → (r >>= λ x. f x >>= g) ≡ Err d
bind_fault (Ok x) f g d e = ap (λ q. q >>= g) e
bind_fault (Err c) f g d e = err_any c d e
  where
    err_any : {B C : Type 0} (c d : WireFault) → ◌≡◌ {A = Result B WireFault} (Err c) (Err d) → ◌≡◌ {A = Result C WireFault} (Err c) (Err d)
    err_any c d e = ap (λ x. Err x) (let P : c ≡ d = cc in P)

pub head_fault : (schema : Schema) (type_no depth : ℕ) (s : List ℕ) (d : WireFault) → s ≢ [] → record_left schema (most_levels - depth) (fields_of schema type_no) 0 s ≡ Err d → fault_of schema type_no depth s ≡ Some d
head_fault schema type_no depth [] d some e = absurd (some refl)
head_fault schema type_no depth (b ∷ s) d some e =
    let left = most_levels - depth in
    let fields = fields_of schema type_no in
    let deeper = deeper_left schema left in
    ap fault_read (walk_left_is schema left 0 (in_message fields) 0 (b ∷ s))
    ∙ ap fault_read (bind_fault (form_at 0 (b ∷ s)) (λ form. read_held schema deeper fields 0 (b ∷ s) form) (λ whole. walk schema deeper (in_message fields) 1 (whole.size - 1) s) d e)

record_moved : (n : ℕ) (schema : Schema) (left : ℕ) (fields : List FieldType) (at : ℕ) (s : List ℕ) → record_left schema left fields (n + at) s ≡ shifted kept n (record_left schema left fields at s)
record_moved n schema left fields at s =
    then_moved n kept kept (form_at (n + at) s) (form_at at s) (form_moved n at s) (λ form. read_held schema (deeper_left schema left) fields at s form) (λ form. read_held schema (deeper_left schema left) fields (n + at) s form)
    λ form. held_moved n schema (deeper_left schema left) (left_moved n schema left) fields at s form

-- where bytes that begin at this byte have this fault: records without one stand in front, and then one that has it
record FirstBad (schema : Schema) (left : ℕ) (fields : List FieldType) (at : ℕ) (s : List ℕ) (d : WireFault) : Type 0 where
  front : List ℕ
  rest : List ℕ
  splits : s ≡ front ++ rest
  sound : Sound schema left fields front
  some : rest ≢ []
  bad : record_left schema left fields (at + length front) rest ≡ Err d

not_nil : (b : ℕ) (s : List ℕ) → b ∷ s ≢ []
not_nil b s e = cc

bad_here : (schema : Schema) (left : ℕ) (fields : List FieldType) (at b : ℕ) (s : List ℕ) (d : WireFault) → record_left schema left fields at (b ∷ s) ≡ Err d → FirstBad schema left fields (at + 0) (b ∷ s) d
bad_here schema left fields at b s d e =
    let none : at + 0 + 0 ≡ at = omega arith in
    record { front = []; rest = b ∷ s; splits = refl; sound = record { rs = []; are = refl; hold = tt }; some = not_nil b s; bad = ap (λ place. record_left schema left fields place (b ∷ s)) none ∙ e }

-- the head record is whole
bad_behind : (schema : Schema) (left : ℕ) (fields : List FieldType) (at : ℕ) (s : List ℕ) (form whole : Form) (d : WireFault) → form_at at s ≡ Ok form → read_held schema (deeper_left schema left) fields at s form ≡ Ok whole → FirstBad schema left fields (at + whole.size) (drop whole.size s) d → FirstBad schema left fields (at + 0) s d
bad_behind schema left fields at s form whole d was held more =
    let found = each_found left at s form whole was (held_untyped schema left fields at s form whole (eqb form.wire 3) refl held) in
    let head = take whole.size s in
    let one : Sound schema left fields head = record { rs = record_of whole s ∷ []; are = ([], found.is, sym (append-nil head), refl); hold = (record_holds schema left fields at s form whole held, tt) } in
    let size : length head ≡ whole.size = length-take-le whole.size s found.within in
    let place : at + 0 + length (head ++ more.front) ≡ at + whole.size + length more.front = omega (arith, length-append head more.front, size) in
    record {
      front = head ++ more.front;
      rest = more.rest;
      splits = sym (take-append-drop whole.size s) ∙ (ap (λ t. head ++ t) more.splits ∙ sym (append_assoc head more.front more.rest));
      sound = sound_join schema left fields head more.front one more.sound;
      some = more.some;
      bad = ap (λ k. record_left schema left fields k more.rest) place ∙ more.bad;
    }

walk_bad : (schema : Schema) (left : ℕ) (fields : List FieldType) (skip at : ℕ) (s : List ℕ) (d : WireFault) → walk schema (deeper_left schema left) (in_message fields) at skip s ≡ Err d → FirstBad schema left fields (at + skip) (drop skip s) d
walk_bad schema left fields zero at [] d e = not_ok d (at, at) (sym e)
walk_bad schema left fields (suc skip) at [] d e = not_ok d (at, at) (sym e)
walk_bad schema left fields (suc skip) at (b ∷ s) d e =
    subst (λ place. FirstBad schema left fields place (drop skip s) d) (skipped at skip) (walk_bad schema left fields skip (suc at) s d e)
  where
    skipped : (at skip : ℕ) → suc at + skip ≡ at + suc skip
    skipped at skip = omega arith
walk_bad schema left fields zero at (b ∷ s) d e = by_form (form_at at (b ∷ s)) refl e (λ k. walk_bad schema left fields k (suc at) s d)
  where
    deeper : Deeper
    deeper = deeper_left schema left

    More : Type 0
    More = (k : ℕ) → walk schema deeper (in_message fields) (suc at) k s ≡ Err d → FirstBad schema left fields (suc at + k) (drop k s) d

    by_held : (form : Form) → form_at at (b ∷ s) ≡ Ok form → (r : Result Form WireFault) → read_held schema deeper fields at (b ∷ s) form ≡ r → (r >>= λ whole. walk schema deeper (in_message fields) (suc at) (whole.size - 1) s) ≡ Err d → More → FirstBad schema left fields (at + 0) (b ∷ s) d
    by_held form was (Err c) held e more =
        let same : c ≡ d = cc in
        bad_here schema left fields at b s d (ap (λ r. r >>= λ f. read_held schema deeper fields at (b ∷ s) f) was ∙ (held ∙ ap (λ x. Err x) same))
    by_held form was (Ok whole) held e more =
        let found = each_found left at (b ∷ s) form whole was (held_untyped schema left fields at (b ∷ s) form whole (eqb form.wire 3) refl held) in
        let size : suc (whole.size - 1) ≡ whole.size = omega (arith, found.some) in
        let place : suc at + (whole.size - 1) ≡ at + whole.size = omega (arith, found.some) in
        let rest = more (whole.size - 1) e in
        bad_behind schema left fields at (b ∷ s) form whole d was held
        (subst (λ k. FirstBad schema left fields (at + whole.size) (drop k (b ∷ s)) d) size (subst (λ k. FirstBad schema left fields k (drop (whole.size - 1) s) d) place rest))

    by_form : (r : Result Form WireFault) → form_at at (b ∷ s) ≡ r → (r >>= λ form. read_held schema deeper fields at (b ∷ s) form >>= λ whole. walk schema deeper (in_message fields) (suc at) (whole.size - 1) s) ≡ Err d → More → FirstBad schema left fields (at + 0) (b ∷ s) d
    by_form (Err c) was e more =
        let same : c ≡ d = cc in
        bad_here schema left fields at b s d (ap (λ r. r >>= λ f. read_held schema deeper fields at (b ∷ s) f) was ∙ ap (λ x. Err x) same)
    by_form (Ok form) was e more = by_held form was (read_held schema deeper fields at (b ∷ s) form) refl e more

err_read : {A : Type 0} (r : Result A WireFault) (d : WireFault) → fault_read r ≡ Some d → r ≡ Err d
err_read (Ok x) d e = absurd (none-some d e)
err_read (Err c) d e = ap (λ x. Err x) (same_Some c d e)

err_moved : {A : Type 0} (f : A → A) (n : ℕ) (r : Result A WireFault) (d : WireFault) → shifted f n r ≡ Err d → (e : WireFault) × (r ≡ Err e) × (d ≡ moved n e)
err_moved f n (Ok x) d h = not_ok d (f x) (sym h)
err_moved f n (Err c) d h = let same : moved n c ≡ d = cc in (c, refl, sym same)

-- the first bad record of some bytes
abbrev pub BadRecord : Schema → ℕ → ℕ → List ℕ → WireFault → Type 0
BadRecord schema type_no depth s d = (x : List ℕ) × (y : List ℕ) × (e : WireFault) × (s ≡ x ++ y) × (fault_of schema type_no depth x ≡ None) × (y ≢ []) × (record_left schema (most_levels - depth) (fields_of schema type_no) 0 y ≡ Err e) × (d ≡ moved (length x) e)

pub fault_found : (schema : Schema) (type_no depth : ℕ) (s : List ℕ) (d : WireFault) → fault_of schema type_no depth s ≡ Some d → BadRecord schema type_no depth s d
fault_found schema type_no depth s d e =
    let left = most_levels - depth in
    let fields = fields_of schema type_no in
    let walked = err_read (walk schema (deeper_left schema left) (in_message fields) 0 0 s) d (ap fault_read (sym (walk_left_is schema left 0 (in_message fields) 0 s)) ∙ e) in
    let bad = walk_bad schema left fields 0 0 s d walked in
    let place : 0 + 0 + length bad.front ≡ length bad.front + 0 = omega arith in
    let read : shifted kept (length bad.front) (record_left schema left fields 0 bad.rest) ≡ Err d = sym (record_moved (length bad.front) schema left fields 0 bad.rest) ∙ (ap (λ k. record_left schema left fields k bad.rest) (sym place) ∙ bad.bad) in
    let near = err_moved kept (length bad.front) (record_left schema left fields 0 bad.rest) d read in
    (bad.front, bad.rest, near.0, bad.splits, sound_unbroken schema type_no depth bad.front bad.sound, bad.some, near.1, near.2)

pub fault_there : (schema : Schema) (type_no depth : ℕ) (s : List ℕ) (d : WireFault) → BadRecord schema type_no depth s d → fault_of schema type_no depth s ≡ Some d
fault_there schema type_no depth s d p =
    ap (fault_of schema type_no depth) p.3
    ∙ (rest_fault schema type_no depth p.0 p.1 p.4
    ∙ (ap (option_map (moved (length p.0))) (head_fault schema type_no depth p.1 p.2 p.5 p.6) ∙ ap Some (sym p.7)))
