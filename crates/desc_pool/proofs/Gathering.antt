-- What the records of a field give, one record after another.
use Rattle.std.proofs.Common.{◌≡◌, ◌+◌, ◌<◌, ℕ, suc, List, [], ◌∷◌, ◌++◌, length, take, map, get_or, Bool, true, false, cond, ◌&&◌, eqb, Option, None, Some, refl, sym, ap, ◌∙◌, subst, append-nil, arith}
use Rattle.std.specs.Prelude.{filter, All, ◌==◌}
use Rattle.std.specs.Str.{is_utf8}
use Rattle.std.proofs.lemmas.Bool.{and_parts, eqb-true}
use Rattle.std.proofs.lemmas.Option.{none-some, same_Some}
use Rattle.std.specs.Option.{option_map}
use Rattle.std.proofs.Math.Seq.{take-suc}
use Rattle.std.proofs.lemmas.List.{map-append}
use Rattle.std.proofs.lemmas.List.Elements.{filter-append, All-nil, All-cons, All-head, All-tail}
use Rattle.pb_schema.specs.Record.{Record}
use Rattle.pb_schema.specs.Fits.{Utf8, Message}
use Rattle.pb_schema.proofs.Runs.{Each, each_filter}
use Rattle.pb_schema.specs.TreeOf.{last_of}
use Rattle.pb_wire.specs.declared.wire_record.WireRecord.{WireRecord}
use Rattle.desc_pool.specs.declared.descriptor.Descriptor.{Descriptor}
use Rattle.desc_pool.specs.Descriptors.{type_of}
use Rattle.desc_pool.specs.Contents.{contents_at}
use Rattle.desc_pool.specs.Payloads.{record_at, has_tag, last_payload, IsRead, Has, IsSub}

-- ONE RECORD MORE

pub last_more : {A : Type 0} (xs : List A) (x : A) → last_of (xs ++ x ∷ []) ≡ Some x
last_more [] x = refl
last_more (y ∷ []) x = refl
last_more (y ∷ z ∷ xs) x = last_more (z ∷ xs) x

abbrev kept : Bool → Record → List Record
kept b r = cond b (r ∷ []) []

fitting_more : (number wire : ℕ) (rs : List Record) (r : Record) (b : Bool) → has_tag number wire r ≡ b → filter (has_tag number wire) (rs ++ r ∷ []) ≡ filter (has_tag number wire) rs ++ kept b r
fitting_more number wire rs r b e = filter-append (has_tag number wire) rs (r ∷ []) ∙ ap (λ b. filter (has_tag number wire) rs ++ kept b r) e

abbrev payload_last : List Record → Option (List ℕ)
payload_last rs = option_map (λ (r : Record). r.payload) (last_of rs)

last_taken : (number wire : ℕ) (rs : List Record) (r : Record) → has_tag number wire r ≡ true → last_payload number wire (rs ++ r ∷ []) ≡ Some r.payload
last_taken number wire rs r e =
    ap payload_last (fitting_more number wire rs r true e) ∙ ap (option_map (λ (r : Record). r.payload)) (last_more (filter (has_tag number wire) rs) r)

last_other : (number wire : ℕ) (rs : List Record) (r : Record) → has_tag number wire r ≡ false → last_payload number wire (rs ++ r ∷ []) ≡ last_payload number wire rs
last_other number wire rs r e =
    ap payload_last (fitting_more number wire rs r false e ∙ append-nil (filter (has_tag number wire) rs))

-- THE RECORDS UP TO A PLACE

abbrev pub shown : List ℕ → List WireRecord → ℕ → List Record
shown bytes ws n = map (record_at bytes) (take n ws)

shown_more : (bytes : List ℕ) (ws : List WireRecord) (n : ℕ) (d : WireRecord) → n < length ws → shown bytes ws (n + 1) ≡ shown bytes ws n ++ record_at bytes (get_or ws n d) ∷ []
shown_more bytes ws n d h =
    ap (λ k. map (record_at bytes) (take k ws)) (let P : n + 1 ≡ suc n = omega arith in P)
    ∙ (ap (map (record_at bytes)) (take-suc ws n d h) ∙ map-append (record_at bytes) (take n ws) (get_or ws n d ∷ []))

pub last_of_more : (bytes : List ℕ) (ws : List WireRecord) (n number wire : ℕ) (d : WireRecord) → n < length ws → has_tag number wire (record_at bytes (get_or ws n d)) ≡ true → last_payload number wire (shown bytes ws (n + 1)) ≡ Some (record_at bytes (get_or ws n d)).payload
last_of_more bytes ws n number wire d h e = ap (last_payload number wire) (shown_more bytes ws n d h) ∙ last_taken number wire (shown bytes ws n) (record_at bytes (get_or ws n d)) e

pub last_of_other : (bytes : List ℕ) (ws : List WireRecord) (n number wire : ℕ) (d : WireRecord) → n < length ws → has_tag number wire (record_at bytes (get_or ws n d)) ≡ false → last_payload number wire (shown bytes ws (n + 1)) ≡ last_payload number wire (shown bytes ws n)
last_of_other bytes ws n number wire d h e = ap (last_payload number wire) (shown_more bytes ws n d h) ∙ last_other number wire (shown bytes ws n) (record_at bytes (get_or ws n d)) e

-- WHAT SUCH RECORDS HOLD

last_each : (P : Record → Type 0) (rs : List Record) (r : Record) → Each P rs → last_of rs ≡ Some r → P r
last_each P [] r p e = absurd (none-some r e)
last_each P (q ∷ []) r p e = subst P (same_Some q r e) p.0
last_each P (q ∷ s ∷ rs) r p e = last_each P (s ∷ rs) r p.1 e

-- the text of such a record
TextOf : Descriptor → Record → Type 0
TextOf descriptor r = contents_at descriptor r.number r.wire ≡ Utf8 → is_utf8 r.payload ≡ true

texts : (descriptor : Descriptor) (depth : ℕ) (bytes : List ℕ) (ws : List WireRecord) → All (IsRead descriptor depth bytes) ws → Each (TextOf descriptor) (map (record_at bytes) ws)
unfolding TextOf
texts descriptor depth bytes [] p = tt
texts descriptor depth bytes (w ∷ ws) p =
    ((All-head (IsRead descriptor depth bytes) w ws p).text, texts descriptor depth bytes ws (All-tail (IsRead descriptor depth bytes) w ws p))

tagged : (number wire : ℕ) (r : Record) → has_tag number wire r ≡ true → (r.number ≡ number) × (r.wire ≡ wire)
tagged number wire r e =
    let parts = and_parts (eqb r.number number) (eqb r.wire wire) e in
    (eqb-true r.number number parts.0, eqb-true r.wire wire parts.1)

contents_tagged : (descriptor : Descriptor) (number wire : ℕ) (r : Record) → has_tag number wire r ≡ true → contents_at descriptor r.number r.wire ≡ contents_at descriptor number wire
contents_tagged descriptor number wire r e =
    let parts = tagged number wire r e in
    ap (λ n. contents_at descriptor n r.wire) parts.0 ∙ ap (contents_at descriptor number) parts.1

payload_some : (o : Option Record) (s : List ℕ) → option_map (λ (r : Record). r.payload) o ≡ Some s → (r : Record) × (o ≡ Some r) × (r.payload ≡ s)
payload_some None s e = absurd (none-some s e)
payload_some (Some r) s e = (r, refl, same_Some r.payload s e)

pub last_is_text : (descriptor : Descriptor) (depth : ℕ) (bytes : List ℕ) (ws : List WireRecord) (number : ℕ) (s : List ℕ) → All (IsRead descriptor depth bytes) ws → Has descriptor number Utf8 → last_payload number 2 (map (record_at bytes) ws) ≡ Some s → is_utf8 s ≡ true
unfolding TextOf
last_is_text descriptor depth bytes ws number s read has e =
    let rs = map (record_at bytes) ws in
    let found = payload_some (last_of (filter (has_tag number 2) rs)) s e in
    let kept = each_filter (TextOf descriptor) (has_tag number 2) rs (texts descriptor depth bytes ws read) in
    let last = last_each (λ r. TextOf descriptor r × (has_tag number 2 r ≡ true)) (filter (has_tag number 2) rs) found.0 kept found.1 in
    subst (λ t. is_utf8 t ≡ true) found.2 (last.0 (contents_tagged descriptor number 2 found.0 last.1 ∙ has))

-- the records of messages
pub tagged_shown : (bytes : List ℕ) (number wire : ℕ) (ws : List WireRecord) → map (record_at bytes) (filter (λ (r : WireRecord). r.number == number && r.wire == wire) ws) ≡ filter (has_tag number wire) (map (record_at bytes) ws)
tagged_shown bytes number wire [] = refl
tagged_shown bytes number wire (w ∷ ws) = cases (w.number == number && w.wire == wire) (tagged_shown bytes number wire ws)
  where
    cases : (b : Bool) → map (record_at bytes) (filter (λ (r : WireRecord). r.number == number && r.wire == wire) ws) ≡ filter (has_tag number wire) (map (record_at bytes) ws)
        → map (record_at bytes) (cond b (w ∷ filter (λ (r : WireRecord). r.number == number && r.wire == wire) ws) (filter (λ (r : WireRecord). r.number == number && r.wire == wire) ws))
        ≡ cond b (record_at bytes w ∷ filter (has_tag number wire) (map (record_at bytes) ws)) (filter (has_tag number wire) (map (record_at bytes) ws))
    cases true e = ap (λ rs. record_at bytes w ∷ rs) e
    cases false e = e

sub_of : (descriptor inner : Descriptor) (depth : ℕ) (bytes : List ℕ) (number : ℕ) (w : WireRecord) → Has descriptor number (Message (type_of inner)) → IsRead descriptor depth bytes w → has_tag number 2 (record_at bytes w) ≡ true → IsSub inner depth bytes w
sub_of descriptor inner depth bytes number w has read e =
    let nested = read.nested inner (contents_tagged descriptor number 2 (record_at bytes w) e ∙ has) in
    record { inside = read.inside; deeper = nested.0; sound = nested.1 }

pub subs_all : (descriptor inner : Descriptor) (depth : ℕ) (bytes : List ℕ) (number : ℕ) (ws : List WireRecord) → Has descriptor number (Message (type_of inner)) → All (IsRead descriptor depth bytes) ws → All (IsSub inner depth bytes) (filter (λ (r : WireRecord). r.number == number && r.wire == 2) ws)
subs_all descriptor inner depth bytes number [] has read = All-nil (IsSub inner depth bytes)
subs_all descriptor inner depth bytes number (w ∷ ws) has read = cases (subs_all descriptor inner depth bytes number ws has (All-tail (IsRead descriptor depth bytes) w ws read)) (w.number == number && w.wire == 2) refl
  where
    cases : All (IsSub inner depth bytes) (filter (λ (r : WireRecord). r.number == number && r.wire == 2) ws) → (b : Bool) → (w.number == number && w.wire == 2) ≡ b → All (IsSub inner depth bytes) (cond b (w ∷ filter (λ (r : WireRecord). r.number == number && r.wire == 2) ws) (filter (λ (r : WireRecord). r.number == number && r.wire == 2) ws))
    cases more true e = All-cons (IsSub inner depth bytes) w (filter (λ (r : WireRecord). r.number == number && r.wire == 2) ws) (sub_of descriptor inner depth bytes number w has (All-head (IsRead descriptor depth bytes) w ws read) e) more
    cases more false e = more

-- THE SAME OF A MESSAGE THAT WAS READ

pub last_read : {o : Option (List ℕ)} (number wire : ℕ) (bytes : List ℕ) (ws items : List WireRecord) (rs : List Record) → o ≡ last_payload number wire (map (record_at bytes) ws) → ws ≡ items → map (record_at bytes) items ≡ rs → o ≡ last_payload number wire rs
last_read number wire bytes ws items rs e same read = e ∙ (ap (λ xs. last_payload number wire (map (record_at bytes) xs)) same ∙ ap (last_payload number wire) read)

pub found_read : (bytes : List ℕ) (number : ℕ) (found ws items : List WireRecord) (rs : List Record) → found ≡ filter (λ (r : WireRecord). r.number == number && r.wire == 2) ws → ws ≡ items → map (record_at bytes) items ≡ rs → map (record_at bytes) found ≡ filter (has_tag number 2) rs
found_read bytes number found ws items rs e same read =
    ap (map (record_at bytes)) (e ∙ ap (filter (λ (r : WireRecord). r.number == number && r.wire == 2)) same) ∙ (tagged_shown bytes number 2 items ∙ ap (filter (has_tag number 2)) read)

pub found_subs : (descriptor inner : Descriptor) (depth : ℕ) (bytes : List ℕ) (number : ℕ) (found ws items : List WireRecord) → found ≡ filter (λ (r : WireRecord). r.number == number && r.wire == 2) ws → ws ≡ items → Has descriptor number (Message (type_of inner)) → All (IsRead descriptor depth bytes) items → All (IsSub inner depth bytes) found
found_subs descriptor inner depth bytes number found ws items e same has read =
    subst (All (IsSub inner depth bytes)) (sym (e ∙ ap (filter (λ (r : WireRecord). r.number == number && r.wire == 2)) same)) (subs_all descriptor inner depth bytes number items has read)
