-- What the tree of a descriptor message holds at a field, by its records.
use Rattle.std.proofs.Common.{◌≡◌, ◌+◌, ◌-◌, ◌<◌, ◌%◌, ◌^◌, ℕ, zero, suc, List, [], ◌∷◌, ◌++◌, map, Bool, true, false, cond, ◌&&◌, ◌||◌, eqb, Option, None, Some, refl, sym, ap, ◌∙◌, arith, append-nil}
use Rattle.std.specs.Prelude.{filter, flat_map, All}
use Rattle.std.specs.Option.{option_map}
use Rattle.std.specs.List.{concat}
use Rattle.std.proofs.lemmas.Option.{none-some, same_Some}
use Rattle.std.proofs.lemmas.List.Elements.{All-tail}
use Rattle.pb_schema.specs.declared.kind.Kind.TheVariants as kinds
use Rattle.pb_schema.specs.declared.kind.FieldType.{FieldType}
use Rattle.pb_schema.specs.declared.schema.Schema.{Schema}
use Rattle.pb_schema.specs.Varint.{seven_bits}
use Rattle.pb_schema.specs.Record.{Record}
use Rattle.pb_schema.specs.Kinds.{truth}
use Rattle.pb_schema.specs.Fits.{takes, fields_of, wire_of, is_packable}
use Rattle.pb_schema.specs.Broken.{most_levels}
use Rattle.pb_schema.specs.Tree.{Tree, Held, Nothing, One, Many, Number, Bytes, held_list, value_list, fields_held}
use Rattle.pb_schema.specs.Empty.{empty_with}
use Rattle.pb_schema.specs.HeldAt.{field_among, held_among}
use Rattle.pb_schema.specs.TreeOf.{Nest, last_of, last_held, values_in, held_of, gathered, records_in, unknown_of, tree_left}
use Rattle.pb_wire.specs.declared.wire_record.WireRecord.{WireRecord}
use Rattle.desc_pool.specs.declared.descriptor.Descriptor.{Descriptor}
use Rattle.desc_pool.specs.Descriptors.{descriptor_schema, fields_read, type_of, one, many, message}
use Rattle.desc_pool.specs.Trees.{text_held, number_held, messages_held, messages_listed, held_in, text_in, number_in, flag_in, flag_of, messages_in}
use Rattle.desc_pool.specs.Payloads.{record_at, has_tag, last_payload, IsField, IsSub, sub_tree, tree_at, flag_bits}
use Rattle.desc_pool.proofs.Checking.{fields_are}

-- A FIELD OF A TREE

abbrev pub nest_of : Schema → ℕ → Nest (List ℕ)
nest_of schema zero = λ type_no payloads. empty_with [] (fields_of schema type_no)
nest_of schema (suc left) = λ type_no payloads. tree_left schema left (fields_of schema type_no) (concat payloads)

pub left_is : (schema : Schema) (left : ℕ) (fields : List FieldType) (s : List ℕ) → tree_left schema left fields s ≡ gathered schema (nest_of schema left) fields (records_in left s) (unknown_of schema fields (records_in left s))
left_is schema zero fields s = refl
left_is schema (suc left) fields s = refl

held_found : (h : FieldType → Held) (fields : List FieldType) (number : ℕ) (field : FieldType) → field_among fields number ≡ Some field → held_among fields number (held_list (map h fields)) ≡ h field
held_found h [] number field e = absurd (none-some field e)
held_found h (first ∷ fields) number field e = cases (held_found h fields number field) (eqb first.number number) refl
  where
    cases : (field_among fields number ≡ Some field → held_among fields number (held_list (map h fields)) ≡ h field) → (t : Bool) → eqb first.number number ≡ t → held_among (first ∷ fields) number (held_list (map h (first ∷ fields))) ≡ h field
    cases more true is =
        ap (λ t. cond t (h first) (held_among fields number (held_list (map h fields)))) is
        ∙ ap h (same_Some first field (sym (ap (λ t. cond t (Some first) (field_among fields number)) is) ∙ e))
    cases more false is =
        ap (λ t. cond t (h first) (held_among fields number (held_list (map h fields)))) is
        ∙ more (sym (ap (λ t. cond t (Some first) (field_among fields number)) is) ∙ e)

abbrev pub records_there : ℕ → List ℕ → List Record
records_there depth bytes = records_in (most_levels - depth) bytes

abbrev pub held_there : Descriptor → ℕ → List ℕ → FieldType → Held
held_there descriptor depth bytes field = held_of descriptor_schema (nest_of descriptor_schema (most_levels - depth)) (fields_read descriptor) (records_there depth bytes) field

pub held_is : (descriptor : Descriptor) (depth : ℕ) (bytes : List ℕ) (number : ℕ) (field : FieldType) → field_among (fields_read descriptor) number ≡ Some field → held_in descriptor number (tree_at descriptor depth bytes) ≡ held_there descriptor depth bytes field
held_is descriptor depth bytes number field e =
    ap (λ fields. held_among fields number (fields_held (tree_at descriptor depth bytes))) (fields_are descriptor)
    ∙ (ap (λ t. held_among (fields_read descriptor) number (fields_held t)) (left_is descriptor_schema (most_levels - depth) (fields_read descriptor) bytes)
    ∙ held_found (held_there descriptor depth bytes) (fields_read descriptor) number field e)

-- THE RECORDS THAT A FIELD TAKES

eqb_swap : (a b : ℕ) → eqb a b ≡ eqb b a
eqb_swap a b = grind arith

pub takes_is : (field : FieldType) (r : Record) → is_packable field ≡ false → takes descriptor_schema field r ≡ has_tag field.number (wire_of field) r
takes_is field r e =
    ap (λ b. b && (eqb r.wire (wire_of field) || (eqb r.wire 2 && is_packable field))) (eqb_swap field.number r.number)
    ∙ (ap (λ b. eqb r.number field.number && (eqb r.wire (wire_of field) || (eqb r.wire 2 && b))) e
    ∙ none (eqb r.number field.number) (eqb r.wire (wire_of field)) (eqb r.wire 2))
  where
    none : (a b c : Bool) → (a && (b || (c && false))) ≡ (a && b)
    none true true c = refl
    none true false true = refl
    none true false false = refl
    none false b c = refl

filter_same : (p q : Record → Bool) (rs : List Record) → ((r : Record) → p r ≡ q r) → filter p rs ≡ filter q rs
filter_same p q [] same = refl
filter_same p q (r ∷ rs) same =
    ap (λ t. cond t (r ∷ filter p rs) (filter p rs)) (same r) ∙ ap (λ xs. cond (q r) (r ∷ xs) xs) (filter_same p q rs same)

pub taken_are : (field : FieldType) (rs : List Record) → is_packable field ≡ false → filter (takes descriptor_schema field) rs ≡ filter (has_tag field.number (wire_of field)) rs
taken_are field rs e = filter_same (takes descriptor_schema field) (has_tag field.number (wire_of field)) rs (λ r. takes_is field r e)

-- TEXTS AND NUMBERS

one_text : (o : Option Record) → text_held (elim o [ None ↦ Nothing | Some r ↦ One (Bytes r.payload) ]) ≡ option_map (λ (r : Record). r.payload) o
one_text None = refl
one_text (Some r) = refl

one_number : (f : List ℕ → ℕ) (o : Option Record) → number_held (elim o [ None ↦ Nothing | Some r ↦ One (Number (f r.payload)) ]) ≡ option_map f (option_map (λ (r : Record). r.payload) o)
one_number f None = refl
one_number f (Some r) = refl

pub text_is : (descriptor : Descriptor) (depth : ℕ) (bytes : List ℕ) (number : ℕ) → IsField descriptor number kinds.Text → text_in descriptor number (tree_at descriptor depth bytes) ≡ last_payload number 2 (records_there depth bytes)
text_is descriptor depth bytes number e =
    let rs = records_there depth bytes in
    ap text_held (held_is descriptor depth bytes number (one number kinds.Text) e)
    ∙ (ap (λ qs. text_held (last_held (λ r. Bytes r.payload) qs)) (taken_are (one number kinds.Text) rs refl)
    ∙ one_text (last_of (filter (has_tag number 2) rs)))

-- 32 bits of a varint
abbrev pub low_bits : List ℕ → ℕ
low_bits s = seven_bits s % 2 ^ 64 % 2 ^ 32

pub int32_is : (descriptor : Descriptor) (depth : ℕ) (bytes : List ℕ) (number : ℕ) → IsField descriptor number kinds.Int32 → number_in descriptor number (tree_at descriptor depth bytes) ≡ option_map low_bits (last_payload number 0 (records_there depth bytes))
int32_is descriptor depth bytes number e =
    let rs = records_there depth bytes in
    ap number_held (held_is descriptor depth bytes number (one number kinds.Int32) e)
    ∙ (ap (λ qs. number_held (last_held (λ r. Number (low_bits r.payload)) qs)) (taken_are (one number kinds.Int32) rs refl)
    ∙ one_number low_bits (last_of (filter (has_tag number 0) rs)))

pub enum_is : (descriptor : Descriptor) (depth : ℕ) (bytes : List ℕ) (number : ℕ) → IsField descriptor number kinds.Enumeration → number_in descriptor number (tree_at descriptor depth bytes) ≡ option_map low_bits (last_payload number 0 (records_there depth bytes))
enum_is descriptor depth bytes number e =
    let rs = records_there depth bytes in
    ap number_held (held_is descriptor depth bytes number (one number kinds.Enumeration) e)
    ∙ (ap (λ qs. number_held (last_held (λ r. Number (low_bits r.payload)) qs)) (taken_are (one number kinds.Enumeration) rs refl)
    ∙ one_number low_bits (last_of (filter (has_tag number 0) rs)))

map_twice : {A B C : Type 0} (f : A → B) (g : B → C) (o : Option A) → option_map g (option_map f o) ≡ option_map (λ x. g (f x)) o
map_twice f g None = refl
map_twice f g (Some x) = refl

pub flag_is : (descriptor : Descriptor) (depth : ℕ) (bytes : List ℕ) (number : ℕ) → IsField descriptor number kinds.Bool → flag_in descriptor number (tree_at descriptor depth bytes) ≡ option_map flag_bits (last_payload number 0 (records_there depth bytes))
flag_is descriptor depth bytes number e =
    let rs = records_there depth bytes in
    ap (λ h. option_map flag_of (number_held h)) (held_is descriptor depth bytes number (one number kinds.Bool) e)
    ∙ (ap (λ qs. option_map flag_of (number_held (last_held (λ r. Number (truth (seven_bits r.payload % 2 ^ 64))) qs))) (taken_are (one number kinds.Bool) rs refl)
    ∙ (ap (option_map flag_of) (one_number (λ s. truth (seven_bits s % 2 ^ 64)) (last_of (filter (has_tag number 0) rs)))
    ∙ map_twice (λ s. truth (seven_bits s % 2 ^ 64)) flag_of (last_payload number 0 rs)))

-- MESSAGES

listed : (nest : Nest (List ℕ)) (type_no number : ℕ) (rs : List Record) → messages_listed (value_list (flat_map (values_in descriptor_schema nest (many number (kinds.Message type_no))) rs)) ≡ map (λ (r : Record). nest type_no (r.payload ∷ [])) rs
listed nest type_no number [] = refl
listed nest type_no number (r ∷ rs) = ap (λ ts. nest type_no (r.payload ∷ []) ∷ ts) (listed nest type_no number rs)

pub list_is : (descriptor inner : Descriptor) (depth : ℕ) (bytes : List ℕ) (number : ℕ) → field_among (fields_read descriptor) number ≡ Some (many number (message inner)) → held_in descriptor number (tree_at descriptor depth bytes) ≡ Many (value_list (flat_map (values_in descriptor_schema (nest_of descriptor_schema (most_levels - depth)) (many number (message inner))) (filter (has_tag number 2) (records_there depth bytes))))
list_is descriptor inner depth bytes number e =
    held_is descriptor depth bytes number (many number (message inner)) e
    ∙ ap (λ qs. Many (value_list (flat_map (values_in descriptor_schema (nest_of descriptor_schema (most_levels - depth)) (many number (message inner))) qs))) (taken_are (many number (message inner)) (records_there depth bytes) refl)

one_less : (left depth : ℕ) → suc left ≡ most_levels - depth → left ≡ most_levels - (depth + 1)
one_less left depth e = omega (arith, e)

nested_left : (left depth : ℕ) (inner : Descriptor) (payloads : List (List ℕ)) → left ≡ most_levels - depth → depth < 100 → nest_of descriptor_schema left (type_of inner) payloads ≡ tree_at inner (depth + 1) (concat payloads)
nested_left zero depth inner payloads e deeper = absurd (omega (arith, e, deeper))
nested_left (suc left) depth inner payloads e deeper =
    ap (λ n. tree_left descriptor_schema n (fields_of descriptor_schema (type_of inner)) (concat payloads)) (one_less left depth e)
    ∙ ap (λ fields. tree_left descriptor_schema (most_levels - (depth + 1)) fields (concat payloads)) (fields_are inner)

pub nested_is : (depth : ℕ) (inner : Descriptor) (payloads : List (List ℕ)) → depth < 100 → nest_of descriptor_schema (most_levels - depth) (type_of inner) payloads ≡ tree_at inner (depth + 1) (concat payloads)
nested_is depth inner payloads deeper = nested_left (most_levels - depth) depth inner payloads refl deeper

sub_is : (inner : Descriptor) (depth : ℕ) (payload : List ℕ) → depth < 100 → nest_of descriptor_schema (most_levels - depth) (type_of inner) (payload ∷ []) ≡ tree_at inner (depth + 1) payload
sub_is inner depth payload deeper = nested_is depth inner (payload ∷ []) deeper ∙ ap (tree_at inner (depth + 1)) (append-nil payload)

all_first : {X : Type 0} (P : X → Type 0) (x : X) (xs : List X) → All P (x ∷ xs) → P x
all_first P x xs p = p 0 x (omega arith)

-- the trees of the records of a list of messages
pub subs_map : {B : Type 0} (f : Tree → List B) (inner : Descriptor) (depth : ℕ) (bytes : List ℕ) (subs : List WireRecord) → All (IsSub inner depth bytes) subs
    → flat_map (λ (r : Record). f (nest_of descriptor_schema (most_levels - depth) (type_of inner) (r.payload ∷ []))) (map (record_at bytes) subs) ≡ flat_map (λ sub. f (sub_tree inner depth bytes sub)) subs
subs_map f inner depth bytes [] are = refl
subs_map f inner depth bytes (sub ∷ subs) are =
    ap (λ t. f t ++ flat_map (λ (r : Record). f (nest_of descriptor_schema (most_levels - depth) (type_of inner) (r.payload ∷ []))) (map (record_at bytes) subs)) (sub_is inner depth (record_at bytes sub).payload (all_first (IsSub inner depth bytes) sub subs are).deeper)
    ∙ ap (λ ts. f (sub_tree inner depth bytes sub) ++ ts) (subs_map f inner depth bytes subs (All-tail (IsSub inner depth bytes) sub subs are))

trees_map : (inner : Descriptor) (depth : ℕ) (bytes : List ℕ) (subs : List WireRecord) → All (IsSub inner depth bytes) subs → map (λ (r : Record). nest_of descriptor_schema (most_levels - depth) (type_of inner) (r.payload ∷ [])) (map (record_at bytes) subs) ≡ map (sub_tree inner depth bytes) subs
trees_map inner depth bytes [] are = refl
trees_map inner depth bytes (sub ∷ subs) are =
    ap (λ t. t ∷ map (λ (r : Record). nest_of descriptor_schema (most_levels - depth) (type_of inner) (r.payload ∷ [])) (map (record_at bytes) subs)) (sub_is inner depth (record_at bytes sub).payload (all_first (IsSub inner depth bytes) sub subs are).deeper)
    ∙ ap (λ ts. sub_tree inner depth bytes sub ∷ ts) (trees_map inner depth bytes subs (All-tail (IsSub inner depth bytes) sub subs are))

pub subs_are : (descriptor inner : Descriptor) (depth : ℕ) (bytes : List ℕ) (number : ℕ) (subs : List WireRecord) → field_among (fields_read descriptor) number ≡ Some (many number (message inner)) → map (record_at bytes) subs ≡ filter (has_tag number 2) (records_there depth bytes) → All (IsSub inner depth bytes) subs
    → messages_in descriptor number (tree_at descriptor depth bytes) ≡ map (sub_tree inner depth bytes) subs
subs_are descriptor inner depth bytes number subs e records are =
    ap messages_held (list_is descriptor inner depth bytes number e)
    ∙ (listed (nest_of descriptor_schema (most_levels - depth)) (type_of inner) number (filter (has_tag number 2) (records_there depth bytes))
    ∙ (ap (map (λ (r : Record). nest_of descriptor_schema (most_levels - depth) (type_of inner) (r.payload ∷ []))) (sym records) ∙ trees_map inner depth bytes subs are))
