-- Messages inside descriptor messages, one record after another.
use Rattle.std.proofs.Common.{◌≡◌, ◌+◌, ◌-◌, ◌<◌, ◌≤◌, ℕ, suc, List, [], ◌∷◌, ◌++◌, length, take, map, get_or, Bool, Option, None, Some, refl, sym, ap, ◌∙◌, arith, append_assoc, append-nil}
use Rattle.std.specs.Prelude.{IsSome, filter, flat_map, All, option_and_then}
use Rattle.std.specs.Option.{option_map}
use Rattle.std.specs.List.{concat}
use Rattle.std.proofs.Math.Seq.{take-suc}
use Rattle.std.proofs.lemmas.List.Elements.{filter-append, All-head, All-tail}
use Rattle.std.proofs.lemmas.Grind.{flat_map-append}
use Rattle.pb_schema.specs.declared.kind.Kind.TheVariants as kinds
use Rattle.pb_schema.specs.Record.{Record}
use Rattle.pb_schema.specs.Fits.{fields_of}
use Rattle.pb_schema.specs.Broken.{most_levels}
use Rattle.pb_schema.specs.Tree.{Tree, value_list}
use Rattle.pb_schema.specs.TreeOf.{Nest, last_of, merged, payloads_of, values_in}
use Rattle.pb_schema.proofs.SoundRecords.{Sound, sound_join}
use Rattle.pb_schema.proofs.AppendLaws.{records_join}
use Rattle.pb_schema.specs.Fault.{fault_of}
use Rattle.pb_schema.specs.TreeOf.{tree_of}
use Rattle.pb_schema.proofs.FaultLaws.{tree_there}
use Rattle.pb_schema.proofs.FittedLaws.{no_fault_sound, sound_records, tree_is}
use Rattle.pb_wire.specs.declared.wire_record.WireRecord.{WireRecord}
use Rattle.desc_pool.specs.declared.descriptor.Descriptor.{Descriptor}
use Rattle.desc_pool.specs.declared.descriptor.Descriptor.TheVariants as descriptors
use Rattle.pb_schema.specs.HeldAt.{field_among}
use Rattle.std.proofs.lemmas.List.{take_all}
use Rattle.desc_pool.specs.declared.file.FieldDecl.{FieldDecl}
use Rattle.desc_pool.specs.declared.file.MessageDecl.{MessageDecl}
use Rattle.desc_pool.specs.declared.file.FileDecl.{FileDecl}
use Rattle.desc_pool.specs.Descriptors.{descriptor_schema, fields_read, type_of, one, many, message}
use Rattle.desc_pool.specs.Trees.{message_held, message_in, messages_in, flag_in, or_true}
use Rattle.desc_pool.specs.Files.{packed_by, message_name, message_of, name_prefix, messages_of, messages_nested, messages_among}
use Rattle.desc_pool.specs.Payloads.{record_at, has_tag, last_payload, IsSub, sub_tree, tree_at, flag_bits, flag_or, options_flag}
use Rattle.desc_pool.proofs.Held.{nest_of, left_is, held_is, held_there, records_there, taken_are, nested_is, subs_map, flag_is, subs_are}

-- A LIST GROWS BY WHAT ONE MORE GIVES

pub map_more : {A B : Type 0} (f : A → B) (xs : List A) (n : ℕ) (d : A) → n < length xs → map f (take (n + 1) xs) ≡ map f (take n xs) ++ f (get_or xs n d) ∷ []
map_more f xs n d h = ap (λ k. map f (take k xs)) (let P : n + 1 ≡ suc n = omega arith in P) ∙ (ap (map f) (take-suc xs n d h) ∙ map_end f (take n xs) (get_or xs n d))
  where
    map_end : {A B : Type 0} (f : A → B) (xs : List A) (x : A) → map f (xs ++ x ∷ []) ≡ map f xs ++ f x ∷ []
    map_end f [] x = refl
    map_end f (y ∷ xs) x = ap (λ ys. f y ∷ ys) (map_end f xs x)

pub flat_map_more : {A B : Type 0} (f : A → List B) (xs : List A) (n : ℕ) (d : A) → n < length xs → flat_map f (take (n + 1) xs) ≡ flat_map f (take n xs) ++ f (get_or xs n d)
flat_map_more f xs n d h =
    ap (λ k. flat_map f (take k xs)) (let P : n + 1 ≡ suc n = omega arith in P)
    ∙ (ap (flat_map f) (take-suc xs n d h) ∙ (flat_map-append f (take n xs) (get_or xs n d ∷ []) ∙ ap (λ ys. flat_map f (take n xs) ++ ys) (append-nil (f (get_or xs n d)))))

pub flat_map_map : {A B C : Type 0} (f : B → List C) (g : A → B) (xs : List A) → flat_map f (map g xs) ≡ flat_map (λ x. f (g x)) xs
flat_map_map f g [] = refl
flat_map_map f g (x ∷ xs) = ap (λ ys. f (g x) ++ ys) (flat_map_map f g xs)

pub map_map : {A B C : Type 0} (f : B → C) (g : A → B) (xs : List A) → map f (map g xs) ≡ map (λ x. f (g x)) xs
map_map f g [] = refl
map_map f g (x ∷ xs) = ap (λ ys. f (g x) ∷ ys) (map_map f g xs)

-- OPTIONS IN SEVERAL RECORDS

abbrev pub payload_at : List ℕ → WireRecord → List ℕ
payload_at bytes w = (record_at bytes w).payload

-- the records of all of them
abbrev pub records_of_subs : ℕ → List ℕ → List WireRecord → List Record
records_of_subs depth bytes subs = flat_map (λ sub. records_there (depth + 1) (payload_at bytes sub)) subs

abbrev pub joined_payloads : List ℕ → List WireRecord → List ℕ
joined_payloads bytes subs = concat (payloads_of (map (record_at bytes) subs))

record Joined (inner : Descriptor) (depth : ℕ) (bytes : List ℕ) (subs : List WireRecord) : Type 0 where
  sound : Sound descriptor_schema (most_levels - (depth + 1)) (fields_of descriptor_schema (type_of inner)) (joined_payloads bytes subs)
  records : records_there (depth + 1) (joined_payloads bytes subs) ≡ records_of_subs depth bytes subs

joined : (inner : Descriptor) (depth : ℕ) (bytes : List ℕ) (subs : List WireRecord) → All (IsSub inner depth bytes) subs → Joined inner depth bytes subs
joined inner depth bytes [] are =
    let none : Sound descriptor_schema (most_levels - (depth + 1)) (fields_of descriptor_schema (type_of inner)) [] = record { rs = []; are = refl; hold = tt } in
    record { sound = none; records = sound_records descriptor_schema (most_levels - (depth + 1)) (fields_of descriptor_schema (type_of inner)) [] none }
joined inner depth bytes (sub ∷ subs) are =
    let first = no_fault_sound descriptor_schema (type_of inner) (depth + 1) (payload_at bytes sub) (All-head (IsSub inner depth bytes) sub subs are).sound in
    let more = joined inner depth bytes subs (All-tail (IsSub inner depth bytes) sub subs are) in
    record {
      sound = sound_join descriptor_schema (most_levels - (depth + 1)) (fields_of descriptor_schema (type_of inner)) (payload_at bytes sub) (joined_payloads bytes subs) first more.sound;
      records =
          records_join descriptor_schema (most_levels - (depth + 1)) (fields_of descriptor_schema (type_of inner)) (payload_at bytes sub) (joined_payloads bytes subs) first more.sound
          ∙ ap (λ rs. records_there (depth + 1) (payload_at bytes sub) ++ rs) more.records;
    }

last_of_two : (xs ys : List Record) → option_map (λ (r : Record). flag_bits r.payload) (last_of (xs ++ ys)) ≡ flag_or (option_map (λ (r : Record). flag_bits r.payload) (last_of ys)) (option_map (λ (r : Record). flag_bits r.payload) (last_of xs))
last_of_two xs [] = ap (λ zs. option_map (λ (r : Record). flag_bits r.payload) (last_of zs)) (append-nil xs)
last_of_two [] (y ∷ ys) = or_none_right (option_map (λ (r : Record). flag_bits r.payload) (last_of (y ∷ ys)))
  where
    or_none_right : (o : Option Bool) → o ≡ flag_or o None
    or_none_right None = refl
    or_none_right (Some b) = refl
last_of_two (x ∷ []) (y ∷ ys) = or_some (last_of (y ∷ ys)) (last_some y ys)
  where
    last_some : (y : Record) (ys : List Record) → (r : Record) × (last_of (y ∷ ys) ≡ Some r)
    last_some y [] = (y, refl)
    last_some y (z ∷ ys) = last_some z ys

    or_some : (o : Option Record) → (r : Record) × (o ≡ Some r) → option_map (λ (r : Record). flag_bits r.payload) o ≡ flag_or (option_map (λ (r : Record). flag_bits r.payload) o) (Some (flag_bits x.payload))
    or_some o found = ap (option_map (λ (r : Record). flag_bits r.payload)) found.1 ∙ sym (ap (λ o. flag_or (option_map (λ (r : Record). flag_bits r.payload) o) (Some (flag_bits x.payload))) found.1)
last_of_two (x ∷ z ∷ xs) (y ∷ ys) = last_of_two (z ∷ xs) (y ∷ ys)

option_twice : (o : Option Record) → option_map flag_bits (option_map (λ (r : Record). r.payload) o) ≡ option_map (λ (r : Record). flag_bits r.payload) o
option_twice None = refl
option_twice (Some r) = refl

flag_of_two : (xs ys : List Record) → option_map flag_bits (last_payload 2 0 (xs ++ ys)) ≡ flag_or (option_map flag_bits (last_payload 2 0 ys)) (option_map flag_bits (last_payload 2 0 xs))
flag_of_two xs ys =
    ap (λ rs. option_map flag_bits (option_map (λ (r : Record). r.payload) (last_of rs))) (filter-append (has_tag 2 0) xs ys)
    ∙ (option_twice (last_of (filter (has_tag 2 0) xs ++ filter (has_tag 2 0) ys))
    ∙ (last_of_two (filter (has_tag 2 0) xs) (filter (has_tag 2 0) ys)
    ∙ (ap (λ o. flag_or o (option_map (λ (r : Record). flag_bits r.payload) (last_of (filter (has_tag 2 0) xs)))) (sym (option_twice (last_of (filter (has_tag 2 0) ys))))
    ∙ ap (flag_or (option_map flag_bits (last_payload 2 0 ys))) (sym (option_twice (last_of (filter (has_tag 2 0) xs)))))))

pub options_more : (depth : ℕ) (bytes : List ℕ) (subs : List WireRecord) (n : ℕ) (d : WireRecord) → n < length subs → options_flag depth bytes (take (n + 1) subs) ≡ flag_or (flag_in descriptors.FieldOptions 2 (tree_at descriptors.FieldOptions (depth + 1) (payload_at bytes (get_or subs n d)))) (options_flag depth bytes (take n subs))
options_more depth bytes subs n d h =
    ap (λ rs. option_map flag_bits (last_payload 2 0 rs)) (flat_map_more (λ sub. records_there (depth + 1) (payload_at bytes sub)) subs n d h)
    ∙ (flag_of_two (records_of_subs depth bytes (take n subs)) (records_there (depth + 1) (payload_at bytes (get_or subs n d)))
    ∙ ap (λ o. flag_or o (options_flag depth bytes (take n subs))) (sym (flag_is descriptors.FieldOptions (depth + 1) (payload_at bytes (get_or subs n d)) 2 refl)))

-- the options that a field has
options_held : (depth : ℕ) (bytes : List ℕ) (subs : List WireRecord) → All (IsSub descriptors.FieldOptions depth bytes) subs
    → option_and_then (flag_in descriptors.FieldOptions 2) (message_held (merged (nest_of descriptor_schema (most_levels - depth) (type_of descriptors.FieldOptions)) (map (record_at bytes) subs))) ≡ options_flag depth bytes subs
options_held depth bytes [] are = refl
options_held depth bytes (sub ∷ subs) are =
    let all = joined descriptors.FieldOptions depth bytes (sub ∷ subs) are in
    ap (flag_in descriptors.FieldOptions 2) (nested_is depth descriptors.FieldOptions (payloads_of (map (record_at bytes) (sub ∷ subs))) (All-head (IsSub descriptors.FieldOptions depth bytes) sub subs are).deeper)
    ∙ (flag_is descriptors.FieldOptions (depth + 1) (joined_payloads bytes (sub ∷ subs)) 2 refl
    ∙ ap (λ rs. option_map flag_bits (last_payload 2 0 rs)) all.records)

pub options_none : (depth : ℕ) (bytes : List ℕ) → None ≡ options_flag depth bytes []
options_none depth bytes = refl

pub options_are : (depth : ℕ) (bytes : List ℕ) (subs : List WireRecord) → map (record_at bytes) subs ≡ filter (has_tag 8 2) (records_there depth bytes) → All (IsSub descriptors.FieldOptions depth bytes) subs
    → packed_by (message_in descriptors.Field 8 (tree_at descriptors.Field depth bytes)) ≡ or_true (options_flag depth bytes subs)
options_are depth bytes subs records are =
    let nest = nest_of descriptor_schema (most_levels - depth) (type_of descriptors.FieldOptions) in
    ap (λ h. packed_by (message_held h)) (held_is descriptors.Field depth bytes 8 (one 8 (message descriptors.FieldOptions)) refl)
    ∙ (ap (λ rs. packed_by (message_held (merged nest rs))) (taken_are (one 8 (message descriptors.FieldOptions)) (records_there depth bytes) refl ∙ sym records)
    ∙ ap or_true (options_held depth bytes subs are))

-- MESSAGES AND THOSE NESTED IN THEM

among_listed : (prefix : List ℕ) (nest : Nest (List ℕ)) (type_no number : ℕ) (rs : List Record) → messages_among prefix (value_list (flat_map (values_in descriptor_schema nest (many number (kinds.Message type_no))) rs)) ≡ flat_map (λ (r : Record). messages_of prefix (nest type_no (r.payload ∷ []))) rs
among_listed prefix nest type_no number [] = refl
among_listed prefix nest type_no number (r ∷ rs) = ap (λ ms. messages_of prefix (nest type_no (r.payload ∷ [])) ++ ms) (among_listed prefix nest type_no number rs)

nested_are : (prefix : List ℕ) (depth : ℕ) (bytes : List ℕ) (subs : List WireRecord) → map (record_at bytes) subs ≡ filter (has_tag 3 2) (records_there depth bytes) → All (IsSub descriptors.Message depth bytes) subs
    → messages_nested prefix (held_there descriptors.Message depth bytes (many 3 (message descriptors.Message))) ≡ flat_map (λ sub. messages_of prefix (sub_tree descriptors.Message depth bytes sub)) subs
nested_are prefix depth bytes subs records are =
    let nest = nest_of descriptor_schema (most_levels - depth) in
    ap (λ qs. messages_among prefix (value_list (flat_map (values_in descriptor_schema nest (many 3 (message descriptors.Message))) qs))) (taken_are (many 3 (message descriptors.Message)) (records_there depth bytes) refl ∙ sym records)
    ∙ (among_listed prefix nest (type_of descriptors.Message) 3 (map (record_at bytes) subs)
    ∙ subs_map (messages_of prefix) descriptors.Message depth bytes subs are)

pub messages_are : (prefix : List ℕ) (depth : ℕ) (bytes : List ℕ) (subs : List WireRecord) → map (record_at bytes) subs ≡ filter (has_tag 3 2) (records_there depth bytes) → All (IsSub descriptors.Message depth bytes) subs
    → messages_of prefix (tree_at descriptors.Message depth bytes)
    ≡ message_of (message_name prefix (tree_at descriptors.Message depth bytes)) (tree_at descriptors.Message depth bytes)
    ∷ flat_map (λ sub. messages_of (name_prefix (message_name prefix (tree_at descriptors.Message depth bytes))) (sub_tree descriptors.Message depth bytes sub)) subs
messages_are prefix depth bytes subs records are =
    let is = left_is descriptor_schema (most_levels - depth) (fields_read descriptors.Message) bytes in
    let nested = held_there descriptors.Message depth bytes (many 3 (message descriptors.Message)) in
    ap (messages_of prefix) is
    ∙ (ap (λ t. message_of (message_name prefix t) t ∷ messages_nested (name_prefix (message_name prefix t)) nested) (sym is)
    ∙ ap (λ ms. message_of (message_name prefix (tree_at descriptors.Message depth bytes)) (tree_at descriptors.Message depth bytes) ∷ ms) (nested_are (name_prefix (message_name prefix (tree_at descriptors.Message depth bytes))) depth bytes subs records are))

-- THE LISTS OF A MESSAGE

pub list_of : {B : Type 0} (f : Tree → B) (descriptor inner : Descriptor) (depth : ℕ) (bytes : List ℕ) (number : ℕ) (found : List WireRecord) → field_among (fields_read descriptor) number ≡ Some (many number (message inner)) → map (record_at bytes) found ≡ filter (has_tag number 2) (records_there depth bytes) → All (IsSub inner depth bytes) found
    → map (λ sub. f (sub_tree inner depth bytes sub)) found ≡ map f (messages_in descriptor number (tree_at descriptor depth bytes))
list_of f descriptor inner depth bytes number found e records are =
    sym (map_map f (sub_tree inner depth bytes) found) ∙ ap (map f) (sym (subs_are descriptor inner depth bytes number found e records are))

pub count_of : (descriptor inner : Descriptor) (depth : ℕ) (bytes : List ℕ) (number : ℕ) (found : List WireRecord) → field_among (fields_read descriptor) number ≡ Some (many number (message inner)) → map (record_at bytes) found ≡ filter (has_tag number 2) (records_there depth bytes) → All (IsSub inner depth bytes) found
    → length found ≡ length (messages_in descriptor number (tree_at descriptor depth bytes))
count_of descriptor inner depth bytes number found e records are =
    sym (map_length (sub_tree inner depth bytes) found) ∙ ap length (sym (subs_are descriptor inner depth bytes number found e records are))
  where
    map_length : {A B : Type 0} (f : A → B) (xs : List A) → length (map f xs) ≡ length xs
    map_length f [] = refl
    map_length f (x ∷ xs) = ap suc (map_length f xs)

-- the parts of a message, gathered
pub decl_same : (name name' : List ℕ) (enums enums' : List (List ℕ)) (fields fields' : List FieldDecl) (oneofs oneofs' : ℕ) → name ≡ name' → enums ≡ enums' → fields ≡ fields' → oneofs ≡ oneofs' → ◌≡◌ {A = MessageDecl} (record { name = name; enums = enums; fields = fields; oneofs = oneofs }) (record { name = name'; enums = enums'; fields = fields'; oneofs = oneofs' })
decl_same name name' enums enums' fields fields' oneofs oneofs' n a b c =
    ap (λ x. record { name = x; enums = enums; fields = fields; oneofs = oneofs }) n
    ∙ (ap (λ x. record { name = name'; enums = x; fields = fields; oneofs = oneofs }) a
    ∙ (ap (λ x. record { name = name'; enums = enums'; fields = x; oneofs = oneofs }) b
    ∙ ap (λ x. record { name = name'; enums = enums'; fields = fields'; oneofs = x }) c))

pub all_taken : {A : Type 0} (n : ℕ) (xs : List A) → length xs ≤ n → take n xs ≡ xs
all_taken n xs h = take_all n xs h

-- ONE MESSAGE MORE

pub message_more : (prefix : List ℕ) (depth : ℕ) (bytes : List ℕ) (subs nested found : List WireRecord) (n : ℕ) (d : WireRecord) (before list opened closed : List MessageDecl) (payload inner lent : List ℕ) → n < length subs → payload ≡ payload_at bytes (get_or subs n d)
    → list ≡ before ++ flat_map (λ sub. messages_of prefix (sub_tree descriptors.Message depth bytes sub)) (take n subs)
    → opened ≡ list ++ message_of (message_name prefix (tree_at descriptors.Message (depth + 1) payload)) (tree_at descriptors.Message (depth + 1) payload) ∷ []
    → closed ≡ opened ++ flat_map (λ sub. messages_of lent (sub_tree descriptors.Message (depth + 1) payload sub)) found
    → found ≡ nested → lent ≡ inner → inner ≡ name_prefix (message_name prefix (tree_at descriptors.Message (depth + 1) payload))
    → map (record_at payload) nested ≡ filter (has_tag 3 2) (records_there (depth + 1) payload) → All (IsSub descriptors.Message (depth + 1) payload) nested
    → closed ≡ before ++ flat_map (λ sub. messages_of prefix (sub_tree descriptors.Message depth bytes sub)) (take (n + 1) subs)
message_more prefix depth bytes subs nested found n d before list opened closed payload inner lent h payload_is so_far opened_is closed_is found_is lent_is inner_is records are =
    let t = tree_at descriptors.Message (depth + 1) payload in
    let name = message_name prefix t in
    let more = λ (p : List ℕ) (ws : List WireRecord). flat_map (λ sub. messages_of p (sub_tree descriptors.Message (depth + 1) payload sub)) ws in
    let front = flat_map (λ sub. messages_of prefix (sub_tree descriptors.Message depth bytes sub)) (take n subs) in
    closed_is
    ∙ (ap (λ ws. opened ++ more lent ws) found_is
    ∙ (ap (λ p. opened ++ more p nested) (lent_is ∙ inner_is)
    ∙ (ap (λ ms. ms ++ more (name_prefix name) nested) opened_is
    ∙ (append_assoc list (message_of name t ∷ []) (more (name_prefix name) nested)
    ∙ (ap (λ ms. list ++ ms) (sym (messages_are prefix (depth + 1) payload nested records are))
    ∙ (ap (λ ms. ms ++ messages_of prefix t) so_far
    ∙ (append_assoc before front (messages_of prefix t)
    ∙ (ap (λ p. before ++ (front ++ messages_of prefix (tree_at descriptors.Message (depth + 1) p))) payload_is
    ∙ ap (λ ms. before ++ ms) (sym (flat_map_more (λ sub. messages_of prefix (sub_tree descriptors.Message depth bytes sub)) subs n d h))))))))))

-- some messages at this depth are deeper than none
pub deeper_than : (depth : ℕ) (bytes : List ℕ) (inner : Descriptor) (subs : List WireRecord) (n : ℕ) → All (IsSub inner depth bytes) subs → n < length subs → depth < 100
deeper_than depth bytes inner subs n are h = (are n (record { number = 0; wire = 0; start = 0; payload = 0; payload_len = 0; end = 0 }) h).deeper

-- FILES

-- the messages of a file
pub file_messages : (prefix : List ℕ) (depth : ℕ) (bytes : List ℕ) (found : List WireRecord) → map (record_at bytes) found ≡ filter (has_tag 4 2) (records_there depth bytes) → All (IsSub descriptors.Message depth bytes) found
    → flat_map (λ sub. messages_of prefix (sub_tree descriptors.Message depth bytes sub)) found ≡ flat_map (messages_of prefix) (messages_in descriptors.File 4 (tree_at descriptors.File depth bytes))
file_messages prefix depth bytes found records are =
    sym (flat_map_map (messages_of prefix) (sub_tree descriptors.Message depth bytes) found) ∙ ap (flat_map (messages_of prefix)) (sym (subs_are descriptors.File descriptors.Message depth bytes 4 found refl records are))

pub file_same : (proto3 proto3' : Bool) (enums enums' : List (List ℕ)) (messages messages' : List MessageDecl) → proto3 ≡ proto3' → enums ≡ enums' → messages ≡ messages' → ◌≡◌ {A = FileDecl} (record { is_proto3 = proto3; enums = enums; messages = messages }) (record { is_proto3 = proto3'; enums = enums'; messages = messages' })
file_same proto3 proto3' enums enums' messages messages' a b c =
    ap (λ x. record { is_proto3 = x; enums = enums; messages = messages }) a
    ∙ (ap (λ x. record { is_proto3 = proto3'; enums = x; messages = messages }) b
    ∙ ap (λ x. record { is_proto3 = proto3'; enums = enums'; messages = x }) c)

-- THE SET

pub set_files : {A : Type 0} (f : Tree → A) (descriptor : Descriptor) (depth : ℕ) (bytes : List ℕ) (files : A) → files ≡ f (tree_at descriptor depth bytes) → descriptor ≡ descriptors.Set → depth ≡ 0 → fault_of descriptor_schema 0 0 bytes ≡ None → option_map f (tree_of descriptor_schema 0 bytes) ≡ Some files
set_files f descriptor depth bytes files is d e sound =
    let there = some_tree (tree_of descriptor_schema 0 bytes) (tree_there descriptor_schema 0 bytes sound) in
    let whole : tree_at descriptors.Set 0 bytes ≡ there.0 = (tree_is descriptor_schema 0 bytes there.0 (fault_of descriptor_schema 0 0 bytes) there.1).1 in
    let here : tree_at descriptor depth bytes ≡ there.0 = ap (λ x. tree_at x depth bytes) d ∙ (ap (λ n. tree_at descriptors.Set n bytes) e ∙ whole) in
    ap (option_map f) there.1 ∙ ap Some (sym (is ∙ ap f here))
  where
    some_tree : (o : Option Tree) → IsSome o → (t : Tree) × (o ≡ Some t)
    some_tree None p = absurd (let P : ⊥ = cc in P)
    some_tree (Some t) p = (t, refl)
