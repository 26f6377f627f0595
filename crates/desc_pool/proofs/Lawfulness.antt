-- The schema of files that aren't refused is lawful.
use Rattle.std.proofs.Common.{◌≡◌, ◌+◌, ◌<◌, ◌≤◌, ◌^◌, ◌-◌, ℕ, zero, suc, List, [], ◌∷◌, ◌++◌, length, map, Bool, true, false, not, cond, ◌&&◌, ◌||◌, eqb, ltb, leb, Option, None, Some, IsTrue, true≢false, refl, sym, ap, ◌∙◌, subst, arith, length-append}
use Rattle.std.specs.Prelude.{filter, flat_map}
use Rattle.std.specs.List.{AllByRecursion, fold, list_any}
use Rattle.std.specs.Map.{lookup}
use Rattle.std.specs.Option.{is_some, option_map}
use Rattle.std.specs.Ordering.{nat_cmp, match_ordering}
use Rattle.std.specs.declared.cmp.Ordering.TheVariants.{Less, Equal, Greater}
use Rattle.std.specs.Str.{bytes_eq}
use Rattle.std.specs.BTreeMap.{insert_entry}
use Rattle.std.proofs.lemmas.Bool.{ltb-true, ltb-false, lt-ltb, leb-false, eqb-true, eqb-false}
use borrow.Author.Tests.{eq-eqb}
use Rattle.std.proofs.lemmas.Option.{none-some, same_Some}
use Rattle.pb_schema.specs.declared.kind.Kind.{Kind}
use Rattle.pb_schema.specs.declared.kind.Kind.TheVariants as kinds
use Rattle.pb_schema.specs.declared.kind.Card.TheVariants as cards
use Rattle.pb_schema.specs.declared.kind.FieldType.{FieldType}
use Rattle.pb_schema.specs.declared.schema.MessageType.{MessageType}
use Rattle.pb_schema.specs.Kinds.{value_type_of, is_number}
use Rattle.pb_schema.specs.Lawful.{CardAllowed, FieldsAllowed, IsNamed, Lawful, NumbersAscend, TypeAllowed, TypesAllowed, most_fields, most_oneofs, most_types}
use Rattle.desc_pool.specs.declared.file.FieldDecl.{FieldDecl}
use Rattle.desc_pool.specs.declared.file.MessageDecl.{MessageDecl}
use Rattle.desc_pool.specs.declared.file.FileDecl.{FileDecl}
use Rattle.desc_pool.specs.declared.names.NameDecl.{NameDecl}
use Rattle.desc_pool.specs.Names.{enum_decl, file_decl, is_enum, message_decl, names_of, place_from, place_of}
use Rattle.desc_pool.specs.Linked.{by_number, card_of, field_type, is_message, is_synthetic, kind_of, message_type, or_double, or_first, real_below, schema_of, single_card}
use Rattle.desc_pool.specs.Refusals.{all_messages, duplicate_name, field_name, field_that, first_field, first_repeated, first_some, first_that, has_bad_number, is_bad_member, is_badly_placed, is_in, is_relative, is_repeated, is_unknown, is_unsupported, kind_by, kind_table, members, names_enum, names_message, refusal, syntax, target, too_many}
use Rattle.desc_pool.specs.declared.fault.SchemaFault.TheVariants.{Syntax, DuplicateName, BadNumber, DuplicateNumber, RelativeName, UnknownType, BadOneof, UnsupportedType, TooMany}
use Rattle.desc_pool.proofs.Naming.{messages_in}
use Rattle.desc_pool.proofs.Order.{chain, refusal_is}

-- NONE OF THEM

unmapped : {A B : Type 0} (f : A → B) (x : Option A) → option_map f x ≡ None → x ≡ None
unmapped f None e = refl
unmapped f (Some x) e = absurd (none-some (f x) (sym e))

none_that : {A : Type 0} (test : A → Bool) (xs : List A) → first_that test xs ≡ None → AllByRecursion (λ x. test x ≡ false) xs
none_that test [] e = tt
none_that test (x ∷ xs) e = by (test x) refl (none_that test xs)
  where
    by : (b : Bool) → test x ≡ b → (first_that test xs ≡ None → AllByRecursion (λ x. test x ≡ false) xs) → (test x ≡ false) × AllByRecursion (λ x. test x ≡ false) xs
    by true is more = absurd (none-some x (sym e ∙ ap (λ b. cond b (Some x) (first_that test xs)) is))
    by false is more = (is, more (sym (ap (λ b. cond b (Some x) (first_that test xs)) is) ∙ e))

none_some : {A B : Type 0} (f : A → Option B) (xs : List A) → first_some f xs ≡ None → AllByRecursion (λ x. f x ≡ None) xs
none_some f [] e = tt
none_some {B = B} f (x ∷ xs) e = by (f x) refl (none_some f xs)
  where
    by : (o : Option B) → f x ≡ o → (first_some f xs ≡ None → AllByRecursion (λ x. f x ≡ None) xs) → (f x ≡ None) × AllByRecursion (λ x. f x ≡ None) xs
    by None is more = (is, more (sym (ap (λ o. elim o [ Some y ↦ Some y | None ↦ first_some f xs ]) is) ∙ e))
    by (Some y) is more = absurd (none-some y (sym e ∙ ap (λ o. elim o [ Some y ↦ Some y | None ↦ first_some f xs ]) is))

each : {A : Type 0} (P Q : A → Type 0) → ((x : A) → P x → Q x) → (xs : List A) → AllByRecursion P xs → AllByRecursion Q xs
each P Q f [] all = tt
each P Q f (x ∷ xs) all = (f x all.0, each P Q f xs all.1)

both : {A : Type 0} (P Q : A → Type 0) (xs : List A) → AllByRecursion P xs → AllByRecursion Q xs → AllByRecursion (λ x. P x × Q x) xs
both P Q [] ps qs = tt
both P Q (x ∷ xs) ps qs = ((ps.0, qs.0), both P Q xs ps.1 qs.1)

-- each field of each message of all files
abbrev AllFields : (MessageDecl → FieldDecl → Type 0) → List FileDecl → Type 0
AllFields P files = AllByRecursion (λ (file : FileDecl). AllByRecursion (λ (message : MessageDecl). AllByRecursion (P message) message.fields) file.messages) files

fields_pass : (test : MessageDecl → FieldDecl → Bool) (name : MessageDecl → FieldDecl → List ℕ) (files : List FileDecl)
    → first_some (λ (file : FileDecl). first_some (λ (message : MessageDecl). option_map (name message) (first_that (test message) message.fields)) file.messages) files ≡ None
    → AllFields (λ message field. test message field ≡ false) files
fields_pass test name files e =
    each _ _
    (λ (file : FileDecl) of_file. each _ _
    (λ (message : MessageDecl) of_message. none_that (test message) message.fields (unmapped (name message) (first_that (test message) message.fields) of_message))
    file.messages
    (none_some (λ (message : MessageDecl). option_map (name message) (first_that (test message) message.fields)) file.messages of_file))
    files
    (none_some (λ (file : FileDecl). first_some (λ (message : MessageDecl). option_map (name message) (first_that (test message) message.fields)) file.messages) files e)

-- FIELDS BY NUMBER

abbrev Fits : ℕ → ℕ → FieldType → Type 0
Fits types oneofs field = IsNamed types (value_type_of field.kind) × CardAllowed oneofs (value_type_of field.kind) field.card

abbrev Ascends : ℕ → ℕ → ℕ → List (ℕ × FieldType) → Type 0
Ascends types oneofs least [] = Unit {0}
Ascends types oneofs least (e ∷ es) = (e.1.number ≡ e.0) × (least ≤ e.0) × (e.0 ≤ 2 ^ 29 - 1) × Fits types oneofs e.1 × Ascends types oneofs (e.0 + 1) es

widened : (types oneofs least least' : ℕ) (es : List (ℕ × FieldType)) → least' ≤ least → Ascends types oneofs least es → Ascends types oneofs least' es
widened types oneofs least least' [] less all = tt
widened types oneofs least least' (e ∷ es) less all = (all.0, (let low = all.1 in omega (arith, low, less)), all.2, all.3, all.4)

inserted : (types oneofs : ℕ) (es : List (ℕ × FieldType)) (least k : ℕ) (v : FieldType) → v.number ≡ k → least ≤ k → k ≤ 2 ^ 29 - 1 → Fits types oneofs v
    → Ascends types oneofs least es → Ascends types oneofs least (insert_entry nat_cmp es k v)
inserted types oneofs [] least k v same low high fit all = (same, low, high, fit, tt)
inserted types oneofs (e ∷ es) least k v same low high fit all = place (ltb k e.0) (eqb k e.0) refl refl (λ above. inserted types oneofs es (e.0 + 1) k v same above high fit all.4)
  where
    place : (t u : Bool) → ltb k e.0 ≡ t → eqb k e.0 ≡ u → (e.0 + 1 ≤ k → Ascends types oneofs (e.0 + 1) (insert_entry nat_cmp es k v))
        → Ascends types oneofs least (match_ordering (cond t Less (cond u Equal Greater)) ((k, v) ∷ e ∷ es) ((e.0, v) ∷ es) (e ∷ insert_entry nat_cmp es k v))
    place true u less equal more = let before = ltb-true k e.0 less in (same, low, high, fit, (all.0, (omega (arith, before)), all.2, all.3, all.4))
    place false true less equal more = (same ∙ eqb-true k e.0 equal, all.1, all.2, fit, all.4)
    place false false less equal more =
        let behind = ltb-false k e.0 less in
        let apart = eqb-false k e.0 equal in
        (all.0, all.1, all.2, all.3, more (omega (arith, behind, apart)))

no_longer : (es : List (ℕ × FieldType)) (k : ℕ) (v : FieldType) → length (insert_entry nat_cmp es k v) ≤ suc (length es)
no_longer [] k v = omega arith
no_longer (e ∷ es) k v = place (ltb k e.0) (eqb k e.0) (no_longer es k v)
  where
    place : (t u : Bool) → length (insert_entry nat_cmp es k v) ≤ suc (length es) → length (match_ordering (cond t Less (cond u Equal Greater)) ((k, v) ∷ e ∷ es) ((e.0, v) ∷ es) (e ∷ insert_entry nat_cmp es k v)) ≤ suc (suc (length es))
    place true u more = omega arith
    place false true more = omega arith
    place false false more = omega (arith, more)

-- a field may be listed
abbrev MayStand : ℕ → ℕ → FieldType → Type 0
MayStand types oneofs field = (1 ≤ field.number) × (field.number ≤ 2 ^ 29 - 1) × Fits types oneofs field

sorted_from : (types oneofs : ℕ) (fields : List FieldType) (es : List (ℕ × FieldType)) → AllByRecursion (MayStand types oneofs) fields → Ascends types oneofs 1 es
    → Ascends types oneofs 1 (fold (λ (sorted : List (ℕ × FieldType)) (field : FieldType). insert_entry nat_cmp sorted field.number field) es fields)
    × (length (fold (λ (sorted : List (ℕ × FieldType)) (field : FieldType). insert_entry nat_cmp sorted field.number field) es fields) ≤ length es + length fields)
sorted_from types oneofs [] es all sorted = (sorted, omega arith)
sorted_from types oneofs (field ∷ fields) es all sorted =
    let more = sorted_from types oneofs fields (insert_entry nat_cmp es field.number field) all.1 (inserted types oneofs es 1 field.number field refl all.0.0 all.0.1 all.0.2 sorted) in
    let one = no_longer es field.number field in
    let few = more.1 in
    (more.0, omega (arith, one, few))

ascend : (types oneofs least : ℕ) (es : List (ℕ × FieldType)) → Ascends types oneofs least es → NumbersAscend least (map (λ (e : ℕ × FieldType). e.1) es)
ascend types oneofs least [] all = tt
ascend types oneofs least (e ∷ es) all =
    let same = all.0 in let low = all.1 in let high = all.2 in
    ((omega (arith, same, low)), (omega (arith, same, high)), subst (λ n. NumbersAscend (n + 1) (map (λ (e : ℕ × FieldType). e.1) es)) (sym same) (ascend types oneofs (e.0 + 1) es all.4))

allowed : (types oneofs least : ℕ) (es : List (ℕ × FieldType)) → Ascends types oneofs least es → FieldsAllowed types oneofs (map (λ (e : ℕ × FieldType). e.1) es)
allowed types oneofs least [] all = tt
allowed types oneofs least (e ∷ es) all = (all.3.0, all.3.1, allowed types oneofs (e.0 + 1) es all.4)

mapped_length : {A B : Type 0} (f : A → B) (xs : List A) → length (map f xs) ≡ length xs
mapped_length f [] = refl
mapped_length f (x ∷ xs) = ap suc (mapped_length f xs)

-- NAMES

counted_append : (xs ys : List NameDecl) → messages_in (xs ++ ys) ≡ messages_in xs + messages_in ys
counted_append [] ys = omega arith
counted_append (x ∷ xs) ys = let e = counted_append xs ys in omega (arith, e)

enums_count : (enums : List (List ℕ)) → messages_in (map enum_decl enums) ≡ 0
enums_count [] = refl
enums_count (enum ∷ enums) = let e = enums_count enums in omega (arith, e)

messages_count : (messages : List MessageDecl) → messages_in (flat_map message_decl messages) ≡ length messages
messages_count [] = refl
messages_count (message ∷ messages) =
    let e = messages_count messages in let none = enums_count message.enums in
    let whole = counted_append (map enum_decl message.enums) (flat_map message_decl messages) in
    omega (arith, e, none, whole)

types_count : (f : MessageDecl → MessageType) (files : List FileDecl) → messages_in (names_of files) ≡ length (flat_map (λ (file : FileDecl). map f file.messages) files)
types_count f [] = refl
types_count f (file ∷ files) =
    let e = types_count f files in
    let none = enums_count file.enums in
    let own = messages_count file.messages in
    let front = counted_append (map enum_decl file.enums) (flat_map message_decl file.messages) in
    let whole = counted_append (file_decl file) (names_of files) in
    let as_long = mapped_length f file.messages in
    let long = length-append (map f file.messages) (flat_map (λ (file : FileDecl). map f file.messages) files) in
    omega (arith, e, none, own, front, whole, as_long, long)

all_count : (f : MessageDecl → MessageType) (files : List FileDecl) → length (flat_map (λ (file : FileDecl). map f file.messages) files) ≡ length (all_messages files)
all_count f [] = refl
all_count f (file ∷ files) =
    let e = all_count f files in
    let as_long = mapped_length f file.messages in
    let long = length-append (map f file.messages) (flat_map (λ (file : FileDecl). map f file.messages) files) in
    let whole = length-append file.messages (all_messages files) in
    omega (arith, e, as_long, long, whole)

placed : (place : ℕ) (names : List NameDecl) (q : List ℕ) (p : ℕ) → place_from place names q ≡ Some p → p < place + messages_in names
placed place [] q p e = absurd (none-some p e)
placed place (x ∷ names) q p e = behind (place_from (cond x.is_message (suc place) place) names q) refl (placed (cond x.is_message (suc place) place) names q p)
  where
    front : (b : Bool) → p < cond b (suc place) place + messages_in names → p < place + (cond b 1 0 + messages_in names)
    front true h = omega (arith, h)
    front false h = omega (arith, h)

    own : (b c : Bool) → cond (b && c) (Some place) None ≡ Some p → p < place + (cond b 1 0 + messages_in names)
    own true true e = let same = same_Some place p e in omega (arith, same)
    own true false e = absurd (none-some p e)
    own false c e = absurd (none-some p e)

    behind : (o : Option ℕ) → place_from (cond x.is_message (suc place) place) names q ≡ o → (place_from (cond x.is_message (suc place) place) names q ≡ Some p → p < cond x.is_message (suc place) place + messages_in names) → p < place + messages_in (x ∷ names)
    behind (Some k) is more = front x.is_message (more (is ∙ (sym (ap (λ o. elim o [ Some l ↦ Some l | None ↦ cond (x.is_message && bytes_eq q x.name) (Some place) None ]) is) ∙ e)))
    behind None is more = own x.is_message (bytes_eq q x.name) (sym (ap (λ o. elim o [ Some l ↦ Some l | None ↦ cond (x.is_message && bytes_eq q x.name) (Some place) None ]) is) ∙ e)

looked : (types code : ℕ) (table : List (ℕ × Kind)) → AllByRecursion (λ (e : ℕ × Kind). e.0 ≡ code → IsNamed types (value_type_of e.1)) table
    → IsNamed types (value_type_of (or_double (lookup (λ number. eqb number code) table)))
looked types code [] all = tt
looked types code (e ∷ table) all = by (eqb e.0 code) refl (looked types code table all.1)
  where
    by : (b : Bool) → eqb e.0 code ≡ b → IsNamed types (value_type_of (or_double (lookup (λ number. eqb number code) table))) → IsNamed types (value_type_of (or_double (cond b (Some e.1) (lookup (λ number. eqb number code) table))))
    by true is more = all.0 (eqb-true e.0 code is)
    by false is more = more

named_kind : (types code place : ℕ) → (11 ≡ code → place < types) → IsNamed types (value_type_of (or_double (kind_by code place)))
named_kind types code place few = looked types code (kind_table place) (λ _. tt, (λ _. tt, (λ _. tt, (λ _. tt, (λ _. tt, (λ _. tt, (λ _. tt, (λ _. tt, (λ _. tt, (few, (λ _. tt, (λ _. tt, (λ _. tt, (λ _. tt, (λ _. tt, (λ _. tt, (λ _. tt, tt)))))))))))))))))

kind_named : (names : List NameDecl) (field : FieldDecl) → is_unknown names field ≡ false → IsNamed (messages_in names) (value_type_of (kind_of names field))
kind_named names field known = named_kind (messages_in names) field.type_code (or_first (place_of names (target field))) (λ is. few (place_of names (target field)) refl is)
  where
    few : (o : Option ℕ) → place_of names (target field) ≡ o → 11 ≡ field.type_code → or_first (place_of names (target field)) < messages_in names
    few (Some p) found is = let h = placed 0 names (target field) p found in let e = ap or_first found in omega (arith, h, e)
    few None found is = absurd (true≢false (sym (unknown (names_message field) (is_some (place_of names (target field))) (names_enum field && not (is_enum names (target field))) (eq-eqb field.type_code 11 (sym is)) (ap is_some found)) ∙ known))
      where
        unknown : (b c d : Bool) → b ≡ true → c ≡ false → ((b && not c) || d) ≡ true
        unknown true false d is isn't = refl
        unknown true true d is isn't = absurd (true≢false isn't)
        unknown false c d is isn't = absurd (true≢false (sym is))

-- ONEOFS

pub real_few : (message : MessageDecl) (n : ℕ) → real_below message n ≤ n
real_few message zero = omega arith
real_few message (suc n) = one (ltb n message.oneofs && not (is_synthetic message n)) (real_few message n)
  where
    one : (b : Bool) → real_below message n ≤ n → real_below message n + cond b 1 0 ≤ suc n
    one true h = omega (arith, h)
    one false h = omega (arith, h)

real_more : (message : MessageDecl) (n k : ℕ) → real_below message n ≤ real_below message (k + n)
real_more message n zero = let P : 0 + n ≡ n = omega arith in subst (λ k. real_below message n ≤ real_below message k) (sym P) (omega arith)
real_more message n (suc k) = let P : suc k + n ≡ suc (k + n) = omega arith in let h = real_more message n k in subst (λ m. real_below message n ≤ real_below message m) (sym P) (omega (arith, h))

real_counts : (message : MessageDecl) (oneof : ℕ) → oneof < message.oneofs → is_synthetic message oneof ≡ false → real_below message oneof < real_below message message.oneofs
real_counts message oneof declared real =
    let one : real_below message (suc oneof) ≡ real_below message oneof + 1 = ap (λ b. real_below message oneof + cond b 1 0) (ap (λ b. b && not (is_synthetic message oneof)) (lt-ltb oneof message.oneofs declared) ∙ ap (λ b. not b) real) in
    let more = real_more message (suc oneof) (message.oneofs - suc oneof) in
    let whole : (message.oneofs - suc oneof) + suc oneof ≡ message.oneofs = omega (arith, declared) in
    let to = ap (real_below message) whole in
    omega (arith, one, more, to)

-- of a message whose fields all pass, the oneof of a field that isn't optional isn't synthetic
any_is : {A : Type 0} (test : A → Bool) (P : Type 0) (xs : List A) → list_any test xs ≡ true → AllByRecursion (λ x. test x ≡ true → P) xs → P
any_is test P [] e all = absurd (true≢false (sym e))
any_is test P (x ∷ xs) e all = by (test x) refl (λ later. any_is test P xs later all.1)
  where
    by : (b : Bool) → test x ≡ b → (list_any test xs ≡ true → P) → P
    by true is more = all.0 is
    by false is more = more (sym (ap (λ b. b || list_any test xs) is) ∙ e)

abbrev alone_in : ℕ → FieldDecl → Bool
alone_in oneof field = field.optional && is_in oneof field

abbrev beside_in : ℕ → FieldDecl → Bool
beside_in oneof field = not field.optional && is_in oneof field

in_parts : (oneof : ℕ) (fields : List FieldDecl) → length (filter (is_in oneof) fields) ≡ length (filter (alone_in oneof) fields) + length (filter (beside_in oneof) fields)
in_parts oneof [] = refl
in_parts oneof (field ∷ fields) = by field.optional (is_in oneof field) (in_parts oneof fields)
  where
    by : (o i : Bool) → length (filter (is_in oneof) fields) ≡ length (filter (alone_in oneof) fields) + length (filter (beside_in oneof) fields)
        → length (cond i (field ∷ filter (is_in oneof) fields) (filter (is_in oneof) fields)) ≡ length (cond (o && i) (field ∷ filter (alone_in oneof) fields) (filter (alone_in oneof) fields)) + length (cond (not o && i) (field ∷ filter (beside_in oneof) fields) (filter (beside_in oneof) fields))
    by true true e = omega (arith, e)
    by true false e = e
    by false true e = omega (arith, e)
    by false false e = e

each_in : {A : Type 0} (test : A → Bool) (bound : ℕ) (xs : List A) → length (filter test xs) ≤ bound → AllByRecursion (λ x. test x ≡ true → 1 ≤ bound) xs
each_in test bound [] few = tt
each_in {A} test bound (x ∷ xs) few = (λ is. own (test x) is few, each_in test bound xs (less (test x) few))
  where
    own : (b : Bool) → b ≡ true → length (cond b (x ∷ filter test xs) (filter test xs)) ≤ bound → 1 ≤ bound
    own true is h = omega (arith, h)
    own false is h = absurd (true≢false (sym is))

    less : (b : Bool) → length (cond b (x ∷ filter test xs) (filter test xs)) ≤ bound → length (filter test xs) ≤ bound
    less true h = omega (arith, h)
    less false h = h

-- of three tests one behind the other none holds
three_false : (a b c : Bool) → (a || (b || c)) ≡ false → (a ≡ false) × (c ≡ false)
three_false false false c e = (refl, e)
three_false false true c e = absurd (true≢false e)
three_false true b c e = absurd (true≢false e)

lonely : (message : MessageDecl) (field : FieldDecl) (oneof : ℕ) → is_badly_placed message field ≡ false → alone_in oneof field ≡ true → members message oneof ≤ 1
lonely message field oneof well alone = by field.optional field.oneof_index refl refl
  where
    by : (b : Bool) (o : Option ℕ) → field.optional ≡ b → field.oneof_index ≡ o → members message oneof ≤ 1
    by false o optional is = absurd (true≢false (sym alone ∙ ap (λ b. b && is_in oneof field) optional))
    by true None optional is = absurd (true≢false (sym optional ∙ (sym (ap (λ o. elim o [ Some index ↦ is_bad_member message field index | None ↦ field.optional ]) is) ∙ well)))
    by true (Some index) optional is =
        let here : eqb index oneof ≡ true = sym (ap (λ o. elim o [ Some i ↦ eqb i oneof | None ↦ false ]) is) ∙ (sym (ap (λ b. b && is_in oneof field) optional) ∙ alone) in
        let good : is_bad_member message field index ≡ false = sym (ap (λ o. elim o [ Some i ↦ is_bad_member message field i | None ↦ field.optional ]) is) ∙ well in
        let few = ltb-false 1 (members message index) (sym (ap (λ b. b && ltb 1 (members message index)) optional) ∙ (three_false (leb message.oneofs index) (is_repeated field) (field.optional && ltb 1 (members message index)) good).1) in
        let same = ap (members message) (eqb-true index oneof here) in
        omega (arith, few, same)

not_synthetic : (message : MessageDecl) (oneof : ℕ) → AllByRecursion (λ (field : FieldDecl). is_badly_placed message field ≡ false) message.fields
    → 1 ≤ length (filter (beside_in oneof) message.fields) → is_synthetic message oneof ≡ false
not_synthetic message oneof well some = by (is_synthetic message oneof) refl
  where
    by : (b : Bool) → is_synthetic message oneof ≡ b → is_synthetic message oneof ≡ false
    by false is = is
    by true is =
        let one = any_is (alone_in oneof) (1 ≤ length (filter (alone_in oneof) message.fields)) message.fields is (each_in (alone_in oneof) (length (filter (alone_in oneof) message.fields)) message.fields (omega arith)) in
        let few = any_is (alone_in oneof) (members message oneof ≤ 1) message.fields is (each (λ (field : FieldDecl). is_badly_placed message field ≡ false) (λ (field : FieldDecl). alone_in oneof field ≡ true → members message oneof ≤ 1) (λ field good. lonely message field oneof good) message.fields well) in
        let parts = in_parts oneof message.fields in
        absurd (omega (arith, one, few, parts, some))

-- CARDS

and_right : (a b : Bool) → IsTrue (a && b) → IsTrue b
and_right true b h = h
and_right false true h = refl
and_right false false h = h

plain_card : (oneofs : ℕ) (kind : Kind) → CardAllowed oneofs (value_type_of kind) (cond (is_message kind) cards.Explicit cards.Implicit)
plain_card oneofs kinds.Double = tt
plain_card oneofs kinds.Float = tt
plain_card oneofs kinds.Int64 = tt
plain_card oneofs kinds.UInt64 = tt
plain_card oneofs kinds.Int32 = tt
plain_card oneofs kinds.Fixed64 = tt
plain_card oneofs kinds.Fixed32 = tt
plain_card oneofs kinds.Bool = tt
plain_card oneofs kinds.Text = tt
plain_card oneofs (kinds.Message type_no) = tt
plain_card oneofs kinds.Bytes = tt
plain_card oneofs kinds.UInt32 = tt
plain_card oneofs kinds.Enumeration = tt
plain_card oneofs kinds.SFixed32 = tt
plain_card oneofs kinds.SFixed64 = tt
plain_card oneofs kinds.SInt32 = tt
plain_card oneofs kinds.SInt64 = tt

-- the fields of a message are well placed, and this one is among them
record Placed (message : MessageDecl) (field : FieldDecl) : Type 0 where
  all : AllByRecursion (λ (other : FieldDecl). is_badly_placed message other ≡ false) message.fields
  own : is_badly_placed message field ≡ false
  among : (oneof : ℕ) → beside_in oneof field ≡ true → 1 ≤ length (filter (beside_in oneof) message.fields)

card_fits : (message : MessageDecl) (kind : Kind) (field : FieldDecl) → Placed message field → CardAllowed (real_below message message.oneofs) (value_type_of kind) (card_of message kind field)
card_fits message kind field p = by (is_repeated field)
  where
    oneofs : ℕ
    oneofs = real_below message message.oneofs

    member : (oneof : ℕ) → field.optional ≡ false → field.oneof_index ≡ Some oneof → real_below message oneof < oneofs
    member oneof optional is =
        let good : is_bad_member message field oneof ≡ false = sym (ap (λ o. elim o [ Some i ↦ is_bad_member message field i | None ↦ field.optional ]) is) ∙ p.own in
        let declared = leb-false message.oneofs oneof (three_false (leb message.oneofs oneof) (is_repeated field) (field.optional && ltb 1 (members message oneof)) good).0 in
        let here : beside_in oneof field ≡ true = ap (λ b. not b && is_in oneof field) optional ∙ (ap (λ o. elim o [ Some i ↦ eqb i oneof | None ↦ false ]) is ∙ eq-eqb oneof oneof refl) in
        real_counts message oneof declared (not_synthetic message oneof p.all (p.among oneof here))

    single : (b : Bool) (o : Option ℕ) → field.optional ≡ b → field.oneof_index ≡ o
        → CardAllowed oneofs (value_type_of kind) (cond b cards.Explicit (elim o [ Some oneof ↦ cards.Member (real_below message oneof) | None ↦ cond (is_message kind) cards.Explicit cards.Implicit ]))
    single true o is index = tt
    single false None is index = plain_card oneofs kind
    single false (Some oneof) is index = member oneof is index

    by : (b : Bool) → CardAllowed oneofs (value_type_of kind) (cond b (cards.Repeated (field.packed && is_number (value_type_of kind))) (single_card message kind field))
    by true = λ packed. and_right field.packed (is_number (value_type_of kind)) packed
    by false = single field.optional field.oneof_index refl refl

-- TYPES

record Good (names : List NameDecl) (message : MessageDecl) (field : FieldDecl) : Type 0 where
  number : has_bad_number field ≡ false
  known : is_unknown names field ≡ false
  place : Placed message field

two_false : (a b : Bool) → (a || b) ≡ false → (a ≡ false) × (b ≡ false)
two_false false b e = (refl, e)
two_false true b e = absurd (true≢false e)

may_stand : (names : List NameDecl) (message : MessageDecl) (field : FieldDecl) → Good names message field → MayStand (messages_in names) (real_below message message.oneofs) (field_type names message field)
may_stand names message field g =
    let bounds = two_false (ltb field.number 1) (leb (2 ^ 29) field.number) g.number in
    let low = ltb-false field.number 1 bounds.0 in
    let high = leb-false (2 ^ 29) field.number bounds.1 in
    (low, (omega (arith, high)), (kind_named names field g.known, card_fits message (kind_of names field) field g.place))

each_map : {A B : Type 0} (f : A → B) (P : B → Type 0) (xs : List A) → AllByRecursion (λ x. P (f x)) xs → AllByRecursion P (map f xs)
each_map f P [] all = tt
each_map f P (x ∷ xs) all = (all.0, each_map f P xs all.1)

type_allowed : (names : List NameDecl) (message : MessageDecl) → AllByRecursion (Good names message) message.fields → length message.fields ≤ most_fields
    → real_below message message.oneofs ≤ most_oneofs → TypeAllowed (messages_in names) (message_type names message)
type_allowed names message good few oneofs =
    let types = map (field_type names message) message.fields in
    let stand = each_map (field_type names message) (MayStand (messages_in names) (real_below message message.oneofs)) message.fields (each (Good names message) _ (may_stand names message) message.fields good) in
    let sorted = sorted_from (messages_in names) (real_below message message.oneofs) types [] stand tt in
    let as_long = mapped_length (field_type names message) message.fields in
    let entries = mapped_length (λ (e : ℕ × FieldType). e.1) (by_number types) in
    let most = sorted.1 in
    record {
      size = omega (arith, few, as_long, entries, most);
      numbers = ascend (messages_in names) (real_below message message.oneofs) 1 (by_number types) sorted.0;
      oneofs = oneofs;
      fields = allowed (messages_in names) (real_below message message.oneofs) 1 (by_number types) sorted.0;
    }

-- what is known of each message
record Passes (names : List NameDecl) (message : MessageDecl) : Type 0 where
  fields : AllByRecursion (Good names message) message.fields
  few : length message.fields ≤ most_fields

of_messages : (names : List NameDecl) (messages : List MessageDecl) (more : List MessageType) → AllByRecursion (Passes names) messages
    → AllByRecursion (λ (type : MessageType). type.oneofs ≤ most_oneofs) (map (message_type names) messages ++ more)
    → (AllByRecursion (λ (type : MessageType). type.oneofs ≤ most_oneofs) more → TypesAllowed (messages_in names) more)
    → TypesAllowed (messages_in names) (map (message_type names) messages ++ more)
of_messages names [] more pass few rest = rest few
of_messages names (message ∷ messages) more pass few rest = (type_allowed names message pass.0.fields pass.0.few few.0, of_messages names messages more pass.1 few.1 rest)

of_files : (names : List NameDecl) (files : List FileDecl) → AllByRecursion (λ (file : FileDecl). AllByRecursion (Passes names) file.messages) files
    → AllByRecursion (λ (type : MessageType). type.oneofs ≤ most_oneofs) (flat_map (λ (file : FileDecl). map (message_type names) file.messages) files)
    → TypesAllowed (messages_in names) (flat_map (λ (file : FileDecl). map (message_type names) file.messages) files)
of_files names [] pass few = tt
of_files names (file ∷ files) pass few =
    of_messages names file.messages (flat_map (λ (file : FileDecl). map (message_type names) file.messages) files) pass.0 few (of_files names files pass.1)

-- THE SCHEMA

-- each field of a message passes, so each is good
all_good : (names : List NameDecl) (message : MessageDecl)
    → AllByRecursion (λ (field : FieldDecl). has_bad_number field ≡ false) message.fields
    → AllByRecursion (λ (field : FieldDecl). is_unknown names field ≡ false) message.fields
    → AllByRecursion (λ (field : FieldDecl). is_badly_placed message field ≡ false) message.fields
    → AllByRecursion (Good names message) message.fields
all_good names message numbers known well = go message.fields numbers known well (λ oneof. each_in (beside_in oneof) (length (filter (beside_in oneof) message.fields)) message.fields (omega arith))
  where
    go : (fields : List FieldDecl) → AllByRecursion (λ (field : FieldDecl). has_bad_number field ≡ false) fields
        → AllByRecursion (λ (field : FieldDecl). is_unknown names field ≡ false) fields
        → AllByRecursion (λ (field : FieldDecl). is_badly_placed message field ≡ false) fields
        → ((oneof : ℕ) → AllByRecursion (λ (field : FieldDecl). beside_in oneof field ≡ true → 1 ≤ length (filter (beside_in oneof) message.fields)) fields)
        → AllByRecursion (Good names message) fields
    go [] n k w among = tt
    go (field ∷ fields) n k w among =
        (record { number = n.0; known = k.0; place = record { all = well; own = w.0; among = λ oneof. (among oneof).0 } }, go fields n.1 k.1 w.1 (λ oneof. (among oneof).1))

all_none : (s : Option ℕ) (d n r l u b t m : Option (List ℕ)) → chain s d n r l u b t m ≡ None → (n ≡ None) × (u ≡ None) × (b ≡ None) × (m ≡ None)
all_none (Some x) d n r l u b t m e = absurd (none-some (Syntax x) (sym e))
all_none None (Some x) n r l u b t m e = absurd (none-some (DuplicateName x) (sym e))
all_none None None (Some x) r l u b t m e = absurd (none-some (BadNumber x) (sym e))
all_none None None None (Some x) l u b t m e = absurd (none-some (DuplicateNumber x) (sym e))
all_none None None None None (Some x) u b t m e = absurd (none-some (RelativeName x) (sym e))
all_none None None None None None (Some x) b t m e = absurd (none-some (UnknownType x) (sym e))
all_none None None None None None None (Some x) t m e = absurd (none-some (BadOneof x) (sym e))
all_none None None None None None None None (Some x) m e = absurd (none-some (UnsupportedType x) (sym e))
all_none None None None None None None None None (Some x) e = absurd (none-some (TooMany x) (sym e))
all_none None None None None None None None None None e = (refl, refl, refl, refl)

few_parts : (b : Bool) (o : Option (List ℕ)) → cond b (Some []) o ≡ None → (b ≡ false) × (o ≡ None)
few_parts true o e = absurd (none-some [] (sym e))
few_parts false o e = (refl, e)

few_fields : (files : List FileDecl)
    → first_some (λ (file : FileDecl). option_map (λ (message : MessageDecl). message.name) (first_that (λ (message : MessageDecl). ltb most_fields (length message.fields)) file.messages)) files ≡ None
    → AllByRecursion (λ (file : FileDecl). AllByRecursion (λ (message : MessageDecl). length message.fields ≤ most_fields) file.messages) files
few_fields files e =
    each _ _
    (λ (file : FileDecl) of_file. each (λ (message : MessageDecl). ltb most_fields (length message.fields) ≡ false) (λ (message : MessageDecl). length message.fields ≤ most_fields)
    (λ message few. ltb-false most_fields (length message.fields) few)
    file.messages
    (none_that (λ (message : MessageDecl). ltb most_fields (length message.fields)) file.messages (unmapped (λ (message : MessageDecl). message.name) (first_that (λ (message : MessageDecl). ltb most_fields (length message.fields)) file.messages) of_file)))
    files
    (none_some (λ (file : FileDecl). option_map (λ (message : MessageDecl). message.name) (first_that (λ (message : MessageDecl). ltb most_fields (length message.fields)) file.messages)) files e)

all_pass : (names : List NameDecl) (files : List FileDecl)
    → AllFields (λ message field. has_bad_number field ≡ false) files
    → AllFields (λ message field. is_unknown names field ≡ false) files
    → AllFields (λ message field. is_badly_placed message field ≡ false) files
    → AllByRecursion (λ (file : FileDecl). AllByRecursion (λ (message : MessageDecl). length message.fields ≤ most_fields) file.messages) files
    → AllByRecursion (λ (file : FileDecl). AllByRecursion (Passes names) file.messages) files
all_pass names [] n k w few = tt
all_pass names (file ∷ files) n k w few = (messages file.messages n.0 k.0 w.0 few.0, all_pass names files n.1 k.1 w.1 few.1)
  where
    messages : (list : List MessageDecl)
        → AllByRecursion (λ (message : MessageDecl). AllByRecursion (λ (field : FieldDecl). has_bad_number field ≡ false) message.fields) list
        → AllByRecursion (λ (message : MessageDecl). AllByRecursion (λ (field : FieldDecl). is_unknown names field ≡ false) message.fields) list
        → AllByRecursion (λ (message : MessageDecl). AllByRecursion (λ (field : FieldDecl). is_badly_placed message field ≡ false) message.fields) list
        → AllByRecursion (λ (message : MessageDecl). length message.fields ≤ most_fields) list
        → AllByRecursion (Passes names) list
    messages [] n k w few = tt
    messages (message ∷ list) n k w few = (record { fields = all_good names message n.0 k.0 w.0; few = few.0 }, messages list n.1 k.1 w.1 few.1)

pub linked_is_lawful : (files : List FileDecl) → refusal files ≡ None
    → AllByRecursion (λ (type : MessageType). type.oneofs ≤ most_oneofs) (schema_of files).types → Lawful (schema_of files)
linked_is_lawful files none few =
    let names = names_of files in
    let parts = all_none (syntax files) (duplicate_name files) (field_that has_bad_number files) (first_field (λ message. first_repeated [] message.fields) files) (field_that is_relative files) (field_that (is_unknown names) files) (first_field (λ message. first_that (is_badly_placed message) message.fields) files) (field_that is_unsupported files) (too_many files) (sym (refusal_is files) ∙ none) in
    let sizes = few_parts (ltb most_types (length (all_messages files))) (first_some (λ (file : FileDecl). option_map (λ (message : MessageDecl). message.name) (first_that (λ (message : MessageDecl). ltb most_fields (length message.fields)) file.messages)) files) parts.3 in
    let numbers = fields_pass (λ message field. has_bad_number field) field_name files parts.0 in
    let known = fields_pass (λ message field. is_unknown names field) field_name files parts.1 in
    let well = fields_pass is_badly_placed field_name files parts.2 in
    let passes = all_pass names files numbers known well (few_fields files sizes.1) in
    let many = ltb-false most_types (length (all_messages files)) sizes.0 in
    let count = all_count (message_type names) files in
    record {
      size = omega (arith, many, count);
      types = subst (λ n. TypesAllowed n (schema_of files).types) (types_count (message_type names) files) (of_files names files passes few);
    }
