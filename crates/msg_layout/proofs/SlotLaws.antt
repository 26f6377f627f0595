-- Sums of the slots of fields, by tests of their sizes; and of their bits.
use Rattle.std.proofs.Common.{◌≡◌, ◌≢◌, ℕ, suc, ◌+◌, ◌<◌, ◌≤◌, Bool, true, false, cond, ◌*◌, List, [], ◌∷◌, ◌++◌, length, take, get_or, ◌∙◌, eqb, ltb, ap, arith}
use Rattle.std.proofs.lemmas.List.{take_more, length-take}
use Rattle.std.proofs.lemmas.Bool.Decides.{nat_tests}
use Rattle.pb_schema.specs.declared.kind.Kind.{Kind}
use Rattle.pb_schema.specs.declared.kind.Kind.TheVariants as kinds
use Rattle.pb_schema.specs.declared.kind.Card.{Card}
use Rattle.pb_schema.specs.declared.kind.Card.TheVariants as cards
use Rattle.pb_schema.specs.declared.kind.FieldType.{FieldType}
use Rattle.pb_schema.specs.Cards.{is_repeated}
use Rattle.pb_schema.specs.Kinds.{value_type_of, slot_of}
use Rattle.msg_layout.specs.Slots.{array_slot, slot_bytes, bytes_if, bytes_where, has_bit, bit_count}

-- THE SIZES OF SLOTS

single_slot : (P : ℕ → Type 0) → P 24 → P 16 → P 8 → P 4 → P 1 → (kind : Kind) → P (slot_of (value_type_of kind))
single_slot P a b c d e kinds.Double = c
single_slot P a b c d e kinds.Float = d
single_slot P a b c d e kinds.Int64 = c
single_slot P a b c d e kinds.UInt64 = c
single_slot P a b c d e kinds.Int32 = d
single_slot P a b c d e kinds.Fixed64 = c
single_slot P a b c d e kinds.Fixed32 = d
single_slot P a b c d e kinds.Bool = e
single_slot P a b c d e kinds.Text = a
single_slot P a b c d e (kinds.Message type_no) = b
single_slot P a b c d e kinds.Bytes = a
single_slot P a b c d e kinds.UInt32 = d
single_slot P a b c d e kinds.Enumeration = d
single_slot P a b c d e kinds.SFixed32 = d
single_slot P a b c d e kinds.SFixed64 = c
single_slot P a b c d e kinds.SInt32 = d
single_slot P a b c d e kinds.SInt64 = c

-- a slot has one of five sizes
pub each_size : (P : ℕ → Type 0) → P 24 → P 16 → P 8 → P 4 → P 1 → (field : FieldType) → P (slot_bytes field)
each_size P a b c d e field = pick field.kind field.card
  where
    pick : (kind : Kind) (card : Card) → P (cond (is_repeated card) array_slot (slot_of (value_type_of kind)))
    pick kind (cards.Repeated packed) = a
    pick kind cards.Implicit = single_slot P a b c d e kind
    pick kind cards.Explicit = single_slot P a b c d e kind
    pick kind (cards.Member oneof) = single_slot P a b c d e kind

pub some_bytes : (field : FieldType) → 0 < slot_bytes field
some_bytes field = each_size (λ n. 0 < n) (omega arith) (omega arith) (omega arith) (omega arith) (omega arith) field

pub few_bytes : (field : FieldType) → slot_bytes field ≤ 24
few_bytes field = each_size (λ n. n ≤ 24) (omega arith) (omega arith) (omega arith) (omega arith) (omega arith) field

-- SUMS

pub where_more : (test : ℕ → Bool) (fields : List FieldType) (field : FieldType) → bytes_where test (fields ++ field ∷ []) ≡ bytes_where test fields + bytes_if test field
where_more test [] field = omega arith
where_more test (f ∷ fields) field = omega (arith, where_more test fields field)

pub bits_more : (fields : List FieldType) (field : FieldType) → bit_count (fields ++ field ∷ []) ≡ bit_count fields + cond (has_bit field) 1 0
bits_more [] field = omega arith
bits_more (f ∷ fields) field = omega (arith, bits_more fields field)

-- a size counts once among the sizes that are above a smaller one
size_once : (low high size : ℕ) → low < high → cond (ltb high size) size 0 + cond (eqb size high) size 0 ≤ cond (ltb low size) size 0
size_once low high size h = grind (arith, nat_tests)

pub sizes_once : (low high : ℕ) → low < high → (fields : List FieldType)
    → bytes_where (λ size. ltb high size) fields + bytes_where (λ size. eqb size high) fields ≤ bytes_where (λ size. ltb low size) fields
sizes_once low high h [] = omega arith
sizes_once low high h (field ∷ fields) = omega (arith, size_once low high (slot_bytes field) h, sizes_once low high h fields)

pub own_size : (field : FieldType) → bytes_if (λ size. eqb size (slot_bytes field)) field ≡ slot_bytes field
own_size field = go (slot_bytes field)
  where
    go : (n : ℕ) → cond (eqb n n) n 0 ≡ n
    go n = grind (arith, nat_tests)

pub other_size : (field : FieldType) (size : ℕ) → slot_bytes field ≢ size → bytes_if (λ other. eqb other size) field ≡ 0
other_size field size h = go (slot_bytes field) h
  where
    go : (n : ℕ) → n ≢ size → cond (eqb n size) n 0 ≡ 0
    go n ne = grind (arith, nat_tests)

-- AT MOST

pub few_bits : (fields : List FieldType) → bit_count fields ≤ length fields
few_bits [] = omega arith
few_bits (field ∷ fields) = go (has_bit field) (few_bits fields)
  where
    go : (b : Bool) → bit_count fields ≤ length fields → cond b 1 0 + bit_count fields ≤ suc (length fields)
    go true h = omega arith
    go false h = omega arith

pub few_slot_bytes : (test : ℕ → Bool) (fields : List FieldType) → bytes_where test fields ≤ 24 * length fields
few_slot_bytes test [] = omega arith
few_slot_bytes test (field ∷ fields) = go (test (slot_bytes field)) (few_slot_bytes test fields)
  where
    go : (b : Bool) → bytes_where test fields ≤ 24 * length fields → cond b (slot_bytes field) 0 + bytes_where test fields ≤ 24 * suc (length fields)
    go true h = omega (arith, few_bytes field)
    go false h = omega arith

-- ONE FIELD AFTER THE OTHER

pub one_more : {X : Type 0} (xs : List X) (i : ℕ) (d : X) → i < length xs → take (i + 1) xs ≡ take i xs ++ get_or xs i d ∷ []
one_more xs i d h = take_more xs i d h

-- a bit that is counted, or none
pub counted : (r : Bool) (before after : ℕ) → r ≡ true → after ≡ before + 1 → after ≡ before + cond r 1 0
counted true before after e h = h
counted false before after e h = cc

pub not_counted : (r : Bool) (before after : ℕ) → r ≡ false → after ≡ before → after ≡ before + cond r 1 0
not_counted true before after e h = cc
not_counted false before after e h = omega arith

pub bits_next : (fields : List FieldType) (i : ℕ) (d : FieldType) (r : Bool) (before after : ℕ) → i < length fields → before ≡ bit_count (take i fields) → r ≡ has_bit (get_or fields i d) → after ≡ before + cond r 1 0
    → after ≡ bit_count (take (i + 1) fields)
bits_next fields i d r before after h b e a =
    let more = ap bit_count (take_more fields i d h) ∙ bits_more (take i fields) (get_or fields i d) in
    let same : before + cond r 1 0 ≡ before + cond (has_bit (get_or fields i d)) 1 0 = ap (λ x. before + cond x 1 0) e in
    omega (arith, more, same)

pub bytes_next : (least : ℕ) (fields : List FieldType) (i : ℕ) (d : FieldType) (own before after : ℕ) → i < length fields → before ≡ bytes_where (λ other. ltb least other) (take i fields) → own ≡ slot_bytes (get_or fields i d)
    → after ≡ before + cond (ltb least own) own 0 → after ≡ bytes_where (λ other. ltb least other) (take (i + 1) fields)
bytes_next least fields i d own before after h b e a =
    let more = ap (bytes_where (λ other. ltb least other)) (take_more fields i d h) ∙ where_more (λ other. ltb least other) (take i fields) (get_or fields i d) in
    let same : before + cond (ltb least own) own 0 ≡ before + cond (ltb least (slot_bytes (get_or fields i d))) (slot_bytes (get_or fields i d)) 0 = ap (λ n. before + cond (ltb least n) n 0) e in
    omega (arith, more, same)

pub bytes_counted : (least own before after : ℕ) → least < own → after ≡ before + own → after ≡ before + cond (ltb least own) own 0
bytes_counted least own before after h e = grind (arith, nat_tests)

pub bytes_not_counted : (least own before after : ℕ) → own ≤ least → after ≡ before → after ≡ before + cond (ltb least own) own 0
bytes_not_counted least own before after h e = grind (arith, nat_tests)

pub few_bits_before : (fields : List FieldType) (i : ℕ) → length fields ≤ 512 → bit_count (take i fields) ≤ 512
few_bits_before fields i h = omega (arith, few_bits (take i fields), length-take i fields)

pub few_bytes_before : (test : ℕ → Bool) (fields : List FieldType) (i : ℕ) → length fields ≤ 512 → bytes_where test (take i fields) ≤ 12288
few_bytes_before test fields i h = omega (arith, few_slot_bytes test (take i fields), length-take i fields)
