-- Fields whose numbers lie far apart, up to the greatest.
use Rattle.std.proofs.Common.{◌≡◌, ℕ, zero, suc, ◌+◌, ◌-◌, ◌*◌, ◌<◌, ◌≤◌, ◌^◌, List, [], ◌∷◌, ◌++◌, length, refl, arith}
use Rattle.std.proofs.lemmas.List.{length_push}
use Rattle.std.specs.Prelude.{⊤}
use Rattle.pb_schema.specs.declared.kind.FieldType.{FieldType}
use Rattle.pb_schema.specs.declared.kind.Kind.TheVariants as kinds
use Rattle.pb_schema.specs.declared.kind.Card.TheVariants as cards
use Rattle.pb_schema.specs.Lawful.{NumbersAscend, FieldsAllowed}

abbrev pub far_field : ℕ → FieldType
far_field number = record { number = number; kind = kinds.UInt32; card = cards.Implicit }

-- the first n of them
abbrev pub far_fields : ℕ → List FieldType
far_fields zero = []
far_fields (suc n) = far_fields n ++ far_field (n * 2 ^ 20 + (2 ^ 20 - 1)) ∷ []

-- all numbers are below a bound
abbrev AllBelow : ℕ → List FieldType → Type 0
AllBelow bound [] = ⊤
AllBelow bound (field ∷ fields) = (field.number < bound) × AllBelow bound fields

below_more : (low high : ℕ) (fields : List FieldType) → low ≤ high → AllBelow low fields → AllBelow high fields
below_more low high [] le h = tt
below_more low high (field ∷ fields) le h = (omega (arith, le, h.0), below_more low high fields le h.1)

below_push : (bound number : ℕ) (fields : List FieldType) → number < bound → AllBelow bound fields → AllBelow bound (fields ++ far_field number ∷ [])
below_push bound number [] l h = (l, tt)
below_push bound number (field ∷ fields) l h = (h.0, below_push bound number fields l h.1)

ascend_push : (least number : ℕ) (fields : List FieldType) → least ≤ number → number ≤ 2 ^ 29 - 1 → AllBelow number fields → NumbersAscend least fields → NumbersAscend least (fields ++ far_field number ∷ [])
ascend_push least number [] le most below h = (le, most, tt)
ascend_push least number (field ∷ fields) le most below h = (h.0, h.1, ascend_push (field.number + 1) number fields (omega (arith, below.0)) most below.1 h.2)

allowed_push : (number : ℕ) (fields : List FieldType) → FieldsAllowed 1 0 fields → FieldsAllowed 1 0 (fields ++ far_field number ∷ [])
allowed_push number [] h = (tt, tt, tt)
allowed_push number (field ∷ fields) h = (h.0, h.1, allowed_push number fields h.2)

-- they are those of a type that a lawful schema may have
pub record AreFar (n : ℕ) : Type 0 where
  pub numbers : NumbersAscend 1 (far_fields n)
  pub below : AllBelow (n * 2 ^ 20) (far_fields n)
  pub allowed : FieldsAllowed 1 0 (far_fields n)
  pub count : length (far_fields n) ≡ n

pub are_far : (n : ℕ) → n ≤ 512 → AreFar n
are_far zero few = record { numbers = tt; below = tt; allowed = tt; count = refl }
are_far (suc n) few =
    let before = are_far n (omega (arith, few)) in
    record {
      numbers = ascend_push 1 (n * 2 ^ 20 + (2 ^ 20 - 1)) (far_fields n) (omega arith) (omega (arith, few)) (below_more (n * 2 ^ 20) (n * 2 ^ 20 + (2 ^ 20 - 1)) (far_fields n) (omega arith) before.below) before.numbers;
      below = below_push (suc n * 2 ^ 20) (n * 2 ^ 20 + (2 ^ 20 - 1)) (far_fields n) (omega arith) (below_more (n * 2 ^ 20) (suc n * 2 ^ 20) (far_fields n) (omega arith) before.below);
      allowed = allowed_push (n * 2 ^ 20 + (2 ^ 20 - 1)) (far_fields n) before.allowed;
      count = omega (arith, length_push (far_fields n) (far_field (n * 2 ^ 20 + (2 ^ 20 - 1))), before.count);
    }
