-- Which type has a name, by its place among the types.
use Rattle.std.proofs.Common.{◌≡◌, ◌≢◌, ℕ, ◌^◌, ◌<◌, ◌≤◌, List, length, get_or, refl, Option, Some, None, Result, Ok, Err, inl, inr, subst, sym, ap, ◌∙◌, arith}
use Rattle.std.proofs.lemmas.Bool.{cases_lt}
use Rattle.std.specs.Option.{option_map, IfSome}
use Rattle.std.specs.List.{slice_get}
use Rattle.std.specs.Result.{result_ok, OkIff}
use Rattle.std.proofs.lemmas.Option.{slice_get_read, slice_get_cases}
use Rattle.pb_schema.specs.declared.schema.MessageType.{MessageType}
use Rattle.pb_schema.specs.declared.schema.Schema.{Schema}
use Rattle.pb_schema.specs.Names.{name_of, HasName, NoneBelow}

-- the name of the type at a place
name_there : (schema : Schema) (types : List MessageType) → types ≡ schema.types → (i : ℕ) (type : MessageType) → i < length types → type ≡ get_or types i type → name_of schema i ≡ Some type.name
name_there schema types s i type h e =
    ap (λ (all : List MessageType). option_map (λ (t : MessageType). t.name) (slice_get all i)) (sym s)
    ∙ ap (option_map (λ (t : MessageType). t.name)) (slice_get_read types _ i type refl h e)

pub named : (schema : Schema) (types : List MessageType) → types ≡ schema.types → (name : List ℕ) (i : ℕ) (type : MessageType) → i < length types → type ≡ get_or types i type → type.name ≡ name → HasName schema name i
named schema types s name i type h e n = name_there schema types s i type h e ∙ ap Some n

pub not_named : (schema : Schema) (types : List MessageType) → types ≡ schema.types → (name : List ℕ) (i : ℕ) (type : MessageType) → i < length types → type ≡ get_or types i type → type.name ≢ name → name_of schema i ≢ Some name
not_named schema types s name i type h e n same = let there = name_there schema types s i type h e in n (cc)

none_past : (schema : Schema) (types : List MessageType) → types ≡ schema.types → (name : List ℕ) (i : ℕ) → length types ≤ i → name_of schema i ≢ Some name
none_past schema types s name i h same =
    elim (slice_get_cases schema.types i).1 [
      | inl found ↦ absurd (omega (arith, found.1, ap length s))
      | inr none ↦ let gone = ap (option_map (λ (t : MessageType). t.name)) none.1 in cc
    ]

-- a place that fits 32 bits, as an answer
pub if_it_fits : {E : Type 0} (P : ℕ → Type 0) (i : ℕ) (r : Result ℕ E) (o : Option ℕ) → o ≡ result_ok r → OkIff r (i < 2 ^ 32) i → P i → IfSome o P
if_it_fits P i (Ok n) o e h p = subst (λ (x : Option ℕ). IfSome x P) (sym e) (subst P (sym h.1) p)
if_it_fits P i (Err x) o e h p = subst (λ (x : Option ℕ). IfSome x P) (sym e) tt

-- where the first type with the name stands, it is answered or is past all numbers
pub none_or_past : {E : Type 0} (schema : Schema) (name : List ℕ) (i : ℕ) (r : Result ℕ E) (o : Option ℕ) → o ≡ result_ok r → OkIff r (i < 2 ^ 32) i → HasName schema name i → NoneBelow schema name i → (o ≡ None → NoneBelow schema name (2 ^ 32)) × (NoneBelow schema name (2 ^ 32) → o ≡ None)
none_or_past schema name i (Ok n) o e h here before = ((λ no. absurd (let same : Some n ≡ None = sym e ∙ no in cc)), (λ none. absurd (none i h.0 here)))
none_or_past schema name i (Err x) o e h here before =
    ((λ _ k below. before k (let past : i < 2 ^ 32 → ⊥ = h in omega (arith, past, below))), (λ _. e))

-- none among the types, and none past them
pub none_at_all : (schema : Schema) (types : List MessageType) → types ≡ schema.types → (name : List ℕ) (i : ℕ) → length types ≤ i → NoneBelow schema name i → (k : ℕ) → name_of schema k ≢ Some name
none_at_all schema types s name i h before k =
    elim (cases_lt k i) [
      | inl below ↦ before k below
      | inr past ↦ none_past schema types s name k (omega (arith, h, past))
    ]
