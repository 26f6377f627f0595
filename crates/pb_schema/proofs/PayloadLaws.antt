-- Laws of lists of payloads: all have trees exactly where none is bad, and a bad one has that fault and none before it is bad.
use Rattle.std.proofs.Common.{◌≡◌, ℕ, zero, suc, ◌+◌, List, [], ◌∷◌, take, Option, None, Some, refl, sym, ap, ◌∙◌, subst, arith}
use Rattle.std.specs.Prelude.{◌↔◌, IsSome, All, option_and_then, slice_get}
use Rattle.std.specs.Option.{option_map}
use Rattle.std.proofs.lemmas.List.Elements.{All-nil, All-cons, All-head, All-tail}
use Rattle.std.proofs.lemmas.Bool.{false≢true}
use Rattle.std.proofs.lemmas.Option.{none-some, same_Some}
use Rattle.pb_schema.specs.declared.schema.Schema.{Schema}
use Rattle.pb_schema.specs.declared.wire_fault.WireFault.{WireFault}
use Rattle.pb_schema.specs.Fault.{fault_of}
use Rattle.pb_schema.specs.Tree.{Tree}
use Rattle.pb_schema.specs.TreeOf.{tree_of}
use Rattle.pb_schema.specs.Payloads.{trees_of, bad_payload_from, bad_payload}
use Rattle.pb_schema.proofs.FaultLaws.{no_fault_then, tree_there}

abbrev bad_or : Schema → ℕ → ℕ → List (List ℕ) → Option WireFault → Option (ℕ × WireFault)
bad_or schema type_no place payloads o = elim o [ Some fault ↦ Some (place, fault) | None ↦ bad_payload_from schema type_no (suc place) payloads ]

-- WITHOUT A FAULT

abbrev pub NoFault : Schema → ℕ → List ℕ → Type 0
NoFault schema type_no s = fault_of schema type_no 0 s ≡ None

none_bad : (schema : Schema) (type_no place : ℕ) (payloads : List (List ℕ)) → bad_payload_from schema type_no place payloads ≡ None → All (NoFault schema type_no) payloads
none_bad schema type_no place [] e = All-nil (NoFault schema type_no)
none_bad schema type_no place (s ∷ more) e = pick (fault_of schema type_no 0 s) refl (λ rest. none_bad schema type_no (suc place) more rest) e
  where
    pick : (o : Option WireFault) → fault_of schema type_no 0 s ≡ o → (bad_payload_from schema type_no (suc place) more ≡ None → All (NoFault schema type_no) more) → bad_or schema type_no place more o ≡ None → All (NoFault schema type_no) (s ∷ more)
    pick None is next rest = All-cons (NoFault schema type_no) s more is (next rest)
    pick (Some fault) is next rest = absurd (none-some (place, fault) (sym rest))

all_sound : (schema : Schema) (type_no place : ℕ) (payloads : List (List ℕ)) → All (NoFault schema type_no) payloads → bad_payload_from schema type_no place payloads ≡ None
all_sound schema type_no place [] p = refl
all_sound schema type_no place (s ∷ more) p =
    ap (bad_or schema type_no place more) (All-head (NoFault schema type_no) s more p) ∙ all_sound schema type_no (suc place) more (All-tail (NoFault schema type_no) s more p)

pub none_is_bad : (schema : Schema) (type_no : ℕ) (payloads : List (List ℕ)) → (bad_payload schema type_no payloads ≡ None) ↔ All (NoFault schema type_no) payloads
none_is_bad schema type_no payloads = (none_bad schema type_no 0 payloads, all_sound schema type_no 0 payloads)

-- THEIR TREES

abbrev tree_before : Option Tree → Option (List Tree) → Option (List Tree)
tree_before first rest = option_and_then (λ tree. option_map (λ trees. tree ∷ trees) rest) first

both_some : (first : Option Tree) (rest : Option (List Tree)) → IsSome first → IsSome rest → IsSome (tree_before first rest)
both_some None rest p q = p
both_some (Some tree) None p q = q
both_some (Some tree) (Some trees) p q = refl

some_both : (first : Option Tree) (rest : Option (List Tree)) → IsSome (tree_before first rest) → IsSome first × IsSome rest
some_both None rest p = absurd (false≢true p)
some_both (Some tree) None p = absurd (false≢true p)
some_both (Some tree) (Some trees) p = (refl, refl)

trees_there : (schema : Schema) (type_no : ℕ) (payloads : List (List ℕ)) → All (NoFault schema type_no) payloads → IsSome (trees_of schema type_no payloads)
trees_there schema type_no [] p = refl
trees_there schema type_no (s ∷ more) p =
    both_some (tree_of schema type_no s) (trees_of schema type_no more) (tree_there schema type_no s (All-head (NoFault schema type_no) s more p)) (trees_there schema type_no more (All-tail (NoFault schema type_no) s more p))

trees_then : (schema : Schema) (type_no : ℕ) (payloads : List (List ℕ)) → IsSome (trees_of schema type_no payloads) → All (NoFault schema type_no) payloads
trees_then schema type_no [] p = All-nil (NoFault schema type_no)
trees_then schema type_no (s ∷ more) p =
    let both = some_both (tree_of schema type_no s) (trees_of schema type_no more) p in
    All-cons (NoFault schema type_no) s more (no_fault_then schema type_no s both.0) (trees_then schema type_no more both.1)

pub all_have_trees : (schema : Schema) (type_no : ℕ) (payloads : List (List ℕ)) → IsSome (trees_of schema type_no payloads) ↔ All (NoFault schema type_no) payloads
all_have_trees schema type_no payloads = (trees_then schema type_no payloads, trees_there schema type_no payloads)

-- A BAD ONE

-- the payload at this place has this fault, and none before it has one
abbrev pub IsFirstBad : Schema → ℕ → List (List ℕ) → ℕ → WireFault → Type 0
IsFirstBad schema type_no payloads place fault = (payload : List ℕ) × (slice_get payloads place ≡ Some payload) × (fault_of schema type_no 0 payload ≡ Some fault) × All (NoFault schema type_no) (take place payloads)

first_bad : (schema : Schema) (type_no from place : ℕ) (fault : WireFault) (payloads : List (List ℕ)) → bad_payload_from schema type_no from payloads ≡ Some (place, fault) → (index : ℕ) × (from + index ≡ place) × IsFirstBad schema type_no payloads index fault
first_bad schema type_no from place fault [] e = absurd (none-some (place, fault) e)
first_bad schema type_no from place fault (s ∷ more) e = pick (fault_of schema type_no 0 s) refl (λ rest. first_bad schema type_no (suc from) place fault more rest) e
  where
    behind : fault_of schema type_no 0 s ≡ None → (index : ℕ) × (suc from + index ≡ place) × IsFirstBad schema type_no more index fault → (index : ℕ) × (from + index ≡ place) × IsFirstBad schema type_no (s ∷ more) index fault
    behind is p =
        let place_is : from + suc p.0 ≡ place = omega (arith, p.1) in
        (suc p.0, place_is, (p.2.0, p.2.1, p.2.2, All-cons (NoFault schema type_no) s (take p.0 more) is p.2.3))

    pick : (o : Option WireFault) → fault_of schema type_no 0 s ≡ o
        → (bad_payload_from schema type_no (suc from) more ≡ Some (place, fault) → (index : ℕ) × (suc from + index ≡ place) × IsFirstBad schema type_no more index fault)
        → bad_or schema type_no from more o ≡ Some (place, fault) → (index : ℕ) × (from + index ≡ place) × IsFirstBad schema type_no (s ∷ more) index fault
    pick None is next rest = behind is (next rest)
    pick (Some other) is next rest =
        let same = same_Some (from, other) (place, fault) rest in
        (0, omega (arith, ap (λ (x : ℕ × WireFault). x.0) same), (s, refl, is ∙ ap Some (ap (λ (x : ℕ × WireFault). x.1) same), All-nil (NoFault schema type_no)))

pub bad_is_first : (schema : Schema) (type_no : ℕ) (payloads : List (List ℕ)) (place : ℕ) (fault : WireFault) → bad_payload schema type_no payloads ≡ Some (place, fault) → IsFirstBad schema type_no payloads place fault
bad_is_first schema type_no payloads place fault e =
    let found = first_bad schema type_no 0 place fault payloads e in
    let same : found.0 ≡ place = omega (arith, found.1) in
    subst (λ n. IsFirstBad schema type_no payloads n fault) same found.2

-- and such a payload is found
found_from : (schema : Schema) (type_no from place : ℕ) (fault : WireFault) (payloads : List (List ℕ)) → IsFirstBad schema type_no payloads place fault → bad_payload_from schema type_no from payloads ≡ Some (from + place, fault)
found_from schema type_no from place fault [] p = absurd (none-some p.0 p.1)
found_from schema type_no from zero fault (s ∷ more) p =
    let same : s ≡ p.0 = same_Some s p.0 p.1 in
    let here : from ≡ from + 0 = omega arith in
    ap (bad_or schema type_no from more) (ap (fault_of schema type_no 0) same ∙ p.2) ∙ ap (λ n. Some (n, fault)) here
found_from schema type_no from (suc place) fault (s ∷ more) p =
    let next : suc from + place ≡ from + suc place = omega arith in
    ap (bad_or schema type_no from more) (All-head (NoFault schema type_no) s (take place more) p.3)
    ∙ (found_from schema type_no (suc from) place fault more (p.0, p.1, p.2, All-tail (NoFault schema type_no) s (take place more) p.3)
    ∙ ap (λ n. Some (n, fault)) next)

pub first_is_bad : (schema : Schema) (type_no : ℕ) (payloads : List (List ℕ)) (place : ℕ) (fault : WireFault) → (bad_payload schema type_no payloads ≡ Some (place, fault)) ↔ IsFirstBad schema type_no payloads place fault
first_is_bad schema type_no payloads place fault = (
  bad_is_first schema type_no payloads place fault,
  λ p. let here : 0 + place ≡ place = omega arith in found_from schema type_no 0 place fault payloads p ∙ ap (λ n. Some (n, fault)) here,
)
