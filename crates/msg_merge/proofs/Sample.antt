-- The node that the tests count, step by step.
use Rattle.std.proofs.Common.{◌≡◌, ◌+◌, ◌^◌, ◌≤◌, ◌<◌, ℕ, List, [], ◌∷◌, length, sym, subst, arith}
use Rattle.pb_schema.specs.declared.schema.Schema.{Schema}
use Rattle.pb_schema.specs.Builtin.{builtin}
use Rattle.pb_schema.specs.Depth.{depth_of}
use Rattle.pb_schema.specs.Tree.{Shape}
use Rattle.pb_schema.specs.Units.{tree_units}
use Rattle.pb_write.proofs.Sample.{with_nothing, with_unknown, with_all}
use Rattle.msg_merge.specs.Extents.{shape_units, pieces_bytes}
use Rattle.msg_merge.proofs.Counts.{units_joined}

-- no more units than these, and a level at most
abbrev Small : Shape → ℕ → Type 0
Small t units = (tree_units pieces_bytes t ≤ units) × (depth_of t ≤ 1)

few : (t : Shape) (units : ℕ) → Small t units → units < 2 ^ 32 → shape_units t < 2 ^ 63
few t units small bound = omega (arith, small.0, bound, units_joined t)

flat : (t : Shape) (units : ℕ) → Small t units → depth_of t < 2 ^ 32
flat t units small = omega (arith, small.1)

nothing : (schema : Schema) → schema ≡ builtin → Small (with_nothing schema) 1
nothing schema is = subst (λ s. Small (with_nothing s) 1) (sym is) (omega arith, omega arith)

unknown : (schema : Schema) → schema ≡ builtin → Small (with_unknown schema) 4
unknown schema is = subst (λ s. Small (with_unknown s) 4) (sym is) (omega arith, omega arith)

all_builtin : (blob : List ℕ) → Small (with_all builtin 1 1 blob) (length blob + 20)
all_builtin [] = (omega arith, omega arith)
all_builtin (b ∷ s) = (omega arith, omega arith)

all : (schema : Schema) (n k : ℕ) (blob : List ℕ) → schema ≡ builtin → n ≡ 1 → k ≡ 1 → Small (with_all schema n k blob) (length blob + 20)
all schema n k blob is node child =
    subst (λ s. Small (with_all s n k blob) (length blob + 20)) (sym is)
    (subst (λ m. Small (with_all builtin m k blob) (length blob + 20)) (sym node)
    (subst (λ m. Small (with_all builtin 1 m blob) (length blob + 20)) (sym child) (all_builtin blob)))

pub few_nothing : (schema : Schema) (type_no : ℕ) → schema ≡ builtin → shape_units (with_nothing schema) < 2 ^ 63
few_nothing schema type_no is = few (with_nothing schema) 1 (nothing schema is) (omega arith)

pub few_unknown : (schema : Schema) (type_no : ℕ) → schema ≡ builtin → shape_units (with_unknown schema) < 2 ^ 63
few_unknown schema type_no is = few (with_unknown schema) 4 (unknown schema is) (omega arith)

pub few_all : (schema : Schema) (n k : ℕ) (blob : List ℕ) → schema ≡ builtin → n ≡ 1 → k ≡ 1 → length blob < 2 ^ 31 → shape_units (with_all schema n k blob) < 2 ^ 63
few_all schema n k blob is node child short = few (with_all schema n k blob) (length blob + 20) (all schema n k blob is node child) (omega (arith, short))

pub flat_nothing : (schema : Schema) (type_no : ℕ) → schema ≡ builtin → depth_of (with_nothing schema) < 2 ^ 32
flat_nothing schema type_no is = flat (with_nothing schema) 1 (nothing schema is)

pub flat_unknown : (schema : Schema) (type_no : ℕ) → schema ≡ builtin → depth_of (with_unknown schema) < 2 ^ 32
flat_unknown schema type_no is = flat (with_unknown schema) 4 (unknown schema is)

pub flat_all : (schema : Schema) (n k : ℕ) (blob : List ℕ) → schema ≡ builtin → n ≡ 1 → k ≡ 1 → length blob < 2 ^ 31 → depth_of (with_all schema n k blob) < 2 ^ 32
flat_all schema n k blob is node child short = flat (with_all schema n k blob) (length blob + 20) (all schema n k blob is node child)
