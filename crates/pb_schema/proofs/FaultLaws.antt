-- Laws of faults: what a payload without one has.
use Rattle.std.proofs.Common.{◌≡◌, ℕ, zero, suc, ◌+◌, ◌-◌, List, [], ◌∷◌, take, drop, Bool, true, false, eqb, Option, None, Some, Result, Ok, Err, refl, sym, ap, ◌∙◌}
use Rattle.std.specs.Prelude.{IsSome}
use Rattle.std.proofs.lemmas.Bool.{eqb-true}
use Rattle.std.proofs.lemmas.Option.{none-some}
use Rattle.pb_schema.specs.declared.kind.FieldType.{FieldType}
use Rattle.pb_schema.specs.declared.schema.Schema.{Schema}
use Rattle.pb_schema.specs.declared.wire_fault.WireKind.TheVariants.{GroupEnd}
use Rattle.pb_schema.specs.declared.wire_fault.WireFault.{WireFault}
use Rattle.pb_schema.specs.Reads.{◌>>=◌, fault_read}
use Rattle.pb_schema.specs.Record.{record_of}
use Rattle.pb_schema.specs.Fits.{fields_of, no_types, contents_of}
use Rattle.pb_schema.specs.Form.{Form, form_at}
use Rattle.pb_schema.specs.Walk.{Inside, in_group, Stop, Deeper, read_contents, read_held, closed, ends, walk, walk_left, deeper_left}
use Rattle.pb_schema.specs.Fault.{fault_of, most_levels}
use Rattle.pb_schema.specs.Tree.{Tree}
use Rattle.pb_schema.specs.TreeOf.{tree_of, tree_left}
use Rattle.pb_schema.proofs.FormLaws.{not_ok, bind_ok}
use Rattle.pb_schema.proofs.WalkSteps.{after_ends, after_whole, if_end, if_start, held_group, walk_left_is}
use Rattle.pb_schema.proofs.FitsLaws.{group_untyped}

abbrev tree_unless : Schema → ℕ → List ℕ → Option WireFault → Option Tree
tree_unless schema type_no s o = elim o [ None ↦ Some (tree_left schema most_levels (fields_of schema type_no) s) | Some fault ↦ None ]

tree_then : (schema : Schema) (type_no : ℕ) (s : List ℕ) (o : Option WireFault) → IsSome (tree_unless schema type_no s o) → o ≡ None
tree_then schema type_no s None p = refl
tree_then schema type_no s (Some d) p = absurd (none_is p)
  where
    none_is : IsSome {T = Tree} None → ⊥
    none_is e = cc

pub no_fault_then : (schema : Schema) (type_no : ℕ) (s : List ℕ) → IsSome (tree_of schema type_no s) → fault_of schema type_no 0 s ≡ None
no_fault_then schema type_no s p = tree_then schema type_no s (fault_of schema type_no 0 s) p

tree_some : (schema : Schema) (type_no : ℕ) (s : List ℕ) (o : Option WireFault) → o ≡ None → IsSome (tree_unless schema type_no s o)
tree_some schema type_no s None e = refl
tree_some schema type_no s (Some d) e = absurd (none-some d (sym e))

pub tree_there : (schema : Schema) (type_no : ℕ) (s : List ℕ) → fault_of schema type_no 0 s ≡ None → IsSome (tree_of schema type_no s)
tree_there schema type_no s e = tree_some schema type_no s (fault_of schema type_no 0 s) e

-- WITHOUT A TYPE

bind_same : {A B : Type 0} (r : Result A WireFault) (f g : A → Result B WireFault) → ((x : A) → f x ≡ g x) → (r >>= f) ≡ (r >>= g)
bind_same (Ok x) f g h = h x
bind_same (Err d) f g h = refl

abbrev untyped : Option ℕ → Inside
untyped group = record { fields = []; group = group }

-- where nothing is read at a type, the types don't matter
abbrev SameHeld : Schema → ℕ → Type 0
SameHeld schema left = (at : ℕ) (s : List ℕ) (form : Form) → read_held schema (deeper_left schema left) [] at s form ≡ read_held no_types (deeper_left no_types left) [] at s form

walk_same : (schema : Schema) (left : ℕ) → SameHeld schema left → (group : Option ℕ) (skip at : ℕ) (s : List ℕ) → walk schema (deeper_left schema left) (untyped group) at skip s ≡ walk no_types (deeper_left no_types left) (untyped group) at skip s
walk_same schema left same group skip at [] = refl
walk_same schema left same group (suc skip) at (b ∷ s) = walk_same schema left same group skip (suc at) s
walk_same schema left same group zero at (b ∷ s) =
    bind_same (form_at at (b ∷ s)) (λ form. after_ends schema (deeper_left schema left) (untyped group) at b s form (ends group form)) (λ form. after_ends no_types (deeper_left no_types left) (untyped group) at b s form (ends group form))
    λ form. either (ends group form) (Ok (at, at + form.size)) _ _
    (ap (after_whole schema (deeper_left schema left) (untyped group) at s) (same at (b ∷ s) form)
    ∙ bind_same (read_held no_types (deeper_left no_types left) [] at (b ∷ s) form) _ _ (λ whole. walk_same schema left same group (whole.size - 1) (suc at) s))
  where
    either : {A : Type 0} (t : Bool) (x y z : A) → y ≡ z → ◌≡◌ {A = A} (elim t [ true ↦ x | false ↦ y ]) (elim t [ true ↦ x | false ↦ z ])
    either true x y z e = refl
    either false x y z e = e

start_same : (schema : Schema) (deeper other : Deeper) (at : ℕ) (s : List ℕ) (form : Form) (t : Bool) → deeper at (in_group [] form.number) (at + form.payload) (drop form.payload s) ≡ other at (in_group [] form.number) (at + form.payload) (drop form.payload s) → if_start schema deeper [] at s form t ≡ if_start no_types other [] at s form t
start_same schema deeper other at s form true e = ap (λ r. r >>= λ stop. Ok (closed form at stop)) e
start_same schema deeper other at s form false e = refl

left_same : (schema : Schema) (left tag at : ℕ) (group : Option ℕ) (s : List ℕ) → SameHeld schema left → walk_left schema left tag (untyped group) at s ≡ walk_left no_types left tag (untyped group) at s
left_same schema left tag at group s same =
    walk_left_is schema left tag (untyped group) at s ∙ (walk_same schema left same group 0 at s ∙ sym (walk_left_is no_types left tag (untyped group) at s))

pub same_held : (schema : Schema) (left : ℕ) → SameHeld schema left
same_held schema zero at s form = start_same schema (deeper_left schema 0) (deeper_left no_types 0) at s form (eqb form.wire 3) refl
same_held schema (suc left) at s form =
    start_same schema (deeper_left schema (suc left)) (deeper_left no_types (suc left)) at s form (eqb form.wire 3)
    (left_same schema left at (at + form.payload) (Some form.number) (drop form.payload s) (same_held schema left))

-- a group is read at no field, so at a type as without one
pub group_same : (schema : Schema) (deeper : Deeper) (fields : List FieldType) (at : ℕ) (s : List ℕ) (form : Form) → eqb form.wire 3 ≡ true → read_held schema deeper fields at s form ≡ read_held schema deeper [] at s form
group_same schema deeper fields at s form start =
    let three = eqb-true form.wire 3 start in
    held_group schema deeper fields at s form three
    ∙ (ap (λ inner. deeper at (in_group inner form.number) (at + form.payload) (drop form.payload s) >>= λ stop. Ok (closed form at stop)) (group_untyped schema fields (record_of form s) three)
    ∙ sym (held_group schema deeper [] at s form three))

-- a record that is read at a type is read without one
pub held_untyped : (schema : Schema) (left : ℕ) (fields : List FieldType) (at : ℕ) (s : List ℕ) (form whole : Form) (t : Bool) → eqb form.wire 3 ≡ t → read_held schema (deeper_left schema left) fields at s form ≡ Ok whole → read_held no_types (deeper_left no_types left) [] at s form ≡ Ok whole
held_untyped schema left fields at s form whole true start e =
    sym (same_held schema left at s form) ∙ (sym (group_same schema (deeper_left schema left) fields at s form start) ∙ e)
held_untyped schema left fields at s form whole false start e =
    ap (if_start no_types (deeper_left no_types left) [] at s form) start ∙ plain (eqb form.wire 4) (sym (ap (if_start schema (deeper_left schema left) fields at s form) start) ∙ e)
  where
    plain : (t : Bool) → if_end schema (deeper_left schema left) fields at s form t ≡ Ok whole → if_end no_types (deeper_left no_types left) [] at s form t ≡ Ok whole
    plain true e = not_ok (record { kind = GroupEnd; byte = at }) whole e
    plain false e = bind_ok (read_contents schema (deeper_left schema left) at (at + form.payload) (take form.payload_len (drop form.payload s)) (contents_of schema fields (record_of form s))) (λ _. Ok form) whole e λ x was is. is

pub walk_ok : (r : Result Stop WireFault) → fault_read r ≡ None → (stop : Stop) × (r ≡ Ok stop)
walk_ok (Ok stop) e = (stop, refl)
walk_ok (Err d) e = absurd (none-some d (sym e))
