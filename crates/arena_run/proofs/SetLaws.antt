-- What a set gives, from where it was read to.
use Rattle.std.proofs.Common.{◌≡◌, ◌^◌, ◌<◌, ◌≤◌, ℕ, true, false, leb, List, length, Option, None, Some, Result, Ok, Err, sym, ap, ◌∙◌, subst, inl, inr, arith}
use Rattle.std.specs.Prelude.{IfSome, IsErrAnd}
use Rattle.std.proofs.lemmas.Bool.{cond-true, cond-false, le-leb, lt-leb}
use Rattle.arena_mem.specs.Outside.{NamedFiles, content_of}
use Rattle.pb_schema.specs.declared.schema.Schema.{Schema}
use Rattle.pb_schema.specs.Builtin.{builtin}
use Rattle.desc_pool.specs.declared.fault.SchemaFault.{SchemaFault}
use Rattle.desc_pool.specs.Linked.{linked_set}
use Rattle.arena_run.specs.declared.fault.Fault.{Fault}
use Rattle.arena_run.specs.declared.fault.Fault.TheVariants.{NoMemory, Schema as SetFault, ReadFault, TooLong}
use Rattle.arena_run.specs.declared.fault.InputKind.TheVariants.{SetBytes}
use Rattle.arena_run.specs.Ends.{Gives, IsOfInput, IsOfSet, IsSetRead}
use Rattle.arena_run.specs.Sets.{as_fault, given_by, is_built_in, set_answer, set_given}

-- a set that isn't too long gives what it is linked to
pub within_limit : (content : List ℕ) → length content ≤ 2 ^ 22 → set_answer content ≡ as_fault (linked_set content)
unfolding set_answer
within_limit content few = cond-true (leb (length content) (2 ^ 22)) _ _ (le-leb (length content) (2 ^ 22) few)

above_limit : (content : List ℕ) → 2 ^ 22 < length content → set_answer content ≡ Err (TooLong SetBytes (2 ^ 22))
unfolding set_answer
above_limit content many = cond-false (leb (length content) (2 ^ 22)) _ _ (lt-leb (length content) (2 ^ 22) many)

pub linked_ok : (content : List ℕ) (schema : Schema) → length content ≤ 2 ^ 22 → linked_set content ≡ Ok schema → set_answer content ≡ Ok schema
linked_ok content schema few is = within_limit content few ∙ ap as_fault is

pub linked_err : (content : List ℕ) (refused : SchemaFault) → length content ≤ 2 ^ 22 → linked_set content ≡ Err refused → set_answer content ≡ Err (SetFault refused)
linked_err content refused few is = within_limit content few ∙ ap as_fault is

-- a set that was read up to the limit, and one that wasn't
pub input_kind : (fault : Fault) → IsOfInput SetBytes (2 ^ 22) fault → IsOfSet fault
input_kind fault (inl is) = subst IsOfSet (sym is) (record { past = omega arith; before = omega arith })
input_kind fault (inr (inl is)) = subst IsOfSet (sym is) (record { past = omega arith; before = omega arith })
input_kind fault (inr (inr is)) = subst IsOfSet (sym is) (record { past = omega arith; before = omega arith })

pub input_gives : (fault : Fault) (found : Option (List ℕ)) → IsOfInput SetBytes (2 ^ 22) fault → (fault ≡ TooLong SetBytes (2 ^ 22) → IfSome found (λ content. 2 ^ 22 < length content)) → IfSome found (λ content. Gives (set_answer content) (Err fault))
input_gives fault None kind long = tt
input_gives fault (Some content) kind long = λ read. is_long kind read
  where
    is_long : IsOfInput SetBytes (2 ^ 22) fault → IsSetRead (Some fault) → set_answer content ≡ Err fault
    is_long (inl is) read = absurd (let told : IsSetRead (Some NoMemory) = subst (λ f. IsSetRead (Some f)) is read in omega (arith, told))
    is_long (inr (inl is)) read = absurd (let told : IsSetRead (Some ReadFault) = subst (λ f. IsSetRead (Some f)) is read in omega (arith, told))
    is_long (inr (inr is)) read = above_limit content (long is) ∙ sym (ap Err is)

-- a part that ends with this fault
pub gives_err : (found : Option (List ℕ)) (result : Result Schema Fault) (fault : Fault) → IsErrAnd result (λ end. end ≡ fault) → IfSome found (λ content. Gives (set_answer content) (Err fault)) → IfSome found (λ content. Gives (set_answer content) result)
gives_err found (Ok schema) fault is gives = absurd is
gives_err found (Err end) fault is gives = subst (λ f. IfSome found (λ content. Gives (set_answer content) (Err f))) (sym is) gives

-- what bytes give that are the file's
pub bytes_give : (found : Option (List ℕ)) (bytes : List ℕ) (result : Result Schema Fault) → IfSome found (λ content. bytes ≡ content) → Gives (set_answer bytes) result → IfSome found (λ content. Gives (set_answer content) result)
bytes_give None bytes result same gives = tt
bytes_give (Some content) bytes result same gives = subst (λ s. Gives (set_answer s) result) same gives

-- the word of the set that is built in, and any other
pub given_in : (files : Option NamedFiles) (set : List ℕ) (P : Result Schema Fault → Type 0) → is_built_in set ≡ true → P (Ok builtin) → IfSome (set_given files set) P
unfolding set_given
given_in files set P built p = subst (λ b. IfSome (given_by b (content_of files set)) P) (sym built) p

pub given_file : (files : Option NamedFiles) (set : List ℕ) (P : Result Schema Fault → Type 0) → is_built_in set ≡ false → IfSome (content_of files set) (λ content. P (set_answer content)) → IfSome (set_given files set) P
unfolding set_given
given_file files set P other h = subst (λ b. IfSome (given_by b (content_of files set)) P) (sym other) (mapped (content_of files set) h)
  where
    mapped : (found : Option (List ℕ)) → IfSome found (λ content. P (set_answer content)) → IfSome (given_by false found) P
    mapped None h = tt
    mapped (Some content) h = h
