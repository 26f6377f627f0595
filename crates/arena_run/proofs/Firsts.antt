-- The first fault of a file, from where it was read to.
use Rattle.std.proofs.Common.{◌≡◌, ◌⊎◌, ◌^◌, ◌<◌, ◌≤◌, ℕ, Bool, true, false, cond, leb, List, length, Option, None, Some, Result, Ok, Err, sym, ap, ◌∙◌, subst, inl, inr, arith}
use Rattle.std.specs.Prelude.{IfOk, IfErr, IfSome, IsSomeAnd, IsErrAnd}
use Rattle.std.proofs.lemmas.Bool.{cond-true, cond-false, le-leb, lt-leb}
use Rattle.pb_schema.specs.declared.schema.Schema.{Schema}
use Rattle.pb_schema.specs.Frames.{frames_of}
use Rattle.pb_schema.specs.Payloads.{trees_of}
use Rattle.pb_schema.specs.Tree.{Tree}
use Rattle.pb_wire.specs.declared.frame_fault.FrameFault.{FrameFault}
use Rattle.pb_wire.specs.FrameAnswers.{answer_from, answer_of}
use Rattle.arena_run.specs.declared.fault.Fault.{Fault}
use Rattle.arena_run.specs.declared.fault.Fault.TheVariants.{NoMemory, ReadFault, TooLong}
use Rattle.arena_run.specs.declared.fault.InputKind.TheVariants.{FrameBytes}
use Rattle.arena_run.specs.Contents.{HasTrees}
use Rattle.arena_run.specs.Ends.{last_stage, first_stage, IsRead, EndsBy, IsOfFile, IsOfInput, IsOfPayloads, result_fault}
use Rattle.arena_run.specs.Faults.{payloads_fault, frames_fault, first_fault, trees_in}

-- a file that isn't too long has the fault of its frames
pub within_limit : (schema : Schema) (type_no : ℕ) (content : List ℕ) → length content ≤ 2 ^ 24 → first_fault schema type_no content ≡ frames_fault schema type_no (frames_of content)
unfolding first_fault
within_limit schema type_no content few = cond-true (leb (length content) (2 ^ 24)) _ _ (le-leb (length content) (2 ^ 24) few)

pub above_limit : (schema : Schema) (type_no : ℕ) (content : List ℕ) → 2 ^ 24 < length content → first_fault schema type_no content ≡ Some (TooLong FrameBytes (2 ^ 24))
unfolding first_fault
above_limit schema type_no content many = cond-false (leb (length content) (2 ^ 24)) _ _ (lt-leb (length content) (2 ^ 24) many)

-- what holds of each fault
pub each_err : {A : Type 0} (r : Result A Fault) (P Q R : Fault → Type 0) → ((fault : Fault) → P fault → Q fault → R fault) → IfErr r P → IfErr r Q → IfErr r R
each_err (Ok x) P Q R law p q = tt
each_err (Err fault) P Q R law p q = law fault p q

pub if_err : {A : Type 0} (r : Result A Fault) (fault : Fault) (P : Fault → Type 0) → IsErrAnd r (λ found. found ≡ fault) → P fault → IfErr r P
if_err (Ok x) fault P is p = tt
if_err (Err found) fault P is p = subst P (sym is) p

-- want of memory isn't told of what was read
not_read : {A : Type 0} (fault : Fault) → fault ≡ NoMemory → IsRead (Some fault) → A
not_read fault is read = absurd (let told : IsRead (Some NoMemory) = subst (λ f. IsRead (Some f)) is read in omega (arith, told))

-- what was read, and isn't want of memory, has the first fault
first_is : (fault : Fault) (first : Option Fault) → (fault ≡ NoMemory) ⊎ (first ≡ Some fault) → IsRead (Some fault) → first ≡ Some fault
first_is fault first (inl is) read = not_read fault is read
first_is fault first (inr is) read = is

-- a fault of the frames is the first of the file
frames_first : (schema : Schema) (type_no : ℕ) (content : List ℕ) (fault : Fault) → length content ≤ 2 ^ 24 → IsOfFile fault → (fault ≡ NoMemory) ⊎ (frames_fault schema type_no (frames_of content) ≡ Some fault) → EndsBy (first_fault schema type_no content) (Some fault)
frames_first schema type_no content fault few kind found = record {
  fault = λ read _. within_limit schema type_no content few ∙ first_is fault (frames_fault schema type_no (frames_of content)) found read;
  none = λ parsed. absurd (let before = kind.before in omega (arith, before, parsed));
}

pub cut_first : (fault : Fault) (found : Option (List ℕ)) (bytes : List ℕ) → IfSome found (λ content. bytes ≡ content) → length bytes ≤ 2 ^ 24 → IsOfFile fault
    → ((schema : Schema) (type_no : ℕ) → (fault ≡ NoMemory) ⊎ (frames_fault schema type_no (frames_of bytes) ≡ Some fault)) → IfSome found (λ content. (schema : Schema) (type_no : ℕ) → EndsBy (first_fault schema type_no content) (Some fault))
cut_first fault None bytes same few kind is = tt
cut_first fault (Some content) bytes same few kind is = λ schema type_no. subst (λ s. EndsBy (first_fault schema type_no s) (Some fault)) same (frames_first schema type_no bytes fault few kind (is schema type_no))

-- a file that was read up to the limit, and one that wasn't
pub input_kind : (fault : Fault) → IsOfInput FrameBytes (2 ^ 24) fault → IsOfFile fault
input_kind fault (inl is) = subst IsOfFile (sym is) (record { past = omega arith; before = omega arith })
input_kind fault (inr (inl is)) = subst IsOfFile (sym is) (record { past = omega arith; before = omega arith })
input_kind fault (inr (inr is)) = subst IsOfFile (sym is) (record { past = omega arith; before = omega arith })

pub input_first : (fault : Fault) (found : Option (List ℕ)) → IsOfInput FrameBytes (2 ^ 24) fault → (fault ≡ TooLong FrameBytes (2 ^ 24) → IfSome found (λ content. 2 ^ 24 < length content))
    → IfSome found (λ content. (schema : Schema) (type_no : ℕ) → EndsBy (first_fault schema type_no content) (Some fault))
input_first fault None kind long = tt
input_first fault (Some content) kind long = λ schema type_no. record {
  fault = λ read _. is_long schema type_no kind read;
  none = λ parsed. absurd (let file = input_kind fault kind in let before = file.before in omega (arith, before, parsed));
}
  where
    is_long : (schema : Schema) (type_no : ℕ) → IsOfInput FrameBytes (2 ^ 24) fault → IsRead (Some fault) → first_fault schema type_no content ≡ Some fault
    is_long schema type_no (inl is) read = not_read fault is read
    is_long schema type_no (inr (inl is)) read = absurd (let told : IsRead (Some ReadFault) = subst (λ f. IsRead (Some f)) is read in omega (arith, told))
    is_long schema type_no (inr (inr is)) read = above_limit schema type_no content (long is) ∙ sym (ap Some is)

-- THE PAYLOADS

-- a file that isn't too long, of frames that aren't too many
pub record IsCut (content : List ℕ) (payloads : List (List ℕ)) : Type 0 where
  pub few_bytes : length content ≤ 2 ^ 24
  pub frames : frames_of content ≡ Ok payloads

pub payloads_first : (schema : Schema) (type_no : ℕ) (content : List ℕ) (payloads : List (List ℕ)) → IsCut content payloads → length payloads ≤ 2 ^ 20 → first_fault schema type_no content ≡ payloads_fault schema type_no payloads
payloads_first schema type_no content payloads cut few =
    within_limit schema type_no content cut.few_bytes ∙ (ap (frames_fault schema type_no) cut.frames ∙ cond-true (leb (length payloads) (2 ^ 20)) _ _ (le-leb (length payloads) (2 ^ 20) few))

trees_there : (schema : Schema) (type_no : ℕ) (content : List ℕ) (payloads : List (List ℕ)) → frames_of content ≡ Ok payloads → trees_in schema type_no content ≡ trees_of schema type_no payloads
unfolding trees_in
trees_there schema type_no content payloads e = ap (λ (r : Result (List (List ℕ)) ℕ). elim r as (λ _. Option (List Tree)) [ Ok ps ↦ trees_of schema type_no ps | Err k ↦ None ]) e

pub has_trees : (schema : Schema) (type_no : ℕ) (content : List ℕ) (payloads : List (List ℕ)) (P : List Tree → Type 0) → IsCut content payloads → length payloads ≤ 2 ^ 20 → payloads_fault schema type_no payloads ≡ None → IsSomeAnd (trees_of schema type_no payloads) P → HasTrees schema type_no content P
has_trees schema type_no content payloads P cut few sound trees = record {
  sound = payloads_first schema type_no content payloads cut few ∙ sound;
  trees = subst (λ o. IsSomeAnd o P) (sym (trees_there schema type_no content payloads cut.frames)) trees;
}

-- no stage is the first and lies behind the last
pub first_before_last : (end : Option Fault) → first_stage end ≤ last_stage end
first_before_last None = omega arith
first_before_last (Some NoMemory) = omega arith
first_before_last (Some fault) = omega arith

-- a fault of the payloads is the first of the file
pub payload_first : (schema : Schema) (type_no : ℕ) (content : List ℕ) (payloads : List (List ℕ)) (fault : Fault) → IsCut content payloads → length payloads ≤ 2 ^ 20 → IsOfPayloads fault → (fault ≡ NoMemory) ⊎ (payloads_fault schema type_no payloads ≡ Some fault) → EndsBy (first_fault schema type_no content) (Some fault)
payload_first schema type_no content payloads fault cut few kind found = record {
  fault = λ read _. payloads_first schema type_no content payloads cut few ∙ first_is fault (payloads_fault schema type_no payloads) found read;
  none = λ parsed. absurd (let first = first_before_last (Some fault) in omega (arith, first, kind, parsed));
}

pub parsed_first : {A : Type 0} (schema : Schema) (type_no : ℕ) (r : Result A Fault) (content : List ℕ) (payloads : List (List ℕ)) → IsCut content payloads → length payloads ≤ 2 ^ 20 → IfErr r IsOfPayloads
    → IfErr r (λ fault. (fault ≡ NoMemory) ⊎ (payloads_fault schema type_no payloads ≡ Some fault)) → IfOk r (λ _. payloads_fault schema type_no payloads ≡ None) → EndsBy (first_fault schema type_no content) (result_fault r)
parsed_first schema type_no (Ok x) content payloads cut few kind is sound = record { fault = λ _ unparsed. absurd (omega (arith, unparsed)); none = λ _. payloads_first schema type_no content payloads cut few ∙ sound }
parsed_first schema type_no (Err fault) content payloads cut few kind is sound = payload_first schema type_no content payloads fault cut few kind is

-- all bytes are whole frames where they are answered
kept_ok : (b : Bool) (payloads found : List (List ℕ)) (d : FrameFault) → ◌≡◌ {A = Result (List (List ℕ)) FrameFault} (cond b (Ok payloads) (Err d)) (Ok found) → ◌≡◌ {A = Result (List (List ℕ)) ℕ} (Ok payloads) (Ok found)
kept_ok true payloads found d e = cc
kept_ok false payloads found d e = cc

kept_err : {P : Type 0} (b : Bool) (found : List (List ℕ)) (d e : FrameFault) → ◌≡◌ {A = Result (List (List ℕ)) FrameFault} (cond b (Err d) (Err e)) (Ok found) → P
kept_err true found d e h = absurd (cc)
kept_err false found d e h = absurd (cc)

answer_ok : (r : Result (List (List ℕ)) ℕ) (found : List (List ℕ)) → answer_from r ≡ Ok found → r ≡ Ok found
answer_ok (Ok payloads) found e = kept_ok _ payloads found _ e
answer_ok (Err cut) found e = kept_err _ found _ _ e

pub answered : (s : List ℕ) (found : List (List ℕ)) → answer_of s ≡ Ok found → frames_of s ≡ Ok found
answered s found e = answer_ok (frames_of s) found e
