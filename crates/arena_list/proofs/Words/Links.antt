-- What the head's word and the nodes' words tell of the list.
use Rattle.std.proofs.Common.{◌≡◌, ℕ, zero, suc, ◌+◌, ◌*◌, ◌^◌, ◌<◌, ◌≤◌, ◌≢◌, ◌⊎◌, inl, inr, ⊎_elim, List, [], ◌∷◌, ◌++◌, map, length, get_or, sym, refl, ap, ◌∙◌, arith}
use mathlib.Core.Option.{some, some-injective, some-ne-none}
use mathlib.Core.Logic.{dite}
use native.Mathlib.Decide.{ℕ_discrete, dec_le}
use lib.ListN.{get_elem?}
use Rattle.std.proofs.lemmas.List.{length-append}
use Rattle.arena_list.specs.declared.for_clauses.view.Node.{Node}
use Rattle.arena_list.specs.Words.Core.{slot_count}
use Rattle.arena_list.specs.Words.Nodes.{node, slot_of, before, head_of, Begins, HasNode, LacksNode}
use Rattle.atomic_table.proofs.Lists.{at_last}
use Rattle.arena_list.proofs.Words.Lists.{at_there}
use Rattle.arena_list.proofs.Words.Few.{or_at, at_map, len_map}

pub past_end : {A : Type 0} (l : List A) (i : ℕ) (d : A) → length l ≤ i → get_or l i d ≡ d
past_end [] i d h = refl
past_end (x ∷ xs) zero d h = absurd (omega arith)
past_end (x ∷ xs) (suc i) d h = past_end xs i d (omega arith)

-- the previous part of a node is its predecessor's
pub before_at : (nodes : List Node) (k : ℕ) (n : Node) → get_elem? nodes k ≡ some n → before nodes (suc k) ≡ n.slot + 1
before_at nodes k n e = ap (λ (x : ℕ). x + 1) (or_at (map slot_of nodes) k 0 n.slot (at_map slot_of nodes k n e))

-- lists of which one begins the other have the same previous parts
pub before_begins : {xs ys : List Node} → Begins xs ys → (k : ℕ) → k ≤ length xs → before ys k ≡ before xs k
before_begins b zero h = refl
before_begins {xs = xs} {ys = ys} b (suc k) h = let t = at_there xs k (omega arith) in before_at ys k t.0 (b.same k t.0 t.1) ∙ sym (before_at xs k t.0 t.1)

pub before_small : (nodes : List Node) → ((i : ℕ) (n : Node) → get_elem? nodes i ≡ some n → n.slot < slot_count) → (k : ℕ) → before nodes k ≤ slot_count
before_small nodes small zero = omega arith
before_small nodes small (suc k) = dite (dec_le (length nodes) k)
    (λ past. let l = len_map slot_of nodes in let e = past_end (map slot_of nodes) k 0 (omega arith) in omega arith)
    (λ within. let t = at_there nodes k (omega arith) in let e = before_at nodes k t.0 t.1 in let s = small k t.0 t.1 in omega arith)

-- a list has a node, or it doesn't
not_here : (n : Node) (ns : List Node) (slot who : ℕ) → n ≢ node slot who → LacksNode ns slot who → LacksNode (n ∷ ns) slot who
not_here n ns slot who other rest zero e = other (some-injective n (node slot who) e)
not_here n ns slot who other rest (suc k) e = rest k e

has_or_not : (nodes : List Node) (slot who : ℕ) → HasNode nodes slot who ⊎ LacksNode nodes slot who
has_or_not [] slot who = inr (λ k e. some-ne-none (node slot who) (sym e))
has_or_not (n ∷ ns) slot who = ⊎_elim
    (λ has. inl (suc has.0, has.1))
    (λ rest. dite (ℕ_discrete n.slot slot)
    (λ s. dite (ℕ_discrete n.caller who)
    (λ c. inl (0, λ i. some (node (s i) (c i))))
    (λ ne. inr (not_here n ns slot who (λ e. ne (ap (λ (x : Node). x.caller) e)) rest)))
    (λ ne. inr (not_here n ns slot who (λ e. ne (ap (λ (x : Node). x.slot) e)) rest)))
    (has_or_not ns slot who)

pub has_node : (nodes : List Node) (slot who : ℕ) → ¬ LacksNode nodes slot who → HasNode nodes slot who
has_node nodes slot who not = ⊎_elim (λ has. has) (λ none. absurd (not none)) (has_or_not nodes slot who)

-- a list that begins another and is as long is it
pub begins_whole : (xs ys : List Node) → Begins xs ys → length xs ≡ length ys → xs ≡ ys
begins_whole [] [] b e = refl
begins_whole [] (y ∷ ys) b e = absurd (omega arith)
begins_whole (x ∷ xs) [] b e = absurd (omega arith)
begins_whole (x ∷ xs) (y ∷ ys) b e = let first : y ≡ x = some-injective _ _ (b.same 0 x refl) in let rest = begins_whole xs ys record { short = omega arith; same = λ k n t. b.same (suc k) n t } (omega arith) in
    (λ i. sym first i ∷ rest i)

-- the head's word tells how many nodes there are, so a list that begins another is it where their heads are one number
pub one_head : (xs ys : List Node) → Begins xs ys → ((i : ℕ) (n : Node) → get_elem? ys i ≡ some n → n.slot < slot_count) → head_of xs ≡ head_of ys → xs ≡ ys
one_head xs ys b small e = let p = before_small ys small (length ys) in
    let q = before_small xs (λ i n t. small i n (b.same i n t)) (length xs) in
    let x : ℕ = length xs in let y : ℕ = length ys in let h = e in begins_whole xs ys b (omega arith)

-- the head's word of a list with one more node
pub head_more : (nodes : List Node) (n : Node) → head_of (nodes ++ n ∷ []) ≡ (length nodes + 1) * 2 ^ 32 + (n.slot + 1)
head_more nodes n = let l : length (nodes ++ n ∷ []) ≡ length nodes + 1 = length-append nodes (n ∷ []) in
    let last : before (nodes ++ n ∷ []) (suc (length nodes)) ≡ n.slot + 1 = before_at (nodes ++ n ∷ []) (length nodes) n (at_last nodes n (length nodes) refl) in
    let whole : before (nodes ++ n ∷ []) (length (nodes ++ n ∷ [])) ≡ n.slot + 1 = ap (before (nodes ++ n ∷ [])) (let z : length (nodes ++ n ∷ []) ≡ suc (length nodes) = omega arith in z) ∙ last in omega arith
