-- Words show one list at most: the head tells its length and its newest node, and each node's word the one before.
use Rattle.std.proofs.Common.{◌≡◌, ℕ, zero, suc, ◌-◌, ◌≤◌, List, length, slice_index, sym, ap, ◌∙◌, arith}
use mathlib.Core.Option.{some}
use lib.ListN.{get_elem?}
use Rattle.arena_list.specs.declared.for_clauses.view.Node.{Node}
use Rattle.arena_list.specs.Words.Nodes.{node, before, head_of, node_word}
use Rattle.arena_list.specs.Words.Core.{Core}
use Rattle.arena_list.specs.Words.Written.{Show, AreSmall, node_at}
use Rattle.arena_list.proofs.Words.Lists.{at_there, at_below}
use Rattle.arena_list.proofs.Words.Links.{before_at, before_small, begins_whole}

module _ (c d : Core) (words : List ℕ) (o : Show c words) (p : Show d words) (c_small : AreSmall c.joined) (d_small : AreSmall d.joined) where
  abbrev xs : List Node
  xs = c.joined

  abbrev ys : List Node
  ys = d.joined

  head : head_of xs ≡ head_of ys
  head = sym o.head ∙ p.head

  same_length : length xs ≡ length ys
  same_length = let a = before_small xs c_small (length xs) in let b = before_small ys d_small (length ys) in let h = head in omega arith

  same_end : before xs (length xs) ≡ before ys (length xs)
  same_end = let a = before_small xs c_small (length xs) in let b = before_small ys d_small (length ys) in let h = head in
      let e : before xs (length xs) ≡ before ys (length ys) = omega arith in e ∙ ap (before ys) (sym same_length)

  one_node : (k : ℕ) (a b : Node) → get_elem? xs k ≡ some a → get_elem? ys k ≡ some b → before xs (suc k) ≡ before ys (suc k) → (a ≡ b) × (before xs k ≡ before ys k)
  one_node k a b i j e = let s : a.slot ≡ b.slot = (let u = before_at xs k a i in let v = before_at ys k b j in omega arith) in
      let w : node_word a.caller (before xs k) ≡ node_word b.caller (before ys k) = sym (o.nodes k a i) ∙ ap (λ (z : ℕ). slice_index words (node_at z)) s ∙ p.nodes k b j in
      let f = before_small xs c_small k in let g = before_small ys d_small k in
      let who : a.caller ≡ b.caller = omega arith in let link : before xs k ≡ before ys k = omega arith in ((λ z. node (s z) (who z)), link)

  down : (j : ℕ) → j ≤ length xs → before xs (length xs - j) ≡ before ys (length xs - j)
  down zero h = let z : length xs - 0 ≡ length xs = omega arith in ap (before xs) z ∙ same_end ∙ ap (before ys) (sym z)
  down (suc j) h = let k : ℕ = length xs - suc j in let l = same_length in let a = at_there xs k (omega arith) in let b = at_there ys k (omega arith) in
      let z : suc k ≡ length xs - j = omega arith in (one_node k a.0 b.0 a.1 b.1 (ap (before xs) z ∙ down j (omega arith) ∙ ap (before ys) (sym z))).1

  pub one_list : xs ≡ ys
  one_list = begins_whole xs ys record {
    short = (let l = same_length in omega arith);
    same = λ k a i. let l = same_length in let low = at_below xs k a i in let b = at_there ys k (omega arith) in
        let z : suc k ≡ length xs - (length xs - suc k) = omega arith in
        let one = one_node k a b.0 i b.1 (ap (before xs) z ∙ down (length xs - suc k) (omega arith) ∙ ap (before ys) (sym z)) in b.1 ∙ ap some (sym one.0);
  } same_length
