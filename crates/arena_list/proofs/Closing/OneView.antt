-- A list that is closed by a seat with all callers' hands.
use Rattle.std.proofs.Common.{◌≡◌, ℕ, ◌≢◌, ◌⊎◌, length, sym, ap, subst, ◌∙◌, inl, inr, ⊎_elim, arith, Option, Some}
use mathlib.Core.Option.{some}
use mathlib.Core.Logic.{dite}
use native.Mathlib.Decide.{ℕ_discrete}
use lib.ListN.{get_elem?}
use Rattle.atomic_table.specs.Table.{State}
use Rattle.arena_list.specs.declared.entry.Entry.{Entry}
use Rattle.arena_list.specs.declared.for_clauses.founding.Founding.{Founding}
use Rattle.arena_list.specs.declared.for_clauses.view.Node.{Node}
use Rattle.arena_list.specs.declared.for_clauses.view.Hold.{Hold}
use Rattle.arena_list.specs.declared.for_clauses.view.Hold.TheVariants.{Rests}
use Rattle.arena_list.specs.declared.for_clauses.view.Hand.{Hand}
use Rattle.arena_list.specs.declared.for_clauses.view.View.{View}
use Rattle.arena_list.specs.Words.Written.{value_at}
use Rattle.arena_list.specs.Rule.Founded.{Meter, others_of}
use Rattle.arena_list.specs.Rule.Holds.{Holds, HoldsAt, IsHand, Stands, hand_count}
use Rattle.arena_list.proofs.Words.Lists.{at_below, at_one, total-two}

module _ {V : Type 0} (m : Meter V) (k : Founding V) (s : State (Option V) (View V)) (r : Holds m k s) (id : ℕ) (v : View V) (at : get_elem? s.views id ≡ some v) (all : length v.hands ≡ length k.callers.items) where
  -- no other view has a hand
  pub only_view : (j i : ℕ) (u : View V) (h : Hand V) → get_elem? s.views j ≡ some u → get_elem? u.hands i ≡ some h → j ≡ id
  only_view j i u h a b = dite (ℕ_discrete j id) (λ (e : j ≡ id). e)
      (λ (ne : j ≢ id). absurd (let t = total-two hand_count s.views id j v u at a ne in let c = r.counted in let l = at_below u.hands i h b in omega arith))

  -- whoever stands in a view is one of its hands
  pub stands_here : (slot who : ℕ) → Stands s.views slot who → (i : ℕ) × (h : Hand V) × (get_elem? v.hands i ≡ some h) × (h.slot ≡ slot) × (h.who ≡ who) × IsHand m k.life r.core s.words s.homes r.holder r.place id i h
  stands_here slot who x = let here = only_view x.0 x.1 x.2 x.3 x.4 x.5 in let same : x.2 ≡ v = at_one s.views x.0 x.2 v x.4 (ap (get_elem? s.views) here ∙ at) in
      let b : get_elem? v.hands x.1 ≡ some x.3 = ap (λ (u : View V). get_elem? u.hands x.1) (sym same) ∙ x.5 in (x.1, x.3, b, x.6, x.7, (r.hands id x.1 v x.3 at b).1)

  -- a node of the list is a caller's, whose hand is here, or that of an entry without a seat
  pub node_of_hand : (i : ℕ) (n : Node) → get_elem? r.core.joined i ≡ some n
      → ((j : ℕ) × (h : Hand V) × (get_elem? v.hands j ≡ some h) × (h.slot ≡ n.slot) × (h.who ≡ n.caller) × IsHand m k.life r.core s.words s.homes r.holder r.place id j h)
      ⊎ ((j : ℕ) × (e : Entry V) × (get_elem? (others_of k.linked.items k.callers.items) j ≡ some e) × (e.slot ≡ n.slot) × (e.caller ≡ n.caller))
  node_of_hand i n e = ⊎_elim (λ t. inl (stands_here n.slot n.caller t)) (λ t. inr t) (r.traced n.slot n.caller (r.listed i n e).held)

  -- the value of a hand that rests is at home in its place
  pub hand_value : (i : ℕ) (h : Hand V) (part : V) → get_elem? v.hands i ≡ some h → h.hold ≡ Rests part → get_elem? s.homes (value_at h.slot) ≡ some (some (Some part))
  hand_value i h part b is = let o = (r.hands id i v h at b).1 in (subst (λ (x : Hold V). HoldsAt m k.life r.core s.homes h x) is o.hold).1
