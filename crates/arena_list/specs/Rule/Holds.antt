-- The rule of the list: what holds of the words, the values at home and all views between any two steps.
use Rattle.std.specs.Prelude.{◌≡◌, ◌≢◌, ℕ, ◌+◌, ◌<◌, ◌≤◌, ◌⊎◌, true, false, List, [], ◌∷◌, Option, Some, None, length, map, slice_index}
use mathlib.Core.Option as maybe
use mathlib.Core.Option.{some, none}
use lib.ListN.{get_elem?}
use Rattle.atomic_table.specs.Table.{State}
use Rattle.arena_list.specs.declared.entry.Entry.{Entry}
use Rattle.arena_list.specs.declared.for_clauses.founding.Founding.{Founding}
use Rattle.arena_list.specs.declared.for_clauses.view.Node.{Node}
use Rattle.arena_list.specs.declared.for_clauses.view.Hold.{Hold}
use Rattle.arena_list.specs.declared.for_clauses.view.Hold.TheVariants.{Vacant, Filling, Moving, Away, Rests}
use Rattle.arena_list.specs.declared.for_clauses.view.Hand.{Hand}
use Rattle.arena_list.specs.declared.for_clauses.view.View.{View}
use Rattle.arena_list.specs.Words.Nodes.{node, node_word, Begins}
use Rattle.arena_list.specs.Words.Core.{Core, rests, away, IsListed, CallersDiffer, slot_count}
use Rattle.arena_list.specs.Words.Written.{Show, node_at, value_at, value_count}
use Rattle.arena_list.specs.Rule.Founded.{Meter, Fits, node_of, others_of}

-- a number of each view, added up
abbrev pub total : {A : Type 0} → (A → ℕ) → List A → ℕ
total f [] = 0
total f (x ∷ xs) = f x + total f xs

module _ {V : Type 0} where
  abbrev pub hand_count : View V → ℕ
  hand_count v = length v.hands

  -- Where the value of a slot is. A value at home has its caller as owner, this list's life and the used sum that the state shows.
  -- Only the value of a slot of the list is out, but for the first filling of each slot. A slot is with its seat within a call alone
  abbrev pub HoldsAt : Meter V → ℕ → Core → List (maybe.Option (Option V)) → Hand V → Hold V → Type 0
  HoldsAt m life c homes h Vacant = (c.standing h.slot ≡ away 0) × (get_elem? homes (value_at h.slot) ≡ some (some None))
  HoldsAt m life c homes h Filling = c.standing h.slot ≡ away 0
  HoldsAt m life c homes h (Moving used) = (c.standing h.slot ≡ away used) × (h.linked ≡ true)
  HoldsAt m life c homes h (Away used) = (c.standing h.slot ≡ away used) × (get_elem? homes (value_at h.slot) ≡ some (some None)) × (h.linked ≡ true)
  HoldsAt m life c homes h (Rests part) = (c.standing h.slot ≡ rests (m.used part)) × (get_elem? homes (value_at h.slot) ≡ some (some (Some part))) × Fits m life h.who part

  -- A hand: its caller is here and nowhere else, its slot is this caller's alone, in the list or outside it
  pub record IsHand (m : Meter V) (life : ℕ) (c : Core) (words : List ℕ) (homes : List (maybe.Option (Option V))) (holder : ℕ → maybe.Option ℕ) (place : ℕ → maybe.Option (ℕ × ℕ)) (j i : ℕ) (h : Hand V) : Type 0 where
    pub here : place h.who ≡ some (j, i)
    pub slot : h.slot < slot_count
    pub held : holder h.slot ≡ some h.who
    pub linked : h.linked ≡ true → (k : ℕ) × (get_elem? c.joined k ≡ some (node h.slot h.who))
    pub spare : h.linked ≡ false → (k : ℕ) (n : Node) → get_elem? c.joined k ≡ some n → n.caller ≢ h.who
    pub noted : (previous : ℕ) → h.noted ≡ Some previous → slice_index words (node_at h.slot) ≡ node_word h.who previous
    pub hold : HoldsAt m life c homes h h.hold

  -- what a seat has seen of the list begins it, so does what the seats joined into it had seen, and no used sum that it saw is more than its slot's now
  pub record Knows (c : Core) (v : View V) : Type 0 where
    pub seen : Begins v.seen c.joined
    pub pasts : (i : ℕ) (nodes : List Node) → get_elem? v.pasts i ≡ some nodes → Begins nodes c.joined
    pub room : length v.sizes ≡ slot_count
    pub sizes : (slot : ℕ) → slice_index v.sizes slot ≤ (c.standing slot).used

  -- the linked entry of a caller without a seat: it is home. Its value lies with the list, and no step reaches it
  pub record IsWard (m : Meter V) (life : ℕ) (c : Core) (homes : List (maybe.Option (Option V))) (holder : ℕ → maybe.Option ℕ) (place : ℕ → maybe.Option (ℕ × ℕ)) (e : Entry V) : Type 0 where
    pub slot : e.slot < slot_count
    pub held : holder e.slot ≡ some e.caller
    pub no_seat : place e.caller ≡ none
    pub standing : c.standing e.slot ≡ rests (m.used e.part)
    pub fits : Fits m life e.caller e.part
    pub elsewhere : get_elem? homes (value_at e.slot) ≡ some (some None)
    pub linked : (k : ℕ) × (get_elem? c.joined k ≡ some (node e.slot e.caller))

  -- the caller stands in a view, with this slot
  abbrev pub Stands : List (View V) → ℕ → ℕ → Type 0
  Stands views slot who = (j i : ℕ) × (v : View V) × (h : Hand V) × (get_elem? views j ≡ some v) × (get_elem? v.hands i ≡ some h) × (h.slot ≡ slot) × (h.who ≡ who)

  abbrev pub IsOther : List (Entry V) → ℕ → ℕ → Type 0
  IsOther entries slot who = (i : ℕ) × (e : Entry V) × (get_elem? entries i ≡ some e) × (e.slot ≡ slot) × (e.caller ≡ who)

  pub record Holds (m : Meter V) (k : Founding V) (s : State (Option V) (View V)) : Type 0 where
    pub core : Core
    -- whose a slot is, and in which view and at which place of it a caller stands
    pub holder : ℕ → maybe.Option ℕ
    pub place : ℕ → maybe.Option (ℕ × ℕ)
    pub show : Show core s.words
    pub slots : length s.homes ≡ value_count
    pub listed : (i : ℕ) (n : Node) → get_elem? core.joined i ≡ some n → IsListed holder n
    pub callers : CallersDiffer core.joined
    -- the list only grew since it was made
    pub started : Begins (map node_of k.linked.items) core.joined
    pub hands : (j i : ℕ) (v : View V) (h : Hand V) → get_elem? s.views j ≡ some v → get_elem? v.hands i ≡ some h → (v.base ≡ k) × IsHand m k.life core s.words s.homes holder place j i h
    pub known : (j : ℕ) (v : View V) → get_elem? s.views j ≡ some v → Knows core v
    pub wards : (i : ℕ) (e : Entry V) → get_elem? (others_of k.linked.items k.callers.items) i ≡ some e → IsWard m k.life core s.homes holder place e
    pub traced : (slot who : ℕ) → holder slot ≡ some who → Stands s.views slot who ⊎ IsOther (others_of k.linked.items k.callers.items) slot who
    -- where no caller's value lies there is none
    pub idle : (place : ℕ) → place < value_count → ((slot : ℕ) → place ≡ value_at slot → holder slot ≡ none) → get_elem? s.homes place ≡ some (some None)
    -- each caller that has a seat stands in a view
    pub stand : (i who : ℕ) → get_elem? k.callers.items i ≡ some who → (slot : ℕ) × Stands s.views slot who
    pub counted : total hand_count s.views ≡ length k.callers.items
