-- What each call of a list makes of its seat's view.
use Rattle.std.specs.Prelude.{◌≡◌, ◌≢◌, ℕ, ◌+◌, ◌*◌, ◌^◌, ◌<◌, ◌≤◌, List, [], ◌∷◌, ◌++◌, Option, Some, IfSome, IfNone, length, drop, slice_index}
use mathlib.Core.Option.{some}
use lib.ListN.{get_elem?}
use Rattle.arena_list.specs.declared.for_clauses.view.Node.{Node}
use Rattle.arena_list.specs.declared.for_clauses.view.View.{View}
use Rattle.arena_list.specs.Words.Core.{slot_count}
use Rattle.arena_list.specs.Words.Nodes.{node, before, Begins}
use Rattle.arena_list.specs.Rule.Views.{hand, who, mine, spare, out, shown, sum_seen, HasSeenOwn}
use Rattle.arena_list.specs.Rule.Founded.{Meter}
use Rattle.arena_list.specs.Steps.Moments.{SeenList, SeenJoin, SeenSize}
use Rattle.arena_list.specs.Steps.After.{joined, used_now}

-- no node of the caller stands in the list
abbrev pub Lacks : List Node → ℕ → Type 0
Lacks nodes who = (k : ℕ) (n : Node) → get_elem? nodes k ≡ some n → n.caller ≢ who

module _ {V : Type 0} where
  -- a look, and then the nodes from the newest to the caller's own, which is this slot's
  pub record HasWalkedTo (v w : View V) (slot : ℕ) : Type 0 where
    pub place : ℕ
    pub node_is : get_elem? w.seen place ≡ some (node slot (who w))
    pub steps : w.list_steps + place ≡ v.list_steps + 1 + length w.seen

  -- a look, and then all nodes, of which none is the caller's
  pub record HasWalkedAll (v w : View V) : Type 0 where
    pub lacks : Lacks w.seen (who w)
    pub steps : w.list_steps ≡ v.list_steps + 1 + length w.seen

  -- `find` looked once at the list, which is what the seat has seen of it from then on, and walked it
  pub record HasFound (m : Meter V) (v w : View V) (answer : Option ℕ) : Type 0 where
    -- the list had these nodes at the look, when the seat's view was still the one before
    pub looked : SeenList m v.base v w.seen
    -- None exactly where no node of the caller stood in the list
    pub found : IfSome answer (λ slot. HasWalkedTo v w slot)
    pub none : IfNone answer (HasWalkedAll v w)
    -- what a seat was shown never falls
    pub earlier : shown v ≤ shown w
    pub mine_is : answer ≡ mine w
    pub own : HasSeenOwn w
    -- one step for the look, and at most one for each node
    pub some_step : v.list_steps + 1 ≤ w.list_steps
    pub few_steps : w.list_steps ≤ v.list_steps + (slot_count + 1)
    pub few : length w.seen ≤ slot_count
    pub seen : Begins v.seen w.seen
    pub hands : w.hands ≡ v.hands
    pub sizes : w.sizes ≡ v.sizes
    pub base : w.base ≡ v.base

  -- after exchanges that failed: each showed a longer list, for two steps
  pub record HasTried (v w : View V) : Type 0 where
    pub who_is : who w ≡ who v
    pub slot : (hand w).slot ≡ (hand v).slot
    pub linked : (hand w).linked ≡ (hand v).linked
    pub hold : out w ≡ out v
    pub more_steps : v.list_steps ≤ w.list_steps
    pub steps : w.list_steps + 2 * length v.seen ≤ v.list_steps + 2 * length w.seen
    pub seen : Begins v.seen w.seen
    pub sizes : w.sizes ≡ v.sizes
    pub base : w.base ≡ v.base

  -- `join` appended the caller's one node to the list, which is what the seat has seen of it from then on
  pub record HasJoined (m : Meter V) (v w : View V) (slot : ℕ) : Type 0 where
    pub was_spare : spare v ≡ Some slot
    pub mine_is : mine w ≡ Some slot
    pub own : HasSeenOwn w
    pub appended : (nodes : List Node) × Begins v.seen nodes × Lacks nodes (who v) × (w.seen ≡ nodes ++ node slot (who v) ∷ [])
    -- the list had the nodes before it when the exchange appended it
    pub moment : (u : View V) × (w ≡ joined u) × SeenJoin m u.base u
    -- two steps for each exchange, of which each that failed showed a longer list
    pub steps : w.list_steps + 2 * length v.seen ≤ v.list_steps + 2 * length w.seen
    pub some_steps : v.list_steps + 2 ≤ w.list_steps
    pub few_steps : w.list_steps ≤ v.list_steps + 2 * slot_count
    pub few : length w.seen ≤ slot_count
    pub earlier : shown v ≤ shown w
    pub who_is : who w ≡ who v
    pub hold : out w ≡ out v
    pub sizes : w.sizes ≡ v.sizes
    pub base : w.base ≡ v.base

  -- a walk over the list as it was looked at, from the newest node on: `left` nodes are to come
  pub record IsWalking (v w : View V) (left link : ℕ) : Type 0 where
    pub same : w ≡ record v { list_steps = w.list_steps }
    pub steps : w.list_steps + left ≡ v.list_steps + length v.seen
    pub link_is : link ≡ before v.seen left
    pub within : left ≤ length v.seen
    pub past : (k : ℕ) (n : Node) → left ≤ k → get_elem? v.seen k ≡ some n → n.caller ≢ who v

module _ {V : Type 0} where
  -- the slot's state showed this used sum at a moment between these views, when the seat had seen the list that it has seen in the end
  pub record WasShown (m : Meter V) (v w : View V) (slot used : ℕ) : Type 0 where
    pub view : View V
    pub after : v.list_steps < view.list_steps
    pub until : view.list_steps ≤ w.list_steps
    pub seen : view.seen ≡ w.seen
    pub base : view.base ≡ w.base
    pub moment : SeenSize m view.base view slot used

  -- a walk that adds up what the states show: `left` nodes are to come
  pub record IsSumming (m : Meter V) (v w : View V) (left link sum : ℕ) : Type 0 where
    pub same : w ≡ record v { list_steps = w.list_steps; sizes = w.sizes }
    pub steps : w.list_steps + left ≡ v.list_steps + length v.seen
    pub link_is : link ≡ before v.seen left
    pub within : left ≤ length v.seen
    pub sum_is : sum ≡ sum_seen w.sizes (drop left v.seen)
    pub small : sum + left * 2 ^ 63 ≤ length v.seen * 2 ^ 63
    pub grown : (slot : ℕ) → slice_index v.sizes slot ≤ slice_index w.sizes slot
    pub own : (k : ℕ) (n : Node) → left ≤ k → get_elem? v.seen k ≡ some n → n.slot ≡ (hand v).slot → slice_index w.sizes n.slot ≡ used_now m (out v)
    pub shown : (k : ℕ) (n : Node) → left ≤ k → get_elem? v.seen k ≡ some n → WasShown m v w n.slot (slice_index w.sizes n.slot)

  -- `sizes` looked once at the list, walked it, and added up what the state of each node showed
  pub record HasSummed (m : Meter V) (v w : View V) (answer : ℕ) : Type 0 where
    -- the list had these nodes at the look, when the seat's view was still the one before
    pub looked : SeenList m v.base v w.seen
    pub sum_is : answer ≡ shown w
    -- what is added for a node is what its slot's state showed after the look
    pub each : (k : ℕ) (n : Node) → get_elem? w.seen k ≡ some n → WasShown m v w n.slot (slice_index w.sizes n.slot)
    -- at least the caller's own part
    pub own : (slot : ℕ) → mine w ≡ Some slot → used_now m (out w) ≤ answer
    -- at least each earlier answer, since what a seat was shown never falls
    pub earlier : shown v ≤ answer
    pub grown : (slot : ℕ) → slice_index v.sizes slot ≤ slice_index w.sizes slot
    pub steps : w.list_steps ≡ v.list_steps + 1 + length w.seen
    pub few_steps : w.list_steps ≤ v.list_steps + (slot_count + 1)
    pub few : length w.seen ≤ slot_count
    pub seen : Begins v.seen w.seen
    pub hands : w.hands ≡ v.hands
    pub base : w.base ≡ v.base
