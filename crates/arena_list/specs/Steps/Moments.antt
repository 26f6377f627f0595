-- What a step tells of the whole list at its moment.
use Rattle.std.specs.Prelude.{◌≡◌, ℕ, List, Option, set}
use mathlib.Core.Option.{some}
use lib.ListN.{get_elem?}
use Rattle.atomic_table.specs.Table.{State}
use Rattle.arena_list.specs.declared.for_clauses.founding.Founding.{Founding}
use Rattle.arena_list.specs.declared.for_clauses.view.Hold.TheVariants.{Moving}
use Rattle.arena_list.specs.declared.for_clauses.view.Node.{Node}
use Rattle.arena_list.specs.declared.for_clauses.view.View.{View}
use Rattle.arena_list.specs.Rule.Views.{hand, who}
use Rattle.arena_list.specs.Rule.Founded.{Meter}
use Rattle.arena_list.specs.Steps.After.{looked, joined, held, settled, sized}
use Rattle.arena_list.specs.Steps.Events.{Event, look, join, take, give, size, Makes}
use Rattle.arena_list.specs.Rule.Holds.{Holds}

module _ {V : Type 0} (m : Meter V) where
  -- A moment at which a seat steps, by the words, the values at home and the views of all seats before it and after it. The rule holds of both, the seat's view becomes another one and no other view changes, and what became of the list is this event
  pub record Moment (k : Founding V) (event : Event) (v w : View V) : Type 0 where
    pub before : State (Option V) (View V)
    pub after : State (Option V) (View V)
    pub id : ℕ
    pub rule : Holds m k before
    pub rule_after : Holds m k after
    pub stands : get_elem? before.views id ≡ some v
    pub alone : after.views ≡ set before.views id w
    pub makes : Makes event rule.core rule_after.core

  -- a seat with this view looked at the list when it had these nodes
  pub record SeenList (k : Founding V) (v : View V) (nodes : List Node) : Type 0 where
    pub moment : Moment k look v (looked v nodes)
    pub nodes_are : moment.rule.core.joined ≡ nodes

  -- a seat with this view appended its caller's node to the list when that had the nodes that the seat had seen
  pub record SeenJoin (k : Founding V) (v : View V) : Type 0 where
    pub moment : Moment k (join (hand v).slot (who v)) v (joined v)
    pub nodes_are : moment.rule.core.joined ≡ v.seen

  -- a seat with this view took the value out of its caller's slot, which showed this used sum
  pub record SeenTake (k : Founding V) (v : View V) (used : ℕ) : Type 0 where
    pub moment : Moment k (take (hand v).slot) v (held v (Moving used))
    pub used_is : (moment.rule.core.standing (hand v).slot).used ≡ used

  -- a seat with this view gave its caller's slot this value
  pub record SeenGive (k : Founding V) (v : View V) (part : V) : Type 0 where
    pub moment : Moment k (give (hand v).slot (m.used part)) v (settled m v part)

  -- a seat with this view looked at the slot's state when it showed this used sum
  pub record SeenSize (k : Founding V) (v : View V) (slot used : ℕ) : Type 0 where
    pub moment : Moment k (size slot) v (sized v slot used)
    pub used_is : (moment.rule.core.standing slot).used ≡ used
