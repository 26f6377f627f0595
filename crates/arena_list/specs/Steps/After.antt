-- The view of a seat after each kind of its steps.
use Rattle.std.specs.Prelude.{ℕ, ◌+◌, true, List, [], ◌∷◌, ◌++◌, Some, None, length, set}
use Rattle.arena_list.specs.declared.for_clauses.view.Node.{Node}
use Rattle.arena_list.specs.declared.for_clauses.view.Hold.{Hold}
use Rattle.arena_list.specs.declared.for_clauses.view.Hold.TheVariants.{Vacant, Filling, Moving, Away, Rests}
use Rattle.arena_list.specs.declared.for_clauses.view.Hand.{Hand}
use Rattle.arena_list.specs.declared.for_clauses.view.View.{View}
use Rattle.arena_list.specs.Words.Nodes.{node, before}
use Rattle.arena_list.specs.Rule.Views.{hand}
use Rattle.arena_list.specs.Rule.Founded.{Meter}

module _ {V : Type 0} where
  abbrev pub counted : View V → View V
  counted v = record v { list_steps = v.list_steps + 1 }

  abbrev pub looked : View V → List Node → View V
  looked v nodes = record v { seen = nodes; list_steps = v.list_steps + 1 }

  abbrev pub with_hand : View V → Hand V → View V
  with_hand v h = record v { hands = h ∷ [] }

  abbrev pub own_node : View V → Node
  own_node v = node (hand v).slot (hand v).who

  -- the previous part that the next node gets
  abbrev pub next_link : View V → ℕ
  next_link v = before v.seen (length v.seen)

  abbrev pub noted : View V → View V
  noted v = record v { hands = record (hand v) { noted = Some (next_link v) } ∷ []; list_steps = v.list_steps + 1 }

  abbrev pub joined : View V → View V
  joined v = record v { hands = record (hand v) { linked = true; noted = None } ∷ []; seen = v.seen ++ own_node v ∷ []; list_steps = v.list_steps + 1 }

  abbrev pub held : View V → Hold V → View V
  held v x = with_hand v (record (hand v) { hold = x })

  -- the value given, and its used sum among those seen
  abbrev pub settled : Meter V → View V → V → View V
  settled m v part = record v { hands = record (hand v) { hold = Rests part } ∷ []; sizes = set v.sizes (hand v).slot (m.used part) }

  abbrev pub sized : View V → ℕ → ℕ → View V
  sized v slot used = record v { sizes = set v.sizes slot used }

  -- the used sum that the caller's own slot shows
  abbrev pub used_now : Meter V → Hold V → ℕ
  used_now m Vacant = 0
  used_now m Filling = 0
  used_now m (Moving used) = used
  used_now m (Away used) = used
  used_now m (Rests part) = m.used part

  -- the value is out, and its slot is empty and at home
  abbrev pub IsOut : Hold V → Type 0
  IsOut Vacant = Unit {0}
  IsOut Filling = ⊥
  IsOut (Moving used) = ⊥
  IsOut (Away used) = Unit {0}
  IsOut (Rests part) = ⊥

  -- the same while the slot is with the seat
  abbrev pub with_seat : Hold V → Hold V
  with_seat Vacant = Filling
  with_seat Filling = Filling
  with_seat (Moving used) = Moving used
  with_seat (Away used) = Moving used
  with_seat (Rests part) = Rests part
