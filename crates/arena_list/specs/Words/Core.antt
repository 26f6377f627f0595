-- The list free of how it is written down.
use Rattle.std.specs.Prelude.{◌≡◌, ℕ, ◌<◌, Bool, true, false, List}
use mathlib.Core.Option.{Option, some}
use lib.ListN.{get_elem?}
use Rattle.arena_list.specs.declared.for_clauses.view.Node.{Node}

-- how many slots a list has, and so how many callers stand in it at most
abbrev pub slot_count : ℕ
slot_count = 64

-- how a slot stands: the used sum that it shows, and whether its value is home
pub record Standing : Type 0 where
  pub used : ℕ
  pub home : Bool

abbrev pub rests : ℕ → Standing
rests used = record { used = used; home = true }

abbrev pub away : ℕ → Standing
away used = record { used = used; home = false }

-- the joined nodes, oldest first, and how each slot stands
pub record Core : Type 0 where
  pub joined : List Node
  pub standing : ℕ → Standing

abbrev pub core : List Node → (ℕ → Standing) → Core
core joined standing = record { joined = joined; standing = standing }

-- `holder` says whose a slot is
pub record IsListed (holder : ℕ → Option ℕ) (n : Node) : Type 0 where
  pub slot : n.slot < slot_count
  pub held : holder n.slot ≡ some n.caller

-- no two nodes have one caller. As each slot is one caller's, no two have one slot
abbrev pub CallersDiffer : List Node → Type 0
CallersDiffer nodes = (i j : ℕ) (n m : Node) → get_elem? nodes i ≡ some n → get_elem? nodes j ≡ some m → n.caller ≡ m.caller → i ≡ j
