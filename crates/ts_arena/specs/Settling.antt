-- What settling gives.
use Rattle.std.specs.Prelude.{◌≡◌, ◌≢◌, ◌⊎◌, ℕ, ◌+◌, ◌-◌, ◌^◌, ◌<◌, ◌≤◌, min, List, Some, length, map}
use mathlib.Core.Option.{some}
use lib.ListN.{get_elem?}
use Rattle.serial_arena.specs.Serial.{SerialState}
use Rattle.arena_list.specs.declared.entry.Entry.{Entry}
use Rattle.arena_list.specs.Words.Nodes.{Begins}
use Rattle.arena_list.specs.Rule.Founded.{node_of}
use Rattle.arena_list.specs.Calls.Seats.{view, IsAmong}
use Rattle.arena_list.specs.Closing.Closed.{entry}
use Rattle.ts_arena.specs.declared.pass.Pass.{Pass}
use Rattle.ts_arena.specs.declared.faults.SettleFault.{SettleFault}
use Rattle.ts_arena.specs.declared.faults.SettleFault.TheVariants.{ForeignPass, PassesOut, NoMemory}
use Rattle.ts_arena.specs.Arena.{ArenaState, arena_used}
use Rattle.ts_arena.specs.Passes.{SharedState, IsPassOf, made_by, begun_with, resting, adopted_used, caller_of, slot_of, shown_to, HasPart}

-- each pass with this life was made by this shared arena
abbrev pub AreOwn : SharedState → List Pass → Type 0
AreOwn sh passes = (k : ℕ) (p : Pass) → get_elem? passes k ≡ some p → p.life ≡ sh.life → IsPassOf sh p

-- all passes have this life
abbrev pub AreOfLife : ℕ → List Pass → Type 0
AreOfLife life passes = (k : ℕ) (p : Pass) → get_elem? passes k ≡ some p → p.life ≡ life

-- the first pass with another life
pub record IsForeign (life : ℕ) (passes : List Pass) (at other : ℕ) : Type 0 where
  pub pass : Pass
  pub there : get_elem? passes at ≡ some pass
  pub life_is : pass.life ≡ other
  pub foreign : other ≢ life
  pub first : (k : ℕ) (p : Pass) → k < at → get_elem? passes k ≡ some p → p.life ≡ life

-- why settling is refused. Each cause excludes those before it. A place beyond 32 bits is told as the greatest number of 32 bits
abbrev pub RefusesSettle : SharedState → List Pass → SettleFault → Type 0
RefusesSettle sh passes (ForeignPass place life) = (at : ℕ) × (place ≡ min at (2 ^ 32 - 1)) × IsForeign sh.life passes at life
RefusesSettle sh passes (PassesOut made given) = AreOfLife sh.life passes × (made ≡ made_by sh) × (given ≡ length passes) × (given < made)
RefusesSettle sh passes NoMemory = AreOfLife sh.life passes × (made_by sh ≤ length passes)

-- the arena that all passes of a shared arena give
pub record IsSettledFrom (sh : SharedState) (passes : List Pass) (a : ArenaState) : Type 0 where
  pub all : AreOfLife sh.life passes × (length passes ≡ made_by sh)
  pub life_is : a.life ≡ sh.life
  pub policy_is : a.policy ≡ sh.policy
  pub adopted_are : a.adopted ≡ sh.adopted
  -- each caller that joined owns what its pass left last
  pub joined : (k slot : ℕ) (p : Pass) (part : SerialState) → get_elem? passes k ≡ some p → slot_of p ≡ Some slot → HasPart p part → IsAmong a.owners (entry slot (caller_of p) part)
  -- each owner without a pass has what it had
  pub rested : (e : Entry SerialState) → IsAmong (resting sh) e → IsAmong a.owners e
  -- and there is no other owner
  pub known : (e : Entry SerialState) → IsAmong a.owners e → ((k : ℕ) × (p : Pass) × (get_elem? passes k ≡ some p) × (slot_of p ≡ Some e.slot) × (caller_of p ≡ e.caller) × HasPart p e.part) ⊎ IsAmong (resting sh) e
  -- the owners from before come first, in their order, and what a pass saw of the list begins it
  pub begun : Begins (map node_of (begun_with sh)) (map node_of a.owners)
  pub seen : (k : ℕ) (p : Pass) → get_elem? passes k ≡ some p → Begins (view p.seat).seen (map node_of a.owners)
  -- each answer that a pass got is at most what the arena uses now
  pub used : (k : ℕ) (p : Pass) → get_elem? passes k ≡ some p → shown_to p + adopted_used sh ≤ arena_used a
