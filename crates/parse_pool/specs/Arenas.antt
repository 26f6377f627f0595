-- The messages of a phase in the arena that is settled behind it, and what else it leaves of the arena.
use Rattle.std.specs.Prelude.{◌≡◌, ◌⊎◌, ◌+◌, ◌-◌, ◌*◌, ◌^◌, ◌<◌, ◌≤◌, ⊤, ℕ, List, [], ◌∷◌, length, map, take, drop, sum_by, None, Some}
use Rattle.std.specs.FinMap as fin
use Rattle.std.specs.List.{concat}
use mathlib.Core.Option.{some}
use lib.ListN.{get_elem?}
use Rattle.arena_mem.specs.Places.{IsLive}
use Rattle.serial_arena.specs.Serial.{SerialState, places_of}
use Rattle.arena_list.specs.declared.entry.Entry.{Entry}
use Rattle.arena_list.specs.Words.Nodes.{Begins}
use Rattle.arena_list.specs.Rule.Founded.{node_of}
use Rattle.arena_list.specs.Calls.Seats.{IsAmong as IsIn}
use Rattle.life_ids.specs.Cache.{CacheState}
use Rattle.pb_schema.specs.declared.schema.Schema.{Schema}
use Rattle.pb_schema.specs.declared.wire_fault.WireFault.{WireFault}
use Rattle.pb_schema.specs.Fault.{fault_of}
use Rattle.pb_schema.specs.Tree.{tree_map}
use Rattle.pb_schema.specs.TreeOf.{tree_of}
use Rattle.pb_schema.specs.Meter.{cleanups}
use Rattle.pb_parse.specs.Costs.{record_meter}
use Rattle.pb_parse.specs.Whole.{payload_cost, shape_of_payload}
use Rattle.dyn_message.specs.declared.msg_ref.MsgRef.{MsgRef}
use Rattle.dyn_message.specs.Feet.{Foot, IsAmong, KeepsOthers, Once, Split, foot_bytes}
use Rattle.dyn_message.specs.Stands.{Stands}
use Rattle.ts_arena.specs.Arena.{ArenaState, arena_registered, arena_used}
use Rattle.ts_arena.specs.declared.side.Side.{Side}
use Rattle.ts_arena.specs.declared.side.Side.TheVariants.{Sole, Unsettled}
use Rattle.ts_arena.specs.Sole.{arena_blocks, arena_buffers, arena_places}
use Rattle.parse_pool.specs.Starting.{FitOwners, FitPasses, HasSlot}

-- the payloads of a phase: so many frames from the first on
abbrev pub part_of : ℕ → ℕ → List (List ℕ) → List (List ℕ)
part_of first count frames = take count (drop first frames)

-- the message stands in the arena for the shape of its payload; joined, that is the tree that the payload decodes to
pub record IsMessageOf (schema : Schema) (root : ℕ) (a : ArenaState) (payload : List ℕ) (msg : MsgRef) (own : List Foot) : Type 0 where
  pub type : msg.type_no ≡ root
  pub stands : Stands schema (arena_places a) (arena_buffers a) msg (shape_of_payload schema root payload) own
  pub tree : tree_of schema root payload ≡ Some (tree_map concat (shape_of_payload schema root payload))

-- a message for each payload, in their order; the feet are those of all of them
abbrev pub AllParsed : Schema → ℕ → ArenaState → List (List ℕ) → List MsgRef → List Foot → Type 0
AllParsed schema root a [] [] feet = feet ≡ []
AllParsed schema root a [] (msg ∷ messages) feet = ⊥
AllParsed schema root a (payload ∷ payloads) [] feet = ⊥
AllParsed schema root a (payload ∷ payloads) (msg ∷ messages) feet =
    Split (λ own. IsMessageOf schema root a payload msg own) (λ rest. AllParsed schema root a payloads messages rest) feet

-- the same, and each foot stands there once, and was neither live nor kept before
pub record AreParsed (schema : Schema) (root : ℕ) (before after : ArenaState) (payloads : List (List ℕ)) (messages : List MsgRef) : Type 0 where
  pub feet : List Foot
  pub stand : AllParsed schema root after payloads messages feet
  pub once : Once feet
  pub fresh : (foot : Foot) → IsAmong foot feet → foot_bytes (arena_places before) (arena_buffers before) foot ≡ None

-- WHAT A PHASE LEAVES OF THE ARENA

abbrev pub IsSole : Side → Type 0
IsSole (Sole a) = ⊤
IsSole (Unsettled shared passes) = ⊥

-- of an arena that is settled
abbrev pub IfSole : Side → (ArenaState → Type 0) → Type 0
IfSole (Sole a) P = P a
IfSole (Unsettled shared passes) P = ⊤

-- the life, the policy and the adopted regions are those from before
abbrev pub KeepsKeys : ArenaState → Side → Type 0
KeepsKeys a (Sole b) = (b.life ≡ a.life) × (b.policy ≡ a.policy) × (b.adopted ≡ a.adopted)
KeepsKeys a (Unsettled shared passes) = (shared.life ≡ a.life) × (shared.policy ≡ a.policy) × (shared.adopted ≡ a.adopted)

-- the owners are those from before, with their slots, and some of the callers below this number
pub record AreOwnersAfter (workers : ℕ) (before after : ArenaState) : Type 0 where
  pub begun : Begins (map node_of before.owners) (map node_of after.owners)
  pub others : (e : Entry SerialState) → IsIn after.owners e → HasSlot before.owners e.caller e.slot ⊎ (e.caller < workers)

-- a cache with the arena's life has the slot of the owner whose number is its place, or it fits that caller's pass
abbrev pub FitSide : Side → List CacheState → Type 0
FitSide (Sole a) caches = FitOwners a.life a.owners caches
FitSide (Unsettled shared passes) caches = FitPasses caches passes.items

-- each cache is as it was, or has this life
pub record AreAfter (life : ℕ) (olds news : List CacheState) : Type 0 where
  pub count : length news ≡ length olds
  pub each : (k : ℕ) (old new : CacheState) → get_elem? olds k ≡ some old → get_elem? news k ≡ some new → (new ≡ old) ⊎ (new.life ≡ life)

-- the caller's own serial arena has this message
abbrev pub StandsWith : ArenaState → ℕ → MsgRef → Type 0
StandsWith a who msg = (e : Entry SerialState) × IsIn a.owners e × (e.caller ≡ who) × IsLive (places_of e.part) msg.place

-- the first frames stand in the serial arenas of the callers of their numbers
abbrev pub AreEarly : ℕ → ArenaState → List MsgRef → Type 0
AreEarly workers a messages = (w : ℕ) (msg : MsgRef) → w < workers → get_elem? messages w ≡ some msg → StandsWith a w msg

-- the first payload with a fault, and its first fault
pub record IsBad (schema : Schema) (root first : ℕ) (payloads : List (List ℕ)) (index : ℕ) (fault : WireFault) : Type 0 where
  pub at : ℕ
  pub index_is : index ≡ first + at
  pub payload : List ℕ
  pub there : get_elem? payloads at ≡ some payload
  pub fault_is : fault_of schema root 0 payload ≡ Some fault
  pub least : (j : ℕ) (earlier : List ℕ) → j < at → get_elem? payloads j ≡ some earlier → fault_of schema root 0 earlier ≡ None

-- how many places, or buffers, are made for these payloads at most: 4 for each byte and each frame
abbrev pub most_made : List (List ℕ) → ℕ
most_made payloads = 4 * (sum_by length payloads + length payloads)

-- all that was in the arena keeps its bytes, and there are at most so many places and buffers more
pub record GrowsTo (most : ℕ) (before after : ArenaState) : Type 0 where
  pub rest : KeepsOthers (arena_places before) (arena_buffers before) (arena_places after) (arena_buffers after) []
  pub few_places : fin.len (arena_places after) ≤ fin.len (arena_places before) + most
  pub few_buffers : fin.len (arena_buffers after) ≤ fin.len (arena_buffers before) + most

-- this region has all blocks that a number can name
abbrev pub HasSpent : ArenaState → ℕ → Type 0
HasSpent a region = arena_blocks a region ≡ 2 ^ 32 - 1

-- the arena uses so many bytes more, and has so many byte strings more, as these payloads count together
pub record CostsArena (schema : Schema) (root : ℕ) (payloads : List (List ℕ)) (before after : ArenaState) : Type 0 where
  pub space : arena_used after ≡ arena_used before + sum_by (λ (p : List ℕ). payload_cost (record_meter schema) schema root p) payloads
  pub kept : arena_registered after ≡ arena_registered before + sum_by (λ (p : List ℕ). payload_cost cleanups schema root p) payloads
