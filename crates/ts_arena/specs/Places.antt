-- The places and buffers of an arena.
use Rattle.std.specs.Prelude.{◌≡◌, ◌⊎◌, ℕ}
use mathlib.Core.Option.{some}
use lib.ListN.{get_elem?}
use Rattle.arena_mem.specs.declared.place.Place.{Place}
use Rattle.arena_mem.specs.Places.{IsLive}
use Rattle.serial_arena.specs.Serial.{SerialState, places_of}
use Rattle.arena_list.specs.declared.entry.Entry.{Entry}
use Rattle.ts_arena.specs.Arena.{ArenaState}

-- a serial arena of an owner, or an adopted region
abbrev pub IsPartOf : ArenaState → SerialState → Type 0
IsPartOf a s = ((i : ℕ) × (e : Entry SerialState) × (get_elem? a.owners i ≡ some e) × (e.part ≡ s)) ⊎ ((i : ℕ) × (get_elem? a.adopted i ≡ some s))

-- a live place of one of them
abbrev pub IsPlaceOf : ArenaState → Place → Type 0
IsPlaceOf a p = (s : SerialState) × IsPartOf a s × IsLive (places_of s) p
