-- What happens to the list, free of how it is written down.
use Rattle.std.specs.Prelude.{◌≡◌, ◌≢◌, ℕ, ◌≤◌, true, false, [], ◌∷◌, ◌++◌}
use Rattle.arena_list.specs.Words.Nodes.{node}
use Rattle.arena_list.specs.Words.Core.{Core, rests, away}

pub data Event : Type 0 where
  -- a caller looks at the list
  look : Event
  -- a slot comes to its end, with its caller
  join : ℕ → ℕ → Event
  -- the value of a slot goes out
  take : ℕ → Event
  -- a value comes home to a slot, which shows this used sum from then on
  give : ℕ → ℕ → Event
  -- a caller looks at the used sum of a slot
  size : ℕ → Event

-- all slots stand as they did
abbrev pub StandAsBefore : Core → Core → Type 0
StandAsBefore c d = (slot : ℕ) → d.standing slot ≡ c.standing slot

-- all but this one
abbrev pub OthersStand : ℕ → Core → Core → Type 0
OthersStand slot c d = (other : ℕ) → other ≢ slot → d.standing other ≡ c.standing other

-- what an event makes of a core
abbrev pub Makes : Event → Core → Core → Type 0
Makes look c d = (d.joined ≡ c.joined) × StandAsBefore c d
Makes (join slot who) c d = (d.joined ≡ c.joined ++ node slot who ∷ []) × StandAsBefore c d
Makes (take slot) c d = (d.joined ≡ c.joined) × OthersStand slot c d × ((c.standing slot).home ≡ true) × (d.standing slot ≡ away (c.standing slot).used)
Makes (give slot used) c d = (d.joined ≡ c.joined) × OthersStand slot c d × ((c.standing slot).home ≡ false) × ((c.standing slot).used ≤ used) × (d.standing slot ≡ rests used)
Makes (size slot) c d = (d.joined ≡ c.joined) × StandAsBefore c d
