-- A table whose values are seen through a function.
use Rattle.std.specs.Prelude.{ℕ, map}
use mathlib.Core.Option as maybe
use Rattle.atomic_table.specs.Table.{State, Me, Step}

module _ {S T : Type 0} (f : S → T) where
  abbrev pub seen_home : maybe.Option S → maybe.Option T
  seen_home maybe.none = maybe.none
  seen_home (maybe.some x) = maybe.some (f x)

  abbrev pub seen_slot : ℕ × S → ℕ × T
  seen_slot x = (x.0, f x.1)

  abbrev pub seen_step : Step S → Step T
  seen_step st = record { slots = st.slots; word = st.word; first = st.first; second = st.second; said = seen_home st.said }

  module _ {V : Type 0} where
    abbrev pub seen_state : State S V → State T V
    seen_state s = record { words = s.words; homes = map seen_home s.homes; views = s.views }

    abbrev pub seen_me : Me S V → Me T V
    seen_me me = (me.0, map seen_slot me.1)

    -- a step tells of what is seen
    abbrev pub through : (Step T → Me T V → ℕ → Me T V → Type 0) → Step S → Me S V → ℕ → Me S V → Type 0
    through then st me n me' = then (seen_step st) (seen_me me) n (seen_me me')
