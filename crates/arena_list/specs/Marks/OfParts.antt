-- The list with each part seen as its mark.
use Rattle.std.specs.Prelude.{Option, map}
use Rattle.std.specs.Option.{option_map}
use base.Stored.{Coded}
use Rattle.atomic_table.specs.Table.{State}
use Rattle.arena_list.specs.declared.entry.Entry.{Entry}
use Rattle.arena_list.specs.declared.for_clauses.founding.Founding.{Founding}
use Rattle.arena_list.specs.declared.for_clauses.mark.Mark.{Mark}
use Rattle.arena_list.specs.declared.for_clauses.view.View.{View}
use Rattle.arena_list.specs.Rule.Founded.{Meter}
use Rattle.arena_list.specs.Marks.Image.{seen_state}
use Rattle.arena_list.specs.Rule.Holds.{Holds}

-- a mark's owner, life and used sum
abbrev pub marks : Meter Mark
marks = record { owner = λ p. p.owner; life = λ p. p.life; used = λ p. p.used }

module _ {V : Type 0} (c : Coded V) (m : Meter V) where
  abbrev pub mark : V → Mark
  mark part = record { marker = record {}; code = c.code part; owner = m.owner part; life = m.life part; used = m.used part }

  -- the mark of what a slot holds
  abbrev pub marked : Option V → Option Mark
  marked x = option_map mark x

  abbrev pub marked_entry : Entry V → Entry Mark
  marked_entry e = record { slot = e.slot; caller = e.caller; part = mark e.part }

  abbrev pub marked_founding : Founding V → Founding Mark
  marked_founding k = record {
    life = k.life;
    linked = record { marker = record {}; items = map marked_entry k.linked.items };
    spare = record { marker = record {}; items = map marked_entry k.spare.items };
    callers = k.callers;
  }

  -- the rule of a list, of what a seat without the parts' type can know
  abbrev pub HoldsSeen : Founding V → State (Option V) (View Mark) → Type 0
  HoldsSeen k s = Holds marks (marked_founding k) (seen_state marked s)
