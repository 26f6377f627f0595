use Rattle.std.proofs.Common.{◌≡◌, ◌≤◌, length, take, [], vec_capacity}
use Rattle.arena_list.specs.Rule.Founded.{meter}
use Rattle.arena_list.specs.Marks.OfParts.{marked_founding}
use Rattle.arena_list.specs.Making.Made.{AreSeats}
use Rattle.arena_list.proofs.Making.Dealing.{remaining}
use Rattle.arena_list.proofs.make.deal.Given as goal

abbrev pub invariant-loop-caller : goal.invariant-loop-caller
invariant-loop-caller g l = (l.first.table_id ≡ l.words.table_id) × (l.first.me ≡ (remaining (marked_founding g.row.V.coded (meter g.V.Part.owner_of g.V.Part.life_of g.V.Part.used_of) l.words.key) l.caller-index, []))
    × AreSeats g.row.V.coded (meter g.V.Part.owner_of g.V.Part.life_of g.V.Part.used_of) l.words.key l.words.table_id (take l.caller-index l.words.key.callers.items) [] l.seats.items
    × (length l.callers ≤ vec_capacity l.seats)
