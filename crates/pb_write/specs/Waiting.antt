-- What waits in the rooms for text, and how much of it was taken from them.
use Rattle.std.specs.Prelude.{ℕ, List}
use Rattle.pb_write.specs.declared.text_rooms.TextRooms.{TextRooms}
use Rattle.pb_write.specs.Writes.{gathered_in}

-- the bytes that are gathered, and wait to be handed to a sink
abbrev pub waiting_in : TextRooms → List ℕ
waiting_in rooms = gathered_in rooms.out

-- how many bytes the rooms counted that a sink took from them
abbrev pub counted_in : TextRooms → ℕ
counted_in rooms = rooms.out.taken
