-- An open file, and how far it is read.
use Rattle.std.specs.Prelude.{◌<◌, ◌≤◌, ℕ, List, [], length, drop, Option, None, Some}
use Rattle.arena_mem.specs.NamedBytes.{FileBytes, content_at}
use Rattle.arena_mem.specs.declared.reading.Reading.{Reading}

-- the open file is one of these, and it isn't read beyond its end
abbrev pub IsReadingOf : List FileBytes → Option Reading → Type 0
IsReadingOf files None = Unit {0}
IsReadingOf files (Some r) = (r.file < length files) × (r.place ≤ length (content_at files r.file))

-- what is left of the open file; nothing where none is open
abbrev pub left_of : List FileBytes → Option Reading → List ℕ
left_of files None = []
left_of files (Some r) = drop r.place (content_at files r.file)
