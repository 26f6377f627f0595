-- Finding the entry of a field by its number.
use Rattle.std.specs.Prelude.{◌≡◌, ◌<◌, ℕ, zero, suc, List, Option, None, length, slice_get, slice_index}
use Rattle.std.specs.List.{AllPairs}
use Rattle.msg_layout.specs.declared.entry.Entry.{Entry}
use Rattle.msg_layout.specs.Layout.{entry_among}

-- the numbers of the fields ascend
abbrev pub AreAscending : List Entry → Type 0
AreAscending entries = AllPairs (λ one other. one.field.number < other.field.number) entries

-- none for 0, and else the entry at the place one below
abbrev pub entry_by_place : List Entry → ℕ → Option Entry
entry_by_place entries zero = None
entry_by_place entries (suc place) = slice_get entries place

-- a table tells of each number that it reaches, where its entry stands among these or that there is none
abbrev pub Tells : List Entry → List ℕ → List Entry → Type 0
Tells entries table some =
    (number : ℕ) → number < length table
    → entry_by_place entries (slice_index table number) ≡ entry_among some number
