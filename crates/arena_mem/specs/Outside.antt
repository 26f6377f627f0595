-- What the files and the sinks that a program is handed tell of themselves.
use Rattle.std.specs.Prelude.{◌≡◌, ◌+◌, ◌-◌, ◌^◌, ◌<◌, ◌≤◌, ℕ, List, ◌++◌, length, take, Option, None, Some, IsSome, option_and_then, Result, OnErr, OnOk, min, ⊤}
use Rattle.std.specs.Ordering.{nat_cmp}
use Rattle.std.specs.Cmp.Lexicographic.{slice_cmp}
use Rattle.std.specs.FinMap as map
use Rattle.std.specs.Io.KnownBytes.{Appends, append_known}
use Rattle.arena_mem.specs.declared.outside.Failed.{Failed}

-- the files by their names, both as bytes
abbrev pub NamedFiles : Type 0
NamedFiles = map.FinMap (slice_cmp nat_cmp) (List ℕ)

-- one more than before, or the end of what a u64 counts
abbrev pub Rose : ℕ → ℕ → Type 0
Rose before now = min (before + 1) (2 ^ 64 - 1) ≤ now

-- a count of faults never falls, and `Failed` is answered only where it rose
pub record HasCause {T : Type 0} (before now : ℕ) (result : Result T Failed) : Type 0 where
  pub never_falls : before ≤ now
  pub failed : OnErr result (Rose before now)

-- the file of that name is there, and all of it is left to be read
abbrev pub Opens : Option NamedFiles → List ℕ → Option (List ℕ) → Type 0
Opens None name left = ⊤
Opens (Some files) name left = IsSome (map.get files name) × (left ≡ map.get files name)

-- the blamed name: after a failed call the one that stood picked, else the one from before
abbrev pub Blames : {T : Type 0} → Result T Failed → Option (List ℕ) → Option (List ℕ) → Option (List ℕ) → Type 0
Blames result picked before now = OnErr result (now ≡ picked) × OnOk result (now ≡ before)

-- ---- what a file holds, where the files tell it
-- the content of the file of that name; nothing where the files don't tell, or there is no such file
abbrev pub content_of : Option NamedFiles → List ℕ → Option (List ℕ)
content_of files name = option_and_then (λ files. map.get files name) files

-- there is a file of that name, where the files tell which there are
abbrev pub IsThere : Option NamedFiles → List ℕ → Type 0
IsThere None name = ⊤
IsThere (Some files) name = IsSome (map.get files name)

-- ---- what a sink took, where it tells that
-- it took a front of the bytes, and not all of them
abbrev pub TookPart : Option (List ℕ) → Option (List ℕ) → List ℕ → Type 0
TookPart None now bytes = ⊤
TookPart (Some was) None bytes = ⊥
TookPart (Some was) (Some now) bytes = (count : ℕ) × (count < length bytes) × (now ≡ was ++ take count bytes)

-- it took no byte back
abbrev pub KeepsTaken : Option (List ℕ) → Option (List ℕ) → Type 0
KeepsTaken None now = ⊤
KeepsTaken (Some was) None = ⊥
KeepsTaken (Some was) (Some now) = length was ≤ length now

-- what it took, and what is gathered behind it, grow by these bytes
abbrev pub Gathers : Option (List ℕ) → List ℕ → Option (List ℕ) → List ℕ → List ℕ → Type 0
Gathers was before now gathered bytes = Appends (append_known was before) (append_known now gathered) bytes
