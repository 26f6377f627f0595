-- Text that is gathered for a sink, and handed over where there is no room left for it.
use Rattle.std.specs.Prelude.{◌≡◌, ◌+◌, ◌-◌, ◌^◌, ◌≤◌, ℕ, List, ◌++◌, length, take, Option, None, Some, Result, OnOk, OnErr, min, ⊤}
use Rattle.arena_mem.specs.declared.outside.Failed.{Failed}
use Rattle.arena_mem.specs.Outside.{HasCause, TookPart, KeepsTaken, Gathers}
use Rattle.pb_write.specs.declared.gathered.Gathered.{Gathered}

-- the bytes that are gathered
abbrev pub gathered_in : Gathered → List ℕ
gathered_in out = take out.filled out.bytes

-- a number, up to the end of what a u64 counts
abbrev pub capped : ℕ → ℕ
capped n = min n (2 ^ 64 - 1)

-- a count of the bytes that a sink took rose by as many as the sink took meanwhile, up to the end of what a u64 counts
abbrev pub Counts : Option (List ℕ) → Option (List ℕ) → ℕ → ℕ → Type 0
Counts None now before after = ⊤
Counts (Some was) None before after = ⊥
Counts (Some was) (Some now) before after = (length was ≤ length now) × (capped after ≡ capped (before + (length now - length was)))

-- what the sink took and what is gathered grew by the text; or else the sink took a front of both, and not all
pub record Writes (was : Option (List ℕ)) (before : List ℕ) (now : Option (List ℕ)) (after : List ℕ) (result : Result (Unit {0}) Failed) (text : List ℕ) : Type 0 where
  pub ok : OnOk result (Gathers was before now after text)
  pub err : OnErr result (TookPart was now (before ++ text))

-- the sink took no byte back, and failed only where its count rose
pub record Sends (was now : Option (List ℕ)) (faults_before faults_now : ℕ) (result : Result (Unit {0}) Failed) : Type 0 where
  pub longer : KeepsTaken was now
  pub cause : HasCause faults_before faults_now result
