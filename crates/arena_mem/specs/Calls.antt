-- The calls of a value that fails where it was told to, and its faults.
use Rattle.std.specs.Prelude.{ℕ, ◌+◌, ◌-◌, ◌^◌, min, Bool, ◌==◌, if◌then◌else◌, List}
use Rattle.std.specs.List.{list_any}

-- the numbers of the calls that fail, the number of the next call, and how many calls failed
pub record CallCounts : Type 0 where
  pub failing : List ℕ
  pub next : ℕ
  pub faults : ℕ

-- one more, up to the end of what a u64 counts
abbrev pub one_more : ℕ → ℕ
one_more n = min (n + 1) (2 ^ 64 - 1)

-- the call of that number, counted from 0, is one of those that fail
abbrev pub fails_at : List ℕ → ℕ → Bool
fails_at failing number = list_any (λ n. n == number) failing

-- the next call is one of those that fail
abbrev pub fails_next : CallCounts → Bool
fails_next calls = fails_at calls.failing calls.next

-- the counts before the first call
abbrev pub no_calls : List ℕ → CallCounts
no_calls failing = record { failing = failing; next = 0; faults = 0 }

-- the counts after one more call, which failed or didn't
abbrev pub after_call : CallCounts → Bool → CallCounts
after_call calls failed =
    record { failing = calls.failing; next = one_more calls.next; faults = (if failed then one_more calls.faults else calls.faults) }
