-- The rule of the counter, which each step of each seat keeps.
use Rattle.std.specs.Prelude.{◌≡◌, ℕ, ◌+◌, ◌-◌, ◌*◌, ◌^◌, ◌≤◌, List, [], ◌∷◌, ◌++◌, length, min}
use Rattle.std.specs.List.{sum_by}
use Rattle.std.specs.List.Sorted.{IsStrictlyIncreasing}
use mathlib.Core.Option.{some}
use lib.ListN.{get_elem?}
use Rattle.life_ids.specs.declared.view.View.{View}
use Rattle.life_ids.specs.Batches.{times}

abbrev pub view_of : ℕ → List ℕ → List ℕ → ℕ → View
view_of total taken given quota = record { total = total; taken = taken; given = given; quota = quota }

-- how often an id stands in the batches of a view
abbrev pub times_in : ℕ → View → ℕ
times_in id v = sum_by (times id) (v.taken ++ v.given)

-- how many batches a view has, and how many it has or may still take
abbrev pub batches : View → ℕ
batches v = length v.taken + length v.given

abbrev pub share : View → ℕ
share v = v.quota + batches v

-- A counter that was made for `total` batches. Its word is the first id of the next batch
pub record IdRule (total : ℕ) (words : List ℕ) (views : List View) : Type 0 where
  pub next : ℕ
  pub word : words ≡ next ∷ []
  -- the batches before it are those of the views, and with all quotas they are as many as it was made for
  pub counted : next ≡ 1 + 256 * sum_by batches views
  pub shared : sum_by share views ≡ total
  pub few : total ≤ 2 ^ 55
  -- over the batches of all views, an id from 1 on that is below it stands once at most, and no other number does
  pub once : (id : ℕ) → sum_by (times_in id) views ≤ min 1 (min id (next - id))
  -- the batches that a seat took ascend
  pub ascending : (port : ℕ) (v : View) → get_elem? views port ≡ some v → IsStrictlyIncreasing v.taken
