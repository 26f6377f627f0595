-- What the fields of a seat say beside its view.
use Rattle.std.specs.Prelude.{◌≡◌, ℕ, ◌-◌, ◌^◌, ◌<◌, ◌≤◌, ◌++◌}
use Rattle.std.specs.List.{range_with_len}
use Rattle.std.specs.List.Sorted.{IsStrictlyIncreasing}
use Rattle.life_ids.specs.declared.view.View.{View}
use Rattle.life_ids.specs.Batches.{ids_of, ids_but, first_left, greatest}

-- the numbers from `from` to `to` are what is left of the last batch
pub record IsRest (v : View) (from to quota : ℕ) : Type 0 where
  pub quota_is : v.quota ≡ quota
  pub few : quota ≤ 2 ^ 55
  pub in_order : from ≤ to
  pub short : to - from < 256
  pub last : ids_of v.taken ≡ ids_but (to - from) v.taken ++ range_with_len from (to - from)
  pub first : from < to → from ≡ first_left (to - from) v.taken
  pub ascending : IsStrictlyIncreasing (ids_but (to - from) v.taken)
  pub above : from < to → greatest (ids_but (to - from) v.taken) < from
