-- A seat of a counter, and the fields of both.
use Rattle.std.proofs.Common.{◌≡◌, ℕ, ap, sym, ◌∙◌}
use Rattle.atomic_table.specs.Seated.{TableId}
use Rattle.life_ids.specs.Seats.{Counter}

module _ (a b : Counter) (seat table : TableId) (seat_total total : ℕ) (own : a ≡ b) (seat_is : record { table = seat; total = seat_total } ≡ a) (counter_is : record { table = table; total = total } ≡ b) where
  pub same_table : seat ≡ table
  same_table = ap (λ (c : Counter). c.table) (seat_is ∙ (own ∙ sym counter_is))

  pub same_total : seat_total ≡ total
  same_total = ap (λ (c : Counter). c.total) (seat_is ∙ (own ∙ sym counter_is))
