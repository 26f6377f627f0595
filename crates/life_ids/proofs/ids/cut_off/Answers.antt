use Rattle.std.proofs.Common.{◌≤◌, ℕ, subst, arith}
use Rattle.life_ids.proofs.Keeps.{may_split}
use Rattle.life_ids.proofs.ids.cut_off.Goals as goal

pub split_seat-requires : goal.split_seat-requires
split_seat-requires g c = (
  c.requires.own.0,
  omega arith,
  may_split _ _ _ _ (subst (λ (n : ℕ). n ≤ c.args.seat.now.me.0.quota) c.requires.number c.requires.quota),
)
