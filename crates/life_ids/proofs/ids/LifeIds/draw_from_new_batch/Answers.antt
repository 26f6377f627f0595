use Rattle.std.proofs.Common.{◌<◌, ℕ, ap, sym, ◌∙◌, subst, arith}
use Rattle.life_ids.specs.Seats.{SeatState, IsFresh}
use Rattle.life_ids.specs.Moments.{TookBatch}
use Rattle.life_ids.proofs.Own.{same_table, same_total}
use Rattle.life_ids.proofs.Keeps.{may_take}
use Rattle.life_ids.proofs.Apart.{taken_apart}
use Rattle.life_ids.proofs.Rests.{from_new_batch}
use Rattle.life_ids.proofs.Moments.{taken_of_seats}
use Rattle.life_ids.proofs.ids.LifeIds.draw_from_new_batch.Goals as goal

pub fetch_add-start-requires : goal.fetch_add-start-requires
fetch_add-start-requires c =
    let seat_is = ap (λ (s : SeatState). s.counter) c.seat.view_is in (
      same_table _ _ _ _ _ _ c.requires.own seat_is c.self.view_is,
      omega arith,
      may_take _ _ _ _ (same_total _ _ _ _ _ _ c.requires.own seat_is c.self.view_is)
          (subst (λ (n : ℕ). 0 < n) (sym (c.seat.invariant.0.quota_is ∙ ap (λ (s : SeatState). s.quota) c.seat.view_is)) c.requires.quota),
    )

pub invariant_of-seat : goal.invariant_of-seat
invariant_of-seat c =
    let new = from_new_batch _ _ _ _ _ _ _ _ c.seat.invariant.0 (ap (λ (s : SeatState). s.rest) c.seat.view_is) (ap (λ (s : SeatState). s.quota) c.seat.view_is)
    c.requires.used_up c.requires.quota c.fetch_add-start.ensures.2.0 in
    (new.0, c.fetch_add-start.ensures.2.1 ∙ c.seat.invariant.1)

pub returns-clause-drawn : goal.returns-clause-drawn
returns-clause-drawn c =
    let new = from_new_batch _ _ _ _ _ _ _ _ c.seat.invariant.0 (ap (λ (s : SeatState). s.rest) c.seat.view_is) (ap (λ (s : SeatState). s.quota) c.seat.view_is)
    c.requires.used_up c.requires.quota c.fetch_add-start.ensures.2.0 in
    rw (← c.seat.view_is) new.1

pub returns-clause-ascending : goal.returns-clause-ascending
returns-clause-ascending c =
    let new = from_new_batch _ _ _ _ _ _ _ _ c.seat.invariant.0 (ap (λ (s : SeatState). s.rest) c.seat.view_is) (ap (λ (s : SeatState). s.quota) c.seat.view_is)
    c.requires.used_up c.requires.quota c.fetch_add-start.ensures.2.0 in
    new.0.ascending

pub returns-clause-fresh : goal.returns-clause-fresh
unfolding IsFresh
returns-clause-fresh c = rw (← c.seat.view_is) (taken_apart _ _ _ c.fetch_add-start.ensures.2.0)

pub returns-clause-moment : goal.returns-clause-moment
unfolding TookBatch
returns-clause-moment c =
    let new = from_new_batch _ _ _ _ _ _ _ _ c.seat.invariant.0 (ap (λ (s : SeatState). s.rest) c.seat.view_is) (ap (λ (s : SeatState). s.quota) c.seat.view_is)
    c.requires.used_up c.requires.quota c.fetch_add-start.ensures.2.0 in
    rw (← c.seat.view_is) (taken_of_seats _ _ _ _ _ c.seat.invariant.0.quota_is new.0.quota_is c.fetch_add-start.ensures.2.0.moments)
