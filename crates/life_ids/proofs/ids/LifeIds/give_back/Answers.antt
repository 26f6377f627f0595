use Rattle.std.proofs.Common.{◌-◌, ℕ, ap, ◌∙◌, arith}
use Rattle.life_ids.specs.declared.view.View.{View}
use Rattle.life_ids.specs.Seats.{SeatState}
use Rattle.life_ids.specs.Moments.{IsRuled}
use Rattle.life_ids.proofs.Own.{same_table, same_total}
use Rattle.life_ids.proofs.Keeps.{may_join, may_look}
use Rattle.life_ids.proofs.Moments.{seen_of_seat}
use Rattle.life_ids.proofs.Apart.{held_apart, drawn_apart}
use Rattle.life_ids.proofs.ids.LifeIds.give_back.Goals as goal

pub join_seat-requires : goal.join_seat-requires
join_seat-requires c = (
  same_table _ _ _ _ _ _ c.requires.own.0 (ap (λ (s : SeatState). s.counter) c.seat.view_is) c.self.view_is,
  same_table _ _ _ _ _ _ c.requires.own.1 (ap (λ (s : SeatState). s.counter) c.other.view_is) c.self.view_is,
  c.other.invariant.1,
  omega arith,
  may_join _ _ _ _ _,
)

pub load-requires : goal.load-requires
load-requires c = (
  c.join_seat.ensures.0 ∙ same_table _ _ _ _ _ _ c.requires.own.0 (ap (λ (s : SeatState). s.counter) c.seat.view_is) c.self.view_is,
  omega arith,
  may_look _ _ _ _ (ap (λ m. m.0.total) c.join_seat.ensures.2 ∙ same_total _ _ _ _ _ _ c.requires.own.0 (ap (λ (s : SeatState). s.counter) c.seat.view_is) c.self.view_is),
)

pub returns-clause-apart : goal.returns-clause-apart
returns-clause-apart c =
    let joined_view = ap (λ m. m.0) c.join_seat.ensures.2 in
    let rest : ℕ = c.seat.inside.batch.end - c.seat.inside.batch.start in
    let other_rest : ℕ = c.other.inside.batch.end - c.other.inside.batch.start in
    rw (← c.seat.view_is, ← c.other.view_is) (drawn_apart c.seat.inside.seat.me.0 c.other.inside.seat.me.0 _ joined_view c.load.ensures.2.0.once rest other_rest)

pub returns-clause-held_apart : goal.returns-clause-held_apart
returns-clause-held_apart c =
    let joined_view = ap (λ m. m.0) c.join_seat.ensures.2 in
    rw (← c.seat.view_is, ← c.other.view_is) (held_apart c.seat.inside.seat.me.0 c.other.inside.seat.me.0 _ joined_view c.load.ensures.2.0.once)

pub returns-clause-moment : goal.returns-clause-moment
unfolding IsRuled
returns-clause-moment c =
    let look = c.load.ensures.2.0 in
    let same = ap (λ (v : View). v.quota) look.view in
    let both = ap (λ m. m.0.quota) c.join_seat.ensures.2 in
    let mine = c.seat.invariant.0.quota_is in
    let other = c.other.invariant.0.quota_is in seen_of_seat _ _ _ look.view (omega arith) look.moment
