use Rattle.std.proofs.Common.{subst, sym, refl, arith, ◌∙◌, ap}
use Rattle.std.specs.List.{Contains}
use Rattle.life_ids.specs.Batches.{batch}
use Rattle.life_ids.specs.Seats.{SeatState, IsFresh, ids_held}
use Rattle.life_ids.proofs.Apart.{gift_held}
use Rattle.life_ids.proofs.tests.draw_after_gift.Goals as goal

pub returns-clause-new : goal.returns-clause-new
unfolding batch IsFresh
returns-clause-new c mine =
    c.in-Ok.ensures.fresh (ap (λ (s : SeatState). s.rest) c.give_back.ensures.added ∙ c.requires.used_up) c.in-Ok.id (0, omega arith, refl)
    (subst (λ (s : SeatState). Contains (ids_held s) c.in-Ok.id) (sym c.give_back.ensures.added) (gift_held _ _ _ _ _ _ mine))
