use Rattle.life_ids.proofs.Rests.{steps_rest}
use Rattle.life_ids.proofs.seat.IdSeat.next_of_batch.Goals as goal

pub invariant_of-self : goal.invariant_of-self
invariant_of-self c = ((steps_rest _ _ _ _ _ c.self.invariant.0 c.next.ensures.steps).0, c.self.invariant.1)

pub returns-clause-drawn : goal.returns-clause-drawn
returns-clause-drawn c = rw (← c.self.view_is) ((steps_rest _ _ _ _ _ c.self.invariant.0 c.next.ensures.steps).1)

pub returns-clause-ascending : goal.returns-clause-ascending
returns-clause-ascending c = (steps_rest _ _ _ _ _ c.self.invariant.0 c.next.ensures.steps).0.ascending
