use Rattle.std.proofs.Common.{sym, subst, ap, arith, length}
use Rattle.pb_schema.specs.Lawful.{NumbersAscend, FieldsAllowed}
use Rattle.msg_layout.proofs.FarFields.{are_far}
use Rattle.dyn_message.proofs.hand_made.far_fields.Goals as goal

pub returns-clause-numbers : goal.returns-clause-numbers
returns-clause-numbers c = subst (NumbersAscend 1) (sym c.loop-place.invariant) (are_far c.loop-place.place c.loop-place.auto.place-end).numbers

pub returns-clause-allowed : goal.returns-clause-allowed
returns-clause-allowed c = subst (FieldsAllowed 1 0) (sym c.loop-place.invariant) (are_far c.loop-place.place c.loop-place.auto.place-end).allowed

pub returns-clause-count : goal.returns-clause-count
returns-clause-count c = omega (arith, ap (λ fields. length fields) c.loop-place.invariant, (are_far c.loop-place.place c.loop-place.auto.place-end).count, c.loop-place-test.false, c.loop-place.auto.place-end)
