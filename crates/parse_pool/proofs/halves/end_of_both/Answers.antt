use Rattle.std.proofs.Common.{subst, arith}
use Rattle.parse_pool.specs.Ends.{EndsAs}
use Rattle.parse_pool.proofs.Both.{done_end, bad_done, bad_first, bad_second, front_spent, back_spent}
use Rattle.parse_pool.proofs.halves.end_of_both.Goals as goal

pub returns-in-Done : goal.returns-in-Done
returns-in-Done c = λ ph first second one other. done_end ph first second c.args.other (subst (EndsAs ph first) c.in-Done.is one) other

pub returns-in_default : goal.returns-in_default
returns-in_default c = λ ph first second one other. front_spent ph first second c.in-BlocksSpent.region (subst (EndsAs ph first) c.in-BlocksSpent.is one)

pub returns-in-Done-other : goal.returns-in-Done-other
returns-in-Done-other c = λ ph first second one other. bad_done ph first second c.in-BadFrame.index c.in-BadFrame.fault (subst (EndsAs ph first) c.in-BadFrame.is one) (subst (EndsAs ph second) c.in-Done-other.is other)

pub returns-in-BlocksSpent-other : goal.returns-in-BlocksSpent-other
returns-in-BlocksSpent-other c = λ ph first second one other. back_spent ph first second c.in-BlocksSpent-other.region (subst (EndsAs ph second) c.in-BlocksSpent-other.is other)

pub returns-then-second-index : goal.returns-then-second-index
returns-then-second-index c = λ ph first second one other. bad_second ph first second c.in-BadFrame.index c.in-BadFrame-other.second c.in-BadFrame.fault c.in-BadFrame-other.its (omega (arith, c.if-second-index.true)) (subst (EndsAs ph first) c.in-BadFrame.is one) (subst (EndsAs ph second) c.in-BadFrame-other.is other)

pub returns-else-second-index : goal.returns-else-second-index
returns-else-second-index c = λ ph first second one other. bad_first ph first second c.in-BadFrame.index c.in-BadFrame-other.second c.in-BadFrame.fault c.in-BadFrame-other.its (omega (arith, c.if-second-index.false)) (subst (EndsAs ph first) c.in-BadFrame.is one) (subst (EndsAs ph second) c.in-BadFrame-other.is other)
