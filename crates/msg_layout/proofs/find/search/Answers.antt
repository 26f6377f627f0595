use Rattle.msg_layout.proofs.FindLaws.{past_end_entry, less_next, greater_next, found_ascending, none_left}
use Rattle.std.proofs.Common.{◌+◌, ◌-◌, ◌/◌, arith}
use Rattle.msg_layout.proofs.find.search.Goals as goal

pub returns-then-entry-number : goal.returns-then-entry-number
returns-then-entry-number c =
    found_ascending c.args.entries.now c.requires (c.loop-low.low + (c.loop-low.high - c.loop-low.low) / 2) _ c.args.number (omega arith) c.if-entry-number.true

pub loop-low-preserved-then-entry-number-2 : goal.loop-low-preserved-then-entry-number-2
loop-low-preserved-then-entry-number-2 c = record {
  order = omega arith;
  within = c.loop-low.invariant.within;
  less = less_next c.args.entries.now c.requires (c.loop-low.low + (c.loop-low.high - c.loop-low.low) / 2) _ c.args.number (omega arith) c.if-entry-number-2.true;
  greater = c.loop-low.invariant.greater;
}

pub loop-low-preserved : goal.loop-low-preserved
loop-low-preserved c = record {
  order = omega arith;
  within = omega arith;
  less = c.loop-low.invariant.less;
  greater = greater_next c.args.entries.now c.requires (c.loop-low.low + (c.loop-low.high - c.loop-low.low) / 2) past_end_entry c.args.number (omega arith) (omega arith);
}

pub returns : goal.returns
returns c = none_left c.args.entries.now c.args.number c.loop-low.low c.loop-low.high c.loop-low-test.false c.loop-low.invariant.less c.loop-low.invariant.greater
