use Rattle.std.proofs.Common.{arith, ap, sym, ◌≢◌}
use Rattle.atomic_table.proofs.Lists.{at_index}
use Rattle.arena_list.proofs.Calls.Searches.{and_here, and_all, entry_first, entry_absent, hand_linked, hand_spare, hand_none}
use Rattle.arena_list.proofs.make.slot_for.Goals as goal

pub returns-then-entry-caller : goal.returns-then-entry-caller
returns-then-entry-caller g c = let xs = c.args.linked.now in let e = c.entry-item.result in let at = at_index xs _ e c.loop-entry-test.true c.entry-item.is in
    let is = hand_linked xs c.args.spare.now c.args.caller e (entry_first xs c.args.caller _ e c.loop-entry.invariant at c.if-entry-caller.true) in (ap (λ h. h.slot) (sym is), ap (λ h. h.linked) (sym is))

pub loop-entry-preserved : goal.loop-entry-preserved
loop-entry-preserved g c = and_here (λ e. e.caller ≢ c.args.caller) c.args.linked.now _ c.entry-item.result c.loop-entry-test.true c.entry-item.is c.loop-entry.invariant c.if-entry-caller.false

pub loop-other-init : goal.loop-other-init
loop-other-init g c = (and_all (λ e. e.caller ≢ c.args.caller) c.args.linked.now _ c.loop-entry-test.false c.loop-entry.invariant, λ k e low. absurd (omega arith))

pub returns-then-other-caller : goal.returns-then-other-caller
returns-then-other-caller g c = let xs = c.args.linked.now in let ys = c.args.spare.now in let e = c.other-item.result in let at = at_index ys _ e c.loop-other-test.true c.other-item.is in
    let is = hand_spare xs ys c.args.caller e (entry_absent xs c.args.caller c.loop-other.invariant.0) (entry_first ys c.args.caller _ e c.loop-other.invariant.1 at c.if-other-caller.true) in (ap (λ h. h.slot) (sym is), ap (λ h. h.linked) (sym is))

pub loop-other-preserved : goal.loop-other-preserved
loop-other-preserved g c = (c.loop-other.invariant.0, and_here (λ e. e.caller ≢ c.args.caller) c.args.spare.now _ c.other-item.result c.loop-other-test.true c.other-item.is c.loop-other.invariant.1 c.if-other-caller.false)

pub returns : goal.returns
returns g c = let xs = c.args.linked.now in let ys = c.args.spare.now in
    let is = hand_none xs ys c.args.caller (entry_absent xs c.args.caller c.loop-other.invariant.0) (entry_absent ys c.args.caller (and_all (λ e. e.caller ≢ c.args.caller) ys _ c.loop-other-test.false c.loop-other.invariant.1)) in
    (ap (λ h. h.slot) (sym is), ap (λ h. h.linked) (sym is))
