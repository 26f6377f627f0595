use Rattle.std.proofs.Common.{◌≡◌, ◌-◌, ◌*◌, ◌++◌, suc, [], sym, ap, ◌∙◌, subst, append_assoc, arith}
use Rattle.std.specs.List.{concat}
use Rattle.pb_schema.specs.Fitted.{IsPatternOf}
use Rattle.pb_schema.specs.Kinds.{value_type_of, slot_of}
use Rattle.pb_schema.specs.Text.{spelled_text, value_text, values_text}
use Rattle.pb_schema.specs.Tree.{value_map, values_map}
use Rattle.dyn_message.specs.Slots.{part}
use Rattle.pb_write.specs.Puts.{front_of}
use Rattle.pb_write.proofs.Gaining.{gains_nothing, gains_same, gains_two}
use Rattle.pb_write.proofs.Lists.{value_of}
use Rattle.pb_write.proofs.Parts.{values_drop, value_text_at, values_end}
use Rattle.pb_write.proofs.Values.{number_value}
use Rattle.pb_write.proofs.number.put_numbers.Goals as goal

pub numbers-init : goal.numbers-init
numbers-init g c = record {
  within = omega arith;
  gained = λ schema places buffers values feet stand counted.
      gains_same (g.T.Target.holds c.args.target.now) (g.T.Target.holds c.args.target.now) [] (values_text schema c.args.field (front_of c.args.packed c.args.field) (values_map concat (values_drop c.args.count values)))
      (ap (λ vs. values_text schema c.args.field (front_of c.args.packed c.args.field) (values_map concat vs)) (sym (ap (λ n. values_drop n values) (sym counted) ∙ values_end values))) (gains_nothing (g.T.Target.holds c.args.target.now));
}

pub put_short-requires-clause-pattern : goal.put_short-requires-clause-pattern
put_short-requires-clause-pattern g c =
    let stand = c.requires.stand in
    let at = value_of stand.0 stand.1 stand.2 (value_type_of c.args.field.kind) c.args.elements.now stand.3 stand.4 c.numbers.i c.args.count c.single_bytes-size.result stand.5 stand.6 c.numbers-test.true c.numbers.invariant.within c.single_bytes-size.ensures in
    let v = number_value stand.0 stand.1 stand.2 c.args.field (part ((c.numbers.i - 1) * c.single_bytes-size.result) (slot_of (value_type_of c.args.field.kind)) c.args.elements.now) at.0 at.1 c.requires.kind at.3 in
    subst (IsPatternOf (value_type_of c.args.field.kind)) (sym c.number_at.ensures) v.pattern

pub numbers-preserved : goal.numbers-preserved
numbers-preserved g c = record {
  within = omega (arith, c.numbers.invariant.within);
  gained = λ schema places buffers values feet stand counted.
      let some = c.numbers-test.true in
      let at = value_of schema places buffers (value_type_of c.args.field.kind) c.args.elements.now values feet c.numbers.i c.args.count c.single_bytes-size.result stand counted some c.numbers.invariant.within c.single_bytes-size.ensures in
      let v = number_value schema places buffers c.args.field (part ((c.numbers.i - 1) * c.single_bytes-size.result) (slot_of (value_type_of c.args.field.kind)) c.args.elements.now) at.0 at.1 c.requires.kind at.3 in
      let front = front_of c.args.packed c.args.field in
      let own = value_text schema c.args.field (value_map concat at.0) in
      let next : suc (c.numbers.i - 1) ≡ c.numbers.i = omega (arith, some) in
      let A = g.T.Target.holds c.args.target.now in let B = g.T.Target.holds c.numbers.target in let C = g.T.Target.holds c.put_short.new.target in let D = g.T.Target.holds c.put_front.new.target in
      let rest = values_text schema c.args.field front (values_map concat (values_drop c.numbers.i values)) in
      gains_same A D (front ++ (own ++ rest)) (values_text schema c.args.field front (values_map concat (values_drop (c.numbers.i - 1) values)))
      (sym (value_text_at schema c.args.field front values (c.numbers.i - 1) at.0 at.2 ∙ ap (λ n. (front ++ own) ++ values_text schema c.args.field front (values_map concat (values_drop n values))) next ∙ append_assoc front own rest))
      (gains_two A C D (own ++ rest) front
      (gains_two A B C rest own (c.numbers.invariant.gained schema places buffers values feet stand counted)
      (gains_same B C (spelled_text (value_type_of c.args.field.kind) c.number_at.result) own (ap (spelled_text (value_type_of c.args.field.kind)) c.number_at.ensures ∙ sym v.text) c.in_ok-put_short.ensures))
      c.in_ok-put_front.ensures);
}

pub returns : goal.returns
returns g c = λ schema places buffers values feet stand counted.
    let none : c.numbers.i ≡ 0 = omega (arith, c.numbers-test.false) in
    gains_same (g.T.Target.holds c.args.target.now) (g.T.Target.holds c.numbers.target) (values_text schema c.args.field (front_of c.args.packed c.args.field) (values_map concat (values_drop c.numbers.i values))) (values_text schema c.args.field (front_of c.args.packed c.args.field) (values_map concat values))
    (ap (λ n. values_text schema c.args.field (front_of c.args.packed c.args.field) (values_map concat (values_drop n values))) none) (c.numbers.invariant.gained schema places buffers values feet stand counted)
