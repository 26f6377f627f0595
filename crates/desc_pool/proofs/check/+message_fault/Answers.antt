use Rattle.std.proofs.Common.{◌∙◌, sym, ap, arith}
use Rattle.std.proofs.lemmas.List.{drop-take}
use Rattle.std.specs.Str.{is_utf8}
use Rattle.pb_schema.specs.Reads.{fault_read}
use Rattle.desc_pool.proofs.Checking.{step_bad, step_anything, step_text, step_no_text, step_too_deep, step_nested, step_nested_bad, walk_over}
use Rattle.desc_pool.specs.Descriptors.{descriptor_schema, fields_read}
use Rattle.desc_pool.proofs.check.+message_fault.Goals as goal

pub returns-in-Err : goal.returns-in-Err
returns-in-Err t c =
    sym (ap fault_read (sym c.loop-at.invariant.same ∙ step_bad c.args.left c.args.descriptor c.args.bytes.now c.loop-at.at c.in-Err.fault c.requires.left c.loop-at-test.true c.in-Err.ensures.exact))

pub returns-then-not-is_text : goal.returns-then-not-is_text
returns-then-not-is_text t c =
    sym (ap fault_read (sym c.loop-at.invariant.same ∙ step_no_text c.args.left c.args.descriptor c.args.bytes.now c.loop-at.at c.in-Ok.record c.requires.left c.loop-at-test.true c.in-Ok.ensures.exact c.in-Text.ensures
    (sym (c.is_text.ensures ∙ ap is_utf8 c.payload_of.ensures.value) ∙ c.if-not-is_text.true)))

pub returns-then-left-eq0 : goal.returns-then-left-eq0
returns-then-left-eq0 t c =
    sym (ap fault_read (sym c.loop-at.invariant.same ∙ step_too_deep c.args.left c.args.descriptor c.in-Message.inner c.args.bytes.now c.loop-at.at c.in-Ok.record (omega (arith, c.if-left-eq0.true)) c.loop-at-test.true c.in-Ok.ensures.exact c.in-Message.ensures))

pub returns-in-Some : goal.returns-in-Some
returns-in-Some t c =
    sym (ap fault_read (sym c.loop-at.invariant.same ∙ step_nested_bad c.args.left c.args.descriptor c.in-Message.inner c.args.bytes.now c.loop-at.at c.in-Ok.record c.in-Some.fault (omega (arith, c.if-left-eq0.false)) c.requires.left c.loop-at-test.true c.in-Ok.ensures.exact c.in-Message.ensures
    (drop-take c.in-Ok.record.payload c.in-Ok.record.payload_len c.args.bytes.now) (sym c.in-Some.ensures)))

pub loop-at-preserved-in-Anything : goal.loop-at-preserved-in-Anything
loop-at-preserved-in-Anything t c = record {
  within = c.in-Ok.ensures.bound.2;
  same = sym (step_anything c.args.left c.args.descriptor c.args.bytes.now c.loop-at.at c.in-Ok.record c.requires.left c.in-Ok.ensures.bound.1 c.in-Ok.ensures.bound.2 c.in-Ok.ensures.exact c.in-Anything.ensures) ∙ c.loop-at.invariant.same;
}

pub loop-at-preserved-else-not-is_text : goal.loop-at-preserved-else-not-is_text
loop-at-preserved-else-not-is_text t c = record {
  within = c.in-Ok.ensures.bound.2;
  same = sym (step_text c.args.left c.args.descriptor c.args.bytes.now c.loop-at.at c.in-Ok.record c.requires.left c.in-Ok.ensures.bound.1 c.in-Ok.ensures.bound.2 c.in-Ok.ensures.exact c.in-Text.ensures (sym (c.is_text.ensures ∙ ap is_utf8 c.payload_of.ensures.value) ∙ c.if-not-is_text.false)) ∙ c.loop-at.invariant.same;
}

pub loop-at-preserved : goal.loop-at-preserved
loop-at-preserved t c = record {
  within = c.in-Ok.ensures.bound.2;
  same = sym (step_nested c.args.left c.args.descriptor c.in-Message.inner c.args.bytes.now c.loop-at.at c.in-Ok.record (omega (arith, c.if-left-eq0.false)) c.requires.left c.in-Ok.ensures.bound.1 c.in-Ok.ensures.bound.2 c.in-Ok.ensures.exact c.in-Message.ensures
      (drop-take c.in-Ok.record.payload c.in-Ok.record.payload_len c.args.bytes.now) (sym c.in-None.ensures)) ∙ c.loop-at.invariant.same;
}

pub returns : goal.returns
returns t c =
    sym (ap fault_read (sym c.loop-at.invariant.same ∙ walk_over descriptor_schema c.args.left (fields_read c.args.descriptor) c.args.bytes.now c.loop-at.at (omega (arith, c.loop-at-test.false))))
