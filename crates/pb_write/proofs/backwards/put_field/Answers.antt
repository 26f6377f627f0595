use Rattle.std.proofs.Common.{[], sym, ◌∙◌}
use Rattle.std.specs.List.{concat}
use Rattle.pb_schema.specs.Text.{held_text}
use Rattle.pb_schema.specs.Tree.{held_map}
use Rattle.pb_write.proofs.Gaining.{gains_nothing, gains_same}
use Rattle.pb_write.proofs.Unset.{unset_text}
use Rattle.pb_write.proofs.backwards.put_field.Goals as goal

pub returns-then-not-holds_some : goal.returns-then-not-holds_some
returns-then-not-holds_some g c = λ held own stand.
    gains_same (g.T.Target.holds c.args.target.now) (g.T.Target.holds c.args.target.now) [] (held_text c.args.types.now c.args.entry.now.field (held_map concat held))
    (sym (unset_text c.args.types.now c.schema-schema.ensures.lawful (g.M.Memory.places c.args.mem.now) (g.M.Memory.buffers c.args.mem.now) c.args.entry.now c.args.bytes.now c.requires.within held own stand (sym c.holds_some.ensures ∙ c.if-not-holds_some.true)))
    (gains_nothing (g.T.Target.holds c.args.target.now))
