use Rattle.std.proofs.Common.{sym, subst, refl}
use Rattle.std.specs.Prelude.{IsSome}
use Rattle.dyn_message.proofs.Opening.{some_record}
use Rattle.dyn_message.proofs.Messages.{sound_of}
use Rattle.dyn_message.proofs.fields.record_is_there.Goals as goal

pub returns-clause-known : goal.returns-clause-known
returns-clause-known g c = (some_record c.args.types.now (g.M.Memory.places c.args.mem.now) (g.M.Memory.buffers c.args.mem.now) c.args.msg c.requires).type

pub returns-clause-live : goal.returns-clause-live
returns-clause-live g c = subst IsSome (sym (some_record c.args.types.now (g.M.Memory.places c.args.mem.now) (g.M.Memory.buffers c.args.mem.now) c.args.msg c.requires).there) refl

pub returns-clause-len : goal.returns-clause-len
returns-clause-len g c = (some_record c.args.types.now (g.M.Memory.places c.args.mem.now) (g.M.Memory.buffers c.args.mem.now) c.args.msg c.requires).len

pub returns-clause-sound : goal.returns-clause-sound
returns-clause-sound g c = sound_of c.args.types.now c.schema-schema.ensures.lawful c.args.msg.type_no (some_record c.args.types.now (g.M.Memory.places c.args.mem.now) (g.M.Memory.buffers c.args.mem.now) c.args.msg c.requires).type
