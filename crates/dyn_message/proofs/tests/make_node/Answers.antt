use Rattle.std.proofs.Common.{refl}
use Rattle.std.proofs.lemmas.Result.{IfOk-weaker}
use Rattle.pb_schema.specs.Tree.{Shape}
use Rattle.dyn_message.specs.Feet.{Foot}
use Rattle.std.specs.Prelude.{List}
use Rattle.dyn_message.specs.Stands.{Stands}
use Rattle.dyn_message.specs.Links.{HasMadeSub}
use Rattle.dyn_message.specs.Fields.{IsMessageIn}
use Rattle.dyn_message.proofs.NodeFields.{node_has}
use Rattle.dyn_message.proofs.tests.make_node.Goals as goal

pub make_sub-requires-clause-field : goal.make_sub-requires-clause-field
make_sub-requires-clause-field g c = node_has _ _ c.args.types.now c.args.msg.type_no 8 c.requires.schema c.requires.node (record { field = _; found = refl; card = tt; type = tt })

pub returns : goal.returns
returns g c =
    let M = g.M.Memory in
    let m = c.requires.message in
    let schema = c.args.types.now in
    IfOk-weaker
    c.make_sub.result
    (λ child. (t : Shape) (feet : List Foot) → Stands schema (M.places c.args.mem.now) (M.buffers c.args.mem.now) c.args.msg t feet → HasMadeSub schema (M.places c.args.mem.now) (M.buffers c.args.mem.now) (M.places c.make_sub.new.mem) (M.buffers c.make_sub.new.mem) c.args.msg t feet 8 child)
    (λ child. IsMessageIn schema (M.places c.make_sub.new.mem) (M.buffers c.make_sub.new.mem) c.args.msg)
    (λ child made. let now = made m.0 m.1 m.2 in (_, now.parent.now, now.parent.stands))
    c.make_sub.ensures.made
