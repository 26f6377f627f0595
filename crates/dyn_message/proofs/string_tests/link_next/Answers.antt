use Rattle.std.proofs.Common.{[], ◌∷◌}
use Rattle.pb_schema.specs.Empty.{empty_with}
use Rattle.pb_schema.specs.Fits.{fields_of}
use Rattle.dyn_message.specs.Feet.{InPlace}
use Rattle.dyn_message.proofs.Linking.{grown_stands, fresh_separate}
use Rattle.dyn_message.proofs.string_tests.link_next.Goals as goal

pub link_sub-requires-clause-stand : goal.link_sub-requires-clause-stand
link_sub-requires-clause-stand g c =
    let M = g.M.Memory in
    let schema = c.args.types.now in
    let m = c.requires in
    let child = c.in_ok-child.child in
    let made = c.in_ok-child.ensures.made in (
      m.0,
      m.1,
      empty_with [] (fields_of schema c.args.msg.type_no),
      InPlace child.place ∷ [],
      grown_stands schema (M.places c.args.mem.now) (M.places c.create.new.mem) (M.buffers c.args.mem.now) (M.buffers c.create.new.mem) c.args.msg m.0 m.1 c.create.ensures.grows.rest c.create.ensures.grows.buffers m.2,
      made.stands,
      fresh_separate schema (M.places c.args.mem.now) (M.buffers c.args.mem.now) c.args.msg m.0 m.1 child.place made.fresh m.2,
    )

pub returns : goal.returns
returns g c =
    let M = g.M.Memory in
    let schema = c.args.types.now in
    let m = c.requires in
    let child = c.in_ok-child.child in
    let made = c.in_ok-child.ensures.made in
    let linked = c.link_sub.ensures.linked m.0 m.1 (empty_with [] (fields_of schema c.args.msg.type_no)) (InPlace child.place ∷ [])
    (grown_stands schema (M.places c.args.mem.now) (M.places c.create.new.mem) (M.buffers c.args.mem.now) (M.buffers c.create.new.mem) c.args.msg m.0 m.1 c.create.ensures.grows.rest c.create.ensures.grows.buffers m.2)
    made.stands
    (fresh_separate schema (M.places c.args.mem.now) (M.buffers c.args.mem.now) c.args.msg m.0 m.1 child.place made.fresh m.2) in
    (_, linked.parent.now, linked.parent.stands)
