use Rattle.std.proofs.Common.{arith}
use Rattle.msg_merge.proofs.Chain.{stays_grown, apart_from_fresh, links, one_deeper, none_deep}
use Rattle.msg_merge.proofs.tests.chain.Goals as goal

pub levels-init : goal.levels-init
levels-init g c =
    let made = c.in_ok-top.ensures.made in
    record {
      within = omega arith;
      node = made.type;
      stands = (_, _, made.stands, none_deep c.args.types.now c.requires.schema);
    }

pub link_sub-requires-clause-stand : goal.link_sub-requires-clause-stand
link_sub-requires-clause-stand g c =
    let made = c.in_ok-parent.ensures.made in
    let grows = c.in_ok-parent.ensures.grows in
    let s = c.levels.invariant.stands in (
      _,
      _,
      s.0,
      s.1,
      made.stands,
      stays_grown c.args.types.now (g.M.Memory.places c.levels.mem) (g.M.Memory.buffers c.levels.mem) c.levels.top s.0 s.1 s.2 _ _ grows.rest grows.buffers,
      apart_from_fresh c.args.types.now (g.M.Memory.places c.levels.mem) (g.M.Memory.buffers c.levels.mem) c.levels.top s.0 s.1 s.2 c.in_ok-parent.parent.place made.fresh,
    )

pub link_sub-requires-clause-field : goal.link_sub-requires-clause-field
link_sub-requires-clause-field g c = links c.args.types.now c.in_ok-parent.parent.type_no c.levels.top.type_no c.requires.schema c.in_ok-parent.ensures.made.type c.levels.invariant.node

pub levels-preserved : goal.levels-preserved
levels-preserved g c =
    let made = c.in_ok-parent.ensures.made in
    let grows = c.in_ok-parent.ensures.grows in
    let s = c.levels.invariant.stands in
    let less = c.levels-test.true in
    let linked = c.link_sub.ensures.linked _ _ s.0 s.1 made.stands (stays_grown c.args.types.now (g.M.Memory.places c.levels.mem) (g.M.Memory.buffers c.levels.mem) c.levels.top s.0 s.1 s.2 _ _ grows.rest grows.buffers)
    (apart_from_fresh c.args.types.now (g.M.Memory.places c.levels.mem) (g.M.Memory.buffers c.levels.mem) c.levels.top s.0 s.1 s.2 c.in_ok-parent.parent.place made.fresh) in
    let deep = one_deeper c.args.types.now c.in_ok-parent.parent.type_no c.levels.i s.0 c.requires.schema made.type s.3 in
    record {
      within = omega (arith, less);
      node = made.type;
      stands = (_, linked.parent.now, linked.parent.stands, omega (arith, deep));
    }

pub returns : goal.returns
returns g c =
    let s = c.levels.invariant.stands in let within = c.levels.invariant.within in let deep = s.3 in
    (s.0, s.1, s.2, omega (arith, deep, within))
