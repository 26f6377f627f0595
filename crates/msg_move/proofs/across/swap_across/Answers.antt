use Rattle.std.proofs.Common.{◌∙◌, ◌*◌, ap}
use Rattle.std.specs.FinMap as fin
use Rattle.msg_move.proofs.Crossing.{beside_fresh, changes_beside, fresh_record, swapped_now}
use Rattle.msg_move.proofs.Joining.{stays}
use Rattle.msg_merge.specs.Extents.{shape_units}
use Rattle.msg_move.proofs.across.swap_across.Goals as goal

pub copy-requires-in-Ok : goal.copy-requires-in-Ok
copy-requires-in-Ok g c =
    let M = g.M.Memory in
    let m = c.requires.one in
    let d = c.requires.two in
    record { from = (m.0, m.1, stays c.args.types.now (M.places c.args.a.now) (M.places c.copy.new.to_mem) (M.buffers c.args.a.now) (M.buffers c.copy.new.to_mem) c.args.x m.0 m.1 (c.copy.ensures.changes d.0 d.1 d.2).others m.2) }

pub swap_same-requires-clause-stand : goal.swap_same-requires-clause-stand
swap_same-requires-clause-stand g c =
    let M = g.M.Memory in
    let schema = c.args.types.now in
    let m = c.requires.one in
    let d = c.requires.two in
    let copied = c.in-Ok.ensures.copied d.0 d.1 d.2 in (
      m.0,
      m.1,
      d.0,
      copied.now,
      stays schema (M.places c.args.a.now) (M.places c.copy.new.to_mem) (M.buffers c.args.a.now) (M.buffers c.copy.new.to_mem) c.args.x m.0 m.1 (c.copy.ensures.changes d.0 d.1 d.2).others m.2,
      copied.stands,
      beside_fresh schema (M.places c.args.a.now) (M.buffers c.args.a.now) c.args.x m.0 m.1 copied.now m.2 copied.from,
    )

pub swap_same-requires-in-Ok-copy-clause-stand : goal.swap_same-requires-in-Ok-copy-clause-stand
swap_same-requires-in-Ok-copy-clause-stand g c =
    let M = g.M.Memory in
    let N = g.N.Memory in
    let schema = c.args.types.now in
    let m = c.requires.one in
    let d = c.requires.two in
    let there = stays schema (M.places c.args.a.now) (M.places c.copy.new.to_mem) (M.buffers c.args.a.now) (M.buffers c.copy.new.to_mem) c.args.x m.0 m.1 (c.copy.ensures.changes d.0 d.1 d.2).others m.2 in
    let copied = c.in-Ok-copy.ensures.copied m.0 m.1 there in (
      d.0,
      d.1,
      m.0,
      copied.now,
      stays schema (N.places c.args.b.now) (N.places c.copy-in-Ok.new.to_mem) (N.buffers c.args.b.now) (N.buffers c.copy-in-Ok.new.to_mem) c.args.y d.0 d.1 (c.copy-in-Ok.ensures.changes m.0 m.1 there).others d.2,
      copied.stands,
      beside_fresh schema (N.places c.args.b.now) (N.buffers c.args.b.now) c.args.y d.0 d.1 copied.now d.2 copied.from,
    )

pub returns-in-Ok-copy-clause-swapped : goal.returns-in-Ok-copy-clause-swapped
returns-in-Ok-copy-clause-swapped g c = λ t feet u own st st'.
    let M = g.M.Memory in
    let N = g.N.Memory in
    let schema = c.args.types.now in
    let a_copied = c.in-Ok.ensures.copied u own st' in
    let a_there = stays schema (M.places c.args.a.now) (M.places c.copy.new.to_mem) (M.buffers c.args.a.now) (M.buffers c.copy.new.to_mem) c.args.x t feet (c.copy.ensures.changes u own st').others st in
    let b_copied = c.in-Ok-copy.ensures.copied t feet a_there in
    let b_there = stays schema (N.places c.args.b.now) (N.places c.copy-in-Ok.new.to_mem) (N.buffers c.args.b.now) (N.buffers c.copy-in-Ok.new.to_mem) c.args.y u own (c.copy-in-Ok.ensures.changes t feet a_there).others st' in (
      swapped_now schema (M.places c.args.a.now) (M.buffers c.args.a.now) c.args.x t feet a_copied.now st a_copied.from (M.places c.copy.new.to_mem) (M.places c.swap_same.new.mem) (M.buffers c.copy.new.to_mem) (M.buffers c.swap_same.new.mem) c.in-Ok.there u a_copied.stands
          (c.swap_same.ensures.swapped t feet u a_copied.now a_there a_copied.stands (beside_fresh schema (M.places c.args.a.now) (M.buffers c.args.a.now) c.args.x t feet a_copied.now st a_copied.from)),
      swapped_now schema (N.places c.args.b.now) (N.buffers c.args.b.now) c.args.y u own b_copied.now st' b_copied.from (N.places c.copy-in-Ok.new.to_mem) (N.places c.swap_same-in-Ok-copy.new.mem) (N.buffers c.copy-in-Ok.new.to_mem) (N.buffers c.swap_same-in-Ok-copy.new.mem) c.in-Ok-copy.here t b_copied.stands
          (c.swap_same-in-Ok-copy.ensures.swapped u own t b_copied.now b_there b_copied.stands (beside_fresh schema (N.places c.args.b.now) (N.buffers c.args.b.now) c.args.y u own b_copied.now st' b_copied.from)),
    )

pub returns-in-Ok-copy-clause-two_space : goal.returns-in-Ok-copy-clause-two_space
returns-in-Ok-copy-clause-two_space g c = λ t feet st.
    let M = g.M.Memory in
    let d = c.requires.two in
    c.swap_same-in-Ok-copy.ensures.space ∙ c.in-Ok-copy.ensures.space t feet (stays c.args.types.now (M.places c.args.a.now) (M.places c.copy.new.to_mem) (M.buffers c.args.a.now) (M.buffers c.copy.new.to_mem) c.args.x t feet (c.copy.ensures.changes d.0 d.1 d.2).others st)

pub returns-in-Ok-copy-clause-two_kept : goal.returns-in-Ok-copy-clause-two_kept
returns-in-Ok-copy-clause-two_kept g c = λ t feet st.
    let M = g.M.Memory in
    let d = c.requires.two in
    ap fin.len c.swap_same-in-Ok-copy.ensures.buffers ∙ c.in-Ok-copy.ensures.kept t feet (stays c.args.types.now (M.places c.args.a.now) (M.places c.copy.new.to_mem) (M.buffers c.args.a.now) (M.buffers c.copy.new.to_mem) c.args.x t feet (c.copy.ensures.changes d.0 d.1 d.2).others st)

pub returns-in-Ok-copy-clause-one_changes : goal.returns-in-Ok-copy-clause-one_changes
returns-in-Ok-copy-clause-one_changes g c = λ u own st'.
    let M = g.M.Memory in
    changes_beside M.key M.places M.buffers M.blocks (4 * shape_units u) (4 * shape_units u) c.args.x.place c.in-Ok.there.place c.args.a.now c.copy.new.to_mem c.swap_same.new.mem (c.copy.ensures.changes u own st') c.swap_same.ensures.changes
    (fresh_record c.args.types.now (M.places c.args.a.now) (M.places c.copy.new.to_mem) (M.buffers c.args.a.now) (M.buffers c.copy.new.to_mem) c.in-Ok.there u (c.in-Ok.ensures.copied u own st'))

pub returns-in-Ok-copy-clause-two_changes : goal.returns-in-Ok-copy-clause-two_changes
returns-in-Ok-copy-clause-two_changes g c = λ t feet st.
    let M = g.M.Memory in
    let N = g.N.Memory in
    let d = c.requires.two in
    let there = stays c.args.types.now (M.places c.args.a.now) (M.places c.copy.new.to_mem) (M.buffers c.args.a.now) (M.buffers c.copy.new.to_mem) c.args.x t feet (c.copy.ensures.changes d.0 d.1 d.2).others st in
    changes_beside N.key N.places N.buffers N.blocks (4 * shape_units t) (4 * shape_units t) c.args.y.place c.in-Ok-copy.here.place c.args.b.now c.copy-in-Ok.new.to_mem c.swap_same-in-Ok-copy.new.mem (c.copy-in-Ok.ensures.changes t feet there) c.swap_same-in-Ok-copy.ensures.changes
    (fresh_record c.args.types.now (N.places c.args.b.now) (N.places c.copy-in-Ok.new.to_mem) (N.buffers c.args.b.now) (N.buffers c.copy-in-Ok.new.to_mem) c.in-Ok-copy.here t (c.in-Ok-copy.ensures.copied t feet there))

pub returns-in-Err-copy-clause-two_changes : goal.returns-in-Err-copy-clause-two_changes
returns-in-Err-copy-clause-two_changes g c = λ t feet st.
    let M = g.M.Memory in
    let d = c.requires.two in
    c.copy-in-Ok.ensures.changes t feet (stays c.args.types.now (M.places c.args.a.now) (M.places c.copy.new.to_mem) (M.buffers c.args.a.now) (M.buffers c.copy.new.to_mem) c.args.x t feet (c.copy.ensures.changes d.0 d.1 d.2).others st)

pub returns-in-Err-copy-clause-stand : goal.returns-in-Err-copy-clause-stand
returns-in-Err-copy-clause-stand g c = λ t feet u own st st'.
    let M = g.M.Memory in
    let N = g.N.Memory in
    let there = stays c.args.types.now (M.places c.args.a.now) (M.places c.copy.new.to_mem) (M.buffers c.args.a.now) (M.buffers c.copy.new.to_mem) c.args.x t feet (c.copy.ensures.changes u own st').others st in
    (there, stays c.args.types.now (N.places c.args.b.now) (N.places c.copy-in-Ok.new.to_mem) (N.buffers c.args.b.now) (N.buffers c.copy-in-Ok.new.to_mem) c.args.y u own (c.copy-in-Ok.ensures.changes t feet there).others st')

pub returns-in-Err-clause-stand : goal.returns-in-Err-clause-stand
returns-in-Err-clause-stand g c = λ t feet u own st st'.
    let M = g.M.Memory in
    (stays c.args.types.now (M.places c.args.a.now) (M.places c.copy.new.to_mem) (M.buffers c.args.a.now) (M.buffers c.copy.new.to_mem) c.args.x t feet (c.copy.ensures.changes u own st').others st, st')
