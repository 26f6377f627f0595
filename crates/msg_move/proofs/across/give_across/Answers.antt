use Rattle.pb_schema.specs.HeldAt.{with_held}
use Rattle.pb_schema.specs.Tree.{One, Sub}
use Rattle.msg_move.proofs.Crossing.{fresh_beside, linked_now}
use Rattle.msg_move.proofs.Joining.{stays}
use Rattle.msg_move.proofs.across.give_across.Goals as goal

pub link_sub-requires-clause-stand : goal.link_sub-requires-clause-stand
link_sub-requires-clause-stand g c =
    let M = g.M.Memory in
    let schema = c.args.types.now in
    let m = c.requires.message in
    let d = c.requires.child in
    let copied = c.in-Ok.ensures.copied d.0 d.1 d.2 in
    let grown = c.copy.ensures.changes d.0 d.1 d.2 in (
      m.0,
      m.1,
      d.0,
      copied.now,
      stays schema (M.places c.args.to_mem.now) (M.places c.copy.new.to_mem) (M.buffers c.args.to_mem.now) (M.buffers c.copy.new.to_mem) c.args.msg m.0 m.1 grown.others m.2,
      copied.stands,
      fresh_beside schema (M.places c.args.to_mem.now) (M.buffers c.args.to_mem.now) c.args.msg m.0 m.1 copied.now m.2 copied.from,
    )

pub returns-in-Ok-clause-given : goal.returns-in-Ok-clause-given
returns-in-Ok-clause-given g c = λ t feet u own st st'.
    let M = g.M.Memory in
    let schema = c.args.types.now in
    let copied = c.in-Ok.ensures.copied u own st' in
    let grown = c.copy.ensures.changes u own st' in
    linked_now schema (M.places c.args.to_mem.now) (M.buffers c.args.to_mem.now) c.args.msg t feet copied.now st copied.from (M.places c.link_sub.new.mem) (M.buffers c.link_sub.new.mem) c.args.field c.in-Ok.copied (with_held schema c.args.msg.type_no c.args.field (One (Sub u)) t)
    (c.link_sub.ensures.linked t feet u copied.now
    (stays schema (M.places c.args.to_mem.now) (M.places c.copy.new.to_mem) (M.buffers c.args.to_mem.now) (M.buffers c.copy.new.to_mem) c.args.msg t feet grown.others st)
    copied.stands
    (fresh_beside schema (M.places c.args.to_mem.now) (M.buffers c.args.to_mem.now) c.args.msg t feet copied.now st copied.from))

pub returns-in-Err-clause-stands : goal.returns-in-Err-clause-stands
returns-in-Err-clause-stands g c = λ t feet st.
    let M = g.M.Memory in
    let d = c.requires.child in
    stays c.args.types.now (M.places c.args.to_mem.now) (M.places c.copy.new.to_mem) (M.buffers c.args.to_mem.now) (M.buffers c.copy.new.to_mem) c.args.msg t feet (c.copy.ensures.changes d.0 d.1 d.2).others st
