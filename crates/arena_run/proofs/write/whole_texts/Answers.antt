use Rattle.std.proofs.Common.{get_or, subst, refl, sym, arith}
use Rattle.pb_schema.specs.Text.{framed}
use Rattle.pb_write.specs.Texts.{shape_text}
use Rattle.arena_run.specs.Lines.{LieWhole}
use Rattle.arena_run.proofs.Written.{count_all, count_ends, count_more, next_text, no_message, same_length}
use Rattle.arena_run.proofs.write.whole_texts.Goals as goal

pub framed_size-size-requires : goal.framed_size-size-requires
framed_size-size-requires g c =
    let M = g.M.Memory in
    let at = next_text c.args.types.now (M.places c.args.mem.now) (M.buffers c.args.mem.now) c.requires.stand.0 c.args.messages.now c.requires.stand.1 c.loop-message.message-index no_message c.loop-message-test.true c.requires.stand.2 in
    (at.shape, at.own, at.stands, omega (arith, at.short))

pub loop-message-init : goal.loop-message-init
loop-message-init g c = record { counts = refl; lie = λ type_no trees all. omega arith }

pub loop-message-preserved : goal.loop-message-preserved
loop-message-preserved g c =
    let M = g.M.Memory in
    let schema = c.args.types.now in
    let i = c.loop-message.message-index in
    let so_far = c.loop-message.invariant in
    record {
      counts = omega (arith, so_far.counts);
      lie = λ type_no trees all.
          let at = next_text schema (M.places c.args.mem.now) (M.buffers c.args.mem.now) type_no c.args.messages.now trees i no_message c.loop-message-test.true all in
          let text = framed (shape_text schema (get_or c.args.messages.now i no_message).type_no at.shape) in
          count_more schema type_no trees c.args.bytes i c.loop-message.left c.framed_size-size.result text at.rest (c.framed_size-size.ensures at.shape at.own at.stands (omega (arith, at.short))) c.if-left-size.false (so_far.lie type_no trees all);
    }

pub returns-then-left-size : goal.returns-then-left-size
returns-then-left-size g c = λ type_no trees all.
    let M = g.M.Memory in
    let schema = c.args.types.now in
    let i = c.loop-message.message-index in
    let so_far = c.loop-message.invariant in
    let at = next_text schema (M.places c.args.mem.now) (M.buffers c.args.mem.now) type_no c.args.messages.now trees i no_message c.loop-message-test.true all in
    let text = framed (shape_text schema (get_or c.args.messages.now i no_message).type_no at.shape) in
    let within = c.loop-message-test.true in
    let same = same_length schema (M.places c.args.mem.now) (M.buffers c.args.mem.now) type_no c.args.messages.now trees all.apart.feet all.apart.stand in
    subst (LieWhole schema type_no trees c.args.bytes) (sym so_far.counts)
    (count_ends schema type_no trees c.args.bytes i c.loop-message.left c.framed_size-size.result text at.rest (c.framed_size-size.ensures at.shape at.own at.stands (omega (arith, at.short))) c.if-left-size.true (omega (arith, within, same)) (so_far.lie type_no trees all))

pub returns : goal.returns
returns g c = λ type_no trees all.
    let M = g.M.Memory in
    let schema = c.args.types.now in
    let i = c.loop-message.message-index in
    let so_far = c.loop-message.invariant in
    let past = c.loop-message-test.false in
    let end = c.loop-message.auto.message-index-end in
    let same = same_length schema (M.places c.args.mem.now) (M.buffers c.args.mem.now) type_no c.args.messages.now trees all.apart.feet all.apart.stand in
    subst (LieWhole schema type_no trees c.args.bytes) (sym so_far.counts)
    (count_all schema type_no trees c.args.bytes i c.loop-message.left (omega (arith, past, end, same)) (so_far.lie type_no trees all))
