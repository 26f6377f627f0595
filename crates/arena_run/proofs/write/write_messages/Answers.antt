use Rattle.std.proofs.Common.{[], ◌+◌, get_or, drop, refl, arith}
use Rattle.pb_schema.specs.Payloads.{framed_texts}
use Rattle.pb_schema.specs.Text.{framed}
use Rattle.pb_write.specs.Texts.{shape_text}
use Rattle.pb_write.specs.Waiting.{counted_in, waiting_in}
use Rattle.pb_write.proofs.Taken.{Counts-refl, Counts-trans, KeepsTaken-trans}
use Rattle.pb_write.proofs.Gathering.{KeepsTaken-refl}
use Rattle.pb_write.proofs.Writing.{written_more, written_failed, written_all, part_at_last}
use Rattle.arena_run.proofs.Written.{next_text, no_message, none_left, on_err, handed_last, none_waits}
use Rattle.arena_run.proofs.write.write_messages.Goals as goal

pub write_framed-requires : goal.write_framed-requires
write_framed-requires g c =
    let M = g.M.Memory in
    let at = next_text c.args.types.now (M.places c.args.mem.now) (M.buffers c.args.mem.now) c.requires.stand.0 c.args.messages.now c.requires.stand.1 c.loop-message.message-index no_message c.loop-message-test.true c.requires.stand.2 in
    (at.shape, at.own, at.stands, omega (arith, at.short))

pub returns-in_err-write_framed-clause-err : goal.returns-in_err-write_framed-clause-err
returns-in_err-write_framed-clause-err g c = λ type_no trees all.
    let M = g.M.Memory in
    let O = g.O.Sink in
    let schema = c.args.types.now in
    let i = c.loop-message.message-index in
    let at = next_text schema (M.places c.args.mem.now) (M.buffers c.args.mem.now) type_no c.args.messages.now trees i no_message c.loop-message-test.true all in
    let message = get_or c.args.messages.now i no_message in
    on_err c.from_residual.result _
    (written_failed (O.taken c.args.out.now) (O.taken c.loop-message.out) (O.taken c.write_framed.new.sink) [] (waiting_in c.loop-message.rooms) (framed_texts schema type_no trees) (framed_texts schema type_no (drop i trees)) (framed (shape_text schema message.type_no at.shape))
    (framed_texts schema type_no (drop (i + 1) trees)) c.loop-message.invariant.kept (c.loop-message.invariant.frames type_no trees all) at.rest (c.in_err-write_framed.ensures.written at.shape at.own at.stands at.short).err)

pub returns-in_err-write_framed-clause-counted : goal.returns-in_err-write_framed-clause-counted
returns-in_err-write_framed-clause-counted g c =
    let O = g.O.Sink in
    Counts-trans (O.taken c.args.out.now) (O.taken c.loop-message.out) (O.taken c.write_framed.new.sink) (counted_in c.args.rooms.now) (counted_in c.loop-message.rooms) (counted_in c.write_framed.new.rooms) c.loop-message.invariant.counted c.write_framed.ensures.counted

pub loop-message-init : goal.loop-message-init
loop-message-init g c = record {
  frames = λ type_no trees all. none_waits (g.O.Sink.taken c.args.out.now) _ (framed_texts c.args.types.now type_no trees) c.requires.none_waits;
  kept = KeepsTaken-refl (g.O.Sink.taken c.args.out.now);
  faults = omega arith;
  counted = Counts-refl (g.O.Sink.taken c.args.out.now) (counted_in c.args.rooms.now);
}

pub loop-message-preserved : goal.loop-message-preserved
loop-message-preserved g c =
    let M = g.M.Memory in
    let O = g.O.Sink in
    let schema = c.args.types.now in
    let i = c.loop-message.message-index in
    record {
      frames = λ type_no trees all.
          let at = next_text schema (M.places c.args.mem.now) (M.buffers c.args.mem.now) type_no c.args.messages.now trees i no_message c.loop-message-test.true all in
          let message = get_or c.args.messages.now i no_message in
          written_more (O.taken c.args.out.now) (O.taken c.loop-message.out) (O.taken c.write_framed.new.sink) [] (waiting_in c.loop-message.rooms) (waiting_in c.write_framed.new.rooms) (framed_texts schema type_no trees) (framed_texts schema type_no (drop i trees)) (framed (shape_text schema message.type_no at.shape))
          (framed_texts schema type_no (drop (i + 1) trees)) (c.loop-message.invariant.frames type_no trees all) at.rest (c.in_ok-write_framed.ensures.written at.shape at.own at.stands at.short).ok;
      kept = KeepsTaken-trans (O.taken c.args.out.now) (O.taken c.loop-message.out) (O.taken c.write_framed.new.sink) c.loop-message.invariant.kept c.write_framed.ensures.sent.longer;
      faults = omega (arith, c.loop-message.invariant.faults, c.write_framed.ensures.sent.cause.never_falls);
      counted = Counts-trans (O.taken c.args.out.now) (O.taken c.loop-message.out) (O.taken c.write_framed.new.sink) (counted_in c.args.rooms.now) (counted_in c.loop-message.rooms) (counted_in c.write_framed.new.rooms) c.loop-message.invariant.counted c.write_framed.ensures.counted;
    }

pub returns-clause-ok : goal.returns-clause-ok
returns-clause-ok g c = λ type_no trees all.
    let M = g.M.Memory in
    let O = g.O.Sink in
    let schema = c.args.types.now in
    let none = none_left schema (M.places c.args.mem.now) (M.buffers c.args.mem.now) type_no c.args.messages.now trees c.loop-message.message-index c.loop-message-test.false all in
    handed_last (O.taken c.args.out.now) (O.taken c.loop-message.out) (O.taken c.flush.new.sink) (waiting_in c.loop-message.rooms) (framed_texts schema type_no trees) c.flush.result
    (written_all (O.taken c.args.out.now) (O.taken c.loop-message.out) [] (waiting_in c.loop-message.rooms) (framed_texts schema type_no trees) (framed_texts schema type_no (drop c.loop-message.message-index trees)) (c.loop-message.invariant.frames type_no trees all) none)
    c.flush.ensures.ok

pub returns-clause-err : goal.returns-clause-err
returns-clause-err g c = λ type_no trees all.
    let M = g.M.Memory in
    let O = g.O.Sink in
    let schema = c.args.types.now in
    let none = none_left schema (M.places c.args.mem.now) (M.buffers c.args.mem.now) type_no c.args.messages.now trees c.loop-message.message-index c.loop-message-test.false all in
    part_at_last (O.taken c.args.out.now) (O.taken c.loop-message.out) (O.taken c.flush.new.sink) [] (waiting_in c.loop-message.rooms) (waiting_in c.loop-message.rooms) (framed_texts schema type_no trees) c.flush.result c.loop-message.invariant.kept refl
    (written_all (O.taken c.args.out.now) (O.taken c.loop-message.out) [] (waiting_in c.loop-message.rooms) (framed_texts schema type_no trees) (framed_texts schema type_no (drop c.loop-message.message-index trees)) (c.loop-message.invariant.frames type_no trees all) none)
    refl c.flush.ensures.err

pub returns-clause-counted : goal.returns-clause-counted
returns-clause-counted g c =
    let O = g.O.Sink in
    Counts-trans (O.taken c.args.out.now) (O.taken c.loop-message.out) (O.taken c.flush.new.sink) (counted_in c.args.rooms.now) (counted_in c.loop-message.rooms) (counted_in c.flush.new.self) c.loop-message.invariant.counted c.flush.ensures.counted
