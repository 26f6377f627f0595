use Rattle.std.proofs.Common.{[], refl, ◌∙◌, arith}
use Rattle.dyn_message.proofs.Opening.{some_record}
use Rattle.pb_parse.proofs.Memories.{nothing_changes, record_changes, then_within}
use Rattle.pb_parse.proofs.RecordCame.{came_none, came_more}
use Rattle.pb_parse.proofs.short.put_front.Goals as goal

pub records-init : goal.records-init
records-init g c =
    let M = g.M.Memory in
    record {
      message = c.requires.message;
      within = omega arith;
      walk = λ left. refl;
      came = λ left t feet st. came_none c.args.types.now left (M.places c.args.mem.now) (M.buffers c.args.mem.now) c.args.msg c.args.bytes.now 0 [] t feet st;
      changes = λ t feet st. nothing_changes M.key M.places M.buffers M.blocks feet c.args.mem.now;
    }

pub short_number-requires-clause-known : goal.short_number-requires-clause-known
short_number-requires-clause-known g c =
    let M = g.M.Memory in
    (some_record c.args.types.now (M.places c.records.mem) (M.buffers c.records.mem) c.args.msg c.records.invariant.message).type

pub records-preserved : goal.records-preserved
records-preserved g c =
    let M = g.M.Memory in
    let schema = c.args.types.now in
    let inv = c.records.invariant in
    let first = c.requires.message in
    let p = inv.came 0 first.0 first.1 first.2 in
    let short = c.in-Some.short in
    let s = c.in-Some.ensures in
    let d = c.set_short.ensures.came 0 [] p.shape p.stands.now p.stands.stands in
    record {
      message = (d.shape, d.stands.now, d.stands.stands);
      within = s.within;
      walk = λ left. inv.walk left ∙ c.set_short.ensures.walk left;
      came = λ left t feet st.
          let q = inv.came left t feet st in
          came_more schema left (M.places c.args.mem.now) (M.places c.records.mem) (M.places c.set_short.new.mem) (M.buffers c.args.mem.now) (M.buffers c.records.mem) (M.buffers c.set_short.new.mem) c.args.msg c.args.bytes.now 0 c.records.at short.end
          [] [] [] t feet (inv.changes t feet st).still_there q (c.set_short.ensures.came left [] q.shape q.stands.now q.stands.stands) (c.set_short.ensures.walk left);
      changes = λ t feet st.
          let q = inv.came 0 t feet st in
          then_within M.key M.places M.buffers M.blocks 0 0 0 0 0 0 feet q.stands.now c.args.mem.now c.records.mem c.set_short.new.mem (inv.changes t feet st) q.stands.from
          (record_changes M.key M.places M.buffers M.blocks 0 0 0 0 schema c.args.msg q.shape q.stands.now c.records.mem c.set_short.new.mem q.stands.stands c.set_short.ensures.changes (omega arith) (omega arith))
          (omega arith) (omega arith);
    }
