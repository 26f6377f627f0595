use Rattle.std.proofs.Common.{◌+◌, ◌*◌, ℕ, Bool, length, ap, subst}
use Rattle.serial_arena.specs.declared.arena.SerialKey.{SerialKey}
use Rattle.arena_list.specs.declared.list.ListSeat.{ListSeat}
use Rattle.ts_arena.specs.Passes.{SharedState}
use Rattle.parse_pool.specs.Phases.{PhaseState, payload_at}
use Rattle.parse_pool.specs.Parsed.{HasGrown}
use Rattle.parse_pool.proofs.OneFrame.{frame_grown}
use Rattle.parse_pool.proofs.frame.parse_frame.Goals as goal

pub returns-clause-grown : goal.returns-clause-grown
returns-clause-grown g c = λ part has.
    let v = c.phase.inside in
    let ph : PhaseState = record { shared = v.shared.now; schema = v.types.now; root = v.root; payloads = v.frames.now; first = v.first; count = v.count; workers = v.workers } in
    let lease = c.enter-lease.result in
    let after = c.parse_in-parsed.new.mem in
    let told = c.parse_in-parsed.ensures in
    let all = told.changes in
    let f = c.args.frame in
    let parsed = c.parse_in-parsed.result in (
      after.part,
      c.leave-pass.ensures.part,
      subst (λ (p : PhaseState). HasGrown p f (4 * length (payload_at p f) + 4) part after.part parsed) c.phase.view_is
          (subst (λ s. HasGrown ph f (4 * length (payload_at ph f) + 4) s after.part parsed) (c.enter-lease.ensures.part part has)
          (frame_grown ph f lease.part after.part c.payload-bytes.result.now parsed c.payload-bytes.ensures
          (record {
            changes = record {
              key = ap (λ (k : SharedState × ListSeat × ℕ × Bool × SerialKey). k.4) all.key;
              others = all.others;
              still_there = all.still_there;
              no_fewer_places = all.no_fewer_places;
              few_places = all.few_places;
              no_fewer_buffers = all.no_fewer_buffers;
              few_buffers = all.few_buffers;
              no_fewer_blocks = all.no_fewer_blocks;
              few_blocks = all.few_blocks;
            };
            type = told.type_no;
            stands = told.stands;
            tree = told.tree;
            sound = told.sound;
            fault = told.fault;
            costs = told.costs;
          }))),
    )
