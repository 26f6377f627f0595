use Rattle.std.proofs.Common.{◌+◌, sym, ap, subst, ◌∙◌}
use Rattle.std.specs.FinMap as fin
use Rattle.arena_mem.specs.Places.{used}
use Rattle.serial_arena.specs.Serial.{places_of, buffers_of}
use Rattle.pb_schema.specs.MergeCost.{fresh_cost}
use Rattle.pb_schema.specs.Meter.{cleanups}
use Rattle.dyn_message.specs.Links.{LinksTo}
use Rattle.msg_merge.specs.Across.{record_meter}
use Rattle.msg_move.proofs.Crossing.{taken_away}
use Rattle.msg_move.proofs.across.release.Goals as goal

pub returns-in-Ok-clause-released : goal.returns-in-Ok-clause-released
returns-in-Ok-clause-released g c = λ t feet st.
    let M = g.M.Memory in
    let schema = c.args.types.now in
    let has = c.in-Some.ensures t feet st in
    let typed = c.in-Ok.ensures.typed in
    let away = taken_away schema (M.places c.args.mem.now) (M.places c.unlink_sub.new.mem) (M.buffers c.args.mem.now) (M.buffers c.unlink_sub.new.mem) c.args.msg t feet c.args.field c.unlink_sub.result has.tree has.held (c.unlink_sub.ensures.unlinked t feet st) in
    record {
      type = subst (LinksTo schema c.args.msg.type_no c.args.field) (sym typed) has.type;
      tree = has.tree;
      held = has.held;
      stands = c.in-Ok.ensures.copied has.tree has.own has.stands;
      space = c.in-Ok.ensures.space has.tree has.own has.stands ∙ ap (λ n. used (places_of c.args.region) + fresh_cost (record_meter schema) schema n has.tree) (sym typed);
      kept = c.in-Ok.ensures.kept has.tree has.own has.stands ∙ ap (λ n. fin.len (buffers_of c.args.region) + fresh_cost cleanups schema n has.tree) (sym typed);
      rest = away.rest;
      parent = away.stands;
      within = away.within;
    }
