use Rattle.std.proofs.Common.{[], refl}
use Rattle.msg_merge.proofs.merge_tests.merged_inside.Goals as goal

pub merge-requires-clause-stand : goal.merge-requires-clause-stand
merge-requires-clause-stand g c =
    let M = g.M.Memory in
    let f = c.in_ok-from.ensures.message in
    let s = c.in_ok-source.ensures.message in
    let n = c.in-Ok.ensures.copied s.0 s.1 s.2 in
    let keeps = (c.copy.ensures.changes s.0 s.1 s.2).others in (
      s.0,
      n.now,
      f.0,
      f.1,
      n.stands,
      c.strangers_change_nothing.ensures c.args.types.now (M.places c.parse.new.mem) (M.places c.copy.new.to_mem) (M.buffers c.parse.new.mem) (M.buffers c.copy.new.to_mem) c.in_ok-from.from f.0 f.1 [] f.2 keeps (λ foot among. refl),
      c.separate_messages_stay.ensures c.args.types.now (M.places c.parse.new.mem) (M.buffers c.parse.new.mem) c.in_ok-from.from f.0 f.1 [] n.now f.2 (λ foot among. refl) n.from,
    )

pub returns-in-Ok-merge-clause-message : goal.returns-in-Ok-merge-clause-message
returns-in-Ok-merge-clause-message g c =
    let M = g.M.Memory in
    let f = c.in_ok-from.ensures.message in
    let s = c.in_ok-source.ensures.message in
    let n = c.in-Ok.ensures.copied s.0 s.1 s.2 in
    let keeps = (c.copy.ensures.changes s.0 s.1 s.2).others in
    let beside = c.in-Ok-merge.ensures.merged s.0 n.now f.0 f.1 n.stands
    (c.strangers_change_nothing.ensures c.args.types.now (M.places c.parse.new.mem) (M.places c.copy.new.to_mem) (M.buffers c.parse.new.mem) (M.buffers c.copy.new.to_mem) c.in_ok-from.from f.0 f.1 [] f.2 keeps (λ foot among. refl))
    (c.separate_messages_stay.ensures c.args.types.now (M.places c.parse.new.mem) (M.buffers c.parse.new.mem) c.in_ok-from.from f.0 f.1 [] n.now f.2 (λ foot among. refl) n.from) in
    (_, beside.stands.now, beside.stands.stands)
