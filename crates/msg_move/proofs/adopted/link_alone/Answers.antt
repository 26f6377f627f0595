use Rattle.std.proofs.Common.{sym, ap, ◌∙◌, rules}
use Rattle.ts_arena.specs.Sole.{arena_places, arena_buffers, frame_of}
use Rattle.msg_move.proofs.Joining.{linked_alone, used_alone}
use Rattle.msg_move.proofs.adopted.link_alone.Goals as goal

pub returns-clause-used_by : goal.returns-clause-used_by
returns-clause-used_by c =
    let was = c.in-Ok.sole in
    let now = c.link_sub.new.mem in
    let key = c.link_sub.ensures.changes.key in
    used_alone c.args.arena.now was.arena.now _ now.arena.now c.args.caller was.at c.in-Ok.ensures.entered c.requires.owner (search rules)
    (c.sole_use_keeps_all_else.ensures was.at was.arena.now now.arena.now (ap (λ n. frame_of n now.arena.now) (sym (ap (λ k. k.1) key)) ∙ ap (λ k. k.0) key))

pub returns-clause-linked : goal.returns-clause-linked
returns-clause-linked c =
    let was = c.in-Ok.sole in
    let now = c.link_sub.new.mem in
    linked_alone c.args.types.now c.args.msg c.args.field c.args.child c.args.arena.now was.arena.now c.args.caller was.at c.in-Ok.ensures.entered c.requires.owner
    (arena_places now.arena.now) _ (arena_buffers now.arena.now) _ (search rules) (search rules) c.link_sub.ensures.linked
