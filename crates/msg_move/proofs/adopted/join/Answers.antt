use Rattle.msg_move.proofs.Joining.{joined, on_ok}
use Rattle.msg_move.proofs.adopted.join.Goals as goal

pub returns-clause-joined : goal.returns-clause-joined
returns-clause-joined c =
    let old = c.lookups_go_to_the_region.ensures in
    let new = c.lookups_go_to_the_region-2.ensures in
    on_ok c.adopt-adopted.result
    (λ is. joined c.args.arena.now c.adopt-adopted.new.self c.args.region c.requires.some.0 is c.arena_is_laid.ensures c.requires.some.1
    (record { places = old.places; buffers = old.buffers; blocks = old.blocks; live = old.live; kept = old.kept })
    (record { places = new.places; buffers = new.buffers; blocks = new.blocks; live = new.live; kept = new.kept }))
    c.adopt-adopted.ensures.adopted
