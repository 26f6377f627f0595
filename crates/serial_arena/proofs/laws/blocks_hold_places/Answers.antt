use Rattle.serial_arena.proofs.Names.{blocks_have_places}
use Rattle.serial_arena.proofs.laws.blocks_hold_places.Goals as goal

pub returns : goal.returns
returns c = blocks_have_places c.args.arena.now c.arena_is_laid.ensures.laid
