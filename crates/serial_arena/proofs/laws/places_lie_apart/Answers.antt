use Rattle.serial_arena.proofs.Names.{places_apart}
use Rattle.serial_arena.proofs.laws.places_lie_apart.Goals as goal

pub returns : goal.returns
returns c = places_apart c.args.arena.now c.arena_is_laid.ensures.laid
