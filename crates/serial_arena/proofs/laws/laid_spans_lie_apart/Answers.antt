use Rattle.serial_arena.proofs.Placing.{lie_apart}
use Rattle.serial_arena.proofs.laws.laid_spans_lie_apart.Goals as goal

pub returns : goal.returns
returns c = λ policy sizes spans laid region j k l h. lie_apart policy sizes spans laid region j k l h
