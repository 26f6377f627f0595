use Rattle.std.proofs.Common.{arith}
use Rattle.std.proofs.lemmas.List.{length-take, length-drop}
use Rattle.serial_arena.proofs.States.{lies_there}
use Rattle.serial_arena.proofs.memory.SerialArenaMemory.read.Goals as goal

pub read_part-requires-clause-there : goal.read_part-requires-clause-there
read_part-requires-clause-there c = rw c.deref.ensures.value (lies_there _ _ _ _ _ _ _ _ _ _ c.self.view_is c.self.invariant c.args.place c.requires).block

pub read_part-requires-clause-part : goal.read_part-requires-clause-part
read_part-requires-clause-part c =
    let lies = lies_there _ _ _ _ _ _ _ _ _ _ c.self.view_is c.self.invariant c.args.place c.requires in
    rw c.deref.ensures.value (record { behind = lies.behind; within = lies.fits })

pub returns-clause-value : goal.returns-clause-value
returns-clause-value c = rw (c.read_part.ensures, c.deref.ensures.value) (lies_there _ _ _ _ _ _ _ _ _ _ c.self.view_is c.self.invariant c.args.place c.requires).bytes

pub returns-clause-len : goal.returns-clause-len
returns-clause-len c =
    let lies = lies_there _ _ _ _ _ _ _ _ _ _ c.self.view_is c.self.invariant c.args.place c.requires in
    rw (c.read_part.ensures, c.deref.ensures.value) (simp (length-take, length-drop) (omega (arith, lies.fits)))
