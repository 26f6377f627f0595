use Rattle.std.proofs.Common.{[], length, get_or, Some, sym, ap, ◌∙◌, arith}
use Rattle.serial_arena.specs.Serial.{SerialState}
use Rattle.serial_arena.proofs.Names.{is_kept}
use Rattle.serial_arena.proofs.memory.SerialArenaMemory.kept.Goals as goal

pub bytes-requires : goal.bytes-requires
bytes-requires c = omega (arith, (is_kept c.args.self.now c.args.buffer c.requires).0, ap (λ (s : SerialState). length s.kept) c.self.view_is)

pub returns : goal.returns
returns c =
    (is_kept c.args.self.now c.args.buffer c.requires).1
    ∙ ap Some (ap (λ (s : SerialState). get_or s.kept c.args.buffer.number []) (sym c.self.view_is) ∙ sym c.bytes.ensures)
