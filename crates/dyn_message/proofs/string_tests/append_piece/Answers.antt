use Rattle.std.proofs.Common.{[], ◌∷◌, refl}
use Rattle.pb_schema.specs.Record.{Record}
use Rattle.pb_schema.proofs.RecordsFront.{records_found_any}
use Rattle.dyn_message.proofs.string_tests.append_piece.Goals as goal

piece : Record
piece = record { number = 99; wire = 0; payload = 5 ∷ []; span = 152 ∷ 6 ∷ 5 ∷ [] }

pub append_unknown-requires-clause-whole : goal.append_unknown-requires-clause-whole
unfolding piece
append_unknown-requires-clause-whole g c = (piece ∷ [], records_found_any (152 ∷ 6 ∷ 5 ∷ []) (piece ∷ []) refl)
