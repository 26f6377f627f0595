use Rattle.std.proofs.Common.{◌+◌, ◌-◌, ◌^◌, bit_and, drop, length-drop, refl, arith}
use Rattle.std.proofs.lemmas.List.{get_or-drop}
use Rattle.pb_wire.proofs.Window.{window_found}
use Rattle.pb_wire.proofs.find.read_window.Goals as goal

pub returns : goal.returns
returns c =
    let bytes = c.args.bytes.now in
    let start = c.args.start in
    let window = c.window_at-window.result in
    window_found (drop start bytes) window (bit_and (2 ^ 64 - 1 - window) 0x8080_8080_8080_8080) c.join_groups-value.result (omega (arith, length-drop start bytes, c.requires))
    (λ k. omega (arith, get_or-drop start bytes k 0, (c.type_inv.bytes (start + k)).fits)) c.window_at-window.ensures refl (omega (arith, c.if-ends-eq0.false)) c.join_groups-value.ensures
