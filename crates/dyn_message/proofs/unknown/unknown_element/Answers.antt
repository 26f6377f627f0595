use Rattle.std.proofs.Common.{◌*◌, ◌∙◌, ℕ, List, length, drop, Some, sym, ap, subst, arith, length-take-le, length-drop}
use Rattle.msg_layout.specs.Layout.{Layout}
use Rattle.dyn_message.specs.Slots.{part, place_in}
use Rattle.dyn_message.specs.Strings.{HoldsBytes}
use Rattle.dyn_message.proofs.UnknownLaws.{piece_is}
use Rattle.dyn_message.proofs.unknown.unknown_element.Goals as goal

pub read-requires-2 : goal.read-requires-2
read-requires-2 g c =
    (piece_is c.args.types.now (g.M.Memory.places c.args.mem.now) (g.M.Memory.buffers c.args.mem.now) c.args.msg c.read.result.now c.read.ensures.value c.args.index c.list_at.result.0 (c.list_at.ensures.place ∙ ap (λ at. place_in (part at 24 c.read.result.now)) (c.unknown-at.ensures ∙ ap (λ (l : Layout). l.unknown) c.of_type.ensures))
    c.requires.message.0 c.requires.message.1 c.requires.message.2 (c.requires.index c.requires.message.0 c.requires.message.1 c.requires.message.2)).live

pub slot_at-requires : goal.slot_at-requires
slot_at-requires g c =
    omega (
      arith,
      c.read-2.ensures.len,
      (piece_is c.args.types.now (g.M.Memory.places c.args.mem.now) (g.M.Memory.buffers c.args.mem.now) c.args.msg c.read.result.now c.read.ensures.value c.args.index c.list_at.result.0 (c.list_at.ensures.place ∙ ap (λ at. place_in (part at 24 c.read.result.now)) (c.unknown-at.ensures ∙ ap (λ (l : Layout). l.unknown) c.of_type.ensures))
          c.requires.message.0 c.requires.message.1 c.requires.message.2 (c.requires.index c.requires.message.0 c.requires.message.1 c.requires.message.2)).within,
    )

pub bytes_in-requires-clause-size : goal.bytes_in-requires-clause-size
bytes_in-requires-clause-size g c =
    let p = piece_is c.args.types.now (g.M.Memory.places c.args.mem.now) (g.M.Memory.buffers c.args.mem.now) c.args.msg c.read.result.now c.read.ensures.value c.args.index c.list_at.result.0 (c.list_at.ensures.place ∙ ap (λ at. place_in (part at 24 c.read.result.now)) (c.unknown-at.ensures ∙ ap (λ (l : Layout). l.unknown) c.of_type.ensures))
    c.requires.message.0 c.requires.message.1 c.requires.message.2 (c.requires.index c.requires.message.0 c.requires.message.1 c.requires.message.2) in
    omega (arith, ap (λ (s : List ℕ). length s) c.slot_at.ensures, length-take-le 24 (drop (c.args.index * 24) c.read-2.result.now) (omega (arith, length-drop (c.args.index * 24) c.read-2.result.now, p.within, c.read-2.ensures.len)))

pub bytes_in-requires-clause-holds : goal.bytes_in-requires-clause-holds
bytes_in-requires-clause-holds g c =
    let p = piece_is c.args.types.now (g.M.Memory.places c.args.mem.now) (g.M.Memory.buffers c.args.mem.now) c.args.msg c.read.result.now c.read.ensures.value c.args.index c.list_at.result.0 (c.list_at.ensures.place ∙ ap (λ at. place_in (part at 24 c.read.result.now)) (c.unknown-at.ensures ∙ ap (λ (l : Layout). l.unknown) c.of_type.ensures))
    c.requires.message.0 c.requires.message.1 c.requires.message.2 (c.requires.index c.requires.message.0 c.requires.message.1 c.requires.message.2) in
    (p.piece, p.own, subst (λ s. HoldsBytes (g.M.Memory.places c.args.mem.now) (g.M.Memory.buffers c.args.mem.now) s p.piece p.own) (sym c.slot_at.ensures) (p.holds c.read-2.result.now c.read-2.ensures.value))

pub returns : goal.returns
returns g c = λ t feet st.
    let p = piece_is c.args.types.now (g.M.Memory.places c.args.mem.now) (g.M.Memory.buffers c.args.mem.now) c.args.msg c.read.result.now c.read.ensures.value c.args.index c.list_at.result.0 (c.list_at.ensures.place ∙ ap (λ at. place_in (part at 24 c.read.result.now)) (c.unknown-at.ensures ∙ ap (λ (l : Layout). l.unknown) c.of_type.ensures))
    t feet st (c.requires.index t feet st) in
    p.is ∙ ap Some (sym (c.bytes_in.ensures p.piece p.own (subst (λ s. HoldsBytes (g.M.Memory.places c.args.mem.now) (g.M.Memory.buffers c.args.mem.now) s p.piece p.own) (sym c.slot_at.ensures) (p.holds c.read-2.result.now c.read-2.ensures.value))))
