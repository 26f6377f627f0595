use Rattle.std.proofs.Common.{◌≡◌, ℕ, ◌%◌, Some, replicate, refl, ap, ◌∙◌, arith}
use Rattle.arena_mem.specs.Places.{round8}
use Rattle.msg_layout.specs.Layout.{layout_of}
use Rattle.dyn_message.proofs.Messages.{sound_of}
use Rattle.dyn_message.proofs.Empty.{empty_stands}
use Rattle.dyn_message.proofs.message.create.Goals as goal

rounded : (n size : ℕ) → n ≡ size → size % 8 ≡ 0 → round8 n ≡ size
rounded n size is whole = omega (arith, is, whole)

pub place-requires : goal.place-requires
place-requires g c =
    let sound = sound_of c.args.types.now c.schema-schema.ensures.lawful c.args.type_no c.requires in
    record { some = omega (arith, c.record_size-size.ensures, sound.unknown); most = omega (arith, c.record_size-size.ensures, sound.small) }

pub returns-clause-made : goal.returns-clause-made
returns-clause-made g c =
    let schema = c.args.types.now in
    let sound = sound_of schema c.schema-schema.ensures.lawful c.args.type_no c.requires in
    let len = c.in_ok-place.ensures.len ∙ rounded c.record_size-size.result (layout_of schema c.args.type_no).size c.record_size-size.ensures sound.rounded.1 in
    record {
      type = refl;
      fresh = c.in_ok-place.ensures.fresh;
      stands = empty_stands schema (g.M.Memory.places c.place.new.self) (g.M.Memory.buffers c.place.new.self) c.schema-schema.ensures.lawful (record { place = c.in_ok-place.place; type_no = c.args.type_no }) c.requires len
          (c.in_ok-place.ensures.zeros ∙ ap (λ n. Some (replicate n 0)) len);
    }

pub returns-clause-space : goal.returns-clause-space
returns-clause-space g c =
    let schema = c.args.types.now in
    let sound = sound_of schema c.schema-schema.ensures.lawful c.args.type_no c.requires in
    let len = c.in_ok-place.ensures.len ∙ rounded c.record_size-size.result (layout_of schema c.args.type_no).size c.record_size-size.ensures sound.rounded.1 in
    omega (arith, c.in_ok-place.ensures.space, len)
