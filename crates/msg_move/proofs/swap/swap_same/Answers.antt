use Rattle.std.proofs.Common.{length, refl, sym, ap, ◌∙◌, subst, arith}
use Rattle.std.specs.Prelude.{IsSome}
use Rattle.std.proofs.lemmas.Option.{same_Some}
use Rattle.msg_layout.specs.Layout.{layout_of}
use Rattle.dyn_message.proofs.Messages.{sound_of}
use Rattle.dyn_message.proofs.Opening.{record_is}
use Rattle.msg_move.proofs.Swapping.{apart_records, records_swapped}
use Rattle.msg_move.proofs.swap.swap_same.Goals as goal

pub exchange-requires-clause-one_live : goal.exchange-requires-clause-one_live
exchange-requires-clause-one_live g c =
    let s = c.requires.stand in
    subst IsSome (sym (record_is c.args.types.now _ _ c.args.one s.0 s.1 s.4).there) refl

pub exchange-requires-clause-two_live : goal.exchange-requires-clause-two_live
exchange-requires-clause-two_live g c =
    let s = c.requires.stand in
    subst IsSome (sym (record_is c.args.types.now _ _ c.args.two s.2 s.3 s.5).there) refl

pub exchange-requires-clause-differ : goal.exchange-requires-clause-differ
exchange-requires-clause-differ g c =
    let M = g.M.Memory in
    let s = c.requires.stand in
    apart_records c.args.types.now (M.places c.args.mem.now) (M.places c.args.mem.now) (M.buffers c.args.mem.now) (M.buffers c.args.mem.now) c.args.one c.args.two c.requires.one_type s.0 s.2 s.1 s.3 s.4 s.5 s.6

pub exchange-requires-clause-len : goal.exchange-requires-clause-len
exchange-requires-clause-len g c =
    let s = c.requires.stand in
    let a = record_is c.args.types.now _ _ c.args.one s.0 s.1 s.4 in
    let b = record_is c.args.types.now _ _ c.args.two s.2 s.3 s.5 in
    b.len ∙ ap (λ n. (layout_of c.args.types.now n).size) c.requires.one_type ∙ sym a.len

pub exchange-requires-clause-one_size : goal.exchange-requires-clause-one_size
exchange-requires-clause-one_size g c = λ bytes there.
    let s = c.requires.stand in
    let a = record_is c.args.types.now _ _ c.args.one s.0 s.1 s.4 in
    ap length (same_Some bytes a.bytes (sym there ∙ a.there)) ∙ a.size ∙ sym a.len

pub exchange-requires-clause-two_size : goal.exchange-requires-clause-two_size
exchange-requires-clause-two_size g c = λ bytes there.
    let s = c.requires.stand in
    let a = record_is c.args.types.now _ _ c.args.one s.0 s.1 s.4 in
    let b = record_is c.args.types.now _ _ c.args.two s.2 s.3 s.5 in
    ap length (same_Some bytes b.bytes (sym there ∙ b.there)) ∙ b.size ∙ ap (λ n. (layout_of c.args.types.now n).size) c.requires.one_type ∙ sym a.len

pub exchange-requires-clause-whole : goal.exchange-requires-clause-whole
exchange-requires-clause-whole g c =
    let s = c.requires.stand in
    let a = record_is c.args.types.now _ _ c.args.one s.0 s.1 s.4 in
    let sound = sound_of c.args.types.now c.schema-schema.ensures.lawful c.args.one.type_no a.type in
    omega (arith, a.len, sound.rounded.1)

pub exchange-requires-clause-small : goal.exchange-requires-clause-small
exchange-requires-clause-small g c =
    let s = c.requires.stand in
    let a = record_is c.args.types.now _ _ c.args.one s.0 s.1 s.4 in
    let sound = sound_of c.args.types.now c.schema-schema.ensures.lawful c.args.one.type_no a.type in
    omega (arith, a.len, sound.small)

pub returns-clause-swapped : goal.returns-clause-swapped
returns-clause-swapped g c = λ t feet u own st st' separate.
    let M = g.M.Memory in
    let done = c.exchange.ensures in
    records_swapped c.args.types.now (M.places c.args.mem.now) (M.places c.exchange.new.mem) (M.buffers c.args.mem.now) (M.buffers c.exchange.new.mem) c.args.one c.args.two c.requires.one_type t u feet own st st' separate done.first done.second done.others done.buffers
