use Rattle.std.proofs.Common.{ap, sym, ◌∙◌, length, Some}
use Rattle.std.specs.Option.{option_map}
use Rattle.std.proofs.lemmas.Option.{same_Some}
use Rattle.dyn_message.specs.Writes.{zeros_to}
use Rattle.dyn_message.proofs.Opening.{some_record}
use Rattle.dyn_message.proofs.Empty.{empty_stands, zeros_all}
use Rattle.dyn_message.proofs.message.clear.Goals as goal

pub zero_place-requires-clause-size : goal.zero_place-requires-clause-size
zero_place-requires-clause-size g c = λ bytes there.
    let was = some_record c.args.types.now (g.M.Memory.places c.args.mem.now) (g.M.Memory.buffers c.args.mem.now) c.args.msg c.requires in
    ap length (same_Some bytes was.bytes (sym there ∙ was.there)) ∙ was.size ∙ sym was.len

pub returns-clause-cleared : goal.returns-clause-cleared
returns-clause-cleared g c =
    let was = some_record c.args.types.now (g.M.Memory.places c.args.mem.now) (g.M.Memory.buffers c.args.mem.now) c.args.msg c.requires in
    empty_stands c.args.types.now (g.M.Memory.places c.zero_place.new.mem) (g.M.Memory.buffers c.zero_place.new.mem) c.record_is_there.ensures.lawful c.args.msg was.type was.len
    (c.zero_place.ensures.here ∙ ap (option_map (zeros_to c.args.msg.place.len)) was.there ∙ ap (λ n. Some (zeros_to n was.bytes)) was.len ∙ ap Some (zeros_all _ was.bytes was.size))
