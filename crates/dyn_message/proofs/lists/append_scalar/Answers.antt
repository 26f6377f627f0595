use Rattle.std.proofs.Common.{arith}
use Rattle.dyn_message.proofs.Opening.{has_field}
use Rattle.dyn_message.proofs.ByEntry.{told_count}
use Rattle.dyn_message.proofs.lists.append_scalar.Goals as goal

pub append_scalar_by-requires-clause-few : goal.append_scalar_by-requires-clause-few
append_scalar_by-requires-clause-few g c =
    let one = c.entry_in-entry.result in
    let has = has_field c.args.types.now c.args.msg.type_no c.args.field one.field c.requires.field c.entry_in-entry.ensures.field in
    let first = c.requires.message in
    let many = told_count c.args.types.now c.record_is_there.ensures.lawful (g.M.Memory.places c.args.mem.now) (g.M.Memory.buffers c.args.mem.now) c.args.msg c.args.field one c.entry_in-entry.ensures.found c.entry_in-entry.ensures.number has.0 _ _ c.list_by-count.ensures.told first.0 first.1 first.2 in
    omega (arith, c.requires.few first.0 first.1 first.2, many)
