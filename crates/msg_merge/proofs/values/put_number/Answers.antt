use Rattle.std.proofs.Common.{subst}
use Rattle.dyn_message.specs.Changes.{NowStands}
use Rattle.msg_merge.proofs.Listed.{stands_as}
use Rattle.msg_merge.proofs.OneMerged.{number_set, number_into}
use Rattle.msg_merge.proofs.values.put_number.Goals as goal

pub set_scalar-requires-clause-field : goal.set_scalar-requires-clause-field
set_scalar-requires-clause-field g c =
    let N = g.N.Memory in
    let schema = c.args.types.now in
    let f = c.requires.from in
    let su = stands_as schema (N.places c.args.from_mem.now) (N.buffers c.args.from_mem.now) c.args.from c.args.to.type_no f.0 f.1 c.requires.same f.2 in
    record {
      field = c.args.field;
      found = c.requires.known;
      card = c.requires.single;
      type = (number_set schema c.schema-schema.ensures.lawful (N.places c.args.from_mem.now) (N.buffers c.args.from_mem.now) (record { place = c.args.from.place; type_no = c.args.to.type_no }) c.args.field c.requires.known f.0 f.1 su c.in-Some.bits (c.in-Some.ensures f.0 f.1 su)).0;
    }

pub returns-clause-merged : goal.returns-clause-merged
returns-clause-merged g c = λ t feet u own st from.
    let M = g.M.Memory in
    let N = g.N.Memory in
    let schema = c.args.types.now in
    let su = stands_as schema (N.places c.args.from_mem.now) (N.buffers c.args.from_mem.now) c.args.from c.args.to.type_no u own c.requires.same from in
    let is = c.in-Some.ensures u own su in
    let may = (number_set schema c.schema-schema.ensures.lawful (N.places c.args.from_mem.now) (N.buffers c.args.from_mem.now) (record { place = c.args.from.place; type_no = c.args.to.type_no }) c.args.field c.requires.known u own su c.in-Some.bits is).1 in
    subst (λ s. NowStands schema (M.places c.args.to_mem.now) (M.buffers c.args.to_mem.now) (M.places c.set_scalar.new.mem) (M.buffers c.set_scalar.new.mem) c.args.to s feet)
    (number_into schema c.args.to.type_no c.args.field c.requires.known t u c.in-Some.bits is may)
    (c.set_scalar.ensures.set t feet st)
