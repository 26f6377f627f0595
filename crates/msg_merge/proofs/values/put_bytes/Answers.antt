use Rattle.std.proofs.Common.{subst}
use Rattle.dyn_message.specs.Changes.{NowStands}
use Rattle.msg_merge.proofs.Listed.{stands_as}
use Rattle.msg_merge.proofs.OneMerged.{bytes_set, bytes_into, if_ok}
use Rattle.msg_merge.proofs.values.put_bytes.Goals as goal

pub set_bytes-requires-clause-field : goal.set_bytes-requires-clause-field
set_bytes-requires-clause-field g c =
    let N = g.N.Memory in
    let schema = c.args.types.now in
    let f = c.requires.from in
    let su = stands_as schema (N.places c.args.from_mem.now) (N.buffers c.args.from_mem.now) c.args.from c.args.to.type_no f.0 f.1 c.requires.same f.2 in
    record {
      field = c.args.field;
      found = c.requires.known;
      card = c.requires.single;
      type = (bytes_set schema c.schema-schema.ensures.lawful (N.places c.args.from_mem.now) (N.buffers c.args.from_mem.now) (record { place = c.args.from.place; type_no = c.args.to.type_no }) c.args.field c.requires.known f.0 f.1 su c.in-Some.bytes.now (c.in-Some.ensures f.0 f.1 su)).0;
    }

pub set_bytes-requires-clause-short : goal.set_bytes-requires-clause-short
set_bytes-requires-clause-short g c =
    let N = g.N.Memory in
    let schema = c.args.types.now in
    let f = c.requires.from in
    let su = stands_as schema (N.places c.args.from_mem.now) (N.buffers c.args.from_mem.now) c.args.from c.args.to.type_no f.0 f.1 c.requires.same f.2 in
    (bytes_set schema c.schema-schema.ensures.lawful (N.places c.args.from_mem.now) (N.buffers c.args.from_mem.now) (record { place = c.args.from.place; type_no = c.args.to.type_no }) c.args.field c.requires.known f.0 f.1 su c.in-Some.bytes.now (c.in-Some.ensures f.0 f.1 su)).1

pub returns-clause-merged : goal.returns-clause-merged
returns-clause-merged g c = if_ok _ _ c.set_bytes.result
    (λ _ set. λ t feet u own st from.
    let M = g.M.Memory in
    let N = g.N.Memory in
    let schema = c.args.types.now in
    let su = stands_as schema (N.places c.args.from_mem.now) (N.buffers c.args.from_mem.now) c.args.from c.args.to.type_no u own c.requires.same from in
    let is = c.in-Some.ensures u own su in
    let may = (bytes_set schema c.schema-schema.ensures.lawful (N.places c.args.from_mem.now) (N.buffers c.args.from_mem.now) (record { place = c.args.from.place; type_no = c.args.to.type_no }) c.args.field c.requires.known u own su c.in-Some.bytes.now is).2 in
    subst (λ s. NowStands schema (M.places c.args.to_mem.now) (M.buffers c.args.to_mem.now) (M.places c.set_bytes.new.mem) (M.buffers c.set_bytes.new.mem) c.args.to s feet)
    (bytes_into schema c.args.to.type_no c.args.field c.requires.known t u c.in-Some.bytes.now is may)
    (set t feet st))
    c.set_bytes.ensures.set
