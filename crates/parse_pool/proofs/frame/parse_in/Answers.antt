use Rattle.std.proofs.Common.{◌≡◌, ◌+◌, ◌*◌, ℕ, length, None, Some, ap, subst, arith}
use Rattle.std.specs.FinMap as fin
use Rattle.arena_mem.specs.Places.{used}
use Rattle.msg_layout.specs.Layout.{layout_of}
use Rattle.pb_schema.specs.Meter.{cleanups}
use Rattle.pb_parse.specs.Costs.{record_meter}
use Rattle.std.specs.List.{concat}
use Rattle.pb_schema.specs.Fault.{fault_of}
use Rattle.pb_schema.specs.Tree.{tree_map}
use Rattle.pb_schema.specs.TreeOf.{tree_of}
use Rattle.pb_parse.specs.Parsing.{IsParseFault}
use Rattle.pb_parse.specs.Whole.{payload_cost, shape_of_payload}
use Rattle.parse_pool.proofs.Messages.{made_and_parsed, within_more}
use Rattle.parse_pool.proofs.frame.parse_in.Goals as goal

pub returns-in-Ok-parse_into-clause-tree : goal.returns-in-Ok-parse_into-clause-tree
returns-in-Ok-parse_into-clause-tree g c = subst (λ n. tree_of c.args.types.now n c.args.bytes.now ≡ Some (tree_map concat (shape_of_payload c.args.types.now n c.args.bytes.now))) c.in-Ok.ensures.made.type c.in-Ok-parse_into.ensures.tree

pub returns-in-Ok-parse_into-clause-sound : goal.returns-in-Ok-parse_into-clause-sound
returns-in-Ok-parse_into-clause-sound g c = subst (λ n. fault_of c.args.types.now n 0 c.args.bytes.now ≡ None) c.in-Ok.ensures.made.type c.in-Ok-parse_into.ensures.sound

pub returns-in-Ok-parse_into-clause-changes : goal.returns-in-Ok-parse_into-clause-changes
returns-in-Ok-parse_into-clause-changes g c =
    let n = 4 * length c.args.bytes.now in
    let M = g.M.Memory in
    within_more M.key M.places M.buffers M.blocks (n + 3 + 1) (n + 4) (n + 3 + 1) (n + 4) c.args.mem.now c.parse_into.new.mem
    (made_and_parsed M.key M.places M.buffers M.blocks (n + 3) (n + 3) c.in-Ok.msg.place c.args.mem.now c.create.new.mem c.parse_into.new.mem c.create.ensures.grows c.in-Ok.ensures.made.fresh c.parse_into.ensures.changes)
    (omega arith) (omega arith)

pub returns-in-Err-clause-fault : goal.returns-in-Err-clause-fault
returns-in-Err-clause-fault g c = subst (λ n. IsParseFault (fault_of c.args.types.now n 0 c.args.bytes.now) (g.M.Memory.blocks c.parse_into.new.mem) c.in-Err.fault) c.in-Ok.ensures.made.type c.in-Err.ensures.fault

pub returns-in-Ok-parse_into-clause-costs : goal.returns-in-Ok-parse_into-clause-costs
returns-in-Ok-parse_into-clause-costs g c =
    let M = g.M.Memory in
    let types = c.args.types.now in
    let bytes = c.args.bytes.now in
    let now = c.parse_into.new.mem in
    let mid = c.create.new.mem in
    let type = c.in-Ok.ensures.made.type in
    let space = subst (λ (n : ℕ). used (M.places now) + (layout_of types n).size ≡ used (M.places mid) + payload_cost (record_meter types) types n bytes) type c.in-Ok-parse_into.ensures.space in
    let kept = subst (λ (n : ℕ). fin.len (M.buffers now) ≡ fin.len (M.buffers mid) + payload_cost cleanups types n bytes) type c.in-Ok-parse_into.ensures.kept in
    record {
      space = omega (arith, space, c.in-Ok.ensures.space);
      kept = omega (arith, kept, ap fin.len c.create.ensures.buffers);
    }
