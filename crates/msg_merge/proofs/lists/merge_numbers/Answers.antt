use Rattle.std.proofs.Common.{◌≡◌, ◌+◌, length, refl, ap, ◌∙◌, arith}
use Rattle.pb_schema.specs.HeldAt.{held_at}
use Rattle.pb_schema.specs.Meter.{array_bytes}
use Rattle.pb_schema.specs.Put.{values_held}
use Rattle.pb_schema.specs.Tree.{Number, values_in_list}
use Rattle.pb_schema.proofs.MeterLaws.{placed_in_parts}
use Rattle.dyn_message.specs.Lists.{count_at, element_bytes}
use Rattle.pb_parse.proofs.Memories.{nothing_changes, then_within}
use Rattle.pb_write.proofs.Parts.{values_drop, values_end}
use Rattle.msg_merge.proofs.Listed.{element_pattern, listed_none, listed_more, listed_all, stands_as, grown_once, same_count}
use Rattle.msg_merge.proofs.lists.merge_numbers.Goals as goal

pub elements-init : goal.elements-init
elements-init g c =
    let has = c.requires.field in
    record {
      within = omega arith;
      listed = λ t feet u own st su. listed_none c.args.types.now c.args.to c.args.field has.field has.found (g.M.Memory.places c.args.to_mem.now) (g.M.Memory.buffers c.args.to_mem.now) (values_held (held_at c.args.types.now c.args.to.type_no c.args.field u)) t feet st;
      space = λ t feet st.
          let n = count_at c.args.types.now c.args.to.type_no c.args.field t in
          let none = (placed_in_parts (λ type_no. 0)).none (element_bytes c.args.types.now c.args.to.type_no c.args.field) n in
          let same = ap (array_bytes (element_bytes c.args.types.now c.args.to.type_no c.args.field) n) {x = n + 0} {y = n} (omega arith) in
          omega (arith, none, same);
      changes = λ t feet st. let M = g.M.Memory in nothing_changes M.key M.places M.buffers M.blocks feet c.args.to_mem.now;
      buffers = refl;
    }

pub append_scalar-requires-clause-message : goal.append_scalar-requires-clause-message
append_scalar-requires-clause-message g c =
    let r = c.requires.to in let f = c.requires.from in
    let l = c.elements.invariant.listed r.0 r.1 f.0 f.1 r.2 f.2 in
    (l.shape, l.stands.now, l.stands.stands)

pub append_scalar-requires-clause-field : goal.append_scalar-requires-clause-field
append_scalar-requires-clause-field g c =
    let has = c.requires.field in let f = c.requires.from in
    let su = stands_as c.args.types.now (g.N.Memory.places c.args.from_mem.now) (g.N.Memory.buffers c.args.from_mem.now) c.args.from c.args.to.type_no f.0 f.1 c.requires.same f.2 in
    record {
      field = has.field;
      found = has.found;
      card = has.card;
      type = element_pattern c.args.types.now c.schema-schema.ensures.lawful (g.N.Memory.places c.args.from_mem.now) (g.N.Memory.buffers c.args.from_mem.now) _ c.args.field has.field has.found has.card f.0 f.1 su c.elements.i c.element_scalar-bits.result (c.element_scalar-bits.ensures f.0 f.1 su);
    }

pub append_scalar-requires-clause-few : goal.append_scalar-requires-clause-few
append_scalar-requires-clause-few g c = λ t feet st.
    let r = c.requires.to in let f = c.requires.from in
    let l = c.elements.invariant.listed r.0 r.1 f.0 f.1 r.2 f.2 in
    let su = stands_as c.args.types.now (g.N.Memory.places c.args.from_mem.now) (g.N.Memory.buffers c.args.from_mem.now) c.args.from c.args.to.type_no f.0 f.1 c.requires.same f.2 in
    let same = same_count c.args.types.now (g.M.Memory.places c.elements.to_mem) (g.M.Memory.buffers c.elements.to_mem) c.args.to c.args.field t l.shape feet l.stands.now st l.stands.stands in
    omega (arith, same, l.count, c.elements-test.true, c.count-len.ensures f.0 f.1 su, c.requires.few r.0 r.1 f.0 f.1 r.2 f.2)

pub returns-in_err-append_scalar-clause-changes : goal.returns-in_err-append_scalar-clause-changes
returns-in_err-append_scalar-clause-changes g c = λ t feet u own st su.
    let l = c.elements.invariant.listed t feet u own st su in
    let their = stands_as c.args.types.now (g.N.Memory.places c.args.from_mem.now) (g.N.Memory.buffers c.args.from_mem.now) c.args.from c.args.to.type_no u own c.requires.same su in
    let less = c.elements-test.true in let len = c.count-len.ensures u own their in
    let M = g.M.Memory in
    then_within M.key M.places M.buffers M.blocks c.elements.i 1 0 0 (count_at c.args.types.now c.args.to.type_no c.args.field u) 0 feet l.stands.now c.args.to_mem.now c.elements.to_mem c.append_scalar.new.mem
    (c.elements.invariant.changes t feet st) l.stands.from (c.append_scalar.ensures.changes l.shape l.stands.now l.stands.stands) (omega (arith, less, len)) (omega arith)

pub elements-preserved : goal.elements-preserved
elements-preserved g c =
    let has = c.requires.field in
    let r = c.requires.to in let f = c.requires.from in
    record {
      within = omega (arith, c.elements-test.true);
      listed = λ t feet u own st su.
          let l = c.elements.invariant.listed t feet u own st su in
          let their = stands_as c.args.types.now (g.N.Memory.places c.args.from_mem.now) (g.N.Memory.buffers c.args.from_mem.now) c.args.from c.args.to.type_no u own c.requires.same su in
          listed_more c.args.types.now c.args.to c.args.field has.field has.found (g.M.Memory.places c.args.to_mem.now) (g.M.Memory.places c.elements.to_mem) (g.M.Memory.places c.append_scalar.new.mem) (g.M.Memory.buffers c.args.to_mem.now) (g.M.Memory.buffers c.elements.to_mem) (g.M.Memory.buffers c.append_scalar.new.mem)
          (values_held (held_at c.args.types.now c.args.to.type_no c.args.field u)) c.elements.i (c.elements.i + 1) (omega arith) (Number c.element_scalar-bits.result) t feet (c.elements.invariant.changes t feet st).still_there l (c.element_scalar-bits.ensures u own their) (c.in_ok-append_scalar.ensures.appended l.shape l.stands.now l.stands.stands);
      space = λ t feet st.
          let l = c.elements.invariant.listed t feet f.0 f.1 st f.2 in
          grown_once (element_bytes c.args.types.now c.args.to.type_no c.args.field) (count_at c.args.types.now c.args.to.type_no c.args.field t) c.elements.i _ _ _ _ l.count (c.elements.invariant.space t feet st) (c.in_ok-append_scalar.ensures.space l.shape l.stands.now l.stands.stands);
      changes = λ t feet st.
          let l = c.elements.invariant.listed t feet f.0 f.1 st f.2 in
          let M = g.M.Memory in
          then_within M.key M.places M.buffers M.blocks c.elements.i 1 0 0 (c.elements.i + 1) 0 feet l.stands.now c.args.to_mem.now c.elements.to_mem c.append_scalar.new.mem
          (c.elements.invariant.changes t feet st) l.stands.from (c.in_ok-append_scalar.ensures.changes l.shape l.stands.now l.stands.stands) (omega arith) (omega arith);
      buffers = c.in_ok-append_scalar.ensures.buffers ∙ c.elements.invariant.buffers;
    }

pub returns-clause-merged : goal.returns-clause-merged
returns-clause-merged g c = λ t feet u own st su.
    let has = c.requires.field in
    let l = c.elements.invariant.listed t feet u own st su in
    let their = stands_as c.args.types.now (g.N.Memory.places c.args.from_mem.now) (g.N.Memory.buffers c.args.from_mem.now) c.args.from c.args.to.type_no u own c.requires.same su in
    let values = values_held (held_at c.args.types.now c.args.to.type_no c.args.field u) in
    let within = c.elements.invariant.within in let done = c.elements-test.false in let len = c.count-len.ensures u own their in
    let all : c.elements.i ≡ length (values_in_list values) = omega (arith, within, done, len) in
    listed_all c.args.types.now c.args.to c.args.field has.field has.found (g.M.Memory.places c.args.to_mem.now) (g.M.Memory.places c.elements.to_mem) (g.M.Memory.buffers c.args.to_mem.now) (g.M.Memory.buffers c.elements.to_mem) values c.elements.i t feet (ap (λ n. values_drop n values) all ∙ values_end values) l
