use Rattle.std.proofs.Common.{◌≡◌, ◌+◌, ◌*◌, length, refl, ap, ◌∙◌, arith}
use Rattle.pb_schema.specs.HeldAt.{held_at}
use Rattle.pb_schema.specs.Meter.{array_bytes, cleanups, string_bytes}
use Rattle.pb_schema.specs.Put.{values_held}
use Rattle.pb_schema.specs.Tree.{Bytes, values_in_list}
use Rattle.pb_schema.proofs.MeterLaws.{placed_in_parts}
use Rattle.dyn_message.specs.Lists.{count_at}
use Rattle.pb_parse.proofs.Memories.{nothing_changes, then_within}
use Rattle.pb_write.proofs.Parts.{values_drop, values_end}
use Rattle.msg_merge.specs.Merging.{strings_cost}
use Rattle.msg_merge.proofs.Listed.{element_string, listed_none, listed_more, listed_all, stands_as, same_count, string_left, string_grown, kept_more}
use Rattle.msg_merge.proofs.lists.merge_strings.Goals as goal

pub elements-init : goal.elements-init
elements-init g c =
    let has = c.requires.field in
    record {
      within = omega arith;
      listed = λ t feet u own st su. listed_none c.args.types.now c.args.to c.args.field has.field has.found (g.M.Memory.places c.args.to_mem.now) (g.M.Memory.buffers c.args.to_mem.now) (values_held (held_at c.args.types.now c.args.to.type_no c.args.field u)) t feet st;
      space = λ t feet u own st su.
          let n = count_at c.args.types.now c.args.to.type_no c.args.field t in
          let none = (placed_in_parts (λ type_no. 0)).none 24 n in
          let same = ap (array_bytes 24 n) {x = n + 0} {y = n} (omega arith) in
          omega (arith, none, same);
      kept = λ u own su. refl;
      changes = λ t feet st. let M = g.M.Memory in nothing_changes M.key M.places M.buffers M.blocks feet c.args.to_mem.now;
    }

pub append_bytes-requires-clause-message : goal.append_bytes-requires-clause-message
append_bytes-requires-clause-message g c =
    let r = c.requires.to in let f = c.requires.from in
    let l = c.elements.invariant.listed r.0 r.1 f.0 f.1 r.2 f.2 in
    (l.shape, l.stands.now, l.stands.stands)

pub append_bytes-requires-clause-field : goal.append_bytes-requires-clause-field
append_bytes-requires-clause-field g c =
    let has = c.requires.field in let f = c.requires.from in
    let su = stands_as c.args.types.now (g.N.Memory.places c.args.from_mem.now) (g.N.Memory.buffers c.args.from_mem.now) c.args.from c.args.to.type_no f.0 f.1 c.requires.same f.2 in
    record {
      field = has.field;
      found = has.found;
      card = has.card;
      type = (element_string c.args.types.now c.schema-schema.ensures.lawful (g.N.Memory.places c.args.from_mem.now) (g.N.Memory.buffers c.args.from_mem.now) _ c.args.field has.field has.found has.card f.0 f.1 su c.elements.i c.element_bytes-bytes.result.now (c.element_bytes-bytes.ensures f.0 f.1 su)).0;
    }

pub append_bytes-requires-clause-short : goal.append_bytes-requires-clause-short
append_bytes-requires-clause-short g c =
    let has = c.requires.field in let f = c.requires.from in
    let su = stands_as c.args.types.now (g.N.Memory.places c.args.from_mem.now) (g.N.Memory.buffers c.args.from_mem.now) c.args.from c.args.to.type_no f.0 f.1 c.requires.same f.2 in
    (element_string c.args.types.now c.schema-schema.ensures.lawful (g.N.Memory.places c.args.from_mem.now) (g.N.Memory.buffers c.args.from_mem.now) _ c.args.field has.field has.found has.card f.0 f.1 su c.elements.i c.element_bytes-bytes.result.now (c.element_bytes-bytes.ensures f.0 f.1 su)).1

pub append_bytes-requires-clause-few : goal.append_bytes-requires-clause-few
append_bytes-requires-clause-few g c = λ t feet st.
    let r = c.requires.to in let f = c.requires.from in
    let l = c.elements.invariant.listed r.0 r.1 f.0 f.1 r.2 f.2 in
    let su = stands_as c.args.types.now (g.N.Memory.places c.args.from_mem.now) (g.N.Memory.buffers c.args.from_mem.now) c.args.from c.args.to.type_no f.0 f.1 c.requires.same f.2 in
    let same = same_count c.args.types.now (g.M.Memory.places c.elements.to_mem) (g.M.Memory.buffers c.elements.to_mem) c.args.to c.args.field t l.shape feet l.stands.now st l.stands.stands in
    omega (arith, same, l.count, c.elements-test.true, c.count-len.ensures f.0 f.1 su, c.requires.few r.0 r.1 f.0 f.1 r.2 f.2)

pub returns-in_err-append_bytes-clause-changes : goal.returns-in_err-append_bytes-clause-changes
returns-in_err-append_bytes-clause-changes g c = λ t feet u own st su.
    let l = c.elements.invariant.listed t feet u own st su in
    let their = stands_as c.args.types.now (g.N.Memory.places c.args.from_mem.now) (g.N.Memory.buffers c.args.from_mem.now) c.args.from c.args.to.type_no u own c.requires.same su in
    let less = c.elements-test.true in let len = c.count-len.ensures u own their in
    let M = g.M.Memory in
    then_within M.key M.places M.buffers M.blocks (2 * c.elements.i) 2 c.elements.i 1 (2 * count_at c.args.types.now c.args.to.type_no c.args.field u) (count_at c.args.types.now c.args.to.type_no c.args.field u) feet l.stands.now c.args.to_mem.now c.elements.to_mem c.append_bytes.new.mem
    (c.elements.invariant.changes t feet st) l.stands.from (c.append_bytes.ensures.changes l.shape l.stands.now l.stands.stands) (omega (arith, less, len)) (omega (arith, less, len))

pub elements-preserved : goal.elements-preserved
elements-preserved g c =
    let has = c.requires.field in
    let r = c.requires.to in let f = c.requires.from in
    record {
      within = omega (arith, c.elements-test.true);
      listed = λ t feet u own st su.
          let l = c.elements.invariant.listed t feet u own st su in
          let their = stands_as c.args.types.now (g.N.Memory.places c.args.from_mem.now) (g.N.Memory.buffers c.args.from_mem.now) c.args.from c.args.to.type_no u own c.requires.same su in
          listed_more c.args.types.now c.args.to c.args.field has.field has.found (g.M.Memory.places c.args.to_mem.now) (g.M.Memory.places c.elements.to_mem) (g.M.Memory.places c.append_bytes.new.mem) (g.M.Memory.buffers c.args.to_mem.now) (g.M.Memory.buffers c.elements.to_mem) (g.M.Memory.buffers c.append_bytes.new.mem)
          (values_held (held_at c.args.types.now c.args.to.type_no c.args.field u)) c.elements.i (c.elements.i + 1) (omega arith) (Bytes c.element_bytes-bytes.result.now) t feet (c.elements.invariant.changes t feet st).still_there l (c.element_bytes-bytes.ensures u own their) (c.in_ok-append_bytes.ensures.appended l.shape l.stands.now l.stands.stands);
      space = λ t feet u own st su.
          let l = c.elements.invariant.listed t feet u own st su in
          let their = stands_as c.args.types.now (g.N.Memory.places c.args.from_mem.now) (g.N.Memory.buffers c.args.from_mem.now) c.args.from c.args.to.type_no u own c.requires.same su in
          let values = values_held (held_at c.args.types.now c.args.to.type_no c.args.field u) in
          string_grown (count_at c.args.types.now c.args.to.type_no c.args.field t) c.elements.i (count_at c.args.types.now c.args.to.type_no c.args.field l.shape) (string_bytes (length c.element_bytes-bytes.result.now)) (strings_cost string_bytes (values_drop c.elements.i values)) (strings_cost string_bytes (values_drop (c.elements.i + 1) values)) (strings_cost string_bytes values) _ _ _ l.count
          (string_left string_bytes values c.elements.i (c.elements.i + 1) (omega arith) c.element_bytes-bytes.result.now (c.element_bytes-bytes.ensures u own their)) (c.elements.invariant.space t feet u own st su) (c.in_ok-append_bytes.ensures.space l.shape l.stands.now l.stands.stands);
      kept = λ u own su.
          let their = stands_as c.args.types.now (g.N.Memory.places c.args.from_mem.now) (g.N.Memory.buffers c.args.from_mem.now) c.args.from c.args.to.type_no u own c.requires.same su in
          let values = values_held (held_at c.args.types.now c.args.to.type_no c.args.field u) in
          let left = string_left cleanups.bytes values c.elements.i (c.elements.i + 1) (omega arith) c.element_bytes-bytes.result.now (c.element_bytes-bytes.ensures u own their) in
          let before = c.elements.invariant.kept u own su in let more = c.in_ok-append_bytes.ensures.kept in
          kept_more _ _ _ _ _ _ _ left before more;
      changes = λ t feet st.
          let l = c.elements.invariant.listed t feet f.0 f.1 st f.2 in
          let M = g.M.Memory in
          then_within M.key M.places M.buffers M.blocks (2 * c.elements.i) 2 c.elements.i 1 (2 * (c.elements.i + 1)) (c.elements.i + 1) feet l.stands.now c.args.to_mem.now c.elements.to_mem c.append_bytes.new.mem
          (c.elements.invariant.changes t feet st) l.stands.from (c.in_ok-append_bytes.ensures.changes l.shape l.stands.now l.stands.stands) (omega arith) (omega arith);
    }

pub returns-clause-merged : goal.returns-clause-merged
returns-clause-merged g c = λ t feet u own st su.
    let has = c.requires.field in
    let l = c.elements.invariant.listed t feet u own st su in
    let their = stands_as c.args.types.now (g.N.Memory.places c.args.from_mem.now) (g.N.Memory.buffers c.args.from_mem.now) c.args.from c.args.to.type_no u own c.requires.same su in
    let values = values_held (held_at c.args.types.now c.args.to.type_no c.args.field u) in
    let within = c.elements.invariant.within in let done = c.elements-test.false in let len = c.count-len.ensures u own their in
    let all : c.elements.i ≡ length (values_in_list values) = omega (arith, within, done, len) in
    listed_all c.args.types.now c.args.to c.args.field has.field has.found (g.M.Memory.places c.args.to_mem.now) (g.M.Memory.places c.elements.to_mem) (g.M.Memory.buffers c.args.to_mem.now) (g.M.Memory.buffers c.elements.to_mem) values c.elements.i t feet (ap (λ n. values_drop n values) all ∙ values_end values) l

pub returns-clause-space : goal.returns-clause-space
returns-clause-space g c = λ t feet u own st su.
    let their = stands_as c.args.types.now (g.N.Memory.places c.args.from_mem.now) (g.N.Memory.buffers c.args.from_mem.now) c.args.from c.args.to.type_no u own c.requires.same su in
    let values = values_held (held_at c.args.types.now c.args.to.type_no c.args.field u) in
    let within = c.elements.invariant.within in let done = c.elements-test.false in let len = c.count-len.ensures u own their in
    let all : c.elements.i ≡ length (values_in_list values) = omega (arith, within, done, len) in
    let none : strings_cost string_bytes (values_drop c.elements.i values) ≡ 0 = ap (strings_cost string_bytes) (ap (λ n. values_drop n values) all ∙ values_end values) in
    let n = count_at c.args.types.now c.args.to.type_no c.args.field t in
    let grown = ap (λ k. array_bytes 24 n (n + k)) all in
    omega (arith, c.elements.invariant.space t feet u own st su, none, grown)

pub returns-clause-kept : goal.returns-clause-kept
returns-clause-kept g c = λ u own su.
    let their = stands_as c.args.types.now (g.N.Memory.places c.args.from_mem.now) (g.N.Memory.buffers c.args.from_mem.now) c.args.from c.args.to.type_no u own c.requires.same su in
    let values = values_held (held_at c.args.types.now c.args.to.type_no c.args.field u) in
    let within = c.elements.invariant.within in let done = c.elements-test.false in let len = c.count-len.ensures u own their in
    let all : c.elements.i ≡ length (values_in_list values) = omega (arith, within, done, len) in
    let none : strings_cost cleanups.bytes (values_drop c.elements.i values) ≡ 0 = ap (strings_cost cleanups.bytes) (ap (λ n. values_drop n values) all ∙ values_end values) in
    omega (arith, c.elements.invariant.kept u own su, none)
