use Rattle.std.proofs.Common.{◌≡◌, ◌+◌, ◌-◌, ◌*◌, List, length, refl, sym, ap, ◌∙◌, subst, arith, get_or}
use Rattle.std.specs.FinMap as fin
use Rattle.std.specs.Prelude.{slice_get}
use Rattle.std.proofs.lemmas.Option.{slice_get-get_or}
use Rattle.pb_schema.specs.HeldAt.{held_at}
use Rattle.pb_schema.specs.MergeCost.{value_merge_cost, values_fresh_cost}
use Rattle.pb_schema.specs.Meter.{array_bytes, cleanups}
use Rattle.pb_schema.specs.Fits.{fields_of}
use Rattle.pb_schema.specs.Kinds.{value_type_of}
use Rattle.pb_schema.specs.Put.{values_held}
use Rattle.pb_schema.specs.Tree.{Nothing, fields_held, values_in_list}
use Rattle.pb_schema.specs.Units.{fields_units, value_units, values_units}
use Rattle.pb_schema.proofs.MeterLaws.{placed_in_parts}
use Rattle.msg_layout.proofs.FindLaws.{past_end_entry}
use Rattle.msg_layout.specs.declared.entry.Entry.{Entry}
use Rattle.msg_layout.specs.Layout.{Layout}
use Rattle.dyn_message.specs.Changes.{NowStands}
use Rattle.dyn_message.specs.Lists.{count_at}
use Rattle.dyn_message.specs.Unknown.{pieces_of}
use Rattle.dyn_message.proofs.Opening.{some_record}
use Rattle.pb_parse.proofs.Memories.{nothing_changes, record_changes, then_within, within_more}
use Rattle.pb_parse.proofs.Nested.{nested_type}
use Rattle.pb_write.proofs.Parts.{fields_drop, values_drop, values_end}
use Rattle.msg_merge.specs.Across.{field_units, inner_units, record_meter}
use Rattle.msg_merge.specs.Extents.{pieces_bytes}
use Rattle.msg_merge.proofs.Listed.{kept_more, listed_none, listed_more, listed_all, stands_as}
use Rattle.msg_merge.proofs.ListMerged.{element_grown, element_unit, fresh_left, list_into, list_units, no_more_cost, subs_cost, units_left}
use Rattle.msg_merge.proofs.NestedMerged.{element_counts, element_merged, element_source, element_units, inside_changes, sub_counts, sub_field_units, sub_merged, sub_units}
use Rattle.msg_merge.proofs.OneMerged.{if_ok, made_none, some_element}
use Rattle.msg_merge.proofs.WalkedOn.{at_index, end_index, held_from, kept_whole, known_field, space_whole, step_units, walked_more, walked_whole}
use Rattle.msg_merge.proofs.across.+merge.Goals as goal

-- A MESSAGE IN A FIELD

pub merge_sub-returns-in-Ok-clause-merged : goal.merge_sub-returns-in-Ok-clause-merged
merge_sub-returns-in-Ok-clause-merged g t c = if_ok _ _ c.merge_message.result
    (λ _ merged. λ v feet u own st from.
    let M = g.M.Memory in
    let N = g.N.Memory in
    let schema = c.args.types.now in
    let lawful = c.schema-schema.ensures.lawful in
    let su = stands_as schema (N.places c.args.from_mem.now) (N.buffers c.args.from_mem.now) c.args.from c.args.to.type_no u own c.requires.same from in
    let made = c.in-Ok.ensures.made v feet st in
    let has = c.in-Some.ensures u own su in
    sub_merged schema lawful c.args.to c.args.field c.requires.known c.requires.single (M.places c.args.to_mem.now) (M.places c.make_sub.new.mem) (N.places c.args.from_mem.now) (M.buffers c.args.to_mem.now) (M.buffers c.make_sub.new.mem) (N.buffers c.args.from_mem.now) v u feet own st (record { place = c.args.from.place; type_no = c.args.to.type_no }) c.in-Some.source c.in-Ok.child refl has made (M.places c.merge_message.new.to_mem) (M.buffers c.merge_message.new.to_mem) c.make_sub.ensures.changes.still_there
    (merged made.has.tree made.has.own has.tree has.own made.has.stands has.stands) (c.merge_message.ensures.changes made.has.tree made.has.own has.tree has.own made.has.stands has.stands).others)
    c.merge_message.ensures.merged

pub merge_sub-returns-in-Ok-clause-space : goal.merge_sub-returns-in-Ok-clause-space
merge_sub-returns-in-Ok-clause-space g t c = if_ok _ _ c.merge_message.result
    (λ _ space. λ v feet u own st from.
    let M = g.M.Memory in
    let N = g.N.Memory in
    let schema = c.args.types.now in
    let lawful = c.schema-schema.ensures.lawful in
    let su = stands_as schema (N.places c.args.from_mem.now) (N.buffers c.args.from_mem.now) c.args.from c.args.to.type_no u own c.requires.same from in
    let made = c.in-Ok.ensures.made v feet st in
    let has = c.in-Some.ensures u own su in
    sub_counts schema lawful c.args.to c.args.field c.requires.known c.requires.single (M.places c.args.to_mem.now) (M.places c.make_sub.new.mem) (N.places c.args.from_mem.now) (M.buffers c.args.to_mem.now) (M.buffers c.make_sub.new.mem) (N.buffers c.args.from_mem.now) v u feet own st (record { place = c.args.from.place; type_no = c.args.to.type_no }) c.in-Some.source c.in-Ok.child refl has made (record_meter schema) _ _ _ (c.in-Ok.ensures.space v feet st) (space made.has.tree made.has.own has.tree has.own made.has.stands has.stands))
    c.merge_message.ensures.space

pub merge_sub-returns-in-Ok-clause-kept : goal.merge_sub-returns-in-Ok-clause-kept
merge_sub-returns-in-Ok-clause-kept g t c = if_ok _ _ c.merge_message.result
    (λ _ kept. λ v feet u own st from.
    let M = g.M.Memory in
    let N = g.N.Memory in
    let schema = c.args.types.now in
    let lawful = c.schema-schema.ensures.lawful in
    let su = stands_as schema (N.places c.args.from_mem.now) (N.buffers c.args.from_mem.now) c.args.from c.args.to.type_no u own c.requires.same from in
    let made = c.in-Ok.ensures.made v feet st in
    let has = c.in-Some.ensures u own su in
    let none = made_none (held_at schema c.args.to.type_no c.args.field.number v) in
    let same = ap (λ b. fin.len b) c.make_sub.ensures.buffers in
    sub_counts schema lawful c.args.to c.args.field c.requires.known c.requires.single (M.places c.args.to_mem.now) (M.places c.make_sub.new.mem) (N.places c.args.from_mem.now) (M.buffers c.args.to_mem.now) (M.buffers c.make_sub.new.mem) (N.buffers c.args.from_mem.now) v u feet own st (record { place = c.args.from.place; type_no = c.args.to.type_no }) c.in-Some.source c.in-Ok.child refl has made cleanups (fin.len (M.buffers c.args.to_mem.now)) (fin.len (M.buffers c.make_sub.new.mem)) _ (omega (arith, same, none)) (kept made.has.tree made.has.own has.tree has.own made.has.stands has.stands))
    c.merge_message.ensures.kept

pub merge_sub-returns-in-Ok-clause-changes : goal.merge_sub-returns-in-Ok-clause-changes
merge_sub-returns-in-Ok-clause-changes g t c = λ v feet u own st from.
    let M = g.M.Memory in
    let N = g.N.Memory in
    let schema = c.args.types.now in
    let lawful = c.schema-schema.ensures.lawful in
    let su = stands_as schema (N.places c.args.from_mem.now) (N.buffers c.args.from_mem.now) c.args.from c.args.to.type_no u own c.requires.same from in
    let made = c.in-Ok.ensures.made v feet st in
    let has = c.in-Some.ensures u own su in
    let units = sub_units schema lawful c.args.to c.args.field c.requires.known c.requires.single (M.places c.args.to_mem.now) (M.places c.make_sub.new.mem) (N.places c.args.from_mem.now) (M.buffers c.args.to_mem.now) (M.buffers c.make_sub.new.mem) (N.buffers c.args.from_mem.now) v u feet own st (record { place = c.args.from.place; type_no = c.args.to.type_no }) c.in-Some.source c.in-Ok.child refl has made in
    inside_changes M.key M.places M.buffers M.blocks 1 (4 * inner_units has.tree) 0 (4 * inner_units has.tree) (4 * field_units schema c.args.to.type_no c.args.field u) (4 * field_units schema c.args.to.type_no c.args.field u)
    feet made.parent.now made.has.own c.args.to_mem.now c.make_sub.new.mem c.merge_message.new.to_mem
    (record_changes M.key M.places M.buffers M.blocks 1 1 0 0 schema c.args.to v feet c.args.to_mem.now c.make_sub.new.mem st c.make_sub.ensures.changes (omega arith) (omega arith)) made.parent.from made.has.within
    (c.merge_message.ensures.changes made.has.tree made.has.own has.tree has.own made.has.stands has.stands) (omega (arith, units)) (omega (arith, units))

pub merge_sub-returns-in-Err-clause-changes : goal.merge_sub-returns-in-Err-clause-changes
merge_sub-returns-in-Err-clause-changes g t c = λ v feet u own st from.
    let M = g.M.Memory in
    let N = g.N.Memory in
    let schema = c.args.types.now in
    let lawful = c.schema-schema.ensures.lawful in
    let su = stands_as schema (N.places c.args.from_mem.now) (N.buffers c.args.from_mem.now) c.args.from c.args.to.type_no u own c.requires.same from in
    let has = c.in-Some.ensures u own su in
    let units = sub_field_units schema (record { place = c.args.from.place; type_no = c.args.to.type_no }) c.args.field (N.places c.args.from_mem.now) (N.buffers c.args.from_mem.now) u own c.in-Some.source has in
    record_changes M.key M.places M.buffers M.blocks 1 (4 * field_units schema c.args.to.type_no c.args.field u) 0 (4 * field_units schema c.args.to.type_no c.args.field u) schema c.args.to v feet c.args.to_mem.now c.make_sub.new.mem st c.make_sub.ensures.changes (omega (arith, units)) (omega arith)

-- A MESSAGE OF A LIST

pub append_element-merge_message-requires : goal.append_element-merge_message-requires
append_element-merge_message-requires g t c κs within =
    let M = g.M.Memory in
    let N = g.N.Memory in
    let schema = c.args.types.now in
    let lawful = c.schema-schema.ensures.lawful in
    let r = c.requires.to in
    let f = c.requires.from in
    let su = stands_as schema (N.places c.args.from_mem.now) (N.buffers c.args.from_mem.now) c.args.from c.args.to.type_no f.0 f.1 c.requires.same f.2 in
    let made = c.in-Ok.ensures.appended r.0 r.1 r.2 in
    let has = c.element_sub-source.ensures f.0 f.1 su in
    (omega (arith, c.if-left-eq0.false), (within.0, (within.1.0, (within.1.1.0, (within.1.1.1, ((made.has.tree, made.has.own, made.has.stands), ((has.tree, has.own, has.stands), element_source schema lawful c.args.to c.args.field c.requires.known (M.places c.args.to_mem.now) (M.places c.append_sub.new.mem) (N.places c.args.from_mem.now) (M.buffers c.args.to_mem.now) (M.buffers c.append_sub.new.mem) (N.buffers c.args.from_mem.now) r.0 f.0 r.1 f.1 r.2 (record { place = c.args.from.place; type_no = c.args.to.type_no }) c.element_sub-source.result c.in-Ok.child refl c.args.index has made)))))))

pub append_element-returns-in-Ok-clause-merged : goal.append_element-returns-in-Ok-clause-merged
append_element-returns-in-Ok-clause-merged g t c = if_ok _ _ c.merge_message.result
    (λ _ merged. λ v feet u own st from value is.
    let M = g.M.Memory in
    let N = g.N.Memory in
    let schema = c.args.types.now in
    let lawful = c.schema-schema.ensures.lawful in
    let su = stands_as schema (N.places c.args.from_mem.now) (N.buffers c.args.from_mem.now) c.args.from c.args.to.type_no u own c.requires.same from in
    let made = c.in-Ok.ensures.appended v feet st in
    let has = c.element_sub-source.ensures u own su in
    element_merged schema lawful c.args.to c.args.field c.requires.known (M.places c.args.to_mem.now) (M.places c.append_sub.new.mem) (N.places c.args.from_mem.now) (M.buffers c.args.to_mem.now) (M.buffers c.append_sub.new.mem) (N.buffers c.args.from_mem.now) v u feet own st (record { place = c.args.from.place; type_no = c.args.to.type_no }) c.element_sub-source.result c.in-Ok.child refl c.args.index has made value is (M.places c.merge_message.new.to_mem) (M.buffers c.merge_message.new.to_mem) (c.append_sub.ensures.changes v feet st).still_there
    (merged made.has.tree made.has.own has.tree has.own made.has.stands has.stands) (c.merge_message.ensures.changes made.has.tree made.has.own has.tree has.own made.has.stands has.stands).others)
    c.merge_message.ensures.merged

pub append_element-returns-in-Ok-clause-space : goal.append_element-returns-in-Ok-clause-space
append_element-returns-in-Ok-clause-space g t c = if_ok _ _ c.merge_message.result
    (λ _ space. λ v feet u own st from value is.
    let M = g.M.Memory in
    let N = g.N.Memory in
    let schema = c.args.types.now in
    let lawful = c.schema-schema.ensures.lawful in
    let su = stands_as schema (N.places c.args.from_mem.now) (N.buffers c.args.from_mem.now) c.args.from c.args.to.type_no u own c.requires.same from in
    let made = c.in-Ok.ensures.appended v feet st in
    let has = c.element_sub-source.ensures u own su in
    element_counts schema lawful c.args.to c.args.field c.requires.known (M.places c.args.to_mem.now) (M.places c.append_sub.new.mem) (N.places c.args.from_mem.now) (M.buffers c.args.to_mem.now) (M.buffers c.append_sub.new.mem) (N.buffers c.args.from_mem.now) v u feet own st (record { place = c.args.from.place; type_no = c.args.to.type_no }) c.element_sub-source.result c.in-Ok.child refl c.args.index has made value is (record_meter schema) _ _ _ _ (c.in-Ok.ensures.space v feet st) (space made.has.tree made.has.own has.tree has.own made.has.stands has.stands))
    c.merge_message.ensures.space

pub append_element-returns-in-Ok-clause-kept : goal.append_element-returns-in-Ok-clause-kept
append_element-returns-in-Ok-clause-kept g t c = if_ok _ _ c.merge_message.result
    (λ _ kept. λ v feet u own st from value is.
    let M = g.M.Memory in
    let N = g.N.Memory in
    let schema = c.args.types.now in
    let lawful = c.schema-schema.ensures.lawful in
    let su = stands_as schema (N.places c.args.from_mem.now) (N.buffers c.args.from_mem.now) c.args.from c.args.to.type_no u own c.requires.same from in
    let made = c.in-Ok.ensures.appended v feet st in
    let has = c.element_sub-source.ensures u own su in
    let same = ap (λ b. fin.len b) c.append_sub.ensures.buffers in
    let all = element_counts schema lawful c.args.to c.args.field c.requires.known (M.places c.args.to_mem.now) (M.places c.append_sub.new.mem) (N.places c.args.from_mem.now) (M.buffers c.args.to_mem.now) (M.buffers c.append_sub.new.mem) (N.buffers c.args.from_mem.now) v u feet own st (record { place = c.args.from.place; type_no = c.args.to.type_no }) c.element_sub-source.result c.in-Ok.child refl c.args.index has made value is cleanups (fin.len (M.buffers c.args.to_mem.now)) (fin.len (M.buffers c.append_sub.new.mem)) _ 0 (omega (arith, same)) (kept made.has.tree made.has.own has.tree has.own made.has.stands has.stands) in
    omega (arith, all))
    c.merge_message.ensures.kept

pub append_element-returns-in-Ok-clause-changes : goal.append_element-returns-in-Ok-clause-changes
append_element-returns-in-Ok-clause-changes g t c = λ v feet u own st from value is.
    let M = g.M.Memory in
    let N = g.N.Memory in
    let schema = c.args.types.now in
    let lawful = c.schema-schema.ensures.lawful in
    let su = stands_as schema (N.places c.args.from_mem.now) (N.buffers c.args.from_mem.now) c.args.from c.args.to.type_no u own c.requires.same from in
    let made = c.in-Ok.ensures.appended v feet st in
    let has = c.element_sub-source.ensures u own su in
    let units = element_units schema lawful c.args.to c.args.field c.requires.known (M.places c.args.to_mem.now) (M.places c.append_sub.new.mem) (N.places c.args.from_mem.now) (M.buffers c.args.to_mem.now) (M.buffers c.append_sub.new.mem) (N.buffers c.args.from_mem.now) v u feet own st (record { place = c.args.from.place; type_no = c.args.to.type_no }) c.element_sub-source.result c.in-Ok.child refl c.args.index has made value is in
    inside_changes M.key M.places M.buffers M.blocks 2 (4 * inner_units has.tree) 0 (4 * inner_units has.tree) (4 * value_units pieces_bytes value) (4 * value_units pieces_bytes value)
    feet made.parent.now made.has.own c.args.to_mem.now c.append_sub.new.mem c.merge_message.new.to_mem
    (c.append_sub.ensures.changes v feet st) made.parent.from made.has.within (c.merge_message.ensures.changes made.has.tree made.has.own has.tree has.own made.has.stands has.stands) (omega (arith, units)) (omega (arith, units))

pub append_element-returns-in-Err-clause-changes : goal.append_element-returns-in-Err-clause-changes
append_element-returns-in-Err-clause-changes g t c = λ v feet u own st from value is.
    let M = g.M.Memory in
    let some = element_unit value in
    within_more M.key M.places M.buffers M.blocks 2 (4 * value_units pieces_bytes value) 0 (4 * value_units pieces_bytes value) feet c.args.to_mem.now c.append_sub.new.mem (c.append_sub.ensures.changes v feet st) (omega (arith, some)) (omega arith)

-- A LIST OF MESSAGES

pub merge_elements-elements-init : goal.merge_elements-elements-init
merge_elements-elements-init g t c =
    let M = g.M.Memory in
    let schema = c.args.types.now in
    record {
      within = omega arith;
      listed = λ v feet u own st from. listed_none schema c.args.to c.args.field.number c.args.field c.requires.known (M.places c.args.to_mem.now) (M.buffers c.args.to_mem.now) (values_held (held_at schema c.args.to.type_no c.args.field.number u)) v feet st;
      space = λ v feet u own st from.
          let n = count_at schema c.args.to.type_no c.args.field.number v in
          let none = (placed_in_parts (λ type_no. 0)).none 16 n in
          let same = ap (array_bytes 16 n) {x = n + 0} {y = n} (omega arith) in
          omega (arith, none, same);
      kept = λ v feet u own st from. refl;
      few = λ u own from. omega arith;
      changes = λ v feet u own st from.
          within_more M.key M.places M.buffers M.blocks 0 _ 0 _ feet c.args.to_mem.now c.args.to_mem.now (nothing_changes M.key M.places M.buffers M.blocks feet c.args.to_mem.now) (omega arith) (omega arith);
    }

pub merge_elements-append_element-requires : goal.merge_elements-append_element-requires
merge_elements-append_element-requires g t c κs within =
    let M = g.M.Memory in
    let N = g.N.Memory in
    let schema = c.args.types.now in
    let lawful = c.schema-schema.ensures.lawful in
    let r = c.requires.to in
    let f = c.requires.from in
    let l = c.elements.invariant.listed r.0 r.1 f.0 f.1 r.2 f.2 in
    let less = c.elements-test.true in (
      omega arith,
      (
        within.0,
        (
          within.1.0,
          (
            within.1.1.0,
            (
              within.1.1.1,
              (
                (l.shape, l.stands.now, l.stands.stands),
                (
                  f,
                  (
                    c.requires.same,
                    (
                      c.requires.known,
                      (
                        c.requires.kind,
                        (
                          c.requires.list,
                          (λ u own from.
                              let su = stands_as schema (N.places c.args.from_mem.now) (N.buffers c.args.from_mem.now) c.args.from c.args.to.type_no u own c.requires.same from in
                              let len = c.count-len.ensures u own su in
                              omega (arith, less, len)),
                        ),
                      ),
                    ),
                  ),
                ),
              ),
            ),
          ),
        ),
      ),
    )

pub merge_elements-elements-preserved : goal.merge_elements-elements-preserved
merge_elements-elements-preserved g t c =
    let M = g.M.Memory in
    let N = g.N.Memory in
    let schema = c.args.types.now in
    let lawful = c.schema-schema.ensures.lawful in
    let less = c.elements-test.true in
    record {
      within = omega (arith, less);
      listed = λ v feet u own st from.
          let su = stands_as schema (N.places c.args.from_mem.now) (N.buffers c.args.from_mem.now) c.args.from c.args.to.type_no u own c.requires.same from in
          let values = values_held (held_at schema c.args.to.type_no c.args.field.number u) in
          let l = c.elements.invariant.listed v feet u own st from in
          let e = (some_element values c.elements.i (omega (arith, c.elements-test.true, c.count-len.ensures u own su))) in
          listed_more schema c.args.to c.args.field.number c.args.field c.requires.known (M.places c.args.to_mem.now) (M.places c.elements.to_mem) (M.places c.append_element.new.to_mem) (M.buffers c.args.to_mem.now) (M.buffers c.elements.to_mem) (M.buffers c.append_element.new.to_mem)
          values c.elements.i (c.elements.i + 1) (omega arith) e.0 v feet (c.elements.invariant.changes v feet u own st from).still_there l e.1 (c.in-Ok.ensures.merged l.shape l.stands.now u own l.stands.stands from e.0 e.1);
      space = λ v feet u own st from.
          let su = stands_as schema (N.places c.args.from_mem.now) (N.buffers c.args.from_mem.now) c.args.from c.args.to.type_no u own c.requires.same from in
          let values = values_held (held_at schema c.args.to.type_no c.args.field.number u) in
          let l = c.elements.invariant.listed v feet u own st from in
          let e = (some_element values c.elements.i (omega (arith, c.elements-test.true, c.count-len.ensures u own su))) in
          element_grown (count_at schema c.args.to.type_no c.args.field.number v) c.elements.i (count_at schema c.args.to.type_no c.args.field.number l.shape) (value_merge_cost (record_meter schema) schema c.args.field Nothing e.0) (values_fresh_cost (record_meter schema) schema c.args.field (values_drop c.elements.i values)) (values_fresh_cost (record_meter schema) schema c.args.field (values_drop (c.elements.i + 1) values)) (values_fresh_cost (record_meter schema) schema c.args.field values) _ _ _ l.count
          (fresh_left (record_meter schema) schema c.args.field values c.elements.i (c.elements.i + 1) (omega arith) e.0 e.1) (c.elements.invariant.space v feet u own st from) (c.in-Ok.ensures.space l.shape l.stands.now u own l.stands.stands from e.0 e.1);
      kept = λ v feet u own st from.
          let su = stands_as schema (N.places c.args.from_mem.now) (N.buffers c.args.from_mem.now) c.args.from c.args.to.type_no u own c.requires.same from in
          let values = values_held (held_at schema c.args.to.type_no c.args.field.number u) in
          let l = c.elements.invariant.listed v feet u own st from in
          let e = (some_element values c.elements.i (omega (arith, c.elements-test.true, c.count-len.ensures u own su))) in
          kept_more (value_merge_cost cleanups schema c.args.field Nothing e.0) _ _ _ _ _ _ (fresh_left cleanups schema c.args.field values c.elements.i (c.elements.i + 1) (omega arith) e.0 e.1) (c.elements.invariant.kept v feet u own st from) (c.in-Ok.ensures.kept l.shape l.stands.now u own l.stands.stands from e.0 e.1);
      few = λ u own from.
          let su = stands_as schema (N.places c.args.from_mem.now) (N.buffers c.args.from_mem.now) c.args.from c.args.to.type_no u own c.requires.same from in
          let values = values_held (held_at schema c.args.to.type_no c.args.field.number u) in
          let e = (some_element values c.elements.i (omega (arith, c.elements-test.true, c.count-len.ensures u own su))) in
          let left = units_left values c.elements.i (c.elements.i + 1) (omega arith) e.0 e.1 in
          let few = c.elements.invariant.few u own from in
          omega (arith, left, few);
      changes = λ v feet u own st from.
          let su = stands_as schema (N.places c.args.from_mem.now) (N.buffers c.args.from_mem.now) c.args.from c.args.to.type_no u own c.requires.same from in
          let values = values_held (held_at schema c.args.to.type_no c.args.field.number u) in
          let l = c.elements.invariant.listed v feet u own st from in
          let e = (some_element values c.elements.i (omega (arith, c.elements-test.true, c.count-len.ensures u own su))) in
          let left = units_left values c.elements.i (c.elements.i + 1) (omega arith) e.0 e.1 in
          let few = c.elements.invariant.few u own from in
          then_within M.key M.places M.buffers M.blocks (4 * (values_units pieces_bytes values - values_units pieces_bytes (values_drop c.elements.i values))) (4 * value_units pieces_bytes e.0) (4 * (values_units pieces_bytes values - values_units pieces_bytes (values_drop c.elements.i values))) (4 * value_units pieces_bytes e.0)
          (4 * (values_units pieces_bytes values - values_units pieces_bytes (values_drop (c.elements.i + 1) values))) (4 * (values_units pieces_bytes values - values_units pieces_bytes (values_drop (c.elements.i + 1) values)))
          feet l.stands.now c.args.to_mem.now c.elements.to_mem c.append_element.new.to_mem (c.elements.invariant.changes v feet u own st from) l.stands.from (c.in-Ok.ensures.changes l.shape l.stands.now u own l.stands.stands from e.0 e.1) (omega (arith, left, few)) (omega (arith, left, few));
    }

pub merge_elements-returns-in-Err-clause-changes : goal.merge_elements-returns-in-Err-clause-changes
merge_elements-returns-in-Err-clause-changes g t c = λ v feet u own st from.
    let M = g.M.Memory in
    let N = g.N.Memory in
    let schema = c.args.types.now in
    let lawful = c.schema-schema.ensures.lawful in
    let su = stands_as schema (N.places c.args.from_mem.now) (N.buffers c.args.from_mem.now) c.args.from c.args.to.type_no u own c.requires.same from in
    let values = values_held (held_at schema c.args.to.type_no c.args.field.number u) in
    let l = c.elements.invariant.listed v feet u own st from in
    let e = (some_element values c.elements.i (omega (arith, c.elements-test.true, c.count-len.ensures u own su))) in
    let left = units_left values c.elements.i (c.elements.i + 1) (omega arith) e.0 e.1 in
    let few = c.elements.invariant.few u own from in
    let units = list_units schema lawful c.args.to c.args.field c.requires.known c.requires.list (N.places c.args.from_mem.now) (N.buffers c.args.from_mem.now) c.args.from.place u own su in
    then_within M.key M.places M.buffers M.blocks (4 * (values_units pieces_bytes values - values_units pieces_bytes (values_drop c.elements.i values))) (4 * value_units pieces_bytes e.0) (4 * (values_units pieces_bytes values - values_units pieces_bytes (values_drop c.elements.i values))) (4 * value_units pieces_bytes e.0)
    (4 * field_units schema c.args.to.type_no c.args.field u) (4 * field_units schema c.args.to.type_no c.args.field u)
    feet l.stands.now c.args.to_mem.now c.elements.to_mem c.append_element.new.to_mem (c.elements.invariant.changes v feet u own st from) l.stands.from (c.in-Err.ensures.changes l.shape l.stands.now u own l.stands.stands from e.0 e.1) (omega (arith, left, few, units)) (omega (arith, left, few, units))

pub merge_elements-returns-clause-merged : goal.merge_elements-returns-clause-merged
merge_elements-returns-clause-merged g t c = λ v feet u own st from.
    let M = g.M.Memory in
    let N = g.N.Memory in
    let schema = c.args.types.now in
    let lawful = c.schema-schema.ensures.lawful in
    let su = stands_as schema (N.places c.args.from_mem.now) (N.buffers c.args.from_mem.now) c.args.from c.args.to.type_no u own c.requires.same from in
    let values = values_held (held_at schema c.args.to.type_no c.args.field.number u) in
    let within = c.elements.invariant.within in let done = c.elements-test.false in let len = c.count-len.ensures u own su in
    let all : c.elements.i ≡ length (values_in_list values) = omega (arith, within, done, len) in
    subst (λ s. NowStands schema (M.places c.args.to_mem.now) (M.buffers c.args.to_mem.now) (M.places c.elements.to_mem) (M.buffers c.elements.to_mem) c.args.to s feet)
    (list_into schema lawful c.args.to c.args.field c.requires.known c.requires.list (N.places c.args.from_mem.now) (N.buffers c.args.from_mem.now) c.args.from.place u own su v)
    (listed_all schema c.args.to c.args.field.number c.args.field c.requires.known (M.places c.args.to_mem.now) (M.places c.elements.to_mem) (M.buffers c.args.to_mem.now) (M.buffers c.elements.to_mem) values c.elements.i v feet (ap (λ n. values_drop n values) all ∙ values_end values) (c.elements.invariant.listed v feet u own st from))

pub merge_elements-returns-clause-space : goal.merge_elements-returns-clause-space
merge_elements-returns-clause-space g t c = λ v feet u own st from.
    let M = g.M.Memory in
    let N = g.N.Memory in
    let schema = c.args.types.now in
    let lawful = c.schema-schema.ensures.lawful in
    let su = stands_as schema (N.places c.args.from_mem.now) (N.buffers c.args.from_mem.now) c.args.from c.args.to.type_no u own c.requires.same from in
    let values = values_held (held_at schema c.args.to.type_no c.args.field.number u) in
    let within = c.elements.invariant.within in let done = c.elements-test.false in let len = c.count-len.ensures u own su in
    let all : c.elements.i ≡ length (values_in_list values) = omega (arith, within, done, len) in
    let none = no_more_cost (record_meter schema) schema c.args.field values c.elements.i all in
    let n = count_at schema c.args.to.type_no c.args.field.number v in
    let grown = ap (λ k. array_bytes 16 n (n + k)) all in
    let type = nested_type (value_type_of c.args.field.kind) c.requires.kind in
    let cost = subs_cost schema lawful c.args.to c.args.field c.requires.known c.requires.list (N.places c.args.from_mem.now) (N.buffers c.args.from_mem.now) c.args.from.place u own su (record_meter schema) (M.places c.args.to_mem.now) (M.buffers c.args.to_mem.now) v feet st type.0 type.1 in
    omega (arith, c.elements.invariant.space v feet u own st from, none, grown, cost)

pub merge_elements-returns-clause-kept : goal.merge_elements-returns-clause-kept
merge_elements-returns-clause-kept g t c = λ v feet u own st from.
    let M = g.M.Memory in
    let N = g.N.Memory in
    let schema = c.args.types.now in
    let lawful = c.schema-schema.ensures.lawful in
    let su = stands_as schema (N.places c.args.from_mem.now) (N.buffers c.args.from_mem.now) c.args.from c.args.to.type_no u own c.requires.same from in
    let values = values_held (held_at schema c.args.to.type_no c.args.field.number u) in
    let within = c.elements.invariant.within in let done = c.elements-test.false in let len = c.count-len.ensures u own su in
    let all : c.elements.i ≡ length (values_in_list values) = omega (arith, within, done, len) in
    let none = no_more_cost cleanups schema c.args.field values c.elements.i all in
    let type = nested_type (value_type_of c.args.field.kind) c.requires.kind in
    let cost = subs_cost schema lawful c.args.to c.args.field c.requires.known c.requires.list (N.places c.args.from_mem.now) (N.buffers c.args.from_mem.now) c.args.from.place u own su cleanups (M.places c.args.to_mem.now) (M.buffers c.args.to_mem.now) v feet st type.0 type.1 in
    omega (arith, c.elements.invariant.kept v feet u own st from, none, cost)

pub merge_elements-returns-clause-changes : goal.merge_elements-returns-clause-changes
merge_elements-returns-clause-changes g t c = λ v feet u own st from.
    let M = g.M.Memory in
    let N = g.N.Memory in
    let schema = c.args.types.now in
    let lawful = c.schema-schema.ensures.lawful in
    let su = stands_as schema (N.places c.args.from_mem.now) (N.buffers c.args.from_mem.now) c.args.from c.args.to.type_no u own c.requires.same from in
    let values = values_held (held_at schema c.args.to.type_no c.args.field.number u) in
    let units = list_units schema lawful c.args.to c.args.field c.requires.known c.requires.list (N.places c.args.from_mem.now) (N.buffers c.args.from_mem.now) c.args.from.place u own su in
    within_more M.key M.places M.buffers M.blocks (4 * (values_units pieces_bytes values - values_units pieces_bytes (values_drop c.elements.i values))) (4 * field_units schema c.args.to.type_no c.args.field u) (4 * (values_units pieces_bytes values - values_units pieces_bytes (values_drop c.elements.i values))) (4 * field_units schema c.args.to.type_no c.args.field u)
    feet c.args.to_mem.now c.elements.to_mem (c.elements.invariant.changes v feet u own st from) (omega (arith, units)) (omega (arith, units))

-- A MESSAGE

pub merge_message-of_type-requires : goal.merge_message-of_type-requires
merge_message-of_type-requires g t c =
    let M = g.M.Memory in
    (some_record c.args.types.now (M.places c.args.to_mem.now) (M.buffers c.args.to_mem.now) c.args.to c.requires.to).type

pub merge_message-merge_field-requires : goal.merge_message-merge_field-requires
merge_message-merge_field-requires g t c κs within =
    let M = g.M.Memory in
    let N = g.N.Memory in
    let schema = c.args.types.now in
    let lawful = c.schema-schema.ensures.lawful in
    let entries = c.entries-entries.ensures ∙ ap (λ (l : Layout). l.entries) c.of_type.ensures in
    let below = c.fields-test.true in
    let entry = get_or c.entries-entries.result.now c.fields.i past_end_entry in
    let at = ap (λ es. slice_get es c.fields.i) (sym entries) ∙ slice_get-get_or c.entries-entries.result.now c.fields.i past_end_entry below in
    let r = c.requires.to in
    let f = c.requires.from in
    let w = c.fields.invariant.walked r.0 r.1 f.0 f.1 r.2 f.2 in
    (omega arith, (within.0, (within.1.0, (within.1.1.0, (within.1.1.1, ((w.shape, w.stands.now, w.stands.stands), (f, (c.requires.same, known_field schema lawful c.args.to.type_no c.fields.i entry at))))))))

pub merge_message-fields-preserved : goal.merge_message-fields-preserved
merge_message-fields-preserved g t c =
    let M = g.M.Memory in
    let N = g.N.Memory in
    let schema = c.args.types.now in
    let lawful = c.schema-schema.ensures.lawful in
    let entries = c.entries-entries.ensures ∙ ap (λ (l : Layout). l.entries) c.of_type.ensures in
    let below = c.fields-test.true in
    let entry = get_or c.entries-entries.result.now c.fields.i past_end_entry in
    let at = ap (λ es. slice_get es c.fields.i) (sym entries) ∙ slice_get-get_or c.entries-entries.result.now c.fields.i past_end_entry below in
    record {
      within = omega (arith, below);
      walked = λ v feet u own st from.
          let su = stands_as schema (N.places c.args.from_mem.now) (N.buffers c.args.from_mem.now) c.args.from c.args.to.type_no u own c.requires.same from in
          let is = at_index schema lawful c.args.to.type_no c.fields.i entry at in
          let line = held_from schema lawful c.args.to.type_no (N.places c.args.from_mem.now) (N.buffers c.args.from_mem.now) c.args.from.place u own su c.fields.i entry.field is in
          let units = step_units schema c.args.to u c.fields.i (c.fields.i + 1) (omega arith) entry.field is line in
          let w = c.fields.invariant.walked v feet u own st from in
          walked_more schema c.args.to u c.fields.i (c.fields.i + 1) (omega arith) entry.field is line (M.places c.args.to_mem.now) (M.places c.fields.to_mem) (M.places c.merge_field.new.to_mem) (M.buffers c.args.to_mem.now) (M.buffers c.fields.to_mem) (M.buffers c.merge_field.new.to_mem)
          v feet (c.fields.invariant.changes v feet u own st from).still_there w (c.in-Ok.ensures.merged w.shape w.stands.now u own w.stands.stands from) (c.in-Ok.ensures.space w.shape w.stands.now u own w.stands.stands from) (c.in-Ok.ensures.kept w.shape w.stands.now u own w.stands.stands from);
      changes = λ v feet u own st from.
          let su = stands_as schema (N.places c.args.from_mem.now) (N.buffers c.args.from_mem.now) c.args.from c.args.to.type_no u own c.requires.same from in
          let is = at_index schema lawful c.args.to.type_no c.fields.i entry at in
          let line = held_from schema lawful c.args.to.type_no (N.places c.args.from_mem.now) (N.buffers c.args.from_mem.now) c.args.from.place u own su c.fields.i entry.field is in
          let units = step_units schema c.args.to u c.fields.i (c.fields.i + 1) (omega arith) entry.field is line in
          let w = c.fields.invariant.walked v feet u own st from in
          then_within M.key M.places M.buffers M.blocks (4 * (fields_units pieces_bytes (fields_held u) - fields_units pieces_bytes (fields_drop c.fields.i (fields_held u)))) (4 * field_units schema c.args.to.type_no entry.field u) (4 * (fields_units pieces_bytes (fields_held u) - fields_units pieces_bytes (fields_drop c.fields.i (fields_held u)))) (4 * field_units schema c.args.to.type_no entry.field u)
          (4 * (fields_units pieces_bytes (fields_held u) - fields_units pieces_bytes (fields_drop (c.fields.i + 1) (fields_held u)))) (4 * (fields_units pieces_bytes (fields_held u) - fields_units pieces_bytes (fields_drop (c.fields.i + 1) (fields_held u))))
          feet w.stands.now c.args.to_mem.now c.fields.to_mem c.merge_field.new.to_mem (c.fields.invariant.changes v feet u own st from) w.stands.from (c.in-Ok.ensures.changes w.shape w.stands.now u own w.stands.stands from) (omega (arith, units, w.few)) (omega (arith, units, w.few));
    }

pub merge_message-returns-in-Err-clause-changes : goal.merge_message-returns-in-Err-clause-changes
merge_message-returns-in-Err-clause-changes g t c = λ v feet u own st from.
    let M = g.M.Memory in
    let N = g.N.Memory in
    let schema = c.args.types.now in
    let lawful = c.schema-schema.ensures.lawful in
    let entries = c.entries-entries.ensures ∙ ap (λ (l : Layout). l.entries) c.of_type.ensures in
    let below = c.fields-test.true in
    let entry = get_or c.entries-entries.result.now c.fields.i past_end_entry in
    let at = ap (λ es. slice_get es c.fields.i) (sym entries) ∙ slice_get-get_or c.entries-entries.result.now c.fields.i past_end_entry below in
    let su = stands_as schema (N.places c.args.from_mem.now) (N.buffers c.args.from_mem.now) c.args.from c.args.to.type_no u own c.requires.same from in
    let is = at_index schema lawful c.args.to.type_no c.fields.i entry at in
    let line = held_from schema lawful c.args.to.type_no (N.places c.args.from_mem.now) (N.buffers c.args.from_mem.now) c.args.from.place u own su c.fields.i entry.field is in
    let units = step_units schema c.args.to u c.fields.i (c.fields.i + 1) (omega arith) entry.field is line in
    let w = c.fields.invariant.walked v feet u own st from in
    then_within M.key M.places M.buffers M.blocks (4 * (fields_units pieces_bytes (fields_held u) - fields_units pieces_bytes (fields_drop c.fields.i (fields_held u)))) (4 * field_units schema c.args.to.type_no entry.field u) (4 * (fields_units pieces_bytes (fields_held u) - fields_units pieces_bytes (fields_drop c.fields.i (fields_held u)))) (4 * field_units schema c.args.to.type_no entry.field u)
    (4 * inner_units u) (4 * inner_units u)
    feet w.stands.now c.args.to_mem.now c.fields.to_mem c.merge_field.new.to_mem (c.fields.invariant.changes v feet u own st from) w.stands.from (c.in-Err.ensures.changes w.shape w.stands.now u own w.stands.stands from) (omega (arith, units, w.few)) (omega (arith, units, w.few))

pub merge_message-append_pieces-requires-clause-to : goal.merge_message-append_pieces-requires-clause-to
merge_message-append_pieces-requires-clause-to g t c =
    let r = c.requires.to in
    let f = c.requires.from in
    let w = c.fields.invariant.walked r.0 r.1 f.0 f.1 r.2 f.2 in
    (w.shape, w.stands.now, w.stands.stands)

pub merge_message-returns-clause-merged : goal.merge_message-returns-clause-merged
merge_message-returns-clause-merged g t c = if_ok _ _ c.append_pieces.result
    (λ _ merged. λ v feet u own st from.
    let M = g.M.Memory in
    let N = g.N.Memory in
    let schema = c.args.types.now in
    let lawful = c.schema-schema.ensures.lawful in
    let entries = c.entries-entries.ensures ∙ ap (λ (l : Layout). l.entries) c.of_type.ensures in
    let within = c.fields.invariant.within in
    let past = c.fields-test.false in
    let end = ap (λ (es : List Entry). length es) entries ∙ end_index schema lawful c.args.to.type_no in
    let done : c.fields.i ≡ length (fields_of schema c.args.to.type_no) = omega (arith, within, past, end) in
    let w = c.fields.invariant.walked v feet u own st from in
    walked_whole schema lawful c.args.to c.args.from c.requires.same (M.places c.args.to_mem.now) (M.places c.fields.to_mem) (N.places c.args.from_mem.now) (M.buffers c.args.to_mem.now) (M.buffers c.fields.to_mem) (N.buffers c.args.from_mem.now) v u feet own st from c.fields.i done w (M.places c.append_pieces.new.to_mem) (M.buffers c.append_pieces.new.to_mem) (c.fields.invariant.changes v feet u own st from).still_there (merged w.shape w.stands.now u own w.stands.stands from))
    c.append_pieces.ensures.merged

pub merge_message-returns-clause-space : goal.merge_message-returns-clause-space
merge_message-returns-clause-space g t c = if_ok _ _ c.append_pieces.result
    (λ _ space. λ v feet u own st from.
    let M = g.M.Memory in
    let N = g.N.Memory in
    let schema = c.args.types.now in
    let lawful = c.schema-schema.ensures.lawful in
    let entries = c.entries-entries.ensures ∙ ap (λ (l : Layout). l.entries) c.of_type.ensures in
    let within = c.fields.invariant.within in
    let past = c.fields-test.false in
    let end = ap (λ (es : List Entry). length es) entries ∙ end_index schema lawful c.args.to.type_no in
    let done : c.fields.i ≡ length (fields_of schema c.args.to.type_no) = omega (arith, within, past, end) in
    let w = c.fields.invariant.walked v feet u own st from in
    space_whole schema lawful c.args.to c.args.from c.requires.same (M.places c.args.to_mem.now) (M.places c.fields.to_mem) (N.places c.args.from_mem.now) (M.buffers c.args.to_mem.now) (M.buffers c.fields.to_mem) (N.buffers c.args.from_mem.now) v u feet own st from c.fields.i done w (M.places c.append_pieces.new.to_mem) (space w.shape w.stands.now u own w.stands.stands from))
    c.append_pieces.ensures.space

pub merge_message-returns-clause-kept : goal.merge_message-returns-clause-kept
merge_message-returns-clause-kept g t c = if_ok _ _ c.append_pieces.result
    (λ _ kept. λ v feet u own st from.
    let M = g.M.Memory in
    let N = g.N.Memory in
    let schema = c.args.types.now in
    let lawful = c.schema-schema.ensures.lawful in
    let entries = c.entries-entries.ensures ∙ ap (λ (l : Layout). l.entries) c.of_type.ensures in
    let within = c.fields.invariant.within in
    let past = c.fields-test.false in
    let end = ap (λ (es : List Entry). length es) entries ∙ end_index schema lawful c.args.to.type_no in
    let done : c.fields.i ≡ length (fields_of schema c.args.to.type_no) = omega (arith, within, past, end) in
    let w = c.fields.invariant.walked v feet u own st from in
    kept_whole schema lawful c.args.to c.args.from c.requires.same (M.places c.args.to_mem.now) (M.places c.fields.to_mem) (N.places c.args.from_mem.now) (M.buffers c.args.to_mem.now) (M.buffers c.fields.to_mem) (N.buffers c.args.from_mem.now) v u feet own st from c.fields.i done w (M.buffers c.append_pieces.new.to_mem) (kept w.shape w.stands.now u own w.stands.stands from))
    c.append_pieces.ensures.kept

pub merge_message-returns-clause-changes : goal.merge_message-returns-clause-changes
merge_message-returns-clause-changes g t c = λ v feet u own st from.
    let M = g.M.Memory in
    let w = c.fields.invariant.walked v feet u own st from in
    then_within M.key M.places M.buffers M.blocks (4 * (fields_units pieces_bytes (fields_held u) - fields_units pieces_bytes (fields_drop c.fields.i (fields_held u)))) (4 * pieces_bytes (pieces_of u)) (4 * (fields_units pieces_bytes (fields_held u) - fields_units pieces_bytes (fields_drop c.fields.i (fields_held u)))) (4 * pieces_bytes (pieces_of u))
    (4 * inner_units u) (4 * inner_units u)
    feet w.stands.now c.args.to_mem.now c.fields.to_mem c.append_pieces.new.to_mem (c.fields.invariant.changes v feet u own st from) w.stands.from (c.append_pieces.ensures.changes w.shape w.stands.now u own w.stands.stands from) (omega arith) (omega arith)
