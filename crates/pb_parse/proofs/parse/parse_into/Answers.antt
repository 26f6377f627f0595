use Rattle.std.proofs.Common.{◌+◌, ◌-◌, ◌*◌, [], ◌∷◌, length, drop, sym, ◌∙◌, subst, arith}
use Rattle.std.specs.Prelude.{IsOk, IsErr}
use Rattle.pb_schema.specs.Empty.{empty_with}
use Rattle.pb_schema.specs.Fits.{fields_of}
use Rattle.dyn_message.specs.Feet.{InPlace}
use Rattle.dyn_message.specs.Changes.{NowStands}
use Rattle.pb_parse.specs.Parsing.{IsCause}
use Rattle.pb_parse.specs.Reading.{walked}
use Rattle.pb_parse.proofs.CostCame.{then_counts, whole_counts, whole_spent}
use Rattle.pb_parse.proofs.Memories.{then_within, within_more}
use Rattle.pb_parse.proofs.RecordCame.{came_then, came_whole, walk_whole}
use Rattle.pb_parse.proofs.Runs.{all_left}
use Rattle.pb_parse.proofs.WholePayload.{whole_shape, sound_whole, broken_whole, tree_whole}
use Rattle.pb_parse.proofs.parse.parse_into.Goals as goal

pub unreachable-requires : goal.unreachable-requires
unreachable-requires g c =
    let schema = c.args.types.now in
    let bytes = c.args.bytes.now in
    let fields = fields_of schema c.args.msg.type_no in
    let start = c.put_front-start.result in
    let broken = subst (IsCause _ (IsErr (walked schema 100 fields start (drop start bytes)))) c.in-Err-Bad.field-0-is c.in-Err-Bad.ensures.stopped in
    broken_whole schema c.args.msg.type_no bytes (subst IsErr (sym (c.put_front-start.ensures.walk 100)) broken) (sym c.first_fault.ensures ∙ c.in-None.is)

pub returns-in-Ok-clause-stands : goal.returns-in-Ok-clause-stands
returns-in-Ok-clause-stands g c =
    let M = g.M.Memory in
    let schema = c.args.types.now in
    let feet = InPlace c.args.msg.place ∷ [] in
    let empty = empty_with [] (fields_of schema c.args.msg.type_no) in
    let front = c.put_front-start.ensures in
    let q = front.came 100 empty feet c.requires.empty in
    subst
    (λ shape. NowStands schema (M.places c.args.mem.now) (M.buffers c.args.mem.now) (M.places c.parse_message.new.mem) (M.buffers c.parse_message.new.mem) c.args.msg shape feet)
    (whole_shape schema c.args.msg.type_no c.args.bytes.now)
    (came_then schema 100 (M.places c.args.mem.now) (M.places c.put_front-start.new.mem) (M.places c.parse_message.new.mem) (M.buffers c.args.mem.now) (M.buffers c.put_front-start.new.mem) (M.buffers c.parse_message.new.mem) c.args.msg c.args.bytes.now 0 c.put_front-start.result
    empty feet (front.changes empty feet c.requires.empty).still_there c.in-Ok.ensures.sound q (c.in-Ok.ensures.stands q.shape q.stands.now q.stands.stands))

pub returns-in-Ok-clause-tree : goal.returns-in-Ok-clause-tree
returns-in-Ok-clause-tree g c =
    tree_whole c.args.types.now c.args.msg.type_no c.args.bytes.now c.schema-schema.ensures.lawful (sound_whole c.args.types.now c.args.msg.type_no c.args.bytes.now (subst IsOk (sym (c.put_front-start.ensures.walk 100)) c.in-Ok.ensures.sound))

pub returns-in-Ok-clause-sound : goal.returns-in-Ok-clause-sound
returns-in-Ok-clause-sound g c = sound_whole c.args.types.now c.args.msg.type_no c.args.bytes.now (subst IsOk (sym (c.put_front-start.ensures.walk 100)) c.in-Ok.ensures.sound)

pub returns-in-Ok-clause-changes : goal.returns-in-Ok-clause-changes
returns-in-Ok-clause-changes g c =
    let M = g.M.Memory in
    let feet = InPlace c.args.msg.place ∷ [] in
    let empty = empty_with [] (fields_of c.args.types.now c.args.msg.type_no) in
    let front = c.put_front-start.ensures in
    let q = front.came 100 empty feet c.requires.empty in
    let left = 4 * (length c.args.bytes.now - c.put_front-start.result) + 2 in
    then_within M.key M.places M.buffers M.blocks 0 left 0 left (4 * length c.args.bytes.now + 3) (4 * length c.args.bytes.now + 3) feet q.stands.now c.args.mem.now c.put_front-start.new.mem c.parse_message.new.mem
    (front.changes empty feet c.requires.empty) q.stands.from (c.parse_message.ensures.changes q.shape q.stands.now q.stands.stands) (omega arith) (omega arith)

pub returns-in-Some-clause-changes : goal.returns-in-Some-clause-changes
returns-in-Some-clause-changes g c =
    let M = g.M.Memory in
    let feet = InPlace c.args.msg.place ∷ [] in
    let empty = empty_with [] (fields_of c.args.types.now c.args.msg.type_no) in
    let front = c.put_front-start.ensures in
    let q = front.came 100 empty feet c.requires.empty in
    let left = 4 * (length c.args.bytes.now - c.put_front-start.result) + 2 in
    then_within M.key M.places M.buffers M.blocks 0 left 0 left (4 * length c.args.bytes.now + 3) (4 * length c.args.bytes.now + 3) feet q.stands.now c.args.mem.now c.put_front-start.new.mem c.parse_message.new.mem
    (front.changes empty feet c.requires.empty) q.stands.from (c.parse_message.ensures.changes q.shape q.stands.now q.stands.stands) (omega arith) (omega arith)

pub returns-in-Err-Refused-NoMemory-clause-changes : goal.returns-in-Err-Refused-NoMemory-clause-changes
returns-in-Err-Refused-NoMemory-clause-changes g c =
    let M = g.M.Memory in
    let feet = InPlace c.args.msg.place ∷ [] in
    let empty = empty_with [] (fields_of c.args.types.now c.args.msg.type_no) in
    let front = c.put_front-start.ensures in
    let q = front.came 100 empty feet c.requires.empty in
    let left = 4 * (length c.args.bytes.now - c.put_front-start.result) + 2 in
    then_within M.key M.places M.buffers M.blocks 0 left 0 left (4 * length c.args.bytes.now + 3) (4 * length c.args.bytes.now + 3) feet q.stands.now c.args.mem.now c.put_front-start.new.mem c.parse_message.new.mem
    (front.changes empty feet c.requires.empty) q.stands.from (c.parse_message.ensures.changes q.shape q.stands.now q.stands.stands) (omega arith) (omega arith)

pub returns-in-Err-Refused-BlocksSpent-clause-changes : goal.returns-in-Err-Refused-BlocksSpent-clause-changes
returns-in-Err-Refused-BlocksSpent-clause-changes g c =
    let M = g.M.Memory in
    let feet = InPlace c.args.msg.place ∷ [] in
    let empty = empty_with [] (fields_of c.args.types.now c.args.msg.type_no) in
    let front = c.put_front-start.ensures in
    let q = front.came 100 empty feet c.requires.empty in
    let left = 4 * (length c.args.bytes.now - c.put_front-start.result) + 2 in
    then_within M.key M.places M.buffers M.blocks 0 left 0 left (4 * length c.args.bytes.now + 3) (4 * length c.args.bytes.now + 3) feet q.stands.now c.args.mem.now c.put_front-start.new.mem c.parse_message.new.mem
    (front.changes empty feet c.requires.empty) q.stands.from (c.parse_message.ensures.changes q.shape q.stands.now q.stands.stands) (omega arith) (omega arith)

pub returns-in-Ok-clause-space : goal.returns-in-Ok-clause-space
returns-in-Ok-clause-space g c =
    let M = g.M.Memory in
    let schema = c.args.types.now in
    let feet = InPlace c.args.msg.place ∷ [] in
    let empty = empty_with [] (fields_of schema c.args.msg.type_no) in
    let q = c.put_front-start.ensures.came 100 empty feet c.requires.empty in
    (whole_spent schema (M.places c.args.mem.now) (M.places c.parse_message.new.mem) (M.buffers c.args.mem.now) (M.buffers c.parse_message.new.mem) c.args.msg.type_no c.args.bytes.now
    (then_counts schema 100 (M.places c.args.mem.now) (M.places c.put_front-start.new.mem) (M.places c.parse_message.new.mem) (M.buffers c.args.mem.now) (M.buffers c.put_front-start.new.mem) (M.buffers c.parse_message.new.mem) c.args.msg c.args.bytes.now 0 c.put_front-start.result
    empty feet c.in-Ok.ensures.sound q (c.in-Ok.ensures.costs q.shape q.stands.now q.stands.stands))).0

pub returns-in-Ok-clause-kept : goal.returns-in-Ok-clause-kept
returns-in-Ok-clause-kept g c =
    let M = g.M.Memory in
    let schema = c.args.types.now in
    let feet = InPlace c.args.msg.place ∷ [] in
    let empty = empty_with [] (fields_of schema c.args.msg.type_no) in
    let q = c.put_front-start.ensures.came 100 empty feet c.requires.empty in
    (whole_spent schema (M.places c.args.mem.now) (M.places c.parse_message.new.mem) (M.buffers c.args.mem.now) (M.buffers c.parse_message.new.mem) c.args.msg.type_no c.args.bytes.now
    (then_counts schema 100 (M.places c.args.mem.now) (M.places c.put_front-start.new.mem) (M.places c.parse_message.new.mem) (M.buffers c.args.mem.now) (M.buffers c.put_front-start.new.mem) (M.buffers c.parse_message.new.mem) c.args.msg c.args.bytes.now 0 c.put_front-start.result
    empty feet c.in-Ok.ensures.sound q (c.in-Ok.ensures.costs q.shape q.stands.now q.stands.stands))).1

-- WHERE THE FRONT IS ALL

pub returns-then-start-bytes-clause-stands : goal.returns-then-start-bytes-clause-stands
returns-then-start-bytes-clause-stands g c =
    let M = g.M.Memory in
    let schema = c.args.types.now in
    let feet = InPlace c.args.msg.place ∷ [] in
    let empty = empty_with [] (fields_of schema c.args.msg.type_no) in
    let front = c.put_front-start.ensures in
    subst
    (λ shape. NowStands schema (M.places c.args.mem.now) (M.buffers c.args.mem.now) (M.places c.put_front-start.new.mem) (M.buffers c.put_front-start.new.mem) c.args.msg shape feet)
    (whole_shape schema c.args.msg.type_no c.args.bytes.now)
    (came_whole schema 100 (M.places c.args.mem.now) (M.places c.put_front-start.new.mem) (M.buffers c.args.mem.now) (M.buffers c.put_front-start.new.mem) c.args.msg c.args.bytes.now 0 c.put_front-start.result
    empty feet (front.changes empty feet c.requires.empty).still_there (all_left c.put_front-start.result c.args.bytes.now (omega (arith, c.if-start-bytes.true))) (front.came 100 empty feet c.requires.empty))

pub returns-then-start-bytes-clause-tree : goal.returns-then-start-bytes-clause-tree
returns-then-start-bytes-clause-tree g c =
    tree_whole c.args.types.now c.args.msg.type_no c.args.bytes.now c.schema-schema.ensures.lawful
    (sound_whole c.args.types.now c.args.msg.type_no c.args.bytes.now
    (walk_whole c.args.types.now 100 c.args.msg.type_no c.args.bytes.now c.put_front-start.result (all_left c.put_front-start.result c.args.bytes.now (omega (arith, c.if-start-bytes.true))) (c.put_front-start.ensures.walk 100)))

pub returns-then-start-bytes-clause-sound : goal.returns-then-start-bytes-clause-sound
returns-then-start-bytes-clause-sound g c =
    sound_whole c.args.types.now c.args.msg.type_no c.args.bytes.now
    (walk_whole c.args.types.now 100 c.args.msg.type_no c.args.bytes.now c.put_front-start.result (all_left c.put_front-start.result c.args.bytes.now (omega (arith, c.if-start-bytes.true))) (c.put_front-start.ensures.walk 100))

pub returns-then-start-bytes-clause-changes : goal.returns-then-start-bytes-clause-changes
returns-then-start-bytes-clause-changes g c =
    let M = g.M.Memory in
    let feet = InPlace c.args.msg.place ∷ [] in
    within_more M.key M.places M.buffers M.blocks 0 (4 * length c.args.bytes.now + 3) 0 (4 * length c.args.bytes.now + 3) feet c.args.mem.now c.put_front-start.new.mem
    (c.put_front-start.ensures.changes (empty_with [] (fields_of c.args.types.now c.args.msg.type_no)) feet c.requires.empty)
    (omega arith)
    (omega arith)

pub returns-then-start-bytes-clause-space : goal.returns-then-start-bytes-clause-space
returns-then-start-bytes-clause-space g c =
    let M = g.M.Memory in
    let schema = c.args.types.now in
    let feet = InPlace c.args.msg.place ∷ [] in
    let empty = empty_with [] (fields_of schema c.args.msg.type_no) in
    (whole_spent schema (M.places c.args.mem.now) (M.places c.put_front-start.new.mem) (M.buffers c.args.mem.now) (M.buffers c.put_front-start.new.mem) c.args.msg.type_no c.args.bytes.now
    (whole_counts schema 100 (M.places c.args.mem.now) (M.places c.put_front-start.new.mem) (M.buffers c.args.mem.now) (M.buffers c.put_front-start.new.mem) c.args.msg c.args.bytes.now 0 c.put_front-start.result
    empty feet (all_left c.put_front-start.result c.args.bytes.now (omega (arith, c.if-start-bytes.true))) (c.put_front-start.ensures.came 100 empty feet c.requires.empty))).0

pub returns-then-start-bytes-clause-kept : goal.returns-then-start-bytes-clause-kept
returns-then-start-bytes-clause-kept g c =
    let M = g.M.Memory in
    let schema = c.args.types.now in
    let feet = InPlace c.args.msg.place ∷ [] in
    let empty = empty_with [] (fields_of schema c.args.msg.type_no) in
    (whole_spent schema (M.places c.args.mem.now) (M.places c.put_front-start.new.mem) (M.buffers c.args.mem.now) (M.buffers c.put_front-start.new.mem) c.args.msg.type_no c.args.bytes.now
    (whole_counts schema 100 (M.places c.args.mem.now) (M.places c.put_front-start.new.mem) (M.buffers c.args.mem.now) (M.buffers c.put_front-start.new.mem) c.args.msg c.args.bytes.now 0 c.put_front-start.result
    empty feet (all_left c.put_front-start.result c.args.bytes.now (omega (arith, c.if-start-bytes.true))) (c.put_front-start.ensures.came 100 empty feet c.requires.empty))).1
