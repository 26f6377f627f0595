use Rattle.std.proofs.Common.{[], ◌∷◌, refl, ap, arith}
use Rattle.std.specs.FinMap as fin
use Rattle.arena_mem.specs.Places.{used}
use Rattle.pb_schema.specs.Meter.{cleanups}
use Rattle.dyn_message.specs.Feet.{InPlace}
use Rattle.dyn_message.proofs.Changing.{grown}
use Rattle.dyn_message.proofs.Opening.{some_record}
use Rattle.msg_merge.specs.Across.{record_meter}
use Rattle.msg_merge.proofs.Copied.{blank, copied, copy_changes, copy_counts, made_changes, made_from}
use Rattle.msg_merge.proofs.between.copy.Goals as goal

pub create-requires : goal.create-requires
create-requires g c =
    let N = g.N.Memory in
    (some_record c.args.types.now (N.places c.args.from_mem.now) (N.buffers c.args.from_mem.now) c.args.from c.requires.from).type

pub returns-in_err-made-clause-changes : goal.returns-in_err-made-clause-changes
returns-in_err-made-clause-changes g c = λ u own from.
    let M = g.M.Memory in
    made_changes M.key M.places M.buffers M.blocks u c.args.to_mem.now c.create.new.mem c.create.ensures.grows

pub returns-in_err-merge_message-clause-changes : goal.returns-in_err-merge_message-clause-changes
returns-in_err-merge_message-clause-changes g c = λ u own from.
    let M = g.M.Memory in
    let N = g.N.Memory in
    let schema = c.args.types.now in
    let made = c.in_ok-made.ensures.made in
    copy_changes M.key M.places M.buffers M.blocks u (InPlace c.in_ok-made.made.place) c.args.to_mem.now c.create.new.mem c.merge_message.new.to_mem c.create.ensures.grows (made_from schema (M.places c.args.to_mem.now) (M.places c.create.new.mem) (M.buffers c.args.to_mem.now) (M.buffers c.create.new.mem) c.args.from.type_no c.in_ok-made.made made)
    (c.merge_message.ensures.changes (blank schema c.args.from.type_no) (InPlace c.in_ok-made.made.place ∷ []) u own made.stands from)

pub returns-clause-copied : goal.returns-clause-copied
returns-clause-copied g c = λ u own from.
    let M = g.M.Memory in
    let N = g.N.Memory in
    let schema = c.args.types.now in
    let made = c.in_ok-made.ensures.made in
    copied schema (M.places c.args.to_mem.now) (M.places c.create.new.mem) (M.buffers c.args.to_mem.now) (M.buffers c.create.new.mem) c.args.from.type_no c.in_ok-made.made made c.schema-schema.ensures.lawful (N.places c.args.from_mem.now) (M.places c.merge_message.new.to_mem) (N.buffers c.args.from_mem.now) (M.buffers c.merge_message.new.to_mem) c.args.from u own refl from (grown M.key M.places M.buffers M.blocks 1 0 [] c.args.to_mem.now c.create.new.mem c.create.ensures.grows).still_there
    (c.in_ok-merge_message.ensures.merged (blank schema c.args.from.type_no) (InPlace c.in_ok-made.made.place ∷ []) u own made.stands from)

pub returns-clause-space : goal.returns-clause-space
returns-clause-space g c = λ u own from.
    let M = g.M.Memory in
    let N = g.N.Memory in
    let schema = c.args.types.now in
    let made = c.in_ok-made.ensures.made in
    copy_counts schema (M.places c.args.to_mem.now) (M.places c.create.new.mem) (M.buffers c.args.to_mem.now) (M.buffers c.create.new.mem) c.args.from.type_no c.in_ok-made.made made (record_meter schema) u (used (M.places c.args.to_mem.now)) (used (M.places c.create.new.mem)) (used (M.places c.merge_message.new.to_mem)) c.in_ok-made.ensures.space (c.in_ok-merge_message.ensures.space (blank schema c.args.from.type_no) (InPlace c.in_ok-made.made.place ∷ []) u own made.stands from)

pub returns-clause-kept : goal.returns-clause-kept
returns-clause-kept g c = λ u own from.
    let M = g.M.Memory in
    let N = g.N.Memory in
    let schema = c.args.types.now in
    let made = c.in_ok-made.ensures.made in
    let same = ap (λ b. fin.len b) c.create.ensures.buffers in
    copy_counts schema (M.places c.args.to_mem.now) (M.places c.create.new.mem) (M.buffers c.args.to_mem.now) (M.buffers c.create.new.mem) c.args.from.type_no c.in_ok-made.made made cleanups u (fin.len (M.buffers c.args.to_mem.now)) (fin.len (M.buffers c.create.new.mem)) (fin.len (M.buffers c.merge_message.new.to_mem)) (omega (arith, same)) (c.in_ok-merge_message.ensures.kept (blank schema c.args.from.type_no) (InPlace c.in_ok-made.made.place ∷ []) u own made.stands from)

pub returns-clause-changes : goal.returns-clause-changes
returns-clause-changes g c = λ u own from.
    let M = g.M.Memory in
    let N = g.N.Memory in
    let schema = c.args.types.now in
    let made = c.in_ok-made.ensures.made in
    copy_changes M.key M.places M.buffers M.blocks u (InPlace c.in_ok-made.made.place) c.args.to_mem.now c.create.new.mem c.merge_message.new.to_mem c.create.ensures.grows (made_from schema (M.places c.args.to_mem.now) (M.places c.create.new.mem) (M.buffers c.args.to_mem.now) (M.buffers c.create.new.mem) c.args.from.type_no c.in_ok-made.made made)
    (c.merge_message.ensures.changes (blank schema c.args.from.type_no) (InPlace c.in_ok-made.made.place ∷ []) u own made.stands from)
