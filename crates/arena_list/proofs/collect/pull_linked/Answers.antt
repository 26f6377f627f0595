use Rattle.std.proofs.Common.{◌∙◌, arith}
use Rattle.std.specs.Slots.{slots_items}
use Rattle.arena_list.proofs.Closing.Collecting.{take_starts, take_next, take_value, take_goes, take_ends, take_room}
use Rattle.arena_list.proofs.collect.pull_linked.Goals as goal

pub loop-left-init : goal.loop-left-init
loop-left-init g c = (c.requires.room.1, λ es st. take_starts (slots_items c.args.closed.now.words) c.args.parts.now.items es st c.word-head.result c.args.linked.now.items c.word-head.ensures c.requires.room.0)

pub overflow_add-slot : goal.overflow_add-slot
overflow_add-slot g c = let s = c.requires.stored in let t = take_next (slots_items c.args.closed.now.words) c.args.parts.now.items s.0 s.1 c.loop-left.parts.items c.loop-left.linked.items c.loop-left.left c.loop-left.link (c.loop-left.invariant.1 s.0 s.1) c.loop-left-test.true in
    let a = t.2 in let b = t.3 in omega arith

pub word-node-requires : goal.word-node-requires
word-node-requires g c = let s = c.requires.stored in let t = take_next (slots_items c.args.closed.now.words) c.args.parts.now.items s.0 s.1 c.loop-left.parts.items c.loop-left.linked.items c.loop-left.left c.loop-left.link (c.loop-left.invariant.1 s.0 s.1) c.loop-left-test.true in
    ((let a = t.2 in let b = t.3 in let w = c.requires.words.1 in omega arith), c.requires.words.0)

pub overflow_cast-slot : goal.overflow_cast-slot
overflow_cast-slot g c = let s = c.requires.stored in let t = take_next (slots_items c.args.closed.now.words) c.args.parts.now.items s.0 s.1 c.loop-left.parts.items c.loop-left.linked.items c.loop-left.left c.loop-left.link (c.loop-left.invariant.1 s.0 s.1) c.loop-left-test.true in
    let a = t.2 in let b = t.3 in omega arith

pub pull-requires-clause-there : goal.pull-requires-clause-there
pull-requires-clause-there g c = let s = c.requires.stored in let t = take_next (slots_items c.args.closed.now.words) c.args.parts.now.items s.0 s.1 c.loop-left.parts.items c.loop-left.linked.items c.loop-left.left c.loop-left.link (c.loop-left.invariant.1 s.0 s.1) c.loop-left-test.true in
    (t.0.part, take_value (slots_items c.args.closed.now.words) c.args.parts.now.items s.0 s.1 c.loop-left.parts.items c.loop-left.linked.items c.loop-left.left c.loop-left.link (c.loop-left.invariant.1 s.0 s.1) c.loop-left-test.true)

pub pull-requires-clause-room : goal.pull-requires-clause-room
pull-requires-clause-room g c = let s = c.requires.stored in let r = take_room (slots_items c.args.closed.now.words) c.args.parts.now.items s.0 s.1 c.loop-left.parts.items c.loop-left.linked.items c.loop-left.left c.loop-left.link (c.loop-left.invariant.1 s.0 s.1) in
    let a = c.loop-left.invariant.0 in let b = c.loop-left-test.true in omega arith

pub loop-left-preserved : goal.loop-left-preserved
loop-left-preserved g c = (
  (let a = c.loop-left.invariant.0 in let b = c.pull.ensures.room in omega arith),
  λ es st.
      let o = c.loop-left.invariant.1 es st in let value = take_value (slots_items c.args.closed.now.words) c.args.parts.now.items es st c.loop-left.parts.items c.loop-left.linked.items c.loop-left.left c.loop-left.link o c.loop-left-test.true in
      let t = take_next (slots_items c.args.closed.now.words) c.args.parts.now.items es st c.loop-left.parts.items c.loop-left.linked.items c.loop-left.left c.loop-left.link o c.loop-left-test.true in
      take_goes (slots_items c.args.closed.now.words) c.args.parts.now.items es st c.loop-left.parts.items c.loop-left.linked.items c.loop-left.left c.loop-left.link o c.loop-left-test.true c.word-node.result c.pull.new.parts.items c.pull.new.entries.items
      c.word-node.ensures c.pull.ensures.parts (c.pull.ensures.entry t.0.part value),
)

pub returns : goal.returns
returns g c = λ es st. let e = take_ends (slots_items c.args.closed.now.words) c.args.parts.now.items es st c.loop-left.parts.items c.loop-left.linked.items c.loop-left.left c.loop-left.link (let a = c.loop-left-test.false in omega arith) (c.loop-left.invariant.1 es st) in
    (c.reverse.ensures.items ∙ e.0, e.1)
