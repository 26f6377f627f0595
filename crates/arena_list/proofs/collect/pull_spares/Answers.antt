use Rattle.std.proofs.Common.{ℕ, ◌∷◌, [], length, ap, ◌∙◌, arith}
use Rattle.std.proofs.lemmas.List.{length-append}
use Rattle.arena_list.proofs.Making.Filling.{no_items}
use Rattle.arena_list.specs.Closing.Closed.{entry}
use Rattle.arena_list.proofs.Closing.Collecting.{pull_starts, spare_next, pull_value, pull_goes, pull_ends}
use Rattle.arena_list.proofs.collect.pull_spares.Goals as goal

pub loop-slot-init : goal.loop-slot-init
loop-slot-init g c = ((let a = ap length c.requires.room.0 in let b = c.requires.room.1 in omega arith), λ es is values. pull_starts es c.args.parts.now.items c.args.spare_slots.items c.args.spare.now.items c.requires.room.0 is)

pub pull-requires-clause-there : goal.pull-requires-clause-there
pull-requires-clause-there g c = let v = c.requires.values in let place : ℕ × ℕ = (c.in-Some.slot, c.in-Some.caller) in let o = c.loop-slot.invariant.1 v.0 v.1 v.2 in
    let n = spare_next v.0 c.args.parts.now.items c.loop-slot.parts.items c.loop-slot.spare_slots.items c.pop.new.self.items place c.loop-slot.spare.items o v.2 c.in-Some.ensures.items in
    (n.0.part, pull_value v.0 c.args.parts.now.items c.loop-slot.parts.items c.loop-slot.spare_slots.items c.pop.new.self.items place c.loop-slot.spare.items o v.2 c.in-Some.ensures.items)

pub loop-slot-preserved : goal.loop-slot-preserved
loop-slot-preserved g c = let w = c.requires.values in let place : ℕ × ℕ = (c.in-Some.slot, c.in-Some.caller) in let pop = c.in-Some.ensures.items in
    let there = pull_value w.0 c.args.parts.now.items c.loop-slot.parts.items c.loop-slot.spare_slots.items c.pop.new.self.items place c.loop-slot.spare.items (c.loop-slot.invariant.1 w.0 w.1 w.2) w.2 pop in
    let first = spare_next w.0 c.args.parts.now.items c.loop-slot.parts.items c.loop-slot.spare_slots.items c.pop.new.self.items place c.loop-slot.spare.items (c.loop-slot.invariant.1 w.0 w.1 w.2) w.2 pop in
    let long = ap length (c.pull.ensures.entry first.0.part there) ∙ length-append c.loop-slot.spare.items (entry place.0 place.1 first.0.part ∷ []) in
    let popped = ap length pop ∙ length-append c.pop.new.self.items (place ∷ []) in (
      (let a = c.loop-slot.invariant.0 in let b = c.pull.ensures.room in omega arith),
      λ es is values.
          let o = c.loop-slot.invariant.1 es is values in let n = spare_next es c.args.parts.now.items c.loop-slot.parts.items c.loop-slot.spare_slots.items c.pop.new.self.items place c.loop-slot.spare.items o values pop in
          let value = pull_value es c.args.parts.now.items c.loop-slot.parts.items c.loop-slot.spare_slots.items c.pop.new.self.items place c.loop-slot.spare.items o values pop in
          pull_goes es c.args.parts.now.items c.loop-slot.parts.items c.loop-slot.spare_slots.items c.pop.new.self.items place c.loop-slot.spare.items o values pop c.pull.new.parts.items c.pull.new.entries.items c.pull.ensures.parts (c.pull.ensures.entry n.0.part value),
    )

pub returns : goal.returns
returns g c = λ es is values. pull_ends es c.args.parts.now.items c.loop-slot.parts.items c.loop-slot.spare_slots.items c.loop-slot.spare.items
    (no_items c.loop-slot.spare_slots.items (let a = c.in_default.ensures.cases.0 in let b = c.loop-slot.spare_slots.ok.0 in omega arith)) (c.loop-slot.invariant.1 es is values)
