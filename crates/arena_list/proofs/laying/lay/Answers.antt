use Rattle.std.proofs.Common.{refl, arith, sym, ap, ◌∙◌, ◌≡◌, ℕ, ◌+◌, length, subst, List, map}
use Rattle.atomic_table.proofs.Lists.{at_index}
use Rattle.arena_list.specs.Rule.Founded.{meter, IsLaidTo, node_of}
use Rattle.arena_list.specs.Words.Nodes.{before}
use Rattle.arena_list.proofs.Words.Lists.{at_more}
use Rattle.arena_list.proofs.Making.FirstWords.{lays_none, lays_more, lays_all, linked_small, linked_differ, linked_before, next_before, all_few, head_fits}
use Rattle.arena_list.proofs.laying.lay.Goals as goal

pub loop-entry-init : goal.loop-entry-init
loop-entry-init g c = (refl, lays_none (meter g.V.Part.owner_of g.V.Part.life_of g.V.Part.used_of) c.args.linked.now c.args.callers.now _ c.requires.zeros.0 c.requires.zeros.1)

pub lay_entry-requires : goal.lay_entry-requires
lay_entry-requires g c = let M = (meter g.V.Part.owner_of g.V.Part.life_of g.V.Part.used_of) in let f = c.requires.fit in let xs = c.args.linked.now in let i = c.loop-entry.entry-index in let e = c.entry-item.result in let at = at_index xs i e c.loop-entry-test.true c.entry-item.is in (
  c.loop-entry.invariant.1.wide,
  linked_small M f.0 xs f.1 _ f.2 i e at,
  (let b = linked_before M f.0 xs f.1 _ f.2 i in let is = c.loop-entry.invariant.0 in omega arith),
  (f.2.parts i e (at_more xs f.1 i e at)).used,
)

pub loop-entry-preserved : goal.loop-entry-preserved
loop-entry-preserved g c = let M = (meter g.V.Part.owner_of g.V.Part.life_of g.V.Part.used_of) in let f = c.requires.fit in let xs = c.args.linked.now in let cs = c.args.callers.now in let i = c.loop-entry.entry-index in let e = c.entry-item.result in let at = at_index xs i e c.loop-entry-test.true c.entry-item.is in (
  sym (next_before M f.0 xs f.1 cs f.2 i e at),
  subst (λ (ws : List ℕ). IsLaidTo M xs cs ws (i + 1)) (sym c.lay_entry.ensures)
      (lays_more M xs cs c.loop-entry.words i e c.loop-entry.link at (linked_small M f.0 xs f.1 cs f.2) (linked_differ M f.0 xs f.1 cs f.2 i e at) c.loop-entry.invariant.0 c.loop-entry.invariant.1),
)

pub overflow_mul-words : goal.overflow_mul-words
overflow_mul-words g c = let f = c.requires.fit in let a = all_few (meter g.V.Part.owner_of g.V.Part.life_of g.V.Part.used_of) f.0 c.args.linked.now f.1 c.args.callers.now f.2 in omega arith

pub overflow_add-words : goal.overflow_add-words
overflow_add-words g c = let f = c.requires.fit in let a = all_few (meter g.V.Part.owner_of g.V.Part.life_of g.V.Part.used_of) f.0 c.args.linked.now f.1 c.args.callers.now f.2 in
    let b = linked_before (meter g.V.Part.owner_of g.V.Part.life_of g.V.Part.used_of) f.0 c.args.linked.now f.1 c.args.callers.now f.2 c.loop-entry.entry-index in let is = c.loop-entry.invariant.0 in omega arith

pub returns : goal.returns
returns g c = let M = (meter g.V.Part.owner_of g.V.Part.life_of g.V.Part.used_of) in let f = c.requires.fit in let xs = c.args.linked.now in let cs = c.args.callers.now in
    let all : c.loop-entry.entry-index ≡ length xs = (let a = c.loop-entry-test.false in let b = c.loop-entry.auto.entry-index-end in omega arith) in
    lays_all M xs cs c.loop-entry.words _ (linked_small M f.0 xs f.1 cs f.2) (head_fits M f.0 xs f.1 cs f.2 c.loop-entry.link (c.loop-entry.invariant.0 ∙ ap (before (map node_of xs)) all))
    (subst (λ (n : ℕ). IsLaidTo M xs cs c.loop-entry.words n) all c.loop-entry.invariant.1)
