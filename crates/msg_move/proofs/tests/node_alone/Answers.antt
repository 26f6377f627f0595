use Rattle.std.proofs.Common.{◌≡◌, List, [], sym, ap, ◌∙◌, rules}
use Rattle.serial_arena.specs.Serial.{SerialState}
use Rattle.ts_arena.specs.Sharing.{Owners}
use Rattle.ts_arena.specs.Sole.{Owns, frame_of}
use Rattle.msg_move.proofs.Alone.{last_if_ok, none_then, owns_then}
use Rattle.msg_move.proofs.tests.node_alone.Goals as goal

pub returns-in-Ok-clause-none : goal.returns-in-Ok-clause-none
returns-in-Ok-clause-none c =
    let was = c.in-Ok.sole in
    let now = c.node_with.new.mem in
    let key = c.node_with.ensures.key in
    let keeps = c.sole_use_keeps_all_else.ensures was.at was.arena.now now.arena.now (ap (λ n. frame_of n now.arena.now) (sym (ap (λ k. k.1) key)) ∙ ap (λ k. k.0) key) in
    last_if_ok c.node_with.result _ now.arena.now.adopted (λ (regions : List SerialState). regions ≡ []) (search rules)
    (none_then c.args.arena.now was.arena.now now.arena.now was.at c.args.caller c.in-Ok.ensures.entered keeps c.requires.none)

pub returns-in-Ok-clause-owner : goal.returns-in-Ok-clause-owner
returns-in-Ok-clause-owner c =
    let was = c.in-Ok.sole in
    let now = c.node_with.new.mem in
    let key = c.node_with.ensures.key in
    let keeps = c.sole_use_keeps_all_else.ensures was.at was.arena.now now.arena.now (ap (λ n. frame_of n now.arena.now) (sym (ap (λ k. k.1) key)) ∙ ap (λ k. k.0) key) in
    last_if_ok c.node_with.result _ now.arena.now.owners (λ (owners : Owners). Owns owners c.args.caller) (search rules)
    (owns_then c.args.arena.now was.arena.now now.arena.now was.at c.args.caller c.in-Ok.ensures.entered keeps)
