use Rattle.std.proofs.Common.{◌≡◌, length, ap, ◌∙◌}
use Rattle.arena_mem.specs.declared.place.Buffer.{Buffer}
use Rattle.serial_arena.specs.Serial.{SerialState, with_kept}
use Rattle.serial_arena.proofs.Keeping.{is_fresh, value_is, map_is, rest_stays, count_is, it_grows}
use Rattle.serial_arena.proofs.Names.{next_buffer}
use Rattle.serial_arena.proofs.States.{held, kept_more}
use Rattle.serial_arena.proofs.memory.SerialArenaMemory.keep.Goals as goal
use Rattle.serial_arena.proofs.memory.SerialArenaMemory.keep.Goals.{In_ok-number}

abbrev answer : In_ok-number → Buffer
answer c = record { region = c.self.inside.region; number = c.in_ok-number.number }

named : (c : In_ok-number) → answer c ≡ next_buffer c.args.self.now
named c =
    let region = ap (λ (s : SerialState). s.region) c.self.view_is in
    let number : c.in_ok-number.number ≡ length c.args.self.now.kept = c.in_ok-number.ensures.number ∙ ap (λ (s : SerialState). length s.kept) c.self.view_is in
    λ i. record { region = region i; number = number i }

kept_is : (c : In_ok-number) → held c.self.inside.owner c.self.inside.life c.self.inside.region c.self.inside.policy c.self.inside.blocks.items c.self.inside.spans.items c.keep.new.self ≡ with_kept c.args.self.now c.args.bytes.items
kept_is c = kept_more _ _ _ _ _ _ _ _ _ _ c.self.view_is c.self.invariant _ c.args.bytes.items c.in_ok-number.ensures.kept

pub returns-clause-fresh : goal.returns-clause-fresh
returns-clause-fresh c = is_fresh c.args.self.now c.args.self.now c.args.bytes.items (answer c) (named c)

pub returns-clause-value : goal.returns-clause-value
returns-clause-value c = value_is c.args.self.now _ c.args.bytes.items (answer c) (named c) (kept_is c)

pub returns-clause-map : goal.returns-clause-map
returns-clause-map c = map_is c.args.self.now _ c.args.bytes.items (answer c) (named c) (kept_is c)

pub returns-clause-rest : goal.returns-clause-rest
returns-clause-rest c = rest_stays c.args.self.now _ c.args.bytes.items (answer c) (named c) (kept_is c)

pub returns-clause-count : goal.returns-clause-count
returns-clause-count c = count_is c.args.self.now _ c.args.bytes.items (answer c) (named c) (kept_is c)

pub returns-clause-grows : goal.returns-clause-grows
returns-clause-grows c = it_grows c.args.self.now _ c.args.bytes.items (answer c) (named c) (kept_is c)
