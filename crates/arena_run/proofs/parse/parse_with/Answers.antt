use Rattle.std.proofs.Common.{Err, ap, subst, ◌∙◌}
use Rattle.std.proofs.Common.{Some}
use Rattle.parse_pool.specs.Arenas.{AreOwnersAfter, IfSole, IsBad}
use Rattle.arena_run.proofs.Parsing.{fit_none, memory_fault, parsed_count, parsed_sound, parsed_trees, part_all, phase_fault, phase_parsed, short_all, side_left}
use Rattle.arena_run.proofs.parse.parse_with.Goals as goal

pub parse_phase-side-requires-clause-fit : goal.parse_phase-side-requires-clause-fit
parse_phase-side-requires-clause-fit g c κs within = fit_none c.args.arena.life c.args.arena.owners c.args.caches.now c.life-life.ensures.born c.requires.caches

pub parse_phase-side-requires-clause-short : goal.parse_phase-side-requires-clause-short
parse_phase-side-requires-clause-short g c κs within = short_all c.args.input.now.frames 0 _ c.requires.small.fits

pub returns-in-Sole-clause-stand : goal.returns-in-Sole-clause-stand
returns-in-Sole-clause-stand g c =
    let input = c.args.input.now in
    parsed_trees input.types c.requires.small.lawful input.root c.in-Sole.arena c.args.arena input.frames c.in-Ok.messages.items c.requires.small.fits
    (phase_parsed (λ m. m.items) input.types input.root c.args.arena input.frames _ _ c.in-Ok.messages _ c.in-Sole.arena (part_all input.frames c.count-count.result c.count-count.ensures) c.in-Ok.is c.in-Sole.is c.parse_phase-side.ensures.parsed)

pub returns-in-Sole-clause-sound : goal.returns-in-Sole-clause-sound
returns-in-Sole-clause-sound g c =
    let input = c.args.input.now in
    parsed_sound input.types input.root c.args.arena c.in-Sole.arena input.frames c.in-Ok.messages.items
    (phase_parsed (λ m. m.items) input.types input.root c.args.arena input.frames _ _ c.in-Ok.messages _ c.in-Sole.arena (part_all input.frames c.count-count.result c.count-count.ensures) c.in-Ok.is c.in-Sole.is c.parse_phase-side.ensures.parsed)

pub returns-in-Sole-clause-count : goal.returns-in-Sole-clause-count
returns-in-Sole-clause-count g c =
    let input = c.args.input.now in
    parsed_count input.types c.requires.small.lawful input.root c.in-Sole.arena c.args.arena input.frames c.in-Ok.messages.items c.requires.small.fits
    (phase_parsed (λ m. m.items) input.types input.root c.args.arena input.frames _ _ c.in-Ok.messages _ c.in-Sole.arena (part_all input.frames c.count-count.result c.count-count.ensures) c.in-Ok.is c.in-Sole.is c.parse_phase-side.ensures.parsed)

pub returns-in-Err-clause-left : goal.returns-in-Err-clause-left
returns-in-Err-clause-left g c =
    let input = c.args.input.now in
    let phase = c.parse_phase-side.ensures in
    let told = c.fault_of_end.ensures in
    side_left input.workers input.frames _ _ c.args.arena _ (part_all input.frames c.count-count.result c.count-count.ensures) phase.passes phase.keys
    (λ other. phase.settled (λ is. other (ap Some (memory_fault c.in-Err.end _ told.other (let same = c.in-Err.is in cc)))))
    (subst (λ n. IfSole c.parse_phase-side.result.0 (AreOwnersAfter n c.args.arena)) c.requires.count phase.owners) phase.grows

pub returns-in-Err-clause-fault : goal.returns-in-Err-clause-fault
returns-in-Err-clause-fault g c =
    let input = c.args.input.now in
    let phase = c.parse_phase-side.ensures in
    let told = c.fault_of_end.ensures in
    phase_fault input.types input.root input.frames c.in-Err.end _ told.bad told.other
    (λ index bad is. subst (λ payloads. IsBad input.types input.root 0 payloads index bad) (part_all input.frames c.count-count.result c.count-count.ensures) (phase.bad index bad (c.in-Err.is ∙ ap Err is)))
