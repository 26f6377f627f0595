use Rattle.std.proofs.Common.{map, sym, subst}
use Rattle.std.specs.String.{string_bytes}
use Rattle.arena_run.specs.Causes.{LeavesArena}
use Rattle.arena_run.proofs.Inputs.{arena_kept, arena_of_input, bytes_written, early_of_input, file_of_input, front_written, lines_written, registers_of_input, registers_stand, words_of_input}
use Rattle.arena_run.proofs.program.cat.Goals as goal

pub returns-in-Ok-clause-by_words : goal.returns-in-Ok-clause-by_words
returns-in-Ok-clause-by_words g c =
    let words = map string_bytes c.args.words.now in
    let F = g.F.Files in
    let O = g.O.Sink in
    let input = c.in-Ok.input in
    let end = c.cat_input.result in
    let did = c.cat_input.ensures in
    words_of_input F.contents F.faults F.blamed words c.args.files.now c.gather.new.files input.types input.root input.frames input.workers c.in-Ok.ensures.read end.fault did.stage

pub returns-in-Ok-clause-by_file : goal.returns-in-Ok-clause-by_file
returns-in-Ok-clause-by_file g c =
    let words = map string_bytes c.args.words.now in
    let F = g.F.Files in
    let O = g.O.Sink in
    let input = c.in-Ok.input in
    let end = c.cat_input.result in
    let did = c.cat_input.ensures in
    file_of_input F.contents F.faults F.blamed words c.args.files.now c.gather.new.files input.types input.root input.frames input.workers c.in-Ok.ensures.read end.fault did.stage did.first

pub returns-in-Ok-clause-arena : goal.returns-in-Ok-clause-arena
returns-in-Ok-clause-arena g c =
    let words = map string_bytes c.args.words.now in
    let F = g.F.Files in
    let O = g.O.Sink in
    let input = c.in-Ok.input in
    let end = c.cat_input.result in
    let did = c.cat_input.ensures in
    arena_of_input F.contents F.faults F.blamed words c.args.files.now c.gather.new.files input.types input.root input.frames input.workers c.in-Ok.ensures.read end.fault c.args.arena end.a did.stage did.left

pub returns-in-Ok-clause-registers : goal.returns-in-Ok-clause-registers
returns-in-Ok-clause-registers g c =
    let words = map string_bytes c.args.words.now in
    let F = g.F.Files in
    let O = g.O.Sink in
    let input = c.in-Ok.input in
    let end = c.cat_input.result in
    let did = c.cat_input.ensures in
    λ parsed. registers_stand F.contents F.faults F.blamed words c.args.files.now c.gather.new.files input.types input.root input.frames input.workers c.in-Ok.ensures.read end.fault c.args.arena end.registers.items end.a end.lines (O.taken c.args.out.now) (O.taken c.cat_input.new.out) parsed did.first did.left (did.written parsed)

pub returns-in-Ok-clause-early : goal.returns-in-Ok-clause-early
returns-in-Ok-clause-early g c =
    let words = map string_bytes c.args.words.now in
    let F = g.F.Files in
    let O = g.O.Sink in
    let input = c.in-Ok.input in
    let end = c.cat_input.result in
    let did = c.cat_input.ensures in
    λ parsed. early_of_input F.contents F.faults F.blamed words c.args.files.now c.gather.new.files input.types input.root input.frames input.workers c.in-Ok.ensures.read end.registers.items end.a (did.early parsed)

pub returns-in-Ok-clause-bytes : goal.returns-in-Ok-clause-bytes
returns-in-Ok-clause-bytes g c =
    let words = map string_bytes c.args.words.now in
    let F = g.F.Files in
    let O = g.O.Sink in
    let input = c.in-Ok.input in
    let end = c.cat_input.result in
    let did = c.cat_input.ensures in
    bytes_written F.contents F.faults F.blamed words c.args.files.now c.gather.new.files input.types input.root input.frames input.workers c.in-Ok.ensures.read end.fault c.args.arena end.registers.items end.a end.lines (O.taken c.args.out.now) (O.taken c.cat_input.new.out) did.first did.left did.written

pub returns-in-Ok-clause-prefix : goal.returns-in-Ok-clause-prefix
returns-in-Ok-clause-prefix g c =
    let words = map string_bytes c.args.words.now in
    let F = g.F.Files in
    let O = g.O.Sink in
    let input = c.in-Ok.input in
    let end = c.cat_input.result in
    let did = c.cat_input.ensures in
    front_written F.contents F.faults F.blamed words c.args.files.now c.gather.new.files input.types input.root input.frames input.workers c.in-Ok.ensures.read end.fault c.args.arena end.registers.items end.a end.lines (O.taken c.args.out.now) (O.taken c.cat_input.new.out) did.first did.left did.written

pub returns-in-Ok-clause-cut_lines : goal.returns-in-Ok-clause-cut_lines
returns-in-Ok-clause-cut_lines g c =
    let words = map string_bytes c.args.words.now in
    let F = g.F.Files in
    let O = g.O.Sink in
    let input = c.in-Ok.input in
    let end = c.cat_input.result in
    let did = c.cat_input.ensures in
    lines_written F.contents F.faults F.blamed words c.args.files.now c.gather.new.files input.types input.root input.frames input.workers c.in-Ok.ensures.read end.fault c.args.arena end.registers.items end.a end.lines (O.taken c.args.out.now) (O.taken c.cat_input.new.out) did.first did.left did.written

pub returns-in-Ok-clause-stand : goal.returns-in-Ok-clause-stand
returns-in-Ok-clause-stand g c =
    let words = map string_bytes c.args.words.now in
    let F = g.F.Files in
    let O = g.O.Sink in
    let input = c.in-Ok.input in
    let end = c.cat_input.result in
    let did = c.cat_input.ensures in
    λ parsed. registers_of_input F.contents F.faults F.blamed words c.args.files.now c.gather.new.files input.types input.root input.frames input.workers c.in-Ok.ensures.read end.fault end.registers.items end.a end.lines (O.taken c.args.out.now) (O.taken c.cat_input.new.out) (did.written parsed)

pub returns-in-Err-clause-arena : goal.returns-in-Err-clause-arena
returns-in-Err-clause-arena g c =
    let words = map string_bytes c.args.words.now in
    let files = g.F.Files.contents c.args.files.now in
    subst (LeavesArena words files _ c.args.arena) (sym c.without_registers.ensures.side) (arena_kept words files _ c.args.arena)
