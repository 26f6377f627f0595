use Rattle.std.proofs.Common.{Ok}
use Rattle.arena_run.specs.Ends.{EndsBySet}
use Rattle.arena_run.proofs.CauseLaws.{ends_well, some_is}
use Rattle.arena_run.proofs.program.run.Goals as goal

pub returns-clause-complete : goal.returns-clause-complete
returns-clause-complete g c = λ set type_name frames content schema type_no is_cat told is_type found sound files_still sink_still.
    let by_words = c.cat-end.ensures.by_words in
    let by_file = c.cat-end.ensures.by_file in
    let by_set = some_is _ (Ok schema) (λ answer. EndsBySet answer type_name c.cat-end.result.fault) told (by_file.set set type_name frames is_cat) in
    ends_well schema type_name type_no _ c.cat-end.result.fault (by_words.command.1 (set, type_name, frames, is_cat)) by_set is_type
    (by_file.first set type_name frames content schema type_no is_cat told is_type found) sound (λ is. files_still (by_file.read_fault is)) (λ is. sink_still (c.cat-end.ensures.write_fault is))
