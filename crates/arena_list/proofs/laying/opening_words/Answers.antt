use Rattle.std.proofs.Common.{refl}
use Rattle.arena_list.proofs.Steps.Joining.{zeros}
use Rattle.arena_list.proofs.laying.opening_words.Goals as goal
use Rattle.arena_list.specs.Words.Written.{word_count}

pub lay-requires-clause-zeros : goal.lay-requires-clause-zeros
lay-requires-clause-zeros g c = (refl, zeros word_count)
