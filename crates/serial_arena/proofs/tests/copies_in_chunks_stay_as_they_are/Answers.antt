use Rattle.std.proofs.Common.{refl, sym, subst}
use Rattle.std.specs.Prelude.{IsSome}
use Rattle.serial_arena.proofs.tests.copies_in_chunks_stay_as_they_are.Goals as goal

pub kept-requires-2 : goal.kept-requires-2
kept-requires-2 g c = subst (λ r. IsSome r) (sym (c.keep_copy-3.ensures.rest _ _ c.in_ok-first.ensures.value)) refl
