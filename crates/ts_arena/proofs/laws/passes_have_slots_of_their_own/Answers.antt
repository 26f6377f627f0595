use Rattle.std.proofs.Common.{subst, sym}
use Rattle.std.specs.Prelude.{map}
use Rattle.arena_list.specs.Rule.Founded.{Differ, slot}
use Rattle.ts_arena.specs.Passes.{SharedState, entries_of, HasEntry, own_slot, caller_of}
use Rattle.ts_arena.proofs.Slots.{one_caller}
use Rattle.ts_arena.proofs.laws.passes_have_slots_of_their_own.Goals as goal

pub returns : goal.returns
returns c = let sh = c.args.shared.now in let differ = subst (λ (z : SharedState). Differ (map slot (entries_of z))) c.shared.view_is c.shared.invariant.slots in
    λ p q of_p of_q apart same. apart (one_caller sh differ (own_slot p) (caller_of p) (caller_of q) of_p.entry (subst (λ at. HasEntry sh at (caller_of q)) (sym same) of_q.entry))
