use Rattle.std.proofs.Common.{◌≡◌, subst}
use Rattle.std.specs.Prelude.{map}
use Rattle.arena_list.specs.Rule.Founded.{Differ, slot}
use Rattle.ts_arena.specs.Passes.{SharedState, entries_of, HasEntry, caller_of}
use Rattle.ts_arena.specs.Leases.{LeaseState, IsLease, caller_in}
use Rattle.ts_arena.proofs.Slots.{one_caller}
use Rattle.ts_arena.proofs.laws.a_leased_slot_is_its_callers.Goals as goal

-- the entry of a lease
entry_in : (l : LeaseState) (sh : SharedState) → IsLease l → l.shared ≡ sh → HasEntry sh l.slot (caller_in l)
entry_in l sh is same = subst (λ (z : SharedState). HasEntry z l.slot (caller_in l)) same is.entry

pub returns-clause-passes : goal.returns-clause-passes
returns-clause-passes c = let sh = c.args.shared.now in let l = c.args.lease.now in let differ = subst (λ (z : SharedState). Differ (map slot (entries_of z))) c.shared.view_is c.shared.invariant.slots in
    let mine = entry_in l sh (subst IsLease c.lease.view_is c.lease.invariant) c.requires.lease in
    λ p of_p apart same. apart (one_caller sh differ l.slot (caller_of p) (caller_in l) (subst (λ at. HasEntry sh at (caller_of p)) same of_p.entry) mine)

pub returns-clause-leases : goal.returns-clause-leases
returns-clause-leases c = let sh = c.args.shared.now in let l = c.args.lease.now in let o = c.args.other.now in let differ = subst (λ (z : SharedState). Differ (map slot (entries_of z))) c.shared.view_is c.shared.invariant.slots in
    let mine = entry_in l sh (subst IsLease c.lease.view_is c.lease.invariant) c.requires.lease in
    let theirs = entry_in o sh (subst IsLease c.other.view_is c.other.invariant) c.requires.other in
    λ apart same. apart (one_caller sh differ l.slot (caller_in o) (caller_in l) (subst (λ at. HasEntry sh at (caller_in o)) same theirs) mine)
