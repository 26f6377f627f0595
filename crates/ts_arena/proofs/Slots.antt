-- The slots of a shared arena's callers.
use Rattle.std.proofs.Common.{◌≡◌, ℕ, sym, ap, ◌∙◌}
use Rattle.std.specs.Prelude.{map}
use mathlib.Core.Option.{some, some-injective}
use lib.ListN.{get_elem?}
use Rattle.serial_arena.specs.Serial.{SerialState}
use Rattle.arena_list.specs.declared.entry.Entry.{Entry}
use Rattle.arena_list.specs.Calls.Seats.{IsAmong}
use Rattle.arena_list.specs.Rule.Founded.{Differ, slot}
use Rattle.arena_list.proofs.Words.Few.{at_map}
use Rattle.ts_arena.specs.Passes.{SharedState, entries_of, HasEntry}

-- an entry by its slot and its caller
pub has_entry : (sh : SharedState) (e : Entry SerialState) → IsAmong (entries_of sh) e → (at who : ℕ) → e.slot ≡ at → e.caller ≡ who → HasEntry sh at who
unfolding HasEntry
has_entry sh e among at who p q = (e, among, p, q)

-- entries with one slot have one caller
pub one_caller : (sh : SharedState) → Differ (map slot (entries_of sh)) → (at who other : ℕ) → HasEntry sh at who → HasEntry sh at other → who ≡ other
unfolding HasEntry
one_caller sh differ at who other x y = let i = x.1.0 in let j = y.1.0 in
    let there = at_map slot (entries_of sh) i x.0 x.1.1 in
    let also = at_map slot (entries_of sh) j y.0 y.1.1 in
    let same = differ i j at (there ∙ ap some x.2) (also ∙ ap some y.2) in
    let entry = some-injective _ _ (sym x.1.1 ∙ ap (λ (k : ℕ). get_elem? (entries_of sh) k) same ∙ y.1.1) in
    sym x.3 ∙ ap (λ (e : Entry SerialState). e.caller) entry ∙ y.3
