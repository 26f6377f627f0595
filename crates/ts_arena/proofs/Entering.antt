-- An owner more, and the table of slots.
use Rattle.std.proofs.Common.{◌≡◌, ℕ, ◌+◌, ◌<◌, ◌≤◌, List, [], length, map, get_or, set, refl, sym, ap, subst, ◌∙◌, arith}
use Rattle.std.proofs.lemmas.Bool.{false≢true}
use Rattle.std.proofs.lemmas.List.{map-append, get_or-set_same, get_or-set_other}
use mathlib.Core.Option.{some}
use mathlib.Core.Logic.{dite}
use native.Mathlib.Decide.{ℕ_discrete}
use lib.ListN.{get_elem?}
use Rattle.arena_block.specs.declared.policy.Policy.{Policy}
use Rattle.arena_block.specs.Policy.{IsValid}
use Rattle.serial_arena.specs.Serial.{SerialState}
use Rattle.arena_list.specs.declared.entry.Entry.{Entry}
use Rattle.arena_list.specs.Words.Core.{slot_count}
use Rattle.arena_list.specs.Rule.Founded.{Differ, slot, caller}
use Rattle.arena_list.proofs.Words.Few.{at_map, len_map, few, at_mapped}
use Rattle.arena_list.proofs.Words.Lists.{at_one}
use Rattle.arena_list.proofs.Rule.Opening.{at_has}
use Rattle.ts_arena.specs.Arena.{ArenaState, AreOwners}
use Rattle.ts_arena.specs.Sharing.{Owners, AddsSpare}
use Rattle.ts_arena.specs.Parts.{no_owner, owner_at}
use Rattle.ts_arena.specs.Sole.{Owns, OwnsNothing, CanEnter, IsEntered}
use Rattle.ts_arena.proofs.Finding.{differ_more}
use Rattle.ts_arena.proofs.Sharing.{held_then}
use Rattle.ts_arena.proofs.Spots.{at_or}

pub owners_more : (life : ℕ) (policy : Policy) (old new : Owners) (who : ℕ) → IsValid policy → AreOwners life policy old → OwnsNothing old who → AddsSpare policy life [] who old new → AreOwners life policy new
owners_more life policy old new who valid are nothing adds = record {
  held = held_then policy life [] old new [] [] who valid adds are.held;
  callers = subst Differ (sym (ap (map caller) adds.added ∙ map-append caller old _))
      (differ_more (map caller old) who are.callers (λ k at. false≢true (sym nothing ∙ at_has (map caller old) k who at)));
}

-- ---- the table
module _ (owners : Owners) (differ : Differ (map slot owners)) (small : (i : ℕ) (e : Entry SerialState) → get_elem? owners i ≡ some e → e.slot < slot_count) where
  pub few_slots : length owners ≤ 64
  few_slots = let f = few slot_count (map slot owners) differ (λ i x at. let p = at_mapped slot owners i x at in subst (λ (y : ℕ). y < slot_count) p.2 (small i p.0 p.1)) in let l = len_map slot owners in omega arith

  -- one entry more is in the table
  pub table_more : (table : List ℕ) (n : ℕ) (e : Entry SerialState) → length table ≡ 64 → get_elem? owners n ≡ some e → ((k : ℕ) (x : Entry SerialState) → k < n → get_elem? owners k ≡ some x → get_or table x.slot 0 ≡ k)
      → (k : ℕ) (x : Entry SerialState) → k < n + 1 → get_elem? owners k ≡ some x → get_or (set table e.slot n) x.slot 0 ≡ k
  table_more table n e long at done k x low at_k = dite (ℕ_discrete k n)
      (λ same. let here : x ≡ e = at_one owners n x e (ap (get_elem? owners) (sym same) ∙ at_k) at in
      ap (λ (y : Entry SerialState). get_or (set table e.slot n) y.slot 0) here ∙ get_or-set_same table e.slot n 0 (let s = small n e at in omega arith) ∙ sym same)
      (λ other. get_or-set_other table e.slot x.slot n 0 (λ s. other (differ k n x.slot (at_map slot owners k x at_k) (at_map slot owners n e at ∙ ap (λ (z : ℕ). some z) (sym s)))) ∙ done k x (omega arith) at_k)

-- ---- an owner is entered as the arena is
pub owns_at : (owners : Owners) (at who : ℕ) → at < length owners → (owner_at owners at).caller ≡ who → Owns owners who
owns_at owners at who low own = at_has (map caller owners) at who (at_map caller owners at (owner_at owners at) (at_or owners at no_owner low) ∙ ap (λ (z : ℕ). some z) own)

pub can_enter : (owners : Owners) (at who : ℕ) → at < length owners → (owner_at owners at).caller ≡ who → CanEnter owners who
can_enter owners at who low own = λ nothing. absurd (false≢true (sym nothing ∙ owns_at owners at who low own))

pub entered_same : (a : ArenaState) (at who : ℕ) → at < length a.owners → (owner_at a.owners at).caller ≡ who → IsEntered a who a at
entered_same a at who low own = record {
  there = low;
  own = own;
  same = λ _. refl;
  added = λ nothing. absurd (false≢true (sym nothing ∙ owns_at a.owners at who low own));
}
