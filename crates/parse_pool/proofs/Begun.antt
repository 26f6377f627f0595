-- What a phase begins with, and what it leaves where it doesn't begin.
use Rattle.std.proofs.Common.{◌≡◌, ◌<◌, ℕ, List, length, Some, refl, sym, ap, ◌∙◌, inl, arith}
use Rattle.arena_list.proofs.Words.Lists.{at_below}
use mathlib.Core.Option.{some, some-injective}
use lib.ListN.{get_elem?}
use Rattle.life_ids.specs.Cache.{CacheState}
use Rattle.pb_schema.specs.declared.schema.Schema.{Schema}
use Rattle.pb_schema.specs.declared.wire_fault.WireFault.{WireFault}
use Rattle.dyn_message.specs.declared.msg_ref.MsgRef.{MsgRef}
use Rattle.ts_arena.specs.declared.side.Side.TheVariants.{Sole}
use Rattle.ts_arena.specs.Arena.{ArenaState}
use Rattle.ts_arena.specs.declared.pass.Pass.{Pass}
use Rattle.ts_arena.specs.Passes.{SharedState, AreFirstPasses, IsSharedFrom}
use Rattle.parse_pool.specs.Arenas.{AreOwnersAfter}
use Rattle.parse_pool.specs.Leaving.{Leaves}
use Rattle.parse_pool.specs.declared.pool_end.PoolEnd.{PoolEnd}
use Rattle.parse_pool.specs.declared.pool_end.PoolEnd.TheVariants.{BadFrame, BlocksSpent, Done, NoMemory}
use Rattle.parse_pool.specs.Starting.{AreCounted, AreInOrder, FitOwners, FitPasses}
use Rattle.parse_pool.proofs.Picked.{own_number}

-- AN ARENA THAT STAYS AS IT WAS

pub no_memory_done : (◌≡◌ {A = PoolEnd} NoMemory Done) → ⊥
no_memory_done same = cc

pub no_memory_bad : (index : ℕ) (fault : WireFault) → (◌≡◌ {A = PoolEnd} NoMemory (BadFrame index fault)) → ⊥
no_memory_bad index fault same = cc

pub no_memory_spent : (region : ℕ) → (◌≡◌ {A = PoolEnd} NoMemory (BlocksSpent region)) → ⊥
no_memory_spent region same = cc

same_owners : (n : ℕ) (a : ArenaState) → AreOwnersAfter n a a
same_owners n a = record {
  begun = record { short = omega arith; same = λ k node at. at };
  others = λ e among. inl (e, among, refl, refl);
}

-- a phase that doesn't begin ends in want of memory
pub leaves_none : (schema : Schema) (root first : ℕ) (payloads : List (List ℕ)) (workers : ℕ) (a : ArenaState) (caches : List CacheState) (messages : List MsgRef) → FitOwners a.life a.owners caches → Leaves schema root first payloads workers a (Sole a) caches caches messages NoMemory
leaves_none schema root first payloads workers a caches messages fit = record {
  passes = tt;
  keys = (refl, refl, refl);
  settled = λ other. tt;
  owners = same_owners workers a;
  grows = record { rest = λ foot bytes none is. is; few_places = omega arith; few_buffers = omega arith };
  caches_are = record { count = refl; each = λ k old new at_old at_new. inl (some-injective new old (sym at_new ∙ at_old)) };
  fit = fit;
  parsed = λ done. absurd (no_memory_done done);
  costs = λ done. absurd (no_memory_done done);
  early = λ done. absurd (no_memory_done done);
  bad = λ index fault is. absurd (no_memory_bad index fault is);
  spent = λ region is. absurd (no_memory_spent region is);
}

-- THE FIRST PASSES

module _ (a : ArenaState) (sh : SharedState) (numbers : List ℕ) (passes : List Pass) (shared : IsSharedFrom a numbers sh) (first : AreFirstPasses a numbers sh passes) (counted : AreCounted numbers) where
  -- the pass at each place is that of the caller with its number
  low_number : (k : ℕ) (p : Pass) → get_elem? passes k ≡ some p → k < length numbers
  low_number k p at = omega (arith, at_below passes k p at, first.count)

  pub in_order : AreInOrder passes
  in_order k p at = (first.each k k p (own_number a sh numbers passes first counted k (low_number k p at)) at).who

  -- a cache that fits the owners fits the passes
  pub fit_first : (caches : List CacheState) → FitOwners a.life a.owners caches → FitPasses caches passes
  fit_first caches fit k cache p at_cache at_pass life =
      let own = fit k cache at_cache (life ∙ (first.all k p at_pass).life_is ∙ shared.life_is) in
      let is = first.each k k p (own_number a sh numbers passes first counted k (low_number k p at_pass)) at_pass in
      (is.own own.1.0 own.0 own.1.1 own.2).0 ∙ ap (λ (n : ℕ). Some n) own.3
