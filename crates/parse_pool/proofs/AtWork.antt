-- A worker in a phase, and its part of the arena that is settled behind it.
use Rattle.std.proofs.Common.{◌≡◌, ◌<◌, ℕ, List, length, Some, sym, ap, ◌∙◌, arith, subst}
use Rattle.std.proofs.lemmas.Option.{same_Some}
use Rattle.std.specs.Prelude.{IsSome}
use mathlib.Core.Option.{some}
use lib.ListN.{get_elem?}
use Rattle.arena_mem.proofs.Maps.{from_IsSome}
use Rattle.serial_arena.specs.Serial.{SerialState}
use Rattle.arena_list.specs.Closing.Closed.{entry}
use Rattle.arena_list.proofs.Words.Lists.{at_there}
use Rattle.dyn_message.specs.declared.msg_ref.MsgRef.{MsgRef}
use Rattle.life_ids.specs.Cache.{CacheState}
use Rattle.ts_arena.specs.Arena.{ArenaState, IsArena}
use Rattle.ts_arena.specs.declared.pass.Pass.{Pass}
use Rattle.ts_arena.specs.Passes.{SharedState, AreFirstPasses, HasPart, caller_of, slot_of}
use Rattle.ts_arena.specs.Settling.{IsSettledFrom}
use Rattle.parse_pool.specs.declared.pool_end.PoolEnd.{PoolEnd}
use Rattle.parse_pool.specs.Parsed.{HasParsed, HasTurned}
use Rattle.parse_pool.specs.Phased.{HasRun}
use Rattle.parse_pool.specs.Phases.{PhaseState}
use Rattle.parse_pool.specs.Starting.{AreCounted}
use Rattle.parse_pool.specs.Workers.{WorkerState}
use Rattle.parse_pool.proofs.Picked.{own_number}

module _ (ph : PhaseState) (passes passes' : List Pass) (caches caches' : List CacheState) (messages : List MsgRef) (end : PoolEnd) (run : HasRun ph passes passes' caches caches' messages end) where
  -- the worker of this number, with its pass and cache before and after
  pub record AtWork (k : ℕ) : Type 0 where
    pub new : WorkerState
    pub there : get_elem? run.worked k ≡ some new
    pub first : Pass
    pub first_there : get_elem? passes k ≡ some first
    pub last : Pass
    pub last_there : get_elem? passes' k ≡ some last
    pub cache : CacheState
    pub cache_there : get_elem? caches k ≡ some cache
    pub number_is : new.number ≡ k
    pub turns : ℕ
    pub turned : HasTurned ph k turns first cache last new.cache new.results

  pub at_work : length caches ≡ length passes → (k : ℕ) → k < length passes → AtWork k
  at_work long k low =
      let p = at_there passes k low in
      let s = at_there run.seated k (omega (arith, low, run.begun.count)) in
      let w = at_there run.worked k (omega (arith, low, run.begun.count, run.work.count)) in
      let q = at_there passes' k (omega (arith, low, run.begun.count, run.work.count, run.left.count)) in
      let c = at_there caches k (omega (arith, low, long)) in
      let seat = run.begun.each k s.0 p.0 c.0 s.1 p.1 c.1 in
      let did = run.work.each k s.0 w.0 s.1 w.1 in
      let before : did.before ≡ p.0 = same_Some did.before p.0 (sym did.was ∙ seat.pass_is) in
      let now : did.now ≡ q.0 = same_Some did.now q.0 (sym did.is ∙ run.left.pass k w.0 q.0 w.1 q.1) in
      record {
        new = w.0;
        there = w.1;
        first = p.0;
        first_there = p.1;
        last = q.0;
        last_there = q.1;
        cache = c.0;
        cache_there = c.1;
        number_is = did.number_is ∙ seat.number_is;
        turns = did.turns;
        turned = subst (λ (n : ℕ). HasTurned ph n did.turns p.0 c.0 q.0 w.0.cache w.0.results) seat.number_is
            (subst (λ (x : CacheState). HasTurned ph s.0.number did.turns p.0 x q.0 w.0.cache w.0.results) seat.cache_is
            (subst (λ (x : Pass). HasTurned ph s.0.number did.turns x s.0.cache q.0 w.0.cache w.0.results) before
            (subst (λ (x : Pass). HasTurned ph s.0.number did.turns did.before s.0.cache x w.0.cache w.0.results) now did.turned)));
      }

  module _ (a b : ArenaState) (sh : SharedState) (numbers : List ℕ) (first : AreFirstPasses a numbers sh passes) (counted : AreCounted numbers) (settled : IsSettledFrom sh passes' b) (is_b : IsArena b) where
    pub caller_is : (k : ℕ) (p : Pass) → k < length numbers → get_elem? passes k ≡ some p → caller_of p ≡ k
    caller_is k p low there = (first.each k k p (own_number a sh numbers passes first counted k low) there).who

    -- the part of a worker that joined, in the arena that is settled, and what became of it
    pub record Grown (k : ℕ) (w : AtWork k) (part : SerialState) : Type 0 where
      pub grown : SerialState
      pub at : ℕ
      pub index : ℕ
      pub there : get_elem? b.owners index ≡ some (entry at k grown)
      pub parsed : HasParsed ph k w.turns part grown w.new.results
      pub region_is : grown.region ≡ part.region
      pub slot_is : grown.region ≡ at
      pub small : at < 64

    pub grown_of : (k : ℕ) → k < length numbers → (w : AtWork k) (part : SerialState) → HasPart w.first part → IsSome (slot_of w.last) → Grown k w part
    grown_of k low w part has joined = from_IsSome (λ o. Grown k w part) (slot_of w.last) joined (λ at is.
        let g = w.turned.parsed part has in
        let j = settled.joined k at w.last g.0 w.last_there is g.1 in
        let who : caller_of w.last ≡ k = w.turned.caller ∙ caller_is k w.first low w.first_there in
        let there : get_elem? b.owners j.0 ≡ some (entry at k g.0) = j.1 ∙ ap (λ (c : ℕ). some (entry at c g.0)) who in
        let owned = is_b.owners.held.each j.0 (entry at k g.0) there in
        record {
          grown = g.0;
          at = at;
          index = j.0;
          there = there;
          parsed = g.2;
          region_is = ap (λ (x : _). x.region) g.2.changes.key;
          slot_is = owned.keyed.region_is;
          small = is_b.owners.held.small j.0 (entry at k g.0) there;
        })
