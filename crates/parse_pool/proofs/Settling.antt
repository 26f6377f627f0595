-- All that a phase leaves, where its arena is settled and where it isn't.
use Rattle.std.proofs.Common.{◌≡◌, ◌+◌, ◌≤◌, ℕ, List, length, refl, sym, ◌∙◌, arith, subst}
use Rattle.std.specs.FinMap as fin
use Rattle.serial_arena.specs.Serial.{SerialState, buffers_of, places_of}
use Rattle.dyn_message.specs.declared.msg_ref.MsgRef.{MsgRef}
use Rattle.life_ids.specs.Cache.{CacheState}
use Rattle.ts_arena.proofs.Totals.{buffers_whole, places_whole}
use Rattle.ts_arena.specs.Arena.{ArenaState, IsArena}
use Rattle.ts_arena.specs.declared.pass.Pass.{Pass}
use Rattle.ts_arena.specs.Passes.{SharedState, AreFirstPasses, IsSharedFrom}
use Rattle.ts_arena.specs.Settling.{IsSettledFrom}
use Rattle.ts_arena.specs.Sides.{HoldsPasses}
use Rattle.ts_arena.specs.declared.side.Side.{Side}
use Rattle.ts_arena.specs.declared.side.Side.TheVariants.{Sole}
use Rattle.ts_arena.specs.Sole.{arena_buffers, arena_places}
use Rattle.parse_pool.specs.Arenas.{AreEarly, AreOwnersAfter, FitSide, IfSole, KeepsKeys, most_made, part_of}
use Rattle.parse_pool.specs.Leaving.{Leaves}
use Rattle.parse_pool.specs.declared.pool_end.PoolEnd.{PoolEnd}
use Rattle.parse_pool.specs.declared.pool_end.PoolEnd.TheVariants.{NoMemory}
use Rattle.parse_pool.specs.Ends.{HasEnded}
use Rattle.parse_pool.specs.Phased.{HasRun}
use Rattle.parse_pool.specs.Phases.{PhaseState}
use Rattle.parse_pool.specs.Starting.{AreBelow, AreCounted}
use Rattle.parse_pool.proofs.AllMade.{all_parsed}
use Rattle.parse_pool.proofs.Kept.{arena_kept}
use Rattle.parse_pool.proofs.Begun.{no_memory_bad}
use Rattle.parse_pool.proofs.Costed.{arena_costs}
use Rattle.parse_pool.proofs.Sides.{bad_frame, caches_after, early, fit_owners, owners_after}
use Rattle.parse_pool.proofs.Spent.{spent_there}
use Rattle.parse_pool.proofs.Totalled.{total_grows}

module _ (ph : PhaseState) (passes passes' : List Pass) (caches caches' : List CacheState) (messages : List MsgRef) (end : PoolEnd) (run : HasRun ph passes passes' caches caches' messages end) (long : length caches ≡ length passes) (after_long : length caches' ≡ length caches)
    (a : ArenaState) (sh : SharedState) (of : ph.shared ≡ sh) (numbers : List ℕ) (shared : IsSharedFrom a numbers sh) (first : AreFirstPasses a numbers sh passes) (counted : AreCounted numbers) (b : ArenaState) (settled : IsSettledFrom sh passes' b) (is_a : IsArena a) (is_b : IsArena b)
    (sized : ph.workers ≡ length passes) (below : AreBelow 64 a.owners) (some_worker : 1 ≤ length passes) (few : length passes ≤ 64) (there : ph.first + ph.count ≤ length ph.payloads) where
  more_places : fin.len (arena_places b) ≤ fin.len (arena_places a) + most_made (part_of ph.first ph.count ph.payloads)
  more_places = omega (
    arith,
    places_whole a is_a,
    places_whole b is_b,
    total_grows ph passes passes' caches caches' messages end run long after_long a sh of numbers shared first counted b settled is_a is_b sized (λ (s : SerialState). fin.len (places_of s)) (λ k at. fin.len-empty _ _) (λ part grown k turns results parsed. parsed.changes.few_places) below some_worker few there,
  )

  more_buffers : fin.len (arena_buffers b) ≤ fin.len (arena_buffers a) + most_made (part_of ph.first ph.count ph.payloads)
  more_buffers = omega (
    arith,
    buffers_whole a is_a,
    buffers_whole b is_b,
    total_grows ph passes passes' caches caches' messages end run long after_long a sh of numbers shared first counted b settled is_a is_b sized (λ (s : SerialState). fin.len (buffers_of s)) (λ k at. fin.len-empty _ _) (λ part grown k turns results parsed. parsed.changes.few_buffers) below some_worker few there,
  )

  -- it is settled
  pub leaves_sole : Leaves ph.schema ph.root ph.first (part_of ph.first ph.count ph.payloads) (length caches) a (Sole b) caches caches' messages end
  leaves_sole = record {
    passes = tt;
    keys = (settled.life_is ∙ shared.life_is, settled.policy_is ∙ shared.policy_is, settled.adopted_are ∙ shared.adopted_are);
    settled = λ other. tt;
    owners = subst (λ (n : ℕ). AreOwnersAfter n a b) (sym long) (owners_after ph passes passes' caches caches' messages end run long after_long a sh of numbers shared first counted b settled is_a is_b);
    grows = record {
      rest = arena_kept ph passes passes' caches caches' messages end run long a b sh numbers shared first counted settled is_a is_b;
      few_places = more_places;
      few_buffers = more_buffers;
    };
    caches_are = caches_after ph passes passes' caches caches' messages end run long after_long a sh of numbers shared first counted;
    fit = fit_owners ph passes passes' caches caches' messages end run long after_long a sh of numbers shared first counted b settled is_a is_b;
    parsed = λ done. all_parsed ph passes passes' caches caches' messages end run long sized a b sh numbers first counted settled is_a is_b done (run.collected done).count_is there;
    costs = λ done. arena_costs ph passes passes' caches caches' messages end run long after_long a sh of numbers shared first counted b settled is_a is_b sized below some_worker few there done;
    early = λ done. subst (λ (n : ℕ). AreEarly n b messages) (sym long) (early ph passes passes' caches caches' messages end run long after_long a sh of numbers shared first counted b settled is_a is_b sized done);
    bad = λ index fault is. bad_frame ph passes passes' caches caches' messages end run long after_long a sh of numbers shared first counted index fault there (subst (λ (e : PoolEnd). HasEnded ph run.worked e) is run.ended);
    spent = λ region is. spent_there ph passes passes' caches caches' messages end run long sh of b settled is_b region (subst (λ (e : PoolEnd). HasEnded ph run.worked e) is run.ended);
  }

module _ (ph : PhaseState) (passes passes' : List Pass) (caches caches' : List CacheState) (messages : List MsgRef) (end : PoolEnd) (run : HasRun ph passes passes' caches caches' messages end) (long : length caches ≡ length passes) (after_long : length caches' ≡ length caches)
    (a : ArenaState) (sh : SharedState) (of : ph.shared ≡ sh) (numbers : List ℕ) (shared : IsSharedFrom a numbers sh) (first : AreFirstPasses a numbers sh passes) (counted : AreCounted numbers) where
  -- it isn't settled, which is in want of memory
  pub leaves_unsettled : (side : Side) → HoldsPasses side → KeepsKeys a side → FitSide side caches' → ((P : ArenaState → Type 0) → IfSole side P) → Leaves ph.schema ph.root ph.first (part_of ph.first ph.count ph.payloads) (length caches) a side caches caches' messages NoMemory
  leaves_unsettled side passes_held keys fit no_arena = record {
    passes = passes_held;
    keys = keys;
    settled = λ other. absurd (other refl);
    owners = no_arena _;
    grows = no_arena _;
    caches_are = caches_after ph passes passes' caches caches' messages end run long after_long a sh of numbers shared first counted;
    fit = fit;
    parsed = λ done. no_arena _;
    costs = λ done. no_arena _;
    early = λ done. no_arena _;
    bad = λ index fault is. absurd (no_memory_bad index fault is);
    spent = λ region is. no_arena _;
  }
