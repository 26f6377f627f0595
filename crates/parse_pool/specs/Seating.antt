-- Workers that take their seats before a phase, and leave them behind it.
use Rattle.std.specs.Prelude.{◌≡◌, ℕ, List, [], length, Some}
use mathlib.Core.Option.{some}
use lib.ListN.{get_elem?}
use Rattle.life_ids.specs.Cache.{CacheState}
use Rattle.ts_arena.specs.declared.pass.Pass.{Pass}
use Rattle.parse_pool.specs.Workers.{WorkerState}

-- the worker with this number, pass and cache, which parsed nothing
pub record IsSeated (number : ℕ) (pass : Pass) (cache : CacheState) (w : WorkerState) : Type 0 where
  pub number_is : w.number ≡ number
  pub pass_is : w.pass ≡ Some pass
  pub cache_is : w.cache ≡ cache
  pub none : w.results ≡ []

-- for each pass the worker with the number of its place, with the cache at that place
pub record AreSeated (passes : List Pass) (caches : List CacheState) (workers : List WorkerState) : Type 0 where
  pub count : length workers ≡ length passes
  pub each : (k : ℕ) (w : WorkerState) (pass : Pass) (cache : CacheState) → get_elem? workers k ≡ some w → get_elem? passes k ≡ some pass → get_elem? caches k ≡ some cache → IsSeated k pass cache w

-- the pass and the cache of each worker, at its place
pub record HaveLeft (workers : List WorkerState) (passes : List Pass) (caches : List CacheState) : Type 0 where
  pub count : length passes ≡ length workers
  pub pass : (k : ℕ) (w : WorkerState) (pass : Pass) → get_elem? workers k ≡ some w → get_elem? passes k ≡ some pass → w.pass ≡ Some pass
  pub cache : (k : ℕ) (w : WorkerState) (cache : CacheState) → get_elem? workers k ≡ some w → get_elem? caches k ≡ some cache → cache ≡ w.cache
