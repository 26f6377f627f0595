use Rattle.std.proofs.Common.{List, sym, ap, ◌∙◌, ⊎_elim, arith}
use lib.ListN.{get_elem?}
use Rattle.arena_list.proofs.Words.Lists.{at_end}
use Rattle.life_ids.specs.Cache.{CacheState}
use Rattle.parse_pool.proofs.trials.empty_caches.Goals as goal

pub loop-caches-preserved : goal.loop-caches-preserved
loop-caches-preserved c =
    let before = c.loop-caches.caches.items in (
      (let less = c.loop-caches-test.true in let long = c.in-Ok.ensures.len in let count = c.len.ensures in omega arith),
      λ k cache at. ⊎_elim
          (λ old. c.loop-caches.invariant.1 k cache old)
          (λ new. ap (λ (x : CacheState). x.life) (sym new.1) ∙ c.empty.ensures.life)
          (at_end before c.empty.result cache k (ap (λ (l : List CacheState). get_elem? l k) (sym c.in-Ok.ensures.items) ∙ at)),
    )
