-- Messages that are collected one by one, and workers that sit, work and leave.
use Rattle.std.proofs.Common.{◌≡◌, ◌+◌, ◌*◌, ℕ, List, [], ◌∷◌, ◌++◌, length, sym, ap, subst, ◌∙◌, ⊎_elim, length-append, arith}
use mathlib.Core.Option.{some, some-ne-none}
use lib.ListN.{get_elem?}
use Rattle.std.proofs.lemmas.Option.{same_Some}
use Rattle.arena_list.proofs.Words.Lists.{at_below, at_end, at_there}
use Rattle.life_ids.specs.Cache.{CacheState}
use Rattle.dyn_message.specs.declared.msg_ref.MsgRef.{MsgRef}
use Rattle.ts_arena.specs.declared.pass.Pass.{Pass}
use Rattle.ts_arena.specs.Passes.{SharedState, AreAllOf, IsPassOf}
use Rattle.parse_pool.specs.Collecting.{AreCovered}
use Rattle.parse_pool.specs.Ends.{AllDone, AreNumbered, AreReady}
use Rattle.parse_pool.specs.Phased.{AreCollected, IsResult}
use Rattle.parse_pool.specs.Phases.{PhaseState}
use Rattle.parse_pool.specs.Seating.{AreSeated, IsSeated}
use Rattle.parse_pool.specs.Workers.{WorkerState}
use Rattle.parse_pool.proofs.Ended.{earlier}

pub none_collected : (ws : List WorkerState) (ms : List MsgRef) → ms ≡ [] → AreCollected ws 0 ms
none_collected ws ms none = record {
  count_is = ap (λ (l : List MsgRef). length l) none;
  each = λ i msg at. absurd (some-ne-none msg (sym at ∙ ap (λ (l : List MsgRef). get_elem? l i) none));
}

pub one_collected : (ws : List WorkerState) (ms now : List MsgRef) (i : ℕ) (msg : MsgRef) → now ≡ ms ++ msg ∷ [] → AreCollected ws i ms → IsResult ws i msg → AreCollected ws (i + 1) now
one_collected ws ms now i msg added c r = record {
  count_is = ap (λ (l : List MsgRef). length l) added ∙ length-append ms (msg ∷ []) ∙ ap (λ n. n + 1) c.count_is;
  each = λ j other at. ⊎_elim
      (λ old. c.each j other old)
      (λ new. subst (λ k. IsResult ws k other) (sym (new.0 ∙ c.count_is)) (subst (λ (m : MsgRef). IsResult ws i m) new.1 r))
      (at_end ms msg other j (ap (λ (l : List MsgRef). get_elem? l j) (sym added) ∙ at));
}

-- where all workers are done each frame of the phase has a result
pub done_covered : (ph : PhaseState) (ws : List WorkerState) → length ws ≡ ph.workers → AreNumbered ws → AllDone ph ws → AreCovered ws ph.count
done_covered ph ws long numbers done k turn w at less =
    let number = numbers k w at in
    let end = done k w at in
    let same : turn * length ws ≡ turn * ph.workers = ap (λ n. turn * n) long in
    earlier ph w.number turn (length w.results) (omega (arith, number, end, same, less))

module _ (passes : List Pass) (caches : List CacheState) (ws : List WorkerState) (seated : AreSeated passes caches ws) (even : length caches ≡ length passes) where
  seat_at : (k : ℕ) (w : WorkerState) → get_elem? ws k ≡ some w → (pass : Pass) × (cache : CacheState) × (get_elem? passes k ≡ some pass) × IsSeated k pass cache w
  seat_at k w at =
      let below = at_below ws k w at in
      let pass = at_there passes k (omega (arith, below, seated.count)) in
      let cache = at_there caches k (omega (arith, below, seated.count, even)) in
      (pass.0, cache.0, pass.1, seated.each k w pass.0 cache.0 at pass.1 cache.1)

  pub seated_numbered : AreNumbered ws
  seated_numbered k w at = (seat_at k w at).3.number_is

  pub seated_ready : (sh : SharedState) → AreAllOf sh passes → AreReady sh ws
  seated_ready sh all k w at =
      let s = seat_at k w at in record {
        made = λ p is. subst (λ (q : Pass). IsPassOf sh q) (same_Some s.0 p (sym s.3.pass_is ∙ is)) (all k s.0 s.2);
        none = s.3.none;
      }
