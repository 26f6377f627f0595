use Rattle.std.proofs.Common.{rules, ◌≡◌, ◌++◌, [], ◌∷◌, cond, List, length, length-set, set, sym, ap, ◌∙◌, arith}
use Rattle.std.proofs.lemmas.List.{length-reverse}
use Rattle.ts_arena.specs.declared.pass.Pass.{Pass}
use Rattle.parse_pool.specs.Workers.{WorkerState}
use Rattle.parse_pool.proofs.Seats.{leaving_goes, all_left}
use Rattle.parse_pool.proofs.seating.leave_seats.Goals as goal

pub loop-worker-preserved : goal.loop-worker-preserved
loop-worker-preserved c =
    let all = c.args.workers.now.items in
    let left = c.pop.new.self.items in
    let before = c.loop-worker.passes.items in
    let caches = c.loop-worker.caches in
    let pass = c.parts-pass.result.0 in
    let cache = c.parts-pass.result.1 in
    let number : length left ≡ c.len-number.result = omega (arith, c.len-number.ensures) in
    let pushed : c.push.new.self.items ≡ before ++ pass ∷ [] = ◌∙◌ {A = List Pass} c.push.ensures.items (ap (λ b. cond b (before ++ pass ∷ []) before) c.if-is_err.ensures.negation) in
    record {
      leaving = leaving_goes all c.loop-worker.workers.items left before c.push.new.self.items caches (set caches c.len-number.result cache) c.in-Some.worker pass cache c.in-Some.ensures.items pushed (ap (λ k. set caches k cache) (sym number)) c.parts-pass.ensures.pass c.parts-pass.ensures.cache
          c.loop-worker.invariant.leaving;
      room = omega (arith, c.loop-worker.invariant.room, c.push.ensures.capacity);
      long = length-set caches c.len-number.result cache ∙ c.loop-worker.invariant.long;
    }

pub returns-clause-left : goal.returns-clause-left
returns-clause-left c =
    let none : c.pop.new.self.items ≡ [] = search rules in
    all_left c.args.workers.now.items c.loop-worker.workers.items c.loop-worker.passes.items c.reverse.new.self.items c.loop-worker.caches (◌∙◌ {A = List WorkerState} c.in_default.ensures.items (ap (λ (ws : List WorkerState). ws ++ []) none)) c.reverse.ensures.items
    (length-reverse c.loop-worker.passes.items) c.loop-worker.invariant.leaving
