use Rattle.std.proofs.Common.{rules, ◌≡◌, ◌++◌, [], ◌∷◌, cond, List, length, sym, ap, ◌∙◌, arith}
use Rattle.std.proofs.lemmas.List.{length-reverse}
use mathlib.Core.Option.{some-injective}
use lib.ListN.{get_elem?}
use Rattle.ts_arena.specs.declared.pass.Pass.{Pass}
use Rattle.ts_arena.proofs.Finding.{at_index}
use Rattle.parse_pool.specs.Workers.{WorkerState}
use Rattle.parse_pool.proofs.Seats.{taking_starts, taking_goes, all_taken, last_of_front, front_short}
use Rattle.parse_pool.proofs.seating.seat_workers.Goals as goal

pub loop-pass-init : goal.loop-pass-init
loop-pass-init c = record { taking = taking_starts c.args.passes.now.items c.args.caches.now c.args.workers.now.items c.requires.room.0; room = c.requires.room.1; kept = omega arith }

pub overflow_cast-number : goal.overflow_cast-number
overflow_cast-number c = omega (arith, front_short _ _ _ _ _ c.loop-pass.invariant.taking.are c.in-Some.ensures.items, c.len-number.ensures, c.requires.few)

pub offset_bounds-caches-number : goal.offset_bounds-caches-number
offset_bounds-caches-number c = omega (arith, front_short _ _ _ _ _ c.loop-pass.invariant.taking.are c.in-Some.ensures.items, c.len-number.ensures, c.requires.few)

pub bounds-caches-number : goal.bounds-caches-number
bounds-caches-number c = omega (arith, front_short _ _ _ _ _ c.loop-pass.invariant.taking.are c.in-Some.ensures.items, c.len-number.ensures, c.requires.each)

pub new-worker-requires-clause-fits : goal.new-worker-requires-clause-fits
new-worker-requires-clause-fits c =
    let all = c.args.passes.now.items in
    let left = c.pop.new.self.items in
    let number : length left ≡ c.len-number.result = omega (arith, c.len-number.ensures) in
    let there = last_of_front all c.loop-pass.passes.items left c.loop-pass.invariant.taking.rest c.in-Some.pass c.loop-pass.invariant.taking.are c.in-Some.ensures.items in
    let short = front_short all c.loop-pass.passes.items left c.loop-pass.invariant.taking.rest c.in-Some.pass c.loop-pass.invariant.taking.are c.in-Some.ensures.items in
    c.requires.fit c.len-number.result c.index-caches-number.result c.in-Some.pass (at_index c.args.caches.now c.len-number.result c.index-caches-number.result (omega (arith, short, number, c.requires.each)) c.index-caches-number.is)
    (ap (λ k. get_elem? all k) (sym number) ∙ there)

pub new-worker-requires-clause-caller : goal.new-worker-requires-clause-caller
new-worker-requires-clause-caller c =
    let all = c.args.passes.now.items in
    let left = c.pop.new.self.items in
    let number : length left ≡ c.len-number.result = omega (arith, c.len-number.ensures) in
    let there = last_of_front all c.loop-pass.passes.items left c.loop-pass.invariant.taking.rest c.in-Some.pass c.loop-pass.invariant.taking.are c.in-Some.ensures.items in
    c.requires.order (length left) c.in-Some.pass there ∙ number

pub loop-pass-preserved : goal.loop-pass-preserved
loop-pass-preserved c =
    let all = c.args.passes.now.items in
    let left = c.pop.new.self.items in
    let before = c.loop-pass.workers.items in
    let worker = c.new-worker.result in
    let number : length left ≡ c.len-number.result = omega (arith, c.len-number.ensures) in
    let short = front_short all c.loop-pass.passes.items left c.loop-pass.invariant.taking.rest c.in-Some.pass c.loop-pass.invariant.taking.are c.in-Some.ensures.items in
    let at = at_index c.args.caches.now c.len-number.result c.index-caches-number.result (omega (arith, short, number, c.requires.each)) c.index-caches-number.is in
    let pushed : c.push.new.self.items ≡ before ++ worker ∷ [] = ◌∙◌ {A = List WorkerState} c.push.ensures.items (ap (λ b. cond b (before ++ worker ∷ []) before) c.if-is_err.ensures.negation) in
    let made = c.new-worker.ensures in
    record {
      taking = taking_goes all c.loop-pass.passes.items left c.args.caches.now before c.push.new.self.items c.in-Some.pass worker c.in-Some.ensures.items pushed
          (λ cache there. record {
            number_is = made.number ∙ sym number;
            pass_is = made.pass;
            cache_is = made.cache ∙ some-injective c.index-caches-number.result cache (sym at ∙ ap (λ k. get_elem? c.args.caches.now k) (sym number) ∙ there);
            none = made.results;
          })
          c.loop-pass.invariant.taking;
      room = omega (arith, c.loop-pass.invariant.room, c.push.ensures.capacity);
      kept = omega (arith, c.loop-pass.invariant.kept, c.in-Some.ensures.capacity);
    }

pub returns-clause-seated : goal.returns-clause-seated
returns-clause-seated c =
    let none : c.pop.new.self.items ≡ [] = search rules in
    all_taken c.args.passes.now.items c.loop-pass.passes.items c.args.caches.now c.loop-pass.workers.items c.reverse.new.self.items (◌∙◌ {A = List Pass} c.in_default.ensures.items (ap (λ (ps : List Pass). ps ++ []) none)) c.reverse.ensures.items
    (length-reverse c.loop-pass.workers.items) c.loop-pass.invariant.taking
