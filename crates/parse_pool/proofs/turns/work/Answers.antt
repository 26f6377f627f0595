use Rattle.std.proofs.Common.{Some, refl, sym, ap, subst, ◌∙◌}
use Rattle.parse_pool.specs.Workers.{WorkerState}
use Rattle.parse_pool.specs.Parsed.{HasTurned}
use Rattle.parse_pool.proofs.Ended.{one_ends, own_pass}
use Rattle.parse_pool.proofs.turns.work.Goals as goal

pub parse_turns-pass-requires-clause-made : goal.parse_turns-pass-requires-clause-made
parse_turns-pass-requires-clause-made g c = c.requires.made c.in-Some.pass (ap (λ (w : WorkerState). w.pass) (sym c.worker.view_is) ∙ (sym c.replace.ensures.value ∙ c.in-Some.is))

pub invariant_of-worker : goal.invariant_of-worker
invariant_of-worker g c =
    let v = c.worker.inside in
    let was : WorkerState = record { number = v.number; pass = v.pass; cache = v.cache; results = v.results.items } in
    let own = own_pass was c.in-Some.pass c.worker.invariant (sym c.replace.ensures.value ∙ c.in-Some.is) in
    let t = c.parse_turns-pass.ensures.turned.1 in
    record { own = c.parse_turns-pass.result.0; has = refl; caller = t.caller ∙ own.0; fits = t.fits }

pub returns-clause-worked : goal.returns-clause-worked
returns-clause-worked g c =
    let t = c.parse_turns-pass.ensures.turned in
    let out = c.parse_turns-pass.result in record {
      number_is = ap (λ (w : WorkerState). w.number) c.worker.view_is;
      before = c.in-Some.pass;
      now = out.0;
      was = ap (λ (w : WorkerState). w.pass) (sym c.worker.view_is) ∙ (sym c.replace.ensures.value ∙ c.in-Some.is);
      is = refl;
      turns = t.0;
      turned = subst (λ (w : WorkerState). HasTurned c.args.phase.now w.number t.0 c.in-Some.pass w.cache out.0 out.1 c.parse_turns-pass.new.results.items) c.worker.view_is t.1;
    }

pub returns-clause-ends : goal.returns-clause-ends
returns-clause-ends g c =
    let out = c.parse_turns-pass.result in
    let t = c.parse_turns-pass.ensures.turned.1 in
    let w : WorkerState = record { number = c.worker.inside.number; pass = Some out.0; cache = out.1; results = c.parse_turns-pass.new.results.items } in
    one_ends c.args.phase.now w out.0 refl t.sound out.2 c.parse_turns-pass.ensures.stops
