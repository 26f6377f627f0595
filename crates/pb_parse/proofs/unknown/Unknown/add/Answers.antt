use Rattle.std.proofs.Common.{◌++◌, ◌-◌, ◌≤◌, sym, ap, subst, ◌∙◌, take, drop}
use Rattle.pb_parse.specs.Parsing.{Pending, pending}
use Rattle.pb_parse.proofs.Runs.{run_longer}
use Rattle.pb_parse.proofs.unknown.Unknown.add.Goals as goal

pub returns-then-self-from-clause-added : goal.returns-then-self-from-clause-added
returns-then-self-from-clause-added c =
    let u = c.self.inside in
    let ordered : u.start ≤ u.end = subst (λ (p : Pending). p.start ≤ p.end) (sym c.self.view_is) c.requires.lies.ordered in
    run_longer u.copied.items c.args.bytes.now u.start u.end c.args.from c.args.to c.if-self-from.true ordered c.requires.from
    ∙ ap (λ p. pending p c.args.bytes.now ++ take (c.args.to - c.args.from) (drop c.args.from c.args.bytes.now)) c.self.view_is
