use Rattle.std.proofs.Common.{◌≡◌, ◌-◌, ◌++◌, [], length, drop, take, sym, ap, ◌∙◌, arith}
use Rattle.std.specs.Vec.{vec_len}
use Rattle.std.proofs.lemmas.Bool.{eqb-true}
use Rattle.pb_schema.specs.Tree.{unknown_held}
use Rattle.pb_parse.specs.Parsing.{pending}
use Rattle.pb_parse.proofs.CostLaws.{no_unknown}
use Rattle.pb_parse.proofs.Runs.{no_bytes}
use Rattle.pb_parse.proofs.unknown.append_pending.Goals as goal

pub returns-then-unknown-clause-costs : goal.returns-then-unknown-clause-costs
returns-then-unknown-clause-costs g c = λ t feet st.
    let M = g.M.Memory in
    let u = c.unknown.inside in
    let bytes = c.args.bytes.now in
    let copied = no_bytes u.copied.items (omega (arith, u.copied.ok.0, eqb-true (vec_len u.copied) 0 (sym c.is_empty.ensures ∙ c.if-is_empty.true))) in
    let none : u.end - u.start ≡ 0 = omega (arith, c.if-unknown.true) in
    no_unknown c.args.types.now (M.places c.args.mem.now) (M.buffers c.args.mem.now) (length (unknown_held t)) (pending c.args.unknown.now bytes)
    (ap (λ p. pending p bytes) (sym c.unknown.view_is)
    ∙ (ap (λ s. s ++ take (u.end - u.start) (drop u.start bytes)) copied ∙ ap (λ n. take n (drop u.start bytes)) none))
