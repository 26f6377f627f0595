use Rattle.std.proofs.Common.{length, sym, ◌∙◌}
use Rattle.std.proofs.lemmas.Bool.{eqb-true}
use Rattle.pb_schema.specs.Tree.{unknown_held}
use Rattle.pb_parse.proofs.CostLaws.{no_unknown}
use Rattle.pb_parse.proofs.Runs.{no_bytes}
use Rattle.pb_parse.proofs.unknown.append_piece.Goals as goal

pub returns-then-is_empty-clause-costs : goal.returns-then-is_empty-clause-costs
returns-then-is_empty-clause-costs g c = λ t feet st.
    let M = g.M.Memory in
    no_unknown c.args.types.now (M.places c.args.mem.now) (M.buffers c.args.mem.now) (length (unknown_held t)) c.args.bytes.now
    (no_bytes c.args.bytes.now (eqb-true (length c.args.bytes.now) 0 (sym c.is_empty.ensures ∙ c.if-is_empty.true)))
