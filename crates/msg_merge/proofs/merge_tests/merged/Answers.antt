use Rattle.msg_merge.proofs.merge_tests.merged.Goals as goal

pub returns-in-Ok-clause-message : goal.returns-in-Ok-clause-message
returns-in-Ok-clause-message g c =
    let r = c.in_ok-to.ensures.message in
    let f = c.in_ok-from.ensures.message in
    let n = c.in-Ok.ensures.merged r.0 r.1 f.0 f.1 r.2 f.2 in
    (_, n.now, n.stands)
