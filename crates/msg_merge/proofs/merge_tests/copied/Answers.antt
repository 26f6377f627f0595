use Rattle.msg_merge.proofs.merge_tests.copied.Goals as goal

pub returns-in-Ok-clause-message : goal.returns-in-Ok-clause-message
returns-in-Ok-clause-message g c =
    let f = c.in_ok-from.ensures.message in
    let n = c.in-Ok.ensures.copied f.0 f.1 f.2 in
    (f.0, n.now, n.stands)
