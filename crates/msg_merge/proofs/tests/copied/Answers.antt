use Rattle.msg_merge.proofs.tests.copied.Goals as goal

pub copy-requires : goal.copy-requires
copy-requires g c = record { from = (c.requires.0, c.requires.1, c.requires.2) }

pub returns-in-Ok : goal.returns-in-Ok
returns-in-Ok g c =
    let r = c.requires in
    let n = c.in-Ok.ensures.copied r.0 r.1 r.2 in
    (r.0, n.now, n.stands, r.3)
