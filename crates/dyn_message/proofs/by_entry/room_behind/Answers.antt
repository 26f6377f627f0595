use Rattle.std.proofs.Common.{sym, ◌∙◌, arith}
use Rattle.dyn_message.proofs.Growing.{room_stays, same_space}
use Rattle.dyn_message.proofs.by_entry.room_behind.Goals as goal

pub returns-clause-made : goal.returns-clause-made
returns-clause-made g c =
    room_stays _ c.args.size _ c.requires.list c.args.count c.args.array c.requires.told.counted c.requires.told.place c.requires.some
    c.if-count-eq0.false (sym c.is_full.ensures ∙ c.if-is_full.false)

pub returns-clause-space : goal.returns-clause-space
returns-clause-space g c =
    let cost = same_space _ c.args.size _ c.requires.list c.args.count c.args.array c.requires.told.counted c.requires.told.place c.requires.some
    c.if-count-eq0.false (sym c.is_full.ensures ∙ c.if-is_full.false) in
    omega (arith, cost)
