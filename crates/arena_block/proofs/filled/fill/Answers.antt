use Rattle.std.proofs.Common.{◌++◌, ap, ◌∙◌, arith}
use Rattle.std.specs.Prelude.{replicate}
use Rattle.arena_block.specs.Ahead.{IsZeroed}
use Rattle.arena_block.proofs.Fronts.{filled_further, zeroed_further, zeroed_more, more_front}
use Rattle.arena_block.proofs.filled.fill.Goals as goal
use Rattle.arena_block.proofs.filled.fill.Goals.{After-zero_ahead}

zeroed : (c : After-zero_ahead) → IsZeroed c.args.size c.args.filled c.zero_ahead.new.row.items
zeroed c = zeroed_more c.args.size c.args.filled c.args.row.now.items c.zero_ahead.new.row.items c.requires.zeroed c.zero_ahead.ensures.zeroed (omega (arith, c.requires.zeroed.there, c.zero_ahead.ensures.enough)) c.zero_ahead.ensures.within

pub returns-then-end-len-clause-filled : goal.returns-then-end-len-clause-filled
returns-then-end-len-clause-filled c =
    filled_further c.args.size c.args.filled c.args.len c.zero_ahead.new.row.items (zeroed c) c.zero_ahead.ensures.enough
    ∙ ap (λ front. front ++ replicate c.args.len 0) (more_front c.args.filled c.args.row.now.items c.zero_ahead.new.row.items _ c.requires.zeroed.there c.zero_ahead.ensures.zeroed)

pub returns-then-end-len-clause-zeroed : goal.returns-then-end-len-clause-zeroed
returns-then-end-len-clause-zeroed c = zeroed_further c.args.size c.args.filled c.args.len c.zero_ahead.new.row.items (zeroed c) c.zero_ahead.ensures.enough

pub returns-else-end-len-clause-filled : goal.returns-else-end-len-clause-filled
returns-else-end-len-clause-filled c = filled_further c.args.size c.args.filled c.args.len c.args.row.now.items c.requires.zeroed (omega arith)

pub returns-else-end-len-clause-zeroed : goal.returns-else-end-len-clause-zeroed
returns-else-end-len-clause-zeroed c = zeroed_further c.args.size c.args.filled c.args.len c.args.row.now.items c.requires.zeroed (omega arith)
