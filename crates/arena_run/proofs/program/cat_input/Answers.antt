use Rattle.std.proofs.Common.{sym, subst}
use Rattle.parse_pool.specs.Arenas.{IfSole}
use Rattle.arena_run.specs.Registers.{AreEarlyIn}
use Rattle.arena_run.proofs.Parsing.{early_in, early_owner}
use Rattle.arena_run.proofs.program.cat_input.Goals as goal

pub write_out-requires-clause-owner : goal.write_out-requires-clause-owner
write_out-requires-clause-owner g c =
    let parsed = c.in-Ok-parse_input in
    early_owner c.args.input.now.workers parsed.arena parsed.messages.items c.requires.small.some parsed.ensures.early

pub returns-in-Ok-parse_input-clause-early : goal.returns-in-Ok-parse_input-clause-early
returns-in-Ok-parse_input-clause-early g c = λ _.
    let parsed = c.in-Ok-parse_input in
    subst (λ side. IfSole side (λ a. AreEarlyIn c.args.input.now.workers a c.write_out.result.registers.items)) (sym c.write_out.ensures.side)
    (early_in c.args.input.now.workers parsed.arena parsed.messages.items c.write_out.result.registers.items c.write_out.ensures.registers parsed.ensures.early)
