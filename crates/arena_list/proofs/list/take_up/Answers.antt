use Rattle.std.proofs.Common.{sym, ap, ◌∙◌}
use Rattle.arena_list.specs.Rule.Founded.{meter}
use Rattle.arena_list.specs.Steps.Tales.{sole}
use Rattle.arena_list.proofs.Marks.Badges.{up_is}
use Rattle.arena_list.proofs.list.take_up.Goals as goal

pub into_seat-requires : goal.into_seat-requires
into_seat-requires g c = (sole c.args.badge.now.views, ap (λ b. b.views) c.replace.ensures.value ∙ c.requires)

pub returns-clause-me : goal.returns-clause-me
returns-clause-me g c = let e = c.into_seat.ensures in up_is g.row.V.coded (meter g.V.Part.owner_of g.V.Part.life_of g.V.Part.used_of) c.args.badge.now.views c.into_seat.result.me (sym (ap (λ b. b.views) c.replace.ensures.value) ∙ e.2) e.3
