use Rattle.std.proofs.Common.{sym, ◌∙◌}
use Rattle.arena_list.specs.Rule.Founded.{meter}
use Rattle.arena_list.proofs.Marks.Badges.{one_value}
use Rattle.arena_list.proofs.laws.a_slot_has_one_value.Goals as goal

pub returns : goal.returns
returns g c = record { one_value = λ s x y a b. one_value g.row.V.coded (meter g.V.Part.owner_of g.V.Part.life_of g.V.Part.used_of) x y (sym a ∙ b) }
