use Rattle.std.proofs.Common.{◌≡◌, take, None}
use Rattle.std.specs.Option.{option_map}
use Rattle.desc_pool.specs.Refusals.{field_name, first_some}
use Rattle.desc_pool.specs.Rules.{found_by}
use Rattle.desc_pool.proofs.refusals.search_messages.Given as goal

abbrev pub invariant-loop-message : goal.invariant-loop-message
invariant-loop-message l = first_some (λ message. option_map (field_name message) (found_by l.search l.names.list message)) (take l.message-index l.messages) ≡ None
