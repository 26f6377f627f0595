use Rattle.pb_schema.proofs.PrefixLaws.{front_fault}
use Rattle.pb_schema.proofs.step_laws.a_prefix_is_sound_or_cut.Goals as goal

pub returns : goal.returns
returns c = front_fault
