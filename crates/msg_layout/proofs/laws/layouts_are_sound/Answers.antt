use Rattle.std.proofs.Common.{length}
use Rattle.msg_layout.proofs.SoundLaws.{layout_is_sound}
use Rattle.msg_layout.proofs.laws.layouts_are_sound.Goals as goal

pub returns : goal.returns
returns c = λ schema type_no lawful there. layout_is_sound (length schema.types) schema.types lawful.types type_no there
