use Rattle.pb_schema.proofs.AppendedText.{appended_merges}
use Rattle.pb_schema.proofs.step_laws.appended_text_merges.Goals as goal

pub returns : goal.returns
returns c = appended_merges
