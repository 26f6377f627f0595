-- The law of proofs/FittedLaws.
use Rattle.pb_schema.proofs.FittedLaws.{decoded_fits}
use Rattle.pb_schema.proofs.laws.decoded_trees_are_fitted.Goals as goal

pub returns : goal.returns
returns c = decoded_fits
