use Rattle.pb_schema.specs.Fits.{fields_of}
use Rattle.pb_write.proofs.Short.{tree_few}
use Rattle.pb_write.proofs.laws.texts_are_short.Goals as goal

pub returns : goal.returns
returns c = λ schema type_no t. tree_few schema (fields_of schema type_no) t
