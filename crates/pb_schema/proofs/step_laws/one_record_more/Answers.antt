-- Each clause is a law of proofs/PutLaws.
use Rattle.pb_schema.specs.Fits.{fields_of}
use Rattle.pb_schema.specs.Broken.{most_levels}
use Rattle.pb_schema.proofs.PutLaws.{shape_none, shape_more, shape_read_joined, tree_more}
use Rattle.pb_schema.proofs.step_laws.one_record_more.Goals as goal

pub returns-clause-shapes : goal.returns-clause-shapes
returns-clause-shapes c = λ schema type_no payloads payload. shape_more schema most_levels (fields_of schema type_no) payloads payload

pub returns-clause-none : goal.returns-clause-none
returns-clause-none c = λ schema type_no. shape_none schema most_levels (fields_of schema type_no)

pub returns-clause-joined : goal.returns-clause-joined
returns-clause-joined c = shape_read_joined

pub returns-clause-trees : goal.returns-clause-trees
returns-clause-trees c = tree_more
