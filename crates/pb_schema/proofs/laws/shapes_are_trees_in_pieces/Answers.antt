-- Each clause is a law of proofs/ShapeLaws.
use Rattle.pb_schema.proofs.ShapeLaws.{shape_tree, shape_one}
use Rattle.pb_schema.proofs.laws.shapes_are_trees_in_pieces.Goals as goal

pub returns-clause-all : goal.returns-clause-all
returns-clause-all c = shape_tree

pub returns-clause-one : goal.returns-clause-one
returns-clause-one c = shape_one
