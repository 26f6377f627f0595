-- Each clause is a law of proofs/MapLaws.
use Rattle.std.proofs.Common.{◌++◌, length, sym}
use Rattle.std.specs.List.{concat}
use Rattle.std.proofs.lemmas.List.Folds.{concat-append}
use Rattle.pb_schema.specs.Fits.{fields_of}
use Rattle.pb_schema.proofs.MapLaws.{map_depth, map_units, merge_map}
use Rattle.pb_schema.proofs.laws.unknown_parts_are_changed_alone.Goals as goal

pub returns-clause-depth : goal.returns-clause-depth
returns-clause-depth c = map_depth

pub returns-clause-units : goal.returns-clause-units
returns-clause-units c = λ f t. map_units f length t

pub returns-clause-merged : goal.returns-clause-merged
returns-clause-merged c = λ schema type_no a b. sym (merge_map concat (λ x y. x ++ y) (λ x y. x ++ y) concat-append schema (fields_of schema type_no) a b)
