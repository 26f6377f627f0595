-- The plain data of a tree's lists and the lists that they are: each way and back.
use Rattle.std.proofs.Common.{◌≡◌, List, [], ◌∷◌, refl, ap}
use Rattle.pb_schema.specs.Tree.{ValueWith, HeldWith, ValueListWith, NoValues, ValueAnd, HeldListWith, NoFields, FieldAnd, value_list, held_list, values_in_list, fields_in_list}

pub values_of_list : {U : Type 0} (values : List (ValueWith U)) → values_in_list (value_list values) ≡ values
values_of_list [] = refl
values_of_list (value ∷ values) = ap (λ rest. value ∷ rest) (values_of_list values)

pub list_of_values : {U : Type 0} (values : ValueListWith U) → value_list (values_in_list values) ≡ values
list_of_values NoValues = refl
list_of_values (ValueAnd value values) = ap (ValueAnd value) (list_of_values values)

pub fields_of_list : {U : Type 0} (fields : List (HeldWith U)) → fields_in_list (held_list fields) ≡ fields
fields_of_list [] = refl
fields_of_list (held ∷ fields) = ap (λ rest. held ∷ rest) (fields_of_list fields)

pub list_of_fields : {U : Type 0} (fields : HeldListWith U) → held_list (fields_in_list fields) ≡ fields
list_of_fields NoFields = refl
list_of_fields (FieldAnd held rest) = ap (FieldAnd held) (list_of_fields rest)
