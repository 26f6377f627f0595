-- What a field of a descriptor message holds, as the value that it is.
use Rattle.std.specs.Prelude.{ℕ, zero, suc, Bool, true, false, List, [], ◌∷◌, Option, None, Some}
use Rattle.std.specs.Option.{option_map}
use Rattle.pb_schema.specs.Tree.{Tree, Held, One, Many, Number, Bytes, Sub, ValueList, NoValues, ValueAnd}
use Rattle.pb_schema.specs.HeldAt.{held_at}
use Rattle.desc_pool.specs.declared.descriptor.Descriptor.{Descriptor}
use Rattle.desc_pool.specs.Descriptors.{descriptor_schema, type_of}

abbrev pub text_held : Held → Option (List ℕ)
text_held (One (Bytes s)) = Some s
text_held _ = None

abbrev pub number_held : Held → Option ℕ
number_held (One (Number n)) = Some n
number_held _ = None

abbrev pub message_held : Held → Option Tree
message_held (One (Sub t)) = Some t
message_held _ = None

abbrev pub messages_listed : ValueList → List Tree
messages_listed NoValues = []
messages_listed (ValueAnd (Sub t) values) = t ∷ messages_listed values
messages_listed (ValueAnd _ values) = messages_listed values

abbrev pub messages_held : Held → List Tree
messages_held (Many values) = messages_listed values
messages_held _ = []

-- THE FIELD WITH A NUMBER

abbrev pub held_in : Descriptor → ℕ → Tree → Held
held_in descriptor number t = held_at descriptor_schema (type_of descriptor) number t

abbrev pub text_in : Descriptor → ℕ → Tree → Option (List ℕ)
text_in descriptor number t = text_held (held_in descriptor number t)

abbrev pub number_in : Descriptor → ℕ → Tree → Option ℕ
number_in descriptor number t = number_held (held_in descriptor number t)

-- a bool
abbrev pub flag_of : ℕ → Bool
flag_of zero = false
flag_of (suc n) = true

abbrev pub flag_in : Descriptor → ℕ → Tree → Option Bool
flag_in descriptor number t = option_map flag_of (number_in descriptor number t)

abbrev pub message_in : Descriptor → ℕ → Tree → Option Tree
message_in descriptor number t = message_held (held_in descriptor number t)

abbrev pub messages_in : Descriptor → ℕ → Tree → List Tree
messages_in descriptor number t = messages_held (held_in descriptor number t)

-- DEFAULTS

abbrev pub or_empty : Option (List ℕ) → List ℕ
or_empty None = []
or_empty (Some s) = s

abbrev pub or_zero : Option ℕ → ℕ
or_zero None = 0
or_zero (Some n) = n

abbrev pub or_false : Option Bool → Bool
or_false None = false
or_false (Some b) = b

abbrev pub or_true : Option Bool → Bool
or_true None = true
or_true (Some b) = b
