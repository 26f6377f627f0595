-- What the tree of a descriptor set says: its files, with their messages and enums (descriptor.proto). Each message and
-- enum has its full name: the package, the names of the messages around it and its own, joined by dots; no package has
-- no dot. The messages of a file are listed in its order, each before its nested ones.
use Rattle.std.specs.Prelude.{ℕ, Bool, List, [], ◌∷◌, ◌++◌, length, map, flat_map, Option, codes, option_and_then}
use Rattle.std.specs.Str.{bytes_eq}
use Rattle.pb_schema.specs.Tree.{Tree, Message, Held, Many, FieldAnd, ValueList, NoValues, ValueAnd, Sub}
use Rattle.desc_pool.specs.declared.descriptor.Descriptor.TheVariants as descriptors
use Rattle.desc_pool.specs.declared.file.FieldDecl.{FieldDecl}
use Rattle.desc_pool.specs.declared.file.MessageDecl.{MessageDecl}
use Rattle.desc_pool.specs.declared.file.FileDecl.{FileDecl}
use Rattle.desc_pool.specs.Trees.{text_in, number_in, flag_in, message_in, messages_in, or_empty, or_zero, or_false, or_true}

-- FIELDS

-- whether a list may be packed by these options
abbrev pub packed_by : Option Tree → Bool
packed_by options = or_true (option_and_then (flag_in descriptors.FieldOptions 2) options)

abbrev pub field_of : Tree → FieldDecl
field_of t =
    record {
      name = or_empty (text_in descriptors.Field 1 t);
      number = or_zero (number_in descriptors.Field 3 t);
      label = or_zero (number_in descriptors.Field 4 t);
      type_code = or_zero (number_in descriptors.Field 5 t);
      type_name = text_in descriptors.Field 6 t;
      oneof_index = number_in descriptors.Field 9 t;
      optional = or_false (flag_in descriptors.Field 17 t);
      packed = packed_by (message_in descriptors.Field 8 t);
    }

-- NAMES

-- what stands in front of the names in a package: its name and a dot
abbrev pub package_prefix : List ℕ → List ℕ
package_prefix [] = []
package_prefix (b ∷ rest) = (b ∷ rest) ++ codes "."

-- the same of the names in a message with this full name
abbrev pub name_prefix : List ℕ → List ℕ
name_prefix name = name ++ codes "."

-- the full names of enums
abbrev pub enum_name : List ℕ → Tree → List ℕ
enum_name prefix t = prefix ++ or_empty (text_in descriptors.Enumeration 1 t)

-- MESSAGES

abbrev pub message_name : List ℕ → Tree → List ℕ
message_name prefix t = prefix ++ or_empty (text_in descriptors.Message 1 t)

-- a message by itself, with this full name
abbrev pub message_of : List ℕ → Tree → MessageDecl
message_of name t =
    record {
      name = name;
      enums = map (enum_name (name_prefix name)) (messages_in descriptors.Message 4 t);
      fields = map field_of (messages_in descriptors.Message 2 t);
      oneofs = length (messages_in descriptors.Message 8 t);
    }

abbrev mutual
  -- a message and those nested in it
  pub messages_of : List ℕ → Tree → List MessageDecl
  messages_of prefix (Message (FieldAnd name (FieldAnd fields (FieldAnd nested others))) unknown) =
      let t = Message (FieldAnd name (FieldAnd fields (FieldAnd nested others))) unknown in
      message_of (message_name prefix t) t ∷ messages_nested (name_prefix (message_name prefix t)) nested
  messages_of prefix _ = []

  pub messages_nested : List ℕ → Held → List MessageDecl
  messages_nested prefix (Many values) = messages_among prefix values
  messages_nested prefix _ = []

  pub messages_among : List ℕ → ValueList → List MessageDecl
  messages_among prefix NoValues = []
  messages_among prefix (ValueAnd (Sub t) values) = messages_of prefix t ++ messages_among prefix values
  messages_among prefix (ValueAnd _ values) = messages_among prefix values

-- FILES

abbrev pub package_of : Tree → List ℕ
package_of t = package_prefix (or_empty (text_in descriptors.File 2 t))

abbrev pub file_of : Tree → FileDecl
file_of t =
    record {
      is_proto3 = bytes_eq (or_empty (text_in descriptors.File 12 t)) (codes "proto3");
      enums = map (enum_name (package_of t)) (messages_in descriptors.File 5 t);
      messages = flat_map (messages_of (package_of t)) (messages_in descriptors.File 4 t);
    }

-- the files of a set
abbrev pub files_of : Tree → List FileDecl
files_of t = map file_of (messages_in descriptors.Set 1 t)
