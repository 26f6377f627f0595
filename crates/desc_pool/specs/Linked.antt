-- The schema that a set gives (proto3 guide, "Field Presence", "Oneof" and "Packed"; descriptor.proto,
-- `FieldDescriptorProto`).
use Rattle.std.specs.Prelude.{◌≡◌, ⊤, ◌+◌, ℕ, zero, suc, Bool, true, false, not, ◌&&◌, nat_lt, List, [], map, flat_map, Option, None, Some, Result, Ok, Err, if◌then◌else◌}
use Rattle.std.specs.List.{list_any, fold}
use Rattle.std.specs.Ordering.{nat_cmp}
use Rattle.std.specs.BTreeMap.{insert_entry}
use Rattle.pb_schema.specs.declared.kind.Kind.{Kind}
use Rattle.pb_schema.specs.declared.kind.Kind.TheVariants as kinds
use Rattle.pb_schema.specs.declared.kind.Card.{Card}
use Rattle.pb_schema.specs.declared.kind.Card.TheVariants as cards
use Rattle.pb_schema.specs.declared.kind.FieldType.{FieldType}
use Rattle.pb_schema.specs.declared.schema.MessageType.{MessageType}
use Rattle.pb_schema.specs.declared.schema.Schema.{Schema}
use Rattle.pb_schema.specs.Kinds.{value_type_of, is_number}
use Rattle.pb_schema.specs.declared.wire_fault.WireFault.{WireFault}
use Rattle.pb_schema.specs.Fault.{fault_of}
use Rattle.pb_schema.specs.TreeOf.{tree_of}
use Rattle.desc_pool.specs.declared.fault.SchemaFault.TheVariants.{Malformed}
use Rattle.desc_pool.specs.declared.fault.ReadSetFault.{ReadSetFault}
use Rattle.desc_pool.specs.declared.fault.ReadSetFault.TheVariants.{Bad, NoMemory}
use Rattle.desc_pool.specs.Descriptors.{descriptor_schema}
use Rattle.desc_pool.specs.Files.{files_of}
use Rattle.desc_pool.specs.declared.file.FieldDecl.{FieldDecl}
use Rattle.desc_pool.specs.declared.file.MessageDecl.{MessageDecl}
use Rattle.desc_pool.specs.declared.file.FileDecl.{FileDecl}
use Rattle.desc_pool.specs.declared.names.NameDecl.{NameDecl}
use Rattle.desc_pool.specs.declared.fault.SchemaFault.{SchemaFault}
use Rattle.desc_pool.specs.Names.{names_of, place_of}
use Rattle.desc_pool.specs.Refusals.{kind_by, target, is_in, is_repeated, refusal}

-- ONEOFS

-- a oneof that stands for one optional field alone
abbrev pub is_synthetic : MessageDecl → ℕ → Bool
is_synthetic message oneof = list_any (λ field. field.optional && is_in oneof field) message.fields

-- how many real oneofs are declared in front of this one
abbrev pub real_below : MessageDecl → ℕ → ℕ
real_below message zero = 0
real_below message (suc oneof) =
    real_below message oneof + (if nat_lt oneof message.oneofs && not (is_synthetic message oneof) then 1 else 0)

-- FIELDS

abbrev pub or_double : Option Kind → Kind
or_double None = kinds.Double
or_double (Some kind) = kind

abbrev pub or_first : Option ℕ → ℕ
or_first None = 0
or_first (Some place) = place

abbrev pub kind_of : List NameDecl → FieldDecl → Kind
kind_of names field = or_double (kind_by field.type_code (or_first (place_of names (target field))))

abbrev pub is_message : Kind → Bool
is_message (kinds.Message place) = true
is_message _ = false

-- a single field is told from none where it is optional, a message, or a member of a real oneof
abbrev pub single_card : MessageDecl → Kind → FieldDecl → Card
single_card message kind field =
    if field.optional
    then cards.Explicit
    else
    elim field.oneof_index [
      | Some oneof ↦ cards.Member (real_below message oneof)
      | None ↦ if is_message kind then cards.Explicit else cards.Implicit
    ]

abbrev pub card_of : MessageDecl → Kind → FieldDecl → Card
card_of message kind field =
    if is_repeated field
    then cards.Repeated (field.packed && is_number (value_type_of kind))
    else single_card message kind field

abbrev pub field_type : List NameDecl → MessageDecl → FieldDecl → FieldType
field_type names message field =
    record {
      number = field.number;
      kind = kind_of names field;
      card = card_of message (kind_of names field) field;
    }

-- MESSAGES

-- fields by ascending number
abbrev pub by_number : List FieldType → List (ℕ × FieldType)
by_number fields = fold (λ sorted field. insert_entry nat_cmp sorted field.number field) [] fields

abbrev pub message_type : List NameDecl → MessageDecl → MessageType
message_type names message =
    record {
      name = message.name;
      fields = map (λ entry. entry.1) (by_number (map (field_type names message) message.fields));
      oneofs = real_below message message.oneofs;
    }

abbrev pub schema_of : List FileDecl → Schema
schema_of files = record { types = flat_map (λ file. map (message_type (names_of files)) file.messages) files }

-- THE SET

-- the schema of some files, or their first refusal
abbrev pub linked : List FileDecl → Result Schema SchemaFault
linked files = elim (refusal files) [ Some refused ↦ Err refused | None ↦ Ok (schema_of files) ]

abbrev pub fault_byte : Option WireFault → ℕ
fault_byte None = 0
fault_byte (Some fault) = fault.byte

-- what a set gives: where its bytes have a fault, the byte of the first
abbrev pub linked_set : List ℕ → Result Schema SchemaFault
linked_set bytes = elim (tree_of descriptor_schema 0 bytes) [
  | Some t ↦ linked (files_of t)
  | None ↦ Err (Malformed (fault_byte (fault_of descriptor_schema 0 0 bytes)))
]

-- a result is the answer, or want of memory
abbrev pub Answers : Result Schema ReadSetFault → Result Schema SchemaFault → Type 0
Answers (Ok schema) answer = answer ≡ Ok schema
Answers (Err (Bad fault)) answer = answer ≡ Err fault
Answers (Err NoMemory) answer = ⊤
