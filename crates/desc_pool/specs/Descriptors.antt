-- The messages of descriptor.proto in which a descriptor set is written, as a schema: of each message the fields that a
-- pool reads. All other fields are unknown to it. A field that isn't a list is told from none.
use Rattle.std.specs.Prelude.{ℕ, false, List, [], ◌∷◌, codes}
use Rattle.pb_schema.specs.declared.kind.Kind.{Kind}
use Rattle.pb_schema.specs.declared.kind.Kind.TheVariants as kinds
use Rattle.pb_schema.specs.declared.kind.Card.TheVariants as cards
use Rattle.pb_schema.specs.declared.kind.FieldType.{FieldType}
use Rattle.pb_schema.specs.declared.schema.MessageType.{MessageType}
use Rattle.pb_schema.specs.declared.schema.Schema.{Schema}
use Rattle.desc_pool.specs.declared.descriptor.Descriptor.{Descriptor}
use Rattle.desc_pool.specs.declared.descriptor.Descriptor.TheVariants as descriptors

-- the number of each message in the schema
abbrev pub type_of : Descriptor → ℕ
type_of descriptors.Set = 0
type_of descriptors.File = 1
type_of descriptors.Message = 2
type_of descriptors.Field = 3
type_of descriptors.FieldOptions = 4
type_of descriptors.MessageOptions = 5
type_of descriptors.Oneof = 6
type_of descriptors.Enumeration = 7
type_of descriptors.EnumValue = 8

-- one value or none, and a list
abbrev pub one : ℕ → Kind → FieldType
one number kind = record { number = number; kind = kind; card = cards.Explicit }

abbrev pub many : ℕ → Kind → FieldType
many number kind = record { number = number; kind = kind; card = cards.Repeated false }

abbrev pub message : Descriptor → Kind
message descriptor = kinds.Message (type_of descriptor)

abbrev pub fields_read : Descriptor → List FieldType
-- file
fields_read descriptors.Set = many 1 (message descriptors.File) ∷ []
-- name, package, dependency, message_type, enum_type, syntax
fields_read descriptors.File =
    one 1 kinds.Text
    ∷ one 2 kinds.Text
    ∷ many 3 kinds.Text
    ∷ many 4 (message descriptors.Message)
    ∷ many 5 (message descriptors.Enumeration)
    ∷ one 12 kinds.Text
    ∷ []
-- name, field, nested_type, enum_type, options, oneof_decl
fields_read descriptors.Message =
    one 1 kinds.Text
    ∷ many 2 (message descriptors.Field)
    ∷ many 3 (message descriptors.Message)
    ∷ many 4 (message descriptors.Enumeration)
    ∷ one 7 (message descriptors.MessageOptions)
    ∷ many 8 (message descriptors.Oneof)
    ∷ []
-- name, number, label, type, type_name, default_value, options, oneof_index, proto3_optional
fields_read descriptors.Field =
    one 1 kinds.Text
    ∷ one 3 kinds.Int32
    ∷ one 4 kinds.Enumeration
    ∷ one 5 kinds.Enumeration
    ∷ one 6 kinds.Text
    ∷ one 7 kinds.Text
    ∷ one 8 (message descriptors.FieldOptions)
    ∷ one 9 kinds.Int32
    ∷ one 17 kinds.Bool
    ∷ []
-- packed
fields_read descriptors.FieldOptions = one 2 kinds.Bool ∷ []
-- map_entry
fields_read descriptors.MessageOptions = one 7 kinds.Bool ∷ []
fields_read descriptors.Oneof = []
-- name, value
fields_read descriptors.Enumeration = one 1 kinds.Text ∷ many 2 (message descriptors.EnumValue) ∷ []
-- name, number
fields_read descriptors.EnumValue = one 1 kinds.Text ∷ one 2 kinds.Int32 ∷ []

abbrev pub message_type : List ℕ → Descriptor → MessageType
message_type name descriptor = record { name = name; fields = fields_read descriptor; oneofs = 0 }

abbrev pub descriptor_types : List MessageType
descriptor_types =
    message_type (codes "google.protobuf.FileDescriptorSet") descriptors.Set
    ∷ message_type (codes "google.protobuf.FileDescriptorProto") descriptors.File
    ∷ message_type (codes "google.protobuf.DescriptorProto") descriptors.Message
    ∷ message_type (codes "google.protobuf.FieldDescriptorProto") descriptors.Field
    ∷ message_type (codes "google.protobuf.FieldOptions") descriptors.FieldOptions
    ∷ message_type (codes "google.protobuf.MessageOptions") descriptors.MessageOptions
    ∷ message_type (codes "google.protobuf.OneofDescriptorProto") descriptors.Oneof
    ∷ message_type (codes "google.protobuf.EnumDescriptorProto") descriptors.Enumeration
    ∷ message_type (codes "google.protobuf.EnumValueDescriptorProto") descriptors.EnumValue
    ∷ []

-- THE TABLE
abbrev pub descriptor_schema : Schema
descriptor_schema = record { types = descriptor_types }
