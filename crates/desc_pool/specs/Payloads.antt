-- Records by their places in the bytes, and what the payloads of a field give.
use Rattle.std.specs.Prelude.{◌%◌, ◌^◌, flat_map, map, All, ◌≡◌, ◌+◌, ◌-◌, ◌<◌, ◌≤◌, ◌==◌, ◌&&◌, ℕ, Bool, true, List, length, take, drop, filter, Option, None, Some}
use Rattle.std.specs.Option.{option_map}
use Rattle.std.specs.Str.{is_utf8}
use Rattle.pb_schema.specs.Varint.{seven_bits}
use Rattle.pb_schema.specs.Kinds.{truth}
use Rattle.pb_schema.specs.Record.{Record}
use Rattle.pb_schema.specs.declared.kind.Kind.{Kind}
use Rattle.pb_schema.specs.Fits.{Contents, Utf8, Message}
use Rattle.pb_schema.specs.HeldAt.{field_among}
use Rattle.pb_schema.specs.Tree.{Tree}
use Rattle.pb_schema.specs.Broken.{broken_of, most_levels}
use Rattle.pb_schema.specs.TreeOf.{last_of, records_in, tree_left}
use Rattle.pb_wire.specs.declared.wire_record.WireRecord.{WireRecord}
use Rattle.desc_pool.specs.declared.descriptor.Descriptor.{Descriptor}
use Rattle.desc_pool.specs.Descriptors.{descriptor_schema, fields_read, one, type_of}
use Rattle.desc_pool.specs.declared.fields.Fields.{Fields}
use Rattle.desc_pool.specs.Contents.{contents_at}
use Rattle.desc_pool.specs.Trees.{flag_of}

abbrev pub record_at : List ℕ → WireRecord → Record
record_at bytes r =
    record {
      number = r.number;
      wire = r.wire;
      payload = take r.payload_len (drop r.payload bytes);
      span = take (r.end - r.start) (drop r.start bytes);
    }

-- a descriptor message at this depth has no fault
abbrev pub IsSound : Descriptor → ℕ → List ℕ → Type 0
IsSound descriptor depth bytes = broken_of descriptor_schema (type_of descriptor) depth bytes ≡ None

-- a record of a message without a fault: its payload lies in the bytes, and it is what it has to be
pub record IsRead (descriptor : Descriptor) (depth : ℕ) (bytes : List ℕ) (r : WireRecord) : Type 0 where
  pub inside : r.payload + r.payload_len ≤ length bytes
  pub text : contents_at descriptor r.number r.wire ≡ Utf8 → is_utf8 (record_at bytes r).payload ≡ true
  pub nested : (inner : Descriptor) → contents_at descriptor r.number r.wire ≡ Message (type_of inner)
      → (depth < most_levels) × IsSound inner (depth + 1) (record_at bytes r).payload

-- a record of this number and wire type
abbrev pub has_tag : ℕ → ℕ → Record → Bool
has_tag number wire r = r.number == number && r.wire == wire

-- the payload of the last of such records
abbrev pub last_payload : ℕ → ℕ → List Record → Option (List ℕ)
last_payload number wire rs = option_map (λ r. r.payload) (last_of (filter (has_tag number wire) rs))

-- MESSAGES THAT ARE READ

-- the tree of a descriptor message at this depth
abbrev pub tree_at : Descriptor → ℕ → List ℕ → Tree
tree_at descriptor depth bytes = tree_left descriptor_schema (most_levels - depth) (fields_read descriptor) bytes

-- the records of a message are all that it has
pub record AreRead (fields : Fields) (bytes : List ℕ) : Type 0 where
  pub short : length bytes < 2 ^ 31
  pub depth : fields.depth ≤ 100
  pub sound : IsSound fields.descriptor fields.depth bytes
  pub records : map (record_at bytes) fields.records.items ≡ records_in (100 - fields.depth) bytes
  pub read : All (IsRead fields.descriptor fields.depth bytes) fields.records.items

-- the tree of the message
abbrev pub tree_read : Fields → List ℕ → Tree
tree_read fields bytes = tree_at fields.descriptor fields.depth bytes

-- a field of this kind that isn't a list
abbrev pub IsField : Descriptor → ℕ → Kind → Type 0
IsField descriptor number kind = field_among (fields_read descriptor) number ≡ Some (one number kind)

-- its records have to hold this
abbrev pub Has : Descriptor → ℕ → Contents → Type 0
Has descriptor number contents = contents_at descriptor number 2 ≡ contents

-- A MESSAGE IN A MESSAGE

pub record IsSub (inner : Descriptor) (depth : ℕ) (bytes : List ℕ) (r : WireRecord) : Type 0 where
  pub inside : r.payload + r.payload_len ≤ length bytes
  pub deeper : depth < 100
  pub sound : IsSound inner (depth + 1) (record_at bytes r).payload

abbrev pub sub_tree : Descriptor → ℕ → List ℕ → WireRecord → Tree
sub_tree inner depth bytes r = tree_at inner (depth + 1) (record_at bytes r).payload

-- OPTIONS

-- the value of a bool
abbrev pub flag_bits : List ℕ → Bool
flag_bits s = flag_of (truth (seven_bits s % 2 ^ 64))

-- the later of two flags that are there
abbrev pub flag_or : Option Bool → Option Bool → Option Bool
flag_or (Some b) earlier = Some b
flag_or None earlier = earlier

-- what the packed options say that are read from several records
abbrev pub options_flag : ℕ → List ℕ → List WireRecord → Option Bool
options_flag depth bytes subs =
    option_map flag_bits
    (last_payload 2 0 (flat_map (λ sub. records_in (most_levels - (depth + 1)) (record_at bytes sub).payload) subs))
