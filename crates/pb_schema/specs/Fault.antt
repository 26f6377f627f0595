-- The first fault of a payload that is read at a type. By today's rules each fault is one of its bytes.
use Rattle.std.specs.Prelude.{ℕ, List, Option}
use Rattle.pb_schema.specs.declared.schema.Schema.{Schema}
use Rattle.pb_schema.specs.declared.wire_fault.WireFault.{WireFault}
pub use Rattle.pb_schema.specs.Broken.{most_levels, broken_of}

-- nothing, or the first fault of a message of this type at this depth
abbrev pub fault_of : Schema → ℕ → ℕ → List ℕ → Option WireFault
fault_of schema type_no depth s = broken_of schema type_no depth s
