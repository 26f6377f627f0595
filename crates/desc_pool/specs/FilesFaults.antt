-- Why a set has no files.
use Rattle.std.specs.Prelude.{◌≡◌, ℕ, ⊤, List, Some}
use Rattle.pb_schema.specs.Fault.{fault_of}
use Rattle.desc_pool.specs.declared.read.FilesFault.{FilesFault}
use Rattle.desc_pool.specs.declared.read.FilesFault.TheVariants.{Bad, NoMemory}
use Rattle.desc_pool.specs.Descriptors.{descriptor_schema}

-- the first fault of its bytes, or want of memory, which is free
abbrev pub IsFaultOf : List ℕ → FilesFault → Type 0
IsFaultOf bytes (Bad fault) = fault_of descriptor_schema 0 0 bytes ≡ Some fault
IsFaultOf bytes NoMemory = ⊤
