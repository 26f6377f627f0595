-- Why the reading of a frames file at a type that there is ended as it did.
use Rattle.std.specs.Prelude.{◌<◌, ℕ, List, Option, IfSome}
use Rattle.arena_mem.specs.Outside.{NamedFiles, content_of}
use Rattle.pb_schema.specs.declared.schema.Schema.{Schema}
use Rattle.arena_run.specs.declared.fault.Fault.{Fault}
use Rattle.arena_run.specs.Causes.{ReadsFile}
use Rattle.arena_run.specs.Ends.{last_stage, at_types, EndsBy}
use Rattle.arena_run.specs.Faults.{first_fault}

-- the file of that name was read, or it was tried, and the end is that of what it holds at this type
pub record EndsByFrames {S : Type 0} (contents_of : S → Option NamedFiles) (faults_of : S → ℕ) (blamed_of : S → Option (List ℕ)) (schema : Schema) (type_no : ℕ) (name : List ℕ) (old new : S) (end : Option Fault) : Type 0 where
  pub reads : ReadsFile contents_of faults_of blamed_of name old new end
  pub first : IfSome (content_of (contents_of old) name) (λ content. EndsBy (first_fault schema type_no content) end)
  -- it isn't one of the words or of the type
  pub past : at_types < last_stage end
