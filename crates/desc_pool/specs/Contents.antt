-- What a record in a descriptor message has to hold.
use Rattle.std.specs.Prelude.{ℕ, []}
use Rattle.pb_schema.specs.Fits.{Contents as PayloadContents, Anything, Utf8, Message, contents_of}
use Rattle.desc_pool.specs.declared.descriptor.Descriptor.{Descriptor}
use Rattle.desc_pool.specs.declared.descriptor.Contents.{Contents}
use Rattle.desc_pool.specs.declared.descriptor.Contents.TheVariants as contents
use Rattle.desc_pool.specs.Descriptors.{descriptor_schema, fields_read, type_of}

-- by the number of its field and its wire type
abbrev pub contents_at : Descriptor → ℕ → ℕ → PayloadContents
contents_at descriptor number wire =
    contents_of descriptor_schema (fields_read descriptor)
    (record { number = number; wire = wire; payload = []; span = [] })

-- what the code's words for it mean
abbrev pub meaning : Contents → PayloadContents
meaning contents.Anything = Anything
meaning contents.Text = Utf8
meaning (contents.Message descriptor) = Message (type_of descriptor)
