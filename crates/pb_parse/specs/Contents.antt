-- What the payload of a record has to be, by its number and wire type alone.
use Rattle.std.specs.Prelude.{ℕ, zero, suc, Bool, ◌&&◌, ◌||◌, ◌==◌, ◌<◌, ⊤, [], length}
use Rattle.pb_schema.specs.declared.kind.FieldType.{FieldType}
use Rattle.pb_schema.specs.declared.schema.Schema.{Schema}
use Rattle.pb_schema.specs.Record.{Record}
use Rattle.pb_schema.specs.Fits as fits
use Rattle.pb_schema.specs.Fits.{contents_of, fields_of, is_packable, wire_of}
use Rattle.pb_parse.specs.declared.contents.Contents.{Contents}
use Rattle.pb_parse.specs.declared.contents.Contents.TheVariants as ways

-- what the code's enum means
abbrev pub meant : Contents → fits.Contents
meant ways.Anything = fits.Anything
meant (ways.Numbers wire) = fits.Numbers wire
meant ways.Text = fits.Utf8
meant (ways.Message type_no) = fits.Message type_no

-- a record of this number and wire type, of which nothing else is known
abbrev pub bare : ℕ → ℕ → Record
bare number wire = record { number = number; wire = wire; payload = []; span = [] }

-- a field takes records of its number with this wire type
abbrev pub fits_wire : FieldType → ℕ → Bool
fits_wire field wire = wire == wire_of field || (wire == 2 && is_packable field)

-- what the payload of a record of this number and wire type has to be in a message of a type
abbrev pub contents_at : Schema → ℕ → ℕ → ℕ → fits.Contents
contents_at schema type_no number wire = contents_of schema (fields_of schema type_no) (bare number wire)

-- a wire type of numbers: varints, and values of eight or four bytes
abbrev pub IsNumberWire : ℕ → Type 0
IsNumberWire zero = ⊤
IsNumberWire (suc zero) = ⊤
IsNumberWire (suc (suc (suc (suc (suc zero))))) = ⊤
IsNumberWire wire = ⊥

-- numbers are of such a wire type, and a message is of a type that there is
abbrev pub IsKnown : Schema → Contents → Type 0
IsKnown schema (ways.Numbers wire) = IsNumberWire wire
IsKnown schema (ways.Message type_no) = type_no < length schema.types
IsKnown schema _ = ⊤
