-- The text of each fault: one line, with its numbers in decimal and its names as they stand.
use Rattle.std.specs.Prelude.{◌≡◌, ◌≤◌, ℕ, ⊤, List, [], ◌∷◌, ◌++◌, length, take, Option, None, Some, codes}
use Rattle.std.specs.List.{concat}
use Rattle.std.specs.Fmt.{decimal}
use Rattle.std.specs.Io.KnownBytes.{Appends}
use Rattle.arena_mem.specs.Outside.{Rose}
use Rattle.pb_schema.specs.declared.wire_fault.WireKind.{WireKind}
use Rattle.pb_schema.specs.declared.wire_fault.WireKind.TheVariants.{Cut, LongVarint, BadTag, BadLength, GroupEnd, TooDeep, NotUtf8}
use Rattle.desc_pool.specs.declared.fault.SchemaFault.{SchemaFault}
use Rattle.desc_pool.specs.declared.fault.SchemaFault.TheVariants.{Malformed, Syntax, DuplicateName, BadNumber, DuplicateNumber, RelativeName, UnknownType, BadOneof, UnsupportedType, TooMany}
use Rattle.arena_run.specs.declared.fault.InputKind.{InputKind}
use Rattle.arena_run.specs.declared.fault.InputKind.TheVariants.{SetBytes, FrameBytes, FrameCount}
use Rattle.arena_run.specs.declared.fault.Fault.{Fault}
use Rattle.arena_run.specs.declared.fault.Fault.TheVariants.{NoMemory, Usage, Schema as SetFault, NoType, FrameCut, BadFrame, ReadFault, WriteFault, TooLong, NotBuilt}
use Rattle.arena_run.specs.declared.tell.Piece.{Piece}
use Rattle.arena_run.specs.declared.tell.Piece.TheVariants.{Words, Number, FullName}

-- THE TEXTS, each in its parts

abbrev pub wire_words : WireKind → List ℕ
wire_words Cut = codes ": cut at byte "
wire_words LongVarint = codes ": long varint at byte "
wire_words BadTag = codes ": bad tag at byte "
wire_words BadLength = codes ": bad length at byte "
wire_words GroupEnd = codes ": group end at byte "
wire_words TooDeep = codes ": too deep at byte "
wire_words NotUtf8 = codes ": not UTF-8 at byte "

abbrev pub input_words : InputKind → List ℕ
input_words SetBytes = codes "set bytes above "
input_words FrameBytes = codes "frame bytes above "
input_words FrameCount = codes "frames above "

abbrev pub set_parts : SchemaFault → List (List ℕ)
set_parts (Malformed byte) = codes "schema: malformed at byte " ∷ decimal byte ∷ codes "\n" ∷ []
set_parts (Syntax file) = codes "schema: file " ∷ decimal file ∷ codes " is not proto3\n" ∷ []
set_parts (DuplicateName name) = codes "schema: duplicate name " ∷ name ∷ codes "\n" ∷ []
set_parts (BadNumber name) = codes "schema: bad number " ∷ name ∷ codes "\n" ∷ []
set_parts (DuplicateNumber name) = codes "schema: duplicate number " ∷ name ∷ codes "\n" ∷ []
set_parts (RelativeName name) = codes "schema: relative name " ∷ name ∷ codes "\n" ∷ []
set_parts (UnknownType name) = codes "schema: unknown type " ∷ name ∷ codes "\n" ∷ []
set_parts (BadOneof name) = codes "schema: bad oneof " ∷ name ∷ codes "\n" ∷ []
set_parts (UnsupportedType name) = codes "schema: unsupported type " ∷ name ∷ codes "\n" ∷ []
set_parts (TooMany name) = codes "schema: too many " ∷ name ∷ codes "\n" ∷ []

abbrev pub fault_parts : Fault → List (List ℕ)
fault_parts NoMemory = codes "no memory\n" ∷ []
fault_parts Usage = codes "usage: cat SET TYPE FRAMES WORKERS, run SET TYPE FRAMES SCRIPT WORKERS or gen SEED COUNT WORKERS\n" ∷ []
fault_parts (SetFault refused) = set_parts refused
fault_parts (NoType name) = codes "schema: no type " ∷ name ∷ codes "\n" ∷ []
fault_parts (FrameCut index) = codes "frames: frame " ∷ decimal index ∷ codes " is cut\n" ∷ []
fault_parts (BadFrame index fault) = codes "frames: frame " ∷ decimal index ∷ wire_words fault.kind ∷ decimal fault.byte ∷ codes "\n" ∷ []
fault_parts ReadFault = codes "read fault\n" ∷ []
fault_parts WriteFault = codes "write fault\n" ∷ []
fault_parts (TooLong which limit) = input_words which ∷ decimal limit ∷ codes "\n" ∷ []
fault_parts NotBuilt = codes "not built\n" ∷ []

unfoldable pub fault_text_of : Fault → List ℕ
fault_text_of fault = concat (fault_parts fault)

-- HOW IT IS TOLD

abbrev pub piece_text : Piece → List ℕ
piece_text (Words words) = words.now
piece_text (Number number) = decimal number
piece_text (FullName name) = name.now

abbrev pub pieces_text : List Piece → List ℕ
pieces_text [] = []
pieces_text (piece ∷ pieces) = piece_text piece ++ pieces_text pieces

-- a sink took a front of a text, or all of it
abbrev pub TookFront : Option (List ℕ) → Option (List ℕ) → List ℕ → Type 0
TookFront None now text = ⊤
TookFront (Some was) None text = ⊥
TookFront (Some was) (Some now) text = (count : ℕ) × (count ≤ length text) × (now ≡ was ++ take count text)

-- a sink was told this fault: it took all of the text where its count of faults didn't rise, and else a front
pub record IsTold (fault : Fault) (was now : Option (List ℕ)) (before after : ℕ) : Type 0 where
  pub whole : (Rose before after → ⊥) → Appends was now (fault_text_of fault)
  pub front : TookFront was now (fault_text_of fault)
  pub counts : before ≤ after
