-- Messages that stand side by side in a memory, one for each register.
use Rattle.std.specs.Prelude.{◌≡◌, ◌<◌, ◌^◌, ℕ, List, [], ◌∷◌, length, Option, None, Some}
use Rattle.std.specs.Io.KnownBytes.{Appends}
use Rattle.arena_mem.specs.Outside.{NamedFiles, TookPart}
use Rattle.arena_mem.specs.Places.{Places, Buffers}
use Rattle.pb_schema.specs.declared.schema.Schema.{Schema}
use Rattle.pb_schema.specs.Lawful.{Lawful}
use Rattle.pb_schema.specs.Payloads.{framed_texts, trees_of}
use Rattle.pb_schema.specs.Tree.{Tree}
use Rattle.dyn_message.specs.declared.msg_ref.MsgRef.{MsgRef}
use Rattle.dyn_message.specs.Feet.{Foot, Once, Split}
use Rattle.dyn_message.specs.Stands.{StandsFor}
use Rattle.arena_run.specs.declared.fault.Fault.{Fault}
use Rattle.arena_run.specs.declared.fault.Fault.TheVariants.{WriteFault}
use Rattle.arena_run.specs.Lines.{TookLines}
use Rattle.arena_run.specs.Sets.{IsGiven}
use Rattle.arena_run.specs.Words.{IsTyped}

-- messages of a type, each for its tree, in order; the feet are those of all of them
abbrev pub AllStand : Schema → Places → Buffers → ℕ → List MsgRef → List Tree → List Foot → Type 0
AllStand schema places buffers type_no [] [] feet = feet ≡ []
AllStand schema places buffers type_no [] (tree ∷ trees) feet = ⊥
AllStand schema places buffers type_no (msg ∷ messages) [] feet = ⊥
AllStand schema places buffers type_no (msg ∷ messages) (tree ∷ trees) feet =
    Split
    (λ own. (msg.type_no ≡ type_no) × StandsFor schema places buffers msg tree own)
    (λ rest. AllStand schema places buffers type_no messages trees rest)
    feet

-- the same, and each foot stands there once
pub record StandApart (schema : Schema) (places : Places) (buffers : Buffers) (type_no : ℕ) (messages : List MsgRef) (trees : List Tree) : Type 0 where
  pub feet : List Foot
  pub stand : AllStand schema places buffers type_no messages trees feet
  pub once : Once feet

-- the same, and their texts have fewer than 2^62 bytes together, so that these can be written and counted
pub record StandShort (schema : Schema) (places : Places) (buffers : Buffers) (type_no : ℕ) (messages : List MsgRef) (trees : List Tree) : Type 0 where
  pub apart : StandApart schema places buffers type_no messages trees
  pub short : length (framed_texts schema type_no trees) < 2 ^ 62

-- the same for the trees of these payloads, of which each has one
pub record StandDecoded (schema : Schema) (places : Places) (buffers : Buffers) (type_no : ℕ) (payloads : List (List ℕ)) (messages : List MsgRef) : Type 0 where
  pub trees : List Tree
  pub decoded : trees_of schema type_no payloads ≡ Some trees
  pub stand : StandShort schema places buffers type_no messages trees

-- the messages stand for one list of trees, of the type that the words name, of a lawful schema, which is the one that the set gives where that is
-- told; and what a sink took is their text: all of it where the run ended well, and a front that isn't all where the sink failed, in
-- which so many of them lie whole
pub record StandWritten (words : List (List ℕ)) (files : Option NamedFiles) (places : Places) (buffers : Buffers) (messages : List MsgRef) (end : Option Fault) (lines : ℕ) (was now : Option (List ℕ)) : Type 0 where
  pub schema : Schema
  pub lawful : Lawful schema
  pub given : IsGiven words files schema
  pub type_no : ℕ
  pub typed : IsTyped words schema type_no
  pub trees : List Tree
  pub stand : StandApart schema places buffers type_no messages trees
  pub one : (no : ℕ) (others : List Tree) → StandApart schema places buffers no messages others → others ≡ trees
  pub all : end ≡ None → Appends was now (framed_texts schema type_no trees)
  pub part : end ≡ Some WriteFault → TookPart was now (framed_texts schema type_no trees)
  pub cut : end ≡ Some WriteFault → TookLines schema type_no trees was now lines
