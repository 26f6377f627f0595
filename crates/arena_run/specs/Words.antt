-- The words that the program is called with, without its own name.
use Rattle.std.specs.Prelude.{◌≡◌, ◌⊎◌, ◌+◌, ◌-◌, ◌*◌, ◌^◌, ◌<◌, ◌≤◌, ℕ, Bool, ◌&&◌, nat_le, List, [], ◌∷◌, length, Option, None, Some, codes, if◌then◌else◌}
use Rattle.std.specs.Option.{option_map}
use Rattle.pb_schema.specs.declared.schema.Schema.{Schema}
use Rattle.pb_schema.specs.Names.{HasName, NoneBelow}
use Rattle.arena_run.specs.declared.command.Command.{Command}
use Rattle.arena_run.specs.declared.command.Command.TheVariants.{Cat, Run, Gen}

-- NUMBERS

abbrev pub is_digit : ℕ → Bool
is_digit b = nat_le 48 b && nat_le b 57

-- the number that some digits spell, each times ten to the number of those behind it; nothing where one of them is no digit
abbrev pub number_in : List ℕ → Option ℕ
number_in [] = Some 0
number_in (b ∷ s) = if is_digit b then option_map (λ v. (b - 48) * 10 ^ length s + v) (number_in s) else None

-- one to so many digits, leading zeros among them, that spell this number, which is from least to most
pub record Spells (digits least most : ℕ) (word : List ℕ) (number : ℕ) : Type 0 where
  pub some : 1 ≤ length word
  pub few : length word ≤ digits
  pub value : number_in word ≡ Some number
  pub low : least ≤ number
  pub high : number ≤ most

-- the same of some number
abbrev pub IsNumber : ℕ → ℕ → ℕ → List ℕ → Type 0
IsNumber digits least most word = (number : ℕ) × Spells digits least most word number

-- how many workers are asked for
abbrev pub IsWorkers : List ℕ → Type 0
IsWorkers word = IsNumber 2 1 64 word

-- THE THREE FORMS

-- read frames of a type, and write each again
pub record IsCatForm (words : List (List ℕ)) : Type 0 where
  pub set : List ℕ
  pub type_name : List ℕ
  pub frames : List ℕ
  pub workers : List ℕ
  pub are : words ≡ codes "cat" ∷ set ∷ type_name ∷ frames ∷ workers ∷ []
  pub count : IsWorkers workers

-- read frames of a type, and run a script over them
pub record IsRunForm (words : List (List ℕ)) : Type 0 where
  pub set : List ℕ
  pub type_name : List ℕ
  pub frames : List ℕ
  pub script : List ℕ
  pub workers : List ℕ
  pub are : words ≡ codes "run" ∷ set ∷ type_name ∷ frames ∷ script ∷ workers ∷ []
  pub count : IsWorkers workers

-- make so many frames from a seed
pub record IsGenForm (words : List (List ℕ)) : Type 0 where
  pub seed : List ℕ
  pub frames : List ℕ
  pub workers : List ℕ
  pub are : words ≡ codes "gen" ∷ seed ∷ frames ∷ workers ∷ []
  pub seed_below : IsNumber 10 0 (2 ^ 32 - 1) seed
  pub frames_below : IsNumber 5 1 65535 frames
  pub count : IsWorkers workers

abbrev pub HasForm : List (List ℕ) → Type 0
HasForm words = IsCatForm words ⊎ (IsRunForm words ⊎ IsGenForm words)

abbrev pub HasNoForm : List (List ℕ) → Type 0
HasNoForm words = HasForm words → ⊥

-- the words that a command is read from
abbrev pub IsReadFrom : List (List ℕ) → Command → Type 0
IsReadFrom words (Cat set type_name frames workers) = (spelled : List ℕ) × (words ≡ codes "cat" ∷ set.now ∷ type_name.now ∷ frames.now ∷ spelled ∷ []) × Spells 2 1 64 spelled workers
IsReadFrom words (Run set type_name frames script workers) = (spelled : List ℕ) × (words ≡ codes "run" ∷ set.now ∷ type_name.now ∷ frames.now ∷ script.now ∷ spelled ∷ []) × Spells 2 1 64 spelled workers
IsReadFrom words (Gen seed count workers) =
    (spelled_seed : List ℕ) × (spelled_count : List ℕ) × (spelled : List ℕ) × (words ≡ codes "gen" ∷ spelled_seed ∷ spelled_count ∷ spelled ∷ [])
    × Spells 10 0 (2 ^ 32 - 1) spelled_seed seed × Spells 5 1 65535 spelled_count count × Spells 2 1 64 spelled workers

-- WHAT IS BUILT

-- the words of the command that is built, with these names of a set, of a type and of a frames file
pub record IsCat (words : List (List ℕ)) (set type_name frames : List ℕ) : Type 0 where
  pub workers : List ℕ
  pub are : words ≡ codes "cat" ∷ set ∷ type_name ∷ frames ∷ workers ∷ []
  pub count : IsWorkers workers

-- they ask for so many workers
pub record AsksFor (words : List (List ℕ)) (count : ℕ) : Type 0 where
  pub set : List ℕ
  pub type_name : List ℕ
  pub frames : List ℕ
  pub cat : IsCat words set type_name frames
  pub spelled : Spells 2 1 64 cat.workers count

-- the words are those of no command that is built
abbrev pub IsOtherCommand : List (List ℕ) → Type 0
IsOtherCommand words = (set type_name frames : List ℕ) → IsCat words set type_name frames → ⊥

-- they have a form, and are those of no command that is built
abbrev pub IsUnbuilt : List (List ℕ) → Type 0
IsUnbuilt words = HasForm words × IsOtherCommand words

-- TYPES

-- no type of the schema has this full name
abbrev pub HasNoType : Schema → List ℕ → Type 0
HasNoType schema type_name = NoneBelow schema type_name (2 ^ 32)

-- the type with this number has it, and none before that; numbers of types are below 2^32
pub record IsTypeOf (schema : Schema) (type_name : List ℕ) (type_no : ℕ) : Type 0 where
  pub named : HasName schema type_name type_no
  pub first : NoneBelow schema type_name type_no
  pub fits : type_no < 2 ^ 32

-- the type is the one of this schema that the words name
abbrev pub IsTyped : List (List ℕ) → Schema → ℕ → Type 0
IsTyped words schema type_no = (set type_name frames : List ℕ) → IsCat words set type_name frames → IsTypeOf schema type_name type_no
