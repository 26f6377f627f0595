-- Tables of names that show what the list of them declares.
use Rattle.std.specs.Prelude.{◌≡◌, ℕ, List}
use Rattle.std.specs.Option.{is_some}
use Rattle.std.specs.BTreeMap.{get_by_text}
use Rattle.desc_pool.specs.declared.names.Names.{Names}
use Rattle.desc_pool.specs.Names.{is_enum, place_of}

pub record AreNames (names : Names) : Type 0 where
  pub places : (name : List ℕ) → get_by_text names.places name ≡ place_of names.list name
  pub enums : (name : List ℕ) → is_some (get_by_text names.enums name) ≡ is_enum names.list name
