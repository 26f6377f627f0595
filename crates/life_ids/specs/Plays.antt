-- What each step on the counter tells the seat that makes it.
use Rattle.std.specs.Prelude.{◌≡◌, ℕ, ◌+◌, ◌-◌, ◌*◌, ◌^◌, ◌<◌, ◌≤◌, [], ◌∷◌, ◌++◌}
use Rattle.atomic_table.specs.Table.{State, Me, Step}
use Rattle.life_ids.specs.declared.view.View.{View}
use Rattle.life_ids.specs.Batches.{ids_of, greatest, times}
use Rattle.life_ids.specs.Rule.{IdRule, view_of, batches, share, times_in}
use Rattle.life_ids.specs.Moments.{TakenView, SeenView}

abbrev pub Seated : Type 0
Seated = Me (Unit {0}) View

abbrev pub Ruled : ℕ → State (Unit {0}) View → Type 0
Ruled total s = IdRule total s.words s.views

-- a batch was taken
pub record Took (v : View) (found : ℕ) (w : View) : Type 0 where
  pub view : w ≡ view_of v.total (v.taken ++ found ∷ []) v.given (v.quota - 1)
  pub above : greatest (ids_of v.taken) < found
  pub room : found + 256 ≤ 2 ^ 63 + 1
  pub fresh : (id : ℕ) → times id found + times_in id v ≤ 1
  pub alone : share v ≡ v.total → found ≡ 1 + 256 * batches v
  pub moments : TakenView v.total found v w

-- nothing changed, and the seat learns what the rule says of its own view
pub record Looked (v w : View) : Type 0 where
  pub view : w ≡ v
  pub once : (id : ℕ) → times_in id v ≤ 1
  pub few : v.quota ≤ 2 ^ 55
  pub moment : SeenView v.total v

abbrev pub took : Step (Unit {0}) → Seated → ℕ → Seated → Type 0
took s me found after = Took me.0 found after.0 × (after.1 ≡ me.1)

abbrev pub looked : Step (Unit {0}) → Seated → ℕ → Seated → Type 0
looked s me found after = Looked me.0 after.0 × (after.1 ≡ me.1)

-- a seat with `quota` batches is cut off
abbrev pub kept : ℕ → View → View
kept quota v = view_of v.total v.taken v.given (v.quota - quota)

abbrev pub cut_off : ℕ → View → View
cut_off quota v = view_of v.total [] [] quota

-- two views are made one
abbrev pub joined : View → View → View
joined v w = view_of v.total v.taken (v.given ++ (w.taken ++ w.given)) (v.quota + w.quota)

abbrev pub spent : View
spent = view_of 0 [] [] 0
