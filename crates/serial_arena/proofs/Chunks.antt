-- Kept byte strings while rows of bytes come and grow.
use Rattle.std.proofs.Common.{◌≡◌, ℕ, zero, suc, ◌+◌, ◌<◌, ◌≤◌, List, [], ◌∷◌, ◌++◌, length, take, drop, get_or, refl, sym, ap, ◌∙◌, arith, rules}
use Rattle.std.specs.Prelude.{map}
use Rattle.std.proofs.lemmas.List.{same_lists, places, map-append, length_push, length-take, get_or_append_left, get_or_push}
use Rattle.serial_arena.specs.declared.kept.KeptBytes.{KeptBytes}
use Rattle.serial_arena.specs.declared.kept.KeptBytes.TheVariants.{Own, Shared}
use Rattle.serial_arena.specs.Chunks.{row_at, bytes_of, LiesIn, AllLieIn, GoesOnAs}

-- from some rows to others what lies there still does, with the same bytes
pub record StaysIn (own chunks new_own new_chunks : List (List ℕ)) (item : KeptBytes) : Type 0 where
  pub lies : LiesIn new_own new_chunks item
  pub bytes : bytes_of new_own new_chunks item ≡ bytes_of own chunks item

-- ---- one byte string
pub own_more : (own chunks : List (List ℕ)) (row : List ℕ) (item : KeptBytes) → LiesIn own chunks item → StaysIn own chunks (own ++ row ∷ []) chunks item
own_more own chunks row (Own number) lies = record {
  lies = omega (arith, lies, length_push own row);
  bytes = get_or_append_left own (row ∷ []) [] number lies;
}
own_more own chunks row (Shared chunk start len) lies = record { lies = lies; bytes = refl }

part_front : (n at len : ℕ) (row : List ℕ) → at + len ≤ n → n ≤ length row → take len (drop at (take n row)) ≡ take len (drop at row)
part_front n at len row fits there = same_lists _ _ (search (rules, places)) (λ k d h. grind (arith, places))

row_longer : (old new : List ℕ) → take (length old) new ≡ old → length old ≤ length new
row_longer old new is = omega (arith, length-take (length old) new, ap (λ (row : List ℕ). length row) is)

pub chunks_go_on : (own old new : List (List ℕ)) → GoesOnAs old new → (item : KeptBytes) → LiesIn own old item → StaysIn own old own new item
chunks_go_on own old new on (Own number) lies = record { lies = lies; bytes = refl }
chunks_go_on own old new on (Shared chunk start len) lies =
    let front = on.front chunk lies.0 in
    let longer = row_longer (row_at old chunk) (row_at new chunk) front in
    record {
      lies = (omega (arith, lies.0, on.no_fewer), omega (arith, lies.1, longer));
      bytes = sym (part_front (length (row_at old chunk)) start len (row_at new chunk) lies.1 longer) ∙ ap (λ row. take len (drop start row)) front;
    }

-- ---- all of them
module _ (own chunks new_own new_chunks : List (List ℕ)) (stays : (item : KeptBytes) → LiesIn own chunks item → StaysIn own chunks new_own new_chunks item) where
  pub all_lie : (items : List KeptBytes) → AllLieIn own chunks items → AllLieIn new_own new_chunks items
  all_lie [] lie = tt
  all_lie (item ∷ items) lie = ((stays item lie.0).lies, all_lie items lie.1)

  pub all_same : (items : List KeptBytes) → AllLieIn own chunks items → map (bytes_of new_own new_chunks) items ≡ map (bytes_of own chunks) items
  all_same [] lie = refl
  all_same (item ∷ items) lie = λ i. (stays item lie.0).bytes i ∷ all_same items lie.1 i

  -- one more
  pub one_more : (items : List KeptBytes) (item : KeptBytes) (bytes : List ℕ) → AllLieIn own chunks items → bytes_of new_own new_chunks item ≡ bytes
      → map (bytes_of new_own new_chunks) (items ++ item ∷ []) ≡ map (bytes_of own chunks) items ++ bytes ∷ []
  one_more items item bytes lie is = map-append (bytes_of new_own new_chunks) items (item ∷ []) ∙ (λ i. all_same items lie i ++ is i ∷ [])

pub all_pushed : (own chunks : List (List ℕ)) (items : List KeptBytes) (item : KeptBytes) → AllLieIn own chunks items → LiesIn own chunks item → AllLieIn own chunks (items ++ item ∷ [])
all_pushed own chunks [] item lie lies = (lies, tt)
all_pushed own chunks (x ∷ items) item lie lies = (lie.0, all_pushed own chunks items item lie.1 lies)

pub lies_at : (own chunks : List (List ℕ)) (items : List KeptBytes) (k : ℕ) (d : KeptBytes) → AllLieIn own chunks items → k < length items → LiesIn own chunks (get_or items k d)
lies_at own chunks [] k d lie there = absurd (omega (arith, there))
lies_at own chunks (x ∷ items) zero d lie there = lie.0
lies_at own chunks (x ∷ items) (suc k) d lie there = lies_at own chunks items k d lie.1 (omega (arith, there))

-- the row that was added last
pub own_last : (own : List (List ℕ)) (row : List ℕ) → row_at (own ++ row ∷ []) (length own) ≡ row
own_last own row = get_or_push own row [] (length own) refl

-- the byte strings, as a struct's view has them
abbrev pub mapped : List (List ℕ) → List (List ℕ) → List KeptBytes → List (List ℕ)
mapped own chunks items = map (bytes_of own chunks) items
