-- What the map of named files answers, file by file.
use Rattle.std.proofs.Common.{◌≡◌, ℕ, suc, ◌+◌, ◌<◌, ◌≤◌, List, [], ◌∷◌, length, get_or, drop, cond, true, false, None, Some, ap, ◌∙◌, add-one, drop-cons}
use Rattle.std.proofs.lemmas.Cmp.{nat_list_cmp_total}
use Rattle.std.proofs.lemmas.List.{get_or_read, at_drop_all}
use Rattle.std.proofs.lemmas.Map.Text.{is_eq-slice_cmp}
use Rattle.std.specs.Str.{bytes_eq}
use Rattle.std.specs.Ordering.{nat_cmp}
use Rattle.std.specs.Cmp.Lexicographic.{slice_cmp}
use Rattle.std.specs.FinMap.{get, get-empty, get-insert}
use Rattle.arena_mem.specs.NamedBytes.{FileBytes, named_files, content_at}

-- the first file answers, where the name is its own
get-named_files : (f : FileBytes) (fs : List FileBytes) (q : List ℕ) → get (named_files (f ∷ fs)) q ≡ cond (bytes_eq q f.name) (Some f.content) (get (named_files fs) q)
get-named_files f fs q =
    get-insert nat_list_cmp_total (named_files fs) f.name f.content q ∙ ap (λ b. cond b (Some f.content) (get (named_files fs) q)) (is_eq-slice_cmp q f.name)

-- the file at an index answers before those behind it
get-named_files_from : (fs : List FileBytes) (i : ℕ) (f : FileBytes) (q : List ℕ) → i < length fs → f ≡ get_or fs i f
    → get (named_files (drop i fs)) q ≡ cond (bytes_eq q f.name) (Some f.content) (get (named_files (drop (i + 1) fs)) q)
get-named_files_from fs i f q h e =
    rw (add-one, drop-cons fs i f, ← e) (get-named_files f (drop (suc i) fs) q)

-- a file of that name answers with its bytes
pub get-named_files_here : (fs : List FileBytes) (i : ℕ) (f : FileBytes) (q : List ℕ) → i < length fs → f ≡ get_or fs i f
    → bytes_eq q f.name ≡ true → get (named_files (drop i fs)) q ≡ Some (content_at fs i)
get-named_files_here fs i f q h e same =
    get-named_files_from fs i f q h e ∙ ap (λ b. cond b (Some f.content) (get (named_files (drop (i + 1) fs)) q)) same
    ∙ ap (λ g. Some g.content) (get_or_read fs i f h e (record { name = []; content = [] }))

-- a file of another name leaves the answer to those behind it
pub get-named_files_next : (fs : List FileBytes) (i : ℕ) (f : FileBytes) (q : List ℕ) → i < length fs → f ≡ get_or fs i f
    → bytes_eq q f.name ≡ false → get (named_files (drop i fs)) q ≡ get (named_files (drop (i + 1) fs)) q
get-named_files_next fs i f q h e other =
    get-named_files_from fs i f q h e ∙ ap (λ b. cond b (Some f.content) (get (named_files (drop (i + 1) fs)) q)) other

-- behind the last file no name is there
pub get-named_files_past : (fs : List FileBytes) (i : ℕ) (q : List ℕ) → length fs ≤ i → get (named_files (drop i fs)) q ≡ None
get-named_files_past fs i q h = at_drop_all (λ l. get (named_files l) q) fs i h ∙ get-empty (slice_cmp nat_cmp) q
