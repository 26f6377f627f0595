-- The words of a command, one by one.
use Rattle.std.proofs.Common.{◌≡◌, ◌⊎◌, ◌<◌, ◌≤◌, ℕ, List, [], ◌∷◌, length, map, get_or, true, Option, None, Some, refl, sym, ap, ◌∙◌, subst, inl, inr, ⊎_elim, arith}
use Rattle.std.specs.Prelude.{codes, IfNone}
use Rattle.std.specs.Str.{bytes_eq}
use Rattle.std.proofs.lemmas.Slice.Eq.{bytes_eq-Decides}
use Rattle.pb_schema.specs.declared.schema.Schema.{Schema}
use Rattle.arena_run.specs.declared.command.Command.{Command}
use Rattle.arena_run.specs.declared.command.Command.TheVariants.{Cat, Run, Gen}
use Rattle.arena_run.specs.declared.fault.Fault.{Fault}
use Rattle.arena_run.specs.declared.fault.Fault.TheVariants.{NoMemory, Usage, NotBuilt, NoType}
use Rattle.arena_run.specs.Causes.{EndsByWords}
use Rattle.arena_run.specs.Ends.{first_stage, last_stage, at_set, at_types, IsOfSet, IsOfWords, IsPastWords}
use Rattle.arena_run.specs.Words.{number_in, Spells, AsksFor, IsWorkers, HasForm, HasNoForm, IsReadFrom, IsCat, IsOtherCommand, HasNoType}

pub same_bytes : (xs ys zs : List ℕ) → xs ≡ ys → bytes_eq xs zs ≡ true → ys ≡ zs
same_bytes xs ys zs e test = sym e ∙ (bytes_eq-Decides xs zs).0 test

-- the words that were matched are the list's
pub four_words : {X : Type 0} (f : X → List ℕ) (xs : List X) (a b c d : X) → 4 ≤ length xs → length xs < 5 → a ≡ get_or xs 0 a → b ≡ get_or xs 1 b → c ≡ get_or xs 2 c → d ≡ get_or xs 3 d → map f xs ≡ f a ∷ f b ∷ f c ∷ f d ∷ []
four_words f [] a b c d low high = absurd (omega arith)
four_words f (v ∷ []) a b c d low high = absurd (omega arith)
four_words f (v ∷ w ∷ []) a b c d low high = absurd (omega arith)
four_words f (v ∷ w ∷ x ∷ []) a b c d low high = absurd (omega arith)
four_words f (v ∷ w ∷ x ∷ y ∷ []) a b c d low high = λ at_0 at_1 at_2 at_3. cc
four_words f (v ∷ w ∷ x ∷ y ∷ more ∷ xs) a b c d low high = absurd (omega arith)

pub five_words : {X : Type 0} (f : X → List ℕ) (xs : List X) (a b c d e : X) → 5 ≤ length xs → length xs < 6 → a ≡ get_or xs 0 a → b ≡ get_or xs 1 b → c ≡ get_or xs 2 c → d ≡ get_or xs 3 d → e ≡ get_or xs 4 e
    → map f xs ≡ f a ∷ f b ∷ f c ∷ f d ∷ f e ∷ []
five_words f [] a b c d e low high = absurd (omega arith)
five_words f (v ∷ []) a b c d e low high = absurd (omega arith)
five_words f (v ∷ w ∷ []) a b c d e low high = absurd (omega arith)
five_words f (v ∷ w ∷ x ∷ []) a b c d e low high = absurd (omega arith)
five_words f (v ∷ w ∷ x ∷ y ∷ []) a b c d e low high = absurd (omega arith)
five_words f (v ∷ w ∷ x ∷ y ∷ z ∷ []) a b c d e low high = λ at_0 at_1 at_2 at_3 at_4. cc
five_words f (v ∷ w ∷ x ∷ y ∷ z ∷ more ∷ xs) a b c d e low high = absurd (omega arith)

pub six_words : {X : Type 0} (f : X → List ℕ) (xs : List X) (a b c d e g : X) → 6 ≤ length xs → length xs < 7 → a ≡ get_or xs 0 a → b ≡ get_or xs 1 b → c ≡ get_or xs 2 c → d ≡ get_or xs 3 d → e ≡ get_or xs 4 e → g ≡ get_or xs 5 g
    → map f xs ≡ f a ∷ f b ∷ f c ∷ f d ∷ f e ∷ f g ∷ []
six_words f [] a b c d e g low high = absurd (omega arith)
six_words f (v ∷ []) a b c d e g low high = absurd (omega arith)
six_words f (v ∷ w ∷ []) a b c d e g low high = absurd (omega arith)
six_words f (v ∷ w ∷ x ∷ []) a b c d e g low high = absurd (omega arith)
six_words f (v ∷ w ∷ x ∷ y ∷ []) a b c d e g low high = absurd (omega arith)
six_words f (v ∷ w ∷ x ∷ y ∷ z ∷ []) a b c d e g low high = absurd (omega arith)
six_words f (v ∷ w ∷ x ∷ y ∷ z ∷ u ∷ []) a b c d e g low high = λ at_0 at_1 at_2 at_3 at_4 at_5. cc
six_words f (v ∷ w ∷ x ∷ y ∷ z ∷ u ∷ more ∷ xs) a b c d e g low high = absurd (omega arith)

-- a command that is read from words has one of the forms
pub read_form : (words : List (List ℕ)) (command : Command) → IsReadFrom words command → HasForm words
read_form words (Cat set type_name frames workers) read = inl (record { set = set.now; type_name = type_name.now; frames = frames.now; workers = read.0; are = read.1; count = (workers, read.2) })
read_form words (Run set type_name frames script workers) read =
    inr (inl (record { set = set.now; type_name = type_name.now; frames = frames.now; script = script.now; workers = read.0; are = read.1; count = (workers, read.2) }))
read_form words (Gen seed count workers) read =
    inr (inr (record { seed = read.0; frames = read.1; workers = read.2; are = read.3; seed_below = (seed, read.4); frames_below = (count, read.5); count = (workers, read.6) }))

-- the words name one set, one type and one frames file
pub same_set : (words : List (List ℕ)) (r s t u a b : List ℕ) → IsCat words r t a → IsCat words s u b → r ≡ s
same_set words r s t u a b p q = let first = p.are in let second = q.are in cc

pub same_type : (words : List (List ℕ)) (r s t u a b : List ℕ) → IsCat words r t a → IsCat words s u b → t ≡ u
same_type words r s t u a b p q = let first = p.are in let second = q.are in cc

pub same_frames : (words : List (List ℕ)) (r s t u a b : List ℕ) → IsCat words r t a → IsCat words s u b → a ≡ b
same_frames words r s t u a b p q = let first = p.are in let second = q.are in cc

pub if_none : {A : Type 0} (o : Option A) (P : Type 0) → P → IfNone o P
if_none None P p = p
if_none (Some x) P p = tt

-- six words whose last isn't a number of workers have no form
pub no_run_form : (words : List (List ℕ)) (a b c d e workers : List ℕ) → words ≡ a ∷ b ∷ c ∷ d ∷ e ∷ workers ∷ [] → (IsWorkers workers → ⊥) → HasNoForm words
no_run_form words a b c d e workers are refuted form = ⊎_elim
    (λ cat. let other = cat.are in cc)
    (λ rest. ⊎_elim
    (λ run. let other = run.are in let same : run.workers ≡ workers = cc in refuted (subst IsWorkers same run.count))
    (λ gen. let other = gen.are in cc)
    rest)
    form

-- THE COMMAND THAT IS BUILT

-- the words of `cat`
pub is_cat : (words : List (List ℕ)) (set type_name frames : List ℕ) (workers : ℕ) → (spelled : List ℕ) × (words ≡ codes "cat" ∷ set ∷ type_name ∷ frames ∷ spelled ∷ []) × Spells 2 1 64 spelled workers
    → IsCat words set type_name frames
is_cat words set type_name frames workers read = record { workers = read.0; are = read.1; count = (workers, read.2) }

pub asks_for : (words : List (List ℕ)) (set type_name frames : List ℕ) (workers : ℕ) → (spelled : List ℕ) × (words ≡ codes "cat" ∷ set ∷ type_name ∷ frames ∷ spelled ∷ []) × Spells 2 1 64 spelled workers
    → AsksFor words workers
unfolding is_cat
asks_for words set type_name frames workers read = record { set = set; type_name = type_name; frames = frames; cat = is_cat words set type_name frames workers read; spelled = read.2 }

-- they ask for one number of workers
pub one_count : (words : List (List ℕ)) (m n : ℕ) → AsksFor words m → AsksFor words n → m ≡ n
one_count words m n p q =
    let first = p.cat.are in
    let second = q.cat.are in
    let same : p.cat.workers ≡ q.cat.workers = cc in
    let value : number_in p.cat.workers ≡ Some m = p.spelled.value in
    let other : number_in q.cat.workers ≡ Some n = q.spelled.value in
    let joined : ◌≡◌ {A = Option ℕ} (Some m) (Some n) = sym value ∙ (ap number_in same ∙ other) in
    cc

pub other_run : (words : List (List ℕ)) (set type_name frames script workers : List ℕ) → words ≡ codes "run" ∷ set ∷ type_name ∷ frames ∷ script ∷ workers ∷ [] → IsOtherCommand words
other_run words set type_name frames script workers are a_set type named is = let other = is.are in cc

pub other_gen : (words : List (List ℕ)) (seed count workers : List ℕ) → words ≡ codes "gen" ∷ seed ∷ count ∷ workers ∷ [] → IsOtherCommand words
other_gen words seed count workers are a_set type named is = let other = is.are in cc

cat_is_form : (words : List (List ℕ)) (set type_name frames : List ℕ) → IsCat words set type_name frames → HasForm words
cat_is_form words set type_name frames is = inl (record { set = set; type_name = type_name; frames = frames; workers = is.workers; are = is.are; count = is.count })

-- WHAT FOLLOWS FROM THE WORDS

pub words_none : (words : List (List ℕ)) → HasNoForm words → EndsByWords words (Some Usage)
words_none words none = record {
  usage = (λ _. none, λ _. refl);
  not_built = (λ is. cc, λ unbuilt. absurd (none unbuilt.0));
  command = (λ past. absurd (omega (arith, past)), λ cat. absurd (none (cat_is_form words cat.0 cat.1 cat.2 cat.3)));
  no_type = λ name is. absurd (cc);
}

pub words_other : (words : List (List ℕ)) → HasForm words → IsOtherCommand words → EndsByWords words (Some NotBuilt)
words_other words form other = record {
  usage = (λ is. cc, λ none. absurd (none form));
  not_built = (λ _. (form, other), λ _. refl);
  command = (λ past. absurd (omega (arith, past)), λ cat. absurd (other cat.0 cat.1 cat.2 cat.3));
  no_type = λ name is. absurd (cc);
}

-- past the words, which name a set, a type and a frames file
pub words_past : (words : List (List ℕ)) (set type_name frames : List ℕ) (end : Option Fault) → IsCat words set type_name frames → IsPastWords end
    → ((name : List ℕ) → end ≡ Some (NoType name) → name ≡ type_name) → EndsByWords words end
words_past words set type_name frames end is past none = record {
  usage = (λ ends. absurd (not_of_words Usage ends (omega arith)), λ no_form. absurd (no_form (cat_is_form words set type_name frames is)));
  not_built = (λ ends. absurd (not_of_words NotBuilt ends (omega arith)), λ unbuilt. absurd (unbuilt.1 set type_name frames is));
  command = (λ _. (set, type_name, frames, is), λ _. past);
  no_type = λ name ends. (set, frames, subst (λ n. IsCat words set n frames) (sym (none name ends)) is);
}
  where
    not_of_words : (fault : Fault) → end ≡ Some fault → IsOfWords (Some fault) → ⊥
    not_of_words fault ends of_words = let told : IsPastWords (Some fault) = subst IsPastWords ends past in omega (arith, told, of_words)

-- the set wasn't taken
pub words_unset : (words : List (List ℕ)) (set type_name frames : List ℕ) (fault : Fault) → IsCat words set type_name frames → IsOfSet fault → EndsByWords words (Some fault)
words_unset words set type_name frames fault is kind =
    let past = kind.past in
    let before = kind.before in
    words_past words set type_name frames (Some fault) is past (λ name e. absurd (let told : first_stage (Some (NoType name)) ≤ at_set = subst (λ o. first_stage o ≤ at_set) e before in omega (arith, told)))

-- the type wasn't found, or there was no memory to name it
pub words_untyped : (words : List (List ℕ)) (set type_name frames : List ℕ) (schema : Schema) (fault : Fault) → IsCat words set type_name frames → (fault ≡ NoMemory) ⊎ ((fault ≡ NoType type_name) × HasNoType schema type_name) → EndsByWords words (Some fault)
words_untyped words set type_name frames schema fault is_cat (inl same) =
    subst (λ f. EndsByWords words (Some f)) (sym same) (words_past words set type_name frames (Some NoMemory) is_cat (omega arith) (λ name e. absurd (cc)))
words_untyped words set type_name frames schema fault is_cat (inr none) =
    subst (λ f. EndsByWords words (Some f)) (sym none.0) (words_past words set type_name frames (Some (NoType type_name)) is_cat (omega arith) (λ name e. cc))

-- the frames file was read, or tried
pub words_typed : (words : List (List ℕ)) (set type_name frames : List ℕ) (end : Option Fault) → IsCat words set type_name frames → at_types < last_stage end → EndsByWords words end
words_typed words set type_name frames end is past =
    words_past words set type_name frames end is (omega (arith, past)) (λ name e. absurd (let told : at_types < last_stage (Some (NoType name)) = subst (λ o. at_types < last_stage o) e past in omega (arith, told)))
