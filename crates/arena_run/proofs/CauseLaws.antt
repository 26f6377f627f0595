-- How the causes of a run follow from those of its parts.
use Rattle.std.proofs.Common.{◌≡◌, ◌⊎◌, ◌<◌, ◌≤◌, ℕ, Bool, true, false, zero, suc, List, [], ◌∷◌, length, Option, None, Some, Result, Ok, Err, refl, sym, ap, ◌∙◌, subst, inl, inr, ⊎_elim, arith}
use Rattle.std.specs.Prelude.{IfSome, IsErrAnd}
use Rattle.std.specs.Option.{option_map}
use Rattle.std.specs.List.{slice_get}
use Rattle.std.proofs.lemmas.Option.{none-some}
use Rattle.std.proofs.lemmas.Bool.{cases_lt}
use Rattle.arena_mem.specs.Outside.{NamedFiles, content_of, IsThere}
use Rattle.pb_schema.specs.declared.schema.MessageType.{MessageType}
use Rattle.pb_schema.specs.declared.schema.Schema.{Schema}
use Rattle.arena_run.specs.declared.fault.Fault.{Fault}
use Rattle.arena_run.specs.declared.fault.Fault.TheVariants.{NoMemory, Usage, Schema as SetFault, NoType, FrameCut, BadFrame, ReadFault, WriteFault, TooLong, NotBuilt}
use Rattle.arena_run.specs.declared.fault.InputKind.TheVariants.{SetBytes, FrameBytes, FrameCount}
use Rattle.arena_run.specs.Causes.{EndsByWords, ReadsFile, ReadsSet, EndsByFile}
use Rattle.arena_run.specs.Contents.{OfContent}
use Rattle.arena_run.specs.Ends.{first_stage, last_stage, at_words, at_set_reading, at_set, at_types, at_writing, IsPastWords, IsSetRead, EndsWell, EndsBy, EndsBySet, Gives, IsOfSet, IsOfFile, result_fault}
use Rattle.arena_run.specs.Faults.{first_fault}
use Rattle.arena_run.specs.Frames.{EndsByFrames}
use Rattle.arena_run.specs.Sets.{IsGiven, is_built_in, set_given}
use Rattle.arena_run.specs.Words.{IsCat, IsTypeOf, IsTyped, HasNoType}
use Rattle.arena_run.proofs.WordForms.{same_set, same_type, same_frames}

-- what holds of the end holds of a result that has this fault
pub at_err : {A : Type 0} (r : Result A Fault) (fault : Fault) (P : Option Fault → Type 0) → IsErrAnd r (λ found. found ≡ fault) → P (Some fault) → P (result_fault r)
at_err (Ok x) fault P is p = absurd is
at_err (Err found) fault P is p = subst (λ f. P (Some f)) (sym is) p

-- TYPES

-- a name is that of one type
pub same_number : (schema : Schema) (name : List ℕ) (m n : ℕ) → IsTypeOf schema name m → IsTypeOf schema name n → m ≡ n
same_number schema name m n p q = ⊎_elim
    (λ less. absurd (q.first m less p.named))
    (λ rest. ⊎_elim (λ more. absurd (p.first n more q.named)) (λ upper. omega (arith, rest, upper)) (cases_lt n m))
    (cases_lt m n)

-- a type that is there isn't one that isn't
pub is_there : (schema : Schema) (name : List ℕ) (type_no : ℕ) → IsTypeOf schema name type_no → HasNoType schema name → ⊥
is_there schema name type_no is none = none type_no is.fits is.named

-- a type that has a name is one of the types
found_below : (types : List MessageType) (i : ℕ) (name : List ℕ) → option_map (λ type. type.name) (slice_get types i) ≡ Some name → i < length types
found_below [] i name e = absurd (none-some name e)
found_below (type ∷ types) zero name e = omega arith
found_below (type ∷ types) (suc i) name e = omega (arith, found_below types i name e)

pub type_below : (schema : Schema) (name : List ℕ) (type_no : ℕ) → IsTypeOf schema name type_no → type_no < length schema.types
type_below schema name type_no is = found_below schema.types type_no name is.named

-- THE SET

pub some_is : {A : Type 0} (o : Option A) (x : A) (P : A → Type 0) → o ≡ Some x → IfSome o P → P x
some_is o x P e h = let told : IfSome (Some x) P = subst (λ p. IfSome p P) e h in told

-- the schema that the set gives is the one that is told
pub one_schema : (words : List (List ℕ)) (files : Option NamedFiles) (types schema : Schema) (set type_name frames : List ℕ) → IsGiven words files types → IsCat words set type_name frames → set_given files set ≡ Some (Ok schema) → types ≡ schema
one_schema words files types schema set type_name frames given is_cat told =
    let same : ◌≡◌ {A = Result Schema Fault} (Ok schema) (Ok types) = some_is (set_given files set) (Ok schema) (λ answer. answer ≡ Ok types) told (given set type_name frames is_cat) in
    cc

-- what the words' set gives, by what a set of that name gives
pub is_given : (words : List (List ℕ)) (files : Option NamedFiles) (types : Schema) (set type_name frames : List ℕ) → IsCat words set type_name frames → IfSome (set_given files set) (λ answer. Gives answer (Ok types)) → IsGiven words files types
is_given words files types set type_name frames is_cat gives = λ other other_type other_frames other_cat.
    subst (λ s. IfSome (set_given files s) (λ answer. answer ≡ Ok types)) (same_set words set other type_name other_type frames other_frames is_cat other_cat) gives

-- what holds of the content of the named file holds of that of each file that the words name, at the type that they name
pub of_named : (words : List (List ℕ)) (files : Option NamedFiles) (types : Schema) (set type_name name : List ℕ) (type_no : ℕ) (P : Schema → ℕ → List ℕ → Type 0) → IsCat words set type_name name → IsGiven words files types → IsTypeOf types type_name type_no
    → IfSome (content_of files name) (P types type_no) → OfContent words files P
of_named words files types set type_name name type_no P is_cat given is_type h = λ other other_type frames content schema other_no other_cat told is found.
    let same_types : types ≡ schema = one_schema words files types schema other other_type frames given other_cat told in
    let other_is : IsTypeOf types type_name other_no = subst (λ n. IsTypeOf types n other_no) (same_type words other set other_type type_name frames name other_cat is_cat) (subst (λ s. IsTypeOf s other_type other_no) (sym same_types) is) in
    let same : type_no ≡ other_no = same_number types type_name type_no other_no is_type other_is in
    let content_is : content_of files name ≡ Some content = subst (λ n. content_of files n ≡ Some content) (same_frames words other set other_type type_name frames name other_cat is_cat) found in
    let here : P types type_no content = some_is (content_of files name) content (P types type_no) content_is h in
    subst (λ s. P s other_no content) same_types (subst (λ n. P types n content) same here)

-- whatever they name
pub of_none : (words : List (List ℕ)) (files : Option NamedFiles) (P : Schema → ℕ → List ℕ → Type 0) → ((schema : Schema) (type_no : ℕ) (content : List ℕ) → P schema type_no content) → OfContent words files P
of_none words files P all = λ set type_name frames content schema type_no is_cat told is_type found. all schema type_no content

-- a set that gives a schema with the type, and a file without a fault, where nothing failed
pub ends_well : (schema : Schema) (type_name : List ℕ) (type_no : ℕ) (first end : Option Fault) → IsPastWords end → EndsBySet (Ok schema) type_name end → IsTypeOf schema type_name type_no → EndsBy first end → first ≡ None → (end ≡ Some ReadFault → ⊥) → (end ≡ Some WriteFault → ⊥) → EndsWell end
ends_well schema type_name type_no first None past set typed by sound read written = inl refl
ends_well schema type_name type_no first (Some NoMemory) past set typed by sound read written = inr refl
ends_well schema type_name type_no first (Some Usage) past set typed by sound read written = absurd (omega (arith, past))
ends_well schema type_name type_no first (Some (SetFault refused)) past set typed by sound read written = absurd (let is = set.fault (omega arith) (omega arith) in cc)
ends_well schema type_name type_no first (Some ReadFault) past set typed by sound read written = absurd (read refl)
ends_well schema type_name type_no first (Some WriteFault) past set typed by sound read written = absurd (written refl)
ends_well schema type_name type_no first (Some NotBuilt) past set typed by sound read written = absurd (omega (arith, past))
ends_well schema type_name type_no first (Some (NoType name)) past set typed by sound read written =
    let none = set.no_type name refl in
    let told = none.1 in
    let same : schema ≡ none.0 = cc in
    absurd (is_there schema type_name type_no typed (subst (λ s. HasNoType s type_name) (sym same) none.2))
ends_well schema type_name type_no first (Some (TooLong SetBytes limit)) past set typed by sound read written = absurd (let is = set.fault (omega arith) (omega arith) in cc)
ends_well schema type_name type_no first (Some (TooLong FrameBytes limit)) past set typed by sound read written = absurd (let is = by.fault (omega arith) (omega arith) in cc)
ends_well schema type_name type_no first (Some (TooLong FrameCount limit)) past set typed by sound read written = absurd (let is = by.fault (omega arith) (omega arith) in cc)
ends_well schema type_name type_no first (Some (FrameCut index)) past set typed by sound read written = absurd (let is = by.fault (omega arith) (omega arith) in cc)
ends_well schema type_name type_no first (Some (BadFrame index fault)) past set typed by sound read written = absurd (let is = by.fault (omega arith) (omega arith) in cc)

-- the type of the named one is that of each that the words name
pub typed_as : (words : List (List ℕ)) (schema : Schema) (set type_name name : List ℕ) (type_no : ℕ) → IsCat words set type_name name → IsTypeOf schema type_name type_no → IsTyped words schema type_no
typed_as words schema set type_name name type_no is_cat is_type = λ other other_type frames other_cat.
    subst (λ t. IsTypeOf schema t type_no) (same_type words set other type_name other_type name frames is_cat other_cat) is_type

-- THE FRAMES FILE

-- a fault of the file, or of the payloads, comes before anything is written
pub file_before : (fault : Fault) → IsOfFile fault → last_stage (Some fault) < at_writing
file_before NoMemory kind = omega arith
file_before fault kind = let before = kind.before in omega (arith, before)

pub set_before : (fault : Fault) → IsOfSet fault → last_stage (Some fault) < at_writing
set_before NoMemory kind = omega arith
set_before ReadFault kind = omega arith
set_before fault kind = let before = kind.before in omega (arith, before)

-- a part that read the set, at its fault
set_refused : (answer : Result Schema Fault) (fault : Fault) (type_name : List ℕ) → IsOfSet fault → Gives answer (Err fault) → EndsBySet answer type_name (Some fault)
set_refused answer fault type_name kind gives = record {
  fault = λ read _. ap result_fault (gives read);
  no_type = λ name is. absurd (let before = kind.before in let told : first_stage (Some (NoType name)) ≤ at_set = subst (λ e. first_stage e ≤ at_set) is before in omega (arith, told));
  type = λ past. absurd (let before = kind.before in omega (arith, past, before));
}

-- the type wasn't found, or there was no memory to name it
type_refused : (schema : Schema) (fault : Fault) (type_name : List ℕ) → (fault ≡ NoMemory) ⊎ ((fault ≡ NoType type_name) × HasNoType schema type_name) → EndsBySet (Ok schema) type_name (Some fault)
type_refused schema fault type_name (inl same) = subst (λ f. EndsBySet (Ok schema) type_name (Some f)) (sym same) (record {
  fault = λ read _. absurd (omega (arith, read));
  no_type = λ name is. absurd (cc);
  type = λ past. absurd (omega (arith, past));
})
type_refused schema fault type_name (inr none) = subst (λ f. EndsBySet (Ok schema) type_name (Some f)) (sym none.0) (record {
  fault = λ _ untyped. absurd (omega (arith, untyped));
  no_type = λ name is. (schema, refl, none.1);
  type = λ past. absurd (omega (arith, past));
})

-- the type was found
type_found : (schema : Schema) (end : Option Fault) (type_name : List ℕ) (type_no : ℕ) → IsTypeOf schema type_name type_no → at_types < last_stage end → EndsBySet (Ok schema) type_name end
type_found schema end type_name type_no is_type past = record {
  fault = λ _ untyped. absurd (omega (arith, untyped, past));
  no_type = λ name is. absurd (let told : at_types < last_stage (Some (NoType name)) = subst (λ e. at_types < last_stage e) is past in omega (arith, told));
  type = λ _. (schema, type_no, refl, is_type);
}

-- what a set that was read gives
given_weaker : (o : Option (Result Schema Fault)) (schema : Schema) (P : Result Schema Fault → Type 0) → P (Ok schema) → IfSome o (λ answer. answer ≡ Ok schema) → IfSome o P
given_weaker None schema P p h = tt
given_weaker (Some answer) schema P p h = subst P (sym h) p

given_maps : (o : Option (Result Schema Fault)) (P Q : Result Schema Fault → Type 0) → ((answer : Result Schema Fault) → P answer → Q answer) → IfSome o P → IfSome o Q
given_maps None P Q weaker h = tt
given_maps (Some answer) P Q weaker h = weaker answer h

-- past the reading of a file, no fault of reading nor want of memory came
not_failed : (end : Option Fault) → at_set_reading < first_stage end → end ≡ Some ReadFault → ⊥
not_failed end read is = let told : at_set_reading < first_stage (Some ReadFault) = subst (λ e. at_set_reading < first_stage e) is read in omega (arith, told)

not_wanting : (end : Option Fault) → at_set_reading < first_stage end → end ≡ Some NoMemory → ⊥
not_wanting end read is = let told : at_set_reading < first_stage (Some NoMemory) = subst (λ e. at_set_reading < first_stage e) is read in omega (arith, told)

either_set : (set : List ℕ) (P : Type 0) → (is_built_in set ≡ true → P) → (is_built_in set ≡ false → P) → P
either_set set P built other = by (is_built_in set) built other
  where
    by : (b : Bool) → (b ≡ true → P) → (b ≡ false → P) → P
    by true built other = built refl
    by false built other = other refl

module _ {S : Type 0} (contents_of : S → Option NamedFiles) (faults_of : S → ℕ) (blamed_of : S → Option (List ℕ)) where
  -- what was read stays so on later ends
  pub reads_on : (name : List ℕ) (old new : S) (end : Option Fault) → ReadsFile contents_of faults_of blamed_of name old new None → (end ≡ Some ReadFault → ⊥) → ReadsFile contents_of faults_of blamed_of name old new end
  reads_on name old new end reads other = record {
    contents = reads.contents;
    counts = reads.counts;
    read_fault = λ is. absurd (other is);
    blamed = λ is. absurd (other is);
    unblamed = λ _. reads.unblamed (λ is. cc);
    there = λ _ _. reads.there (λ is. cc) (λ is. cc);
  }

  -- no call changes what the files hold
  pub set_contents : (set : List ℕ) (old new : S) (end : Option Fault) → ReadsSet contents_of faults_of blamed_of set old new end → contents_of new ≡ contents_of old
  set_contents set old new end reads = either_set set _ (λ built. ap contents_of (reads.built_in built).0) (λ other. (reads.in_file other).contents)

  -- there was no memory for the name
  pub reads_none : (name : List ℕ) (now : S) → ReadsFile contents_of faults_of blamed_of name now now (Some NoMemory)
  reads_none name now = record { contents = refl; counts = omega arith; read_fault = λ is. absurd (cc); blamed = λ is. absurd (cc); unblamed = λ _. refl; there = λ _ found. absurd (found refl) }

  pub frames_none : (schema : Schema) (type_no : ℕ) (name : List ℕ) (now : S) → EndsByFrames contents_of faults_of blamed_of schema type_no name now now (Some NoMemory)
  frames_none schema type_no name now = record {
    reads = reads_none name now;
    first = unread (content_of (contents_of now) name);
    past = omega arith;
  }
    where
      unread : (found : Option (List ℕ)) → IfSome found (λ content. EndsBy (first_fault schema type_no content) (Some NoMemory))
      unread None = tt
      unread (Some content) = record { fault = λ read _. absurd (omega (arith, read)); none = λ parsed. absurd (omega (arith, parsed)) }

  -- the file wasn't read to its end, or isn't cut into frames
  pub frames_refused : (schema : Schema) (type_no : ℕ) (name : List ℕ) (old new : S) (fault : Fault) → ReadsFile contents_of faults_of blamed_of name old new (Some fault) → IsOfFile fault
      → IfSome (content_of (contents_of old) name) (λ content. (s : Schema) (n : ℕ) → EndsBy (first_fault s n content) (Some fault)) → EndsByFrames contents_of faults_of blamed_of schema type_no name old new (Some fault)
  frames_refused schema type_no name old new fault reads kind first = record {
    reads = reads;
    first = at_type (content_of (contents_of old) name) first;
    past = kind.past;
  }
    where
      at_type : (found : Option (List ℕ)) → IfSome found (λ content. (s : Schema) (n : ℕ) → EndsBy (first_fault s n content) (Some fault)) → IfSome found (λ content. EndsBy (first_fault schema type_no content) (Some fault))
      at_type None h = tt
      at_type (Some content) h = h schema type_no

  -- THE RUN

  -- a run that ends by its words
  pub file_of_none : (words : List (List ℕ)) (now : S) (end : Option Fault) → EndsByWords words end → last_stage end ≤ at_words → EndsByFile contents_of faults_of blamed_of words now now end
  file_of_none words now end by early = record {
    contents = refl;
    counts = omega arith;
    untouched = λ _. refl;
    untouched_types = λ _ _ _ _ _ _. refl;
    read_fault = λ is. absurd (not_read is);
    blamed = λ is. absurd (not_read is);
    unblamed = λ _. refl;
    set_there = λ set type_name frames is_cat. absurd (named set type_name frames is_cat);
    there = λ set type_name frames is_cat. absurd (named set type_name frames is_cat);
    set = λ set type_name frames is_cat. absurd (named set type_name frames is_cat);
    first = λ set type_name frames content schema type_no is_cat. absurd (named set type_name frames is_cat);
  }
    where
      named : (set type_name frames : List ℕ) → IsCat words set type_name frames → ⊥
      named set type_name frames is_cat = let past = by.command.1 (set, type_name, frames, is_cat) in omega (arith, past, early)

      not_read : end ≡ Some ReadFault → ⊥
      not_read is = let told : last_stage (Some ReadFault) ≤ at_words = subst (λ e. last_stage e ≤ at_words) is early in omega (arith, told)

  -- the same facts of a run that ends before the frames file is picked
  before_frames : (words : List (List ℕ)) (set type_name name : List ℕ) (old new : S) (read : Option Fault) (end : Option Fault) → IsCat words set type_name name → ReadsSet contents_of faults_of blamed_of set old new read
      → first_stage end ≤ at_types → at_words < last_stage end → (end ≡ Some ReadFault → read ≡ Some ReadFault) → (read ≡ Some ReadFault → end ≡ Some ReadFault) → (IsSetRead end → read ≡ Some NoMemory → ⊥)
      → IfSome (set_given (contents_of old) set) (λ answer. EndsBySet answer type_name end) → EndsByFile contents_of faults_of blamed_of words old new end
  before_frames words set type_name name old new read end is_cat reads early past failed failing found by_set = record {
    contents = either_set set _ (λ built. ap contents_of (reads.built_in built).0) (λ other. (reads.in_file other).contents);
    counts = either_set set _ (λ built. let same = ap faults_of (reads.built_in built).0 in omega (arith, same)) (λ other. (reads.in_file other).counts);
    untouched = λ of_words. absurd (omega (arith, of_words, past));
    untouched_types = λ a_set other_type frames other_cat built _. (reads.built_in (subst (λ s. is_built_in s ≡ true) (same_set words a_set set other_type type_name frames name other_cat is_cat) built)).0;
    read_fault = λ is. (reads.in_file (in_file is)).read_fault (failed is);
    blamed = λ is. (set, type_name, name, is_cat, inl (in_file is, (reads.in_file (in_file is)).blamed (failed is)));
    unblamed = λ not. either_set set _ (λ built. ap blamed_of (reads.built_in built).0) (λ other. (reads.in_file other).unblamed (λ is. not (failing is)));
    set_there = λ a_set other_type frames other_cat other set_read.
        let same = same_set words set a_set type_name other_type name frames is_cat other_cat in
        subst (IsThere (contents_of old)) same ((reads.in_file (subst (λ s. is_built_in s ≡ false) (sym same) other)).there (λ is. not_failed end set_read (failing is)) (found set_read));
    there = λ _ _ _ _ was_read. absurd (omega (arith, was_read, early));
    set = λ other other_type frames other_cat.
        subst (λ s. IfSome (set_given (contents_of old) s) (λ answer. EndsBySet answer other_type end)) (same_set words set other type_name other_type name frames is_cat other_cat)
        (subst (λ t. IfSome (set_given (contents_of old) set) (λ answer. EndsBySet answer t end)) (same_type words set other type_name other_type name frames is_cat other_cat) by_set);
    first = λ _ _ _ _ _ _ _ _ _ _. record { fault = λ was_read _. absurd (omega (arith, was_read, early)); none = λ parsed. absurd (omega (arith, parsed, early)) };
  }
    where
      in_file : end ≡ Some ReadFault → is_built_in set ≡ false
      in_file is = either_set set _ (λ built. absurd ((reads.built_in built).1 (failed is))) (λ other. other)

  -- the set wasn't taken
  pub file_of_set : (words : List (List ℕ)) (set type_name name : List ℕ) (old new : S) (fault : Fault) → IsCat words set type_name name → ReadsSet contents_of faults_of blamed_of set old new (Some fault) → IsOfSet fault
      → IfSome (set_given (contents_of old) set) (λ answer. Gives answer (Err fault)) → EndsByFile contents_of faults_of blamed_of words old new (Some fault)
  file_of_set words set type_name name old new fault is_cat reads kind gives =
      let before = kind.before in
      before_frames words set type_name name old new (Some fault) (Some fault) is_cat reads (omega (arith, before)) kind.past (λ is. is) (λ is. is) (λ set_read. not_wanting (Some fault) set_read)
      (given_maps (set_given (contents_of old) set) _ _ (λ answer. set_refused answer fault type_name kind) gives)

  -- the type wasn't found
  pub file_of_type : (words : List (List ℕ)) (set type_name name : List ℕ) (old new : S) (schema : Schema) (fault : Fault) → IsCat words set type_name name → ReadsSet contents_of faults_of blamed_of set old new None
      → IfSome (set_given (contents_of old) set) (λ answer. answer ≡ Ok schema) → (fault ≡ NoMemory) ⊎ ((fault ≡ NoType type_name) × HasNoType schema type_name) → EndsByFile contents_of faults_of blamed_of words old new (Some fault)
  file_of_type words set type_name name old new schema fault is_cat reads gives refused =
      before_frames words set type_name name old new None (Some fault) is_cat reads (early fault refused) (past fault refused) (λ is. absurd (other fault refused is)) (λ is. absurd (cc)) (λ _ is. cc)
      (given_weaker (set_given (contents_of old) set) schema (λ answer. EndsBySet answer type_name (Some fault)) (type_refused schema fault type_name refused) gives)
    where
      early : (f : Fault) → (f ≡ NoMemory) ⊎ ((f ≡ NoType type_name) × HasNoType schema type_name) → first_stage (Some f) ≤ at_types
      early f (inl is) = subst (λ g. first_stage (Some g) ≤ at_types) (sym is) (omega arith)
      early f (inr is) = subst (λ g. first_stage (Some g) ≤ at_types) (sym is.0) (omega arith)

      past : (f : Fault) → (f ≡ NoMemory) ⊎ ((f ≡ NoType type_name) × HasNoType schema type_name) → at_words < last_stage (Some f)
      past f (inl is) = subst (λ g. at_words < last_stage (Some g)) (sym is) (omega arith)
      past f (inr is) = subst (λ g. at_words < last_stage (Some g)) (sym is.0) (omega arith)

      other : (f : Fault) → (f ≡ NoMemory) ⊎ ((f ≡ NoType type_name) × HasNoType schema type_name) → Some f ≡ Some ReadFault → ⊥
      other f (inl is) e = cc
      other f (inr is) e = let same = is.0 in cc

  -- a run past the type, over the file that the words name
  pub file_of_frames : (words : List (List ℕ)) (set type_name name : List ℕ) (type_no : ℕ) (old mid new : S) (schema : Schema) (end : Option Fault) → IsCat words set type_name name → ReadsSet contents_of faults_of blamed_of set old mid None
      → IfSome (set_given (contents_of old) set) (λ answer. answer ≡ Ok schema) → IsTypeOf schema type_name type_no → EndsByFrames contents_of faults_of blamed_of schema type_no name mid new end → EndsByFile contents_of faults_of blamed_of words old new end
  file_of_frames words set type_name name type_no old mid new schema end is_cat set_reads gives is_type by =
      let reads = by.reads in
      let past = by.past in
      let same_contents : contents_of mid ≡ contents_of old = set_contents set old mid None set_reads in
      let set_counts : faults_of old ≤ faults_of mid = either_set set _ (λ built. let same = ap faults_of (set_reads.built_in built).0 in omega (arith, same)) (λ other. (set_reads.in_file other).counts) in
      let set_blamed : blamed_of mid ≡ blamed_of old = either_set set _ (λ built. ap blamed_of (set_reads.built_in built).0) (λ other. (set_reads.in_file other).unblamed (λ is. cc)) in
      let counts = reads.counts in
      record {
        contents = reads.contents ∙ same_contents;
        counts = omega (arith, counts, set_counts);
        untouched = λ of_words. absurd (omega (arith, past, of_words));
        untouched_types = λ _ _ _ _ _ unread. absurd (omega (arith, past, unread));
        read_fault = λ is. let rose = reads.read_fault is in omega (arith, rose, set_counts);
        blamed = λ is. (set, type_name, name, is_cat, inr (given_weaker (set_given (contents_of old) set) schema (λ answer. (s : Schema) × (n : ℕ) × (answer ≡ Ok s) × IsTypeOf s type_name n) (schema, type_no, refl, is_type) gives, reads.blamed is));
        unblamed = λ not. reads.unblamed not ∙ set_blamed;
        set_there = λ a_set other_type frames other_cat other _.
            let same = same_set words set a_set type_name other_type name frames is_cat other_cat in
            subst (IsThere (contents_of old)) same ((set_reads.in_file (subst (λ s. is_built_in s ≡ false) (sym same) other)).there (λ is. cc) (λ is. cc));
        there = λ other other_type frames other_cat was_read.
            let behind : at_set_reading < first_stage end = omega (arith, was_read) in
            subst (IsThere (contents_of old)) (same_frames words set other type_name other_type name frames is_cat other_cat) (subst (λ c. IsThere c name) same_contents (reads.there (not_failed end behind) (not_wanting end behind)));
        set = λ other other_type frames other_cat.
            subst (λ s. IfSome (set_given (contents_of old) s) (λ answer. EndsBySet answer other_type end)) (same_set words set other type_name other_type name frames is_cat other_cat)
            (subst (λ t. IfSome (set_given (contents_of old) set) (λ answer. EndsBySet answer t end)) (same_type words set other type_name other_type name frames is_cat other_cat)
            (given_weaker (set_given (contents_of old) set) schema (λ answer. EndsBySet answer type_name end) (type_found schema end type_name type_no is_type past) gives));
        first = of_named words (contents_of old) schema set type_name name type_no (λ s n content. EndsBy (first_fault s n content) end) is_cat (is_given words (contents_of old) schema set type_name name is_cat gives) is_type
            (subst (λ c. IfSome (content_of c name) (λ content. EndsBy (first_fault schema type_no content) end)) same_contents by.first);
      }
