-- What follows from what a run has read, however it ends then.
use Rattle.std.proofs.Common.{◌≡◌, ◌*◌, ◌^◌, ◌≤◌, ℕ, List, length, Option, None, Some, Result, Ok, Err, refl, sym, subst, inl, arith}
use Rattle.std.specs.Prelude.{IfOk, IfSome, IfNone, IsSomeAnd}
use Rattle.std.specs.Io.KnownBytes.{Appends}
use Rattle.arena_mem.specs.Outside.{NamedFiles, TookPart, content_of}
use Rattle.ts_arena.specs.declared.side.Side.{Side}
use Rattle.ts_arena.specs.declared.side.Side.TheVariants.{Sole, Unsettled}
use Rattle.ts_arena.specs.Arena.{ArenaState}
use Rattle.ts_arena.specs.Sole.{arena_places, arena_buffers}
use Rattle.parse_pool.specs.Arenas.{AreOwnersAfter, GrowsTo, IfSole, IsSole, most_made}
use Rattle.pb_schema.specs.declared.schema.Schema.{Schema}
use Rattle.pb_schema.specs.Frames.{frames_of}
use Rattle.pb_schema.specs.Payloads.{framed_texts, trees_of}
use Rattle.pb_schema.specs.Tree.{Tree}
use Rattle.pb_script.specs.Registers.{RegisterState}
use Rattle.arena_run.specs.declared.fault.Fault.{Fault}
use Rattle.arena_run.specs.declared.fault.Fault.TheVariants.{NoMemory, ReadFault, WriteFault}
use Rattle.arena_run.specs.Causes.{EndsByWords, EndsByFile, LeavesArena}
use Rattle.arena_run.specs.Contents.{HasTrees, OfTrees}
use Rattle.arena_run.specs.Ends.{IsPastFrames, IsParsed, EndsBy}
use Rattle.arena_run.specs.Faults.{payloads_fault, first_fault}
use Rattle.arena_run.specs.Frames.{EndsByFrames}
use Rattle.arena_run.specs.Inputs.{HasRead, LeavesSide}
use Rattle.arena_run.specs.Lines.{TookLines}
use Rattle.arena_run.specs.Registers.{AreEarlyIn, HasWritten, RegistersStand, RegistersWritten}
use Rattle.arena_run.specs.Sets.{IsGiven}
use Rattle.arena_run.specs.Words.{AsksFor}
use Rattle.arena_run.proofs.AllStand.{apart_one}
use Rattle.arena_run.proofs.CauseLaws.{file_of_frames, is_given, of_named, of_none, reads_on, set_contents, typed_as}
use Rattle.arena_run.proofs.Firsts.{has_trees, payloads_first}
use Rattle.arena_run.proofs.WordForms.{one_count, words_typed}

none_then : (o : Option Fault) (P : Type 0) → (o ≡ None → P) → IfNone o P
none_then None P p = p refl
none_then (Some fault) P p = tt

-- SIDES

sole_maps : (side : Side) (P Q : ArenaState → Type 0) → ((a : ArenaState) → P a → Q a) → IfSole side P → IfSole side Q
sole_maps (Sole a) P Q law p = law a p
sole_maps (Unsettled shared passes) P Q law p = tt

pub sole_there : (side : Side) (P : ArenaState → Type 0) → IsSole side → IfSole side P → (a : ArenaState) × (side ≡ Sole a) × P a
sole_there (Sole a) P sole p = (a, refl, p)
sole_there (Unsettled shared passes) P sole p = absurd sole

grows_widens : (few many : ℕ) (before after : ArenaState) → few ≤ many → GrowsTo few before after → GrowsTo many before after
grows_widens few many before after less g = record { rest = g.rest; few_places = omega (arith, g.few_places, less); few_buffers = omega (arith, g.few_buffers, less) }

grows_none : (most : ℕ) (a : ArenaState) → GrowsTo most a a
grows_none most a = record { rest = λ foot was other is. is; few_places = omega arith; few_buffers = omega arith }

owners_none : (workers : ℕ) (a : ArenaState) → AreOwnersAfter workers a a
owners_none workers a = record { begun = record { short = omega arith; same = λ k n is. is }; others = λ e among. inl (e, among, refl, refl) }

-- the arena is as it was handed in
pub arena_kept : (words : List (List ℕ)) (files : Option NamedFiles) (end : Option Fault) (a : ArenaState) → LeavesArena words files end a (Sole a)
arena_kept words files end a = record {
  passes = tt;
  keys = (refl, refl, refl);
  settled = λ other. tt;
  unplaced = λ is. refl;
  owners = λ workers asks. owners_none workers a;
  told = of_none words files (λ _ _ content. IfOk (frames_of content) (λ payloads. IfSole (Sole a) (GrowsTo (most_made payloads) a))) (λ _ _ content. by (frames_of content));
  grows = grows_none _ a;
}
  where
    by : (r : Result (List (List ℕ)) ℕ) → IfOk r (λ payloads. GrowsTo (most_made payloads) a a)
    by (Ok payloads) = grows_none _ a
    by (Err cut) = tt

-- nothing was parsed of these payloads
pub side_kept : (workers : ℕ) (payloads : List (List ℕ)) (end : Option Fault) (a : ArenaState) → LeavesSide workers payloads end a (Sole a)
side_kept workers payloads end a = record {
  passes = tt;
  keys = (refl, refl, refl);
  settled = λ other. tt;
  owners = owners_none workers a;
  grows = grows_none _ a;
}

-- A RUN THAT HAS READ ALL

module _ {S : Type 0} (contents_of : S → Option NamedFiles) (faults_of : S → ℕ) (blamed_of : S → Option (List ℕ)) (words : List (List ℕ)) (old new : S) (schema : Schema) (root : ℕ) (payloads : List (List ℕ)) (workers : ℕ) (read : HasRead contents_of faults_of blamed_of words old new schema root payloads workers) where
  -- the content of the file, as the files told it at first
  whole : IfSome (content_of (contents_of old) read.name) (λ content. (length content ≤ 2 ^ 24) × (frames_of content ≡ Ok payloads))
  whole = subst (λ c. IfSome (content_of c read.name) (λ content. (length content ≤ 2 ^ 24) × (frames_of content ≡ Ok payloads))) (set_contents contents_of faults_of blamed_of read.set old read.between None read.set_read) read.whole

  given : IsGiven words (contents_of old) schema
  given = is_given words (contents_of old) schema read.set read.type_name read.name read.cat read.given

  pub words_of_input : (end : Option Fault) → IsPastFrames end → EndsByWords words end
  words_of_input end past = words_typed words read.set read.type_name read.name end read.cat (omega (arith, past))

  not_read_fault : (end : Option Fault) → IsPastFrames end → end ≡ Some ReadFault → ⊥
  not_read_fault end past is = let told : IsPastFrames (Some ReadFault) = subst IsPastFrames is past in omega (arith, told)

  frames_of_input : (end : Option Fault) → IsPastFrames end → EndsBy (payloads_fault schema root payloads) end → EndsByFrames contents_of faults_of blamed_of schema root read.name read.between new end
  frames_of_input end past by = record {
    reads = reads_on contents_of faults_of blamed_of read.name read.between new end read.read (not_read_fault end past);
    first = first (content_of (contents_of read.between) read.name) read.whole;
    past = omega (arith, past);
  }
    where
      first : (found : Option (List ℕ)) → IfSome found (λ content. (length content ≤ 2 ^ 24) × (frames_of content ≡ Ok payloads)) → IfSome found (λ content. EndsBy (first_fault schema root content) end)
      first None h = tt
      first (Some content) h = subst (λ f. EndsBy f end) (sym (payloads_first schema root content payloads (record { few_bytes = h.0; frames = h.1 }) read.small.few)) by

  pub file_of_input : (end : Option Fault) → IsPastFrames end → EndsBy (payloads_fault schema root payloads) end → EndsByFile contents_of faults_of blamed_of words old new end
  file_of_input end past by =
      file_of_frames contents_of faults_of blamed_of words read.set read.type_name read.name root old read.between new schema end read.cat read.set_read read.given read.typed (frames_of_input end past by)

  -- what holds of the trees of these payloads holds of those of the file that the words name
  pub trees_of_input : (P : Schema → ℕ → List Tree → Type 0) (trees : List Tree) → payloads_fault schema root payloads ≡ None → trees_of schema root payloads ≡ Some trees → P schema root trees → OfTrees words (contents_of old) P
  trees_of_input P trees sound decoded p =
      of_named words (contents_of old) schema read.set read.type_name read.name root (λ s n content. HasTrees s n content (P s n)) read.cat given read.typed (told (content_of (contents_of old) read.name) whole)
    where
      told : (found : Option (List ℕ)) → IfSome found (λ content. (length content ≤ 2 ^ 24) × (frames_of content ≡ Ok payloads)) → IfSome found (λ content. HasTrees schema root content (P schema root))
      told None h = tt
      told (Some content) h = has_trees schema root content payloads (P schema root) (record { few_bytes = h.0; frames = h.1 }) read.small.few sound (subst (λ o. IsSomeAnd o (P schema root)) (sym decoded) p)

  pub arena_of_input : (end : Option Fault) (before : ArenaState) (side : Side) → IsPastFrames end → LeavesSide workers payloads end before side → LeavesArena words (contents_of old) end before side
  arena_of_input end before side past left = record {
    passes = left.passes;
    keys = left.keys;
    settled = left.settled;
    unplaced = λ unplaced. absurd (omega (arith, past, unplaced));
    owners = λ n asks. subst (λ w. IfSole side (AreOwnersAfter w before)) (one_count words workers n read.asks asks) left.owners;
    told = of_named words (contents_of old) schema read.set read.type_name read.name root (λ _ _ content. IfOk (frames_of content) (λ those. IfSole side (GrowsTo (most_made those) before))) read.cat given read.typed (told (content_of (contents_of old) read.name) whole);
    grows = let fits = read.small.fits in sole_maps side (GrowsTo (most_made payloads) before) (GrowsTo (4 * 2 ^ 24) before) (λ after. grows_widens (most_made payloads) (4 * 2 ^ 24) before after (omega (arith, fits))) left.grows;
  }
    where
      told : (found : Option (List ℕ)) → IfSome found (λ content. (length content ≤ 2 ^ 24) × (frames_of content ≡ Ok payloads)) → IfSome found (λ content. IfOk (frames_of content) (λ those. IfSole side (GrowsTo (most_made those) before)))
      told None h = tt
      told (Some content) h = subst (λ (r : Result (List (List ℕ)) ℕ). IfOk r (λ those. IfSole side (GrowsTo (most_made those) before))) (sym h.1) left.grows

  pub early_of_input : (registers : List RegisterState) (side : Side) → IfSole side (λ a. AreEarlyIn workers a registers) → (n : ℕ) → AsksFor words n → IfSole side (λ a. AreEarlyIn n a registers)
  early_of_input registers side early n asks = subst (λ w. IfSole side (λ a. AreEarlyIn w a registers)) (one_count words workers n read.asks asks) early

  -- THE REGISTERS

  not_memory : (end : Option Fault) → IsParsed end → end ≡ Some NoMemory → ⊥
  not_memory end parsed is = let told : IsParsed (Some NoMemory) = subst IsParsed is parsed in omega (arith, told)

  -- what holds of the trees that the registers stand for, where all was parsed
  pub trees_of_written : (P : Schema → ℕ → List Tree → Type 0) (end : Option Fault) (before : ArenaState) (registers : List RegisterState) (side : Side) (lines : ℕ) (was now : Option (List ℕ)) → IsParsed end → EndsBy (payloads_fault schema root payloads) end → LeavesSide workers payloads end before side
      → IfSole side (λ a. HasWritten schema root payloads a registers end lines was now) → ((a : ArenaState) → side ≡ Sole a → (w : HasWritten schema root payloads a registers end lines was now) → P schema root w.trees) → OfTrees words (contents_of old) P
  trees_of_written P end before registers side lines was now parsed by left written law =
      let there = sole_there side (λ a. HasWritten schema root payloads a registers end lines was now) (left.settled (not_memory end parsed)) written in
      trees_of_input P there.2.trees (by.none parsed) there.2.decoded (law there.0 there.1 there.2)

  pub registers_stand : (end : Option Fault) (before : ArenaState) (registers : List RegisterState) (side : Side) (lines : ℕ) (was now : Option (List ℕ)) → IsParsed end → EndsBy (payloads_fault schema root payloads) end → LeavesSide workers payloads end before side
      → IfSole side (λ a. HasWritten schema root payloads a registers end lines was now) → OfTrees words (contents_of old) (λ s n trees. IfSole side (λ a. RegistersStand s a n registers trees))
  registers_stand end before registers side lines was now parsed by left written =
      trees_of_written (λ s n trees. IfSole side (λ a. RegistersStand s a n registers trees)) end before registers side lines was now parsed by left written
      (λ a is w. subst (λ there. IfSole there (λ b. RegistersStand schema b root registers w.trees)) (sym is) w.stand)

  pub bytes_written : (end : Option Fault) (before : ArenaState) (registers : List RegisterState) (side : Side) (lines : ℕ) (was now : Option (List ℕ)) → EndsBy (payloads_fault schema root payloads) end → LeavesSide workers payloads end before side
      → (IsParsed end → IfSole side (λ a. HasWritten schema root payloads a registers end lines was now)) → IfNone end (OfTrees words (contents_of old) (λ s n trees. Appends was now (framed_texts s n trees)))
  bytes_written end before registers side lines was now by left written = none_then end (OfTrees words (contents_of old) (λ s n trees. Appends was now (framed_texts s n trees))) (λ none.
      let parsed : IsParsed end = subst IsParsed (sym none) (omega arith) in
      trees_of_written (λ s n trees. Appends was now (framed_texts s n trees)) end before registers side lines was now parsed by left (written parsed) (λ a is w. w.all none))

  pub front_written : (end : Option Fault) (before : ArenaState) (registers : List RegisterState) (side : Side) (lines : ℕ) (was now : Option (List ℕ)) → EndsBy (payloads_fault schema root payloads) end → LeavesSide workers payloads end before side
      → (IsParsed end → IfSole side (λ a. HasWritten schema root payloads a registers end lines was now)) → end ≡ Some WriteFault → OfTrees words (contents_of old) (λ s n trees. TookPart was now (framed_texts s n trees))
  front_written end before registers side lines was now by left written failed =
      let parsed : IsParsed end = subst IsParsed (sym failed) (omega arith) in
      trees_of_written (λ s n trees. TookPart was now (framed_texts s n trees)) end before registers side lines was now parsed by left (written parsed) (λ a is w. w.part failed)

  pub lines_written : (end : Option Fault) (before : ArenaState) (registers : List RegisterState) (side : Side) (lines : ℕ) (was now : Option (List ℕ)) → EndsBy (payloads_fault schema root payloads) end → LeavesSide workers payloads end before side
      → (IsParsed end → IfSole side (λ a. HasWritten schema root payloads a registers end lines was now)) → end ≡ Some WriteFault → OfTrees words (contents_of old) (λ s n trees. TookLines s n trees was now lines)
  lines_written end before registers side lines was now by left written failed =
      let parsed : IsParsed end = subst IsParsed (sym failed) (omega arith) in
      trees_of_written (λ s n trees. TookLines s n trees was now lines) end before registers side lines was now parsed by left (written parsed) (λ a is w. w.cut failed)

  pub registers_of_input : (end : Option Fault) (registers : List RegisterState) (side : Side) (lines : ℕ) (was now : Option (List ℕ)) → IfSole side (λ a. HasWritten schema root payloads a registers end lines was now) → IfSole side (λ a. RegistersWritten words (contents_of old) a registers end lines was now)
  registers_of_input end registers side lines was now = sole_maps side _ _ (λ a written. let stand = written.stand in record {
    messages = stand.messages;
    are = stand.are;
    written = record {
      schema = schema;
      lawful = read.small.lawful;
      given = given;
      type_no = root;
      typed = typed_as words schema read.set read.type_name read.name root read.cat read.typed;
      trees = written.trees;
      stand = stand.apart;
      one = λ no others. apart_one schema (arena_places a) (arena_buffers a) root no stand.messages written.trees others stand.apart;
      all = written.all;
      part = written.part;
      cut = written.cut;
    };
  })
