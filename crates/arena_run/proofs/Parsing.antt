-- What the messages of a phase say of the payloads: their trees, and the first fault.
use Rattle.std.proofs.Common.{◌≡◌, ◌⊎◌, inl, inr, ◌+◌, ◌*◌, ◌^◌, ◌<◌, ◌≤◌, ℕ, zero, suc, List, [], ◌∷◌, length, take, replicate, length-append, Option, None, Some, Result, Ok, refl, sym, ap, ◌∙◌, subst, arith}
use Rattle.std.specs.Prelude.{sum_by, slice_get, IsSome, IfOk, option_and_then}
use Rattle.std.specs.List.{concat}
use Rattle.std.specs.Option.{option_map}
use Rattle.std.proofs.lemmas.List.{take_all}
use Rattle.std.proofs.lemmas.List.Sums.{sum_by-cons}
use Rattle.std.proofs.lemmas.Option.{none-some}
use mathlib.Core.Option.{some, some-injective, some-ne-none}
use lib.ListN.{get_elem?}
use Rattle.arena_list.specs.Rule.Founded.{caller}
use Rattle.arena_list.proofs.Rule.Opening.{at_has}
use Rattle.arena_list.proofs.Words.Few.{at_map, at_mapped}
use Rattle.pb_schema.specs.declared.schema.Schema.{Schema}
use Rattle.pb_schema.specs.declared.wire_fault.WireFault.{WireFault}
use Rattle.pb_schema.specs.Fault.{fault_of}
use Rattle.pb_schema.specs.Lawful.{Lawful}
use Rattle.pb_schema.specs.Payloads.{framed_texts, trees_of, bad_payload_from, bad_payload}
use Rattle.pb_schema.specs.Text.{framed, text_of}
use Rattle.pb_schema.specs.Tree.{Tree, tree_map}
use Rattle.pb_schema.specs.TreeOf.{tree_of}
use Rattle.pb_schema.specs.Varint.{varint_of}
use Rattle.pb_schema.proofs.FaultLaws.{no_fault_then}
use Rattle.pb_schema.proofs.Steps.{length-varint_of}
use Rattle.pb_parse.specs.Whole.{shape_of_payload}
use Rattle.pb_parse.proofs.TextBound.{text_bounded}
use Rattle.dyn_message.specs.declared.msg_ref.MsgRef.{MsgRef}
use Rattle.dyn_message.specs.Feet.{Foot}
use Rattle.ts_arena.specs.Arena.{ArenaState}
use Rattle.ts_arena.specs.Sole.{Owns, arena_places, arena_buffers}
use Rattle.life_ids.specs.Cache.{CacheState}
use Rattle.ts_arena.specs.Sharing.{Owners}
use Rattle.ts_arena.specs.Sides.{HoldsPasses}
use Rattle.ts_arena.specs.declared.side.Side.{Side}
use Rattle.ts_arena.specs.declared.side.Side.TheVariants.{Sole}
use Rattle.parse_pool.specs.declared.pool_end.PoolEnd.{PoolEnd}
use Rattle.parse_pool.specs.declared.pool_end.PoolEnd.TheVariants as ends
use Rattle.parse_pool.specs.Arenas.{AllParsed, AreEarly, AreOwnersAfter, AreParsed, GrowsTo, IfSole, IsBad, IsSole, KeepsKeys, StandsWith, most_made, part_of}
use Rattle.parse_pool.specs.Phases.{AreShort}
use Rattle.parse_pool.specs.Starting.{AreBelow, AreEmpty, FitOwners}
use Rattle.pb_script.specs.Registers.{RegisterState, cat_registers, in_a}
use Rattle.arena_run.specs.declared.fault.Fault.{Fault}
use Rattle.arena_run.specs.declared.fault.Fault.TheVariants.{BadFrame, NoMemory}
use Rattle.arena_run.specs.Faults.{bad_frame}
use Rattle.arena_run.specs.Inputs.{LeavesSide}
use Rattle.arena_run.specs.Registers.{AreEarlyIn}
use Rattle.arena_run.specs.Stands.{AllStand, StandDecoded}

-- TREES

head_tree : (schema : Schema) (type_no : ℕ) (p : List ℕ) (ps : List (List ℕ)) (t : Tree) → tree_of schema type_no p ≡ Some t → trees_of schema type_no (p ∷ ps) ≡ option_map (λ trees. t ∷ trees) (trees_of schema type_no ps)
head_tree schema type_no p ps t is = ap (option_and_then (λ tree. option_map (λ trees. tree ∷ trees) (trees_of schema type_no ps))) is

module _ (schema : Schema) (lawful : Lawful schema) (root : ℕ) (a : ArenaState) where
  -- the messages stand for the trees of these payloads
  record HaveTrees (payloads : List (List ℕ)) (messages : List MsgRef) (feet : List Foot) : Type 0 where
    pub trees : List Tree
    pub decoded : trees_of schema root payloads ≡ Some trees
    pub stand : AllStand schema (arena_places a) (arena_buffers a) root messages trees feet
    pub short : length (framed_texts schema root trees) ≤ 20 * sum_by length payloads + 10 * length payloads
    pub count : length messages ≡ length payloads

  have_trees : (payloads : List (List ℕ)) (messages : List MsgRef) (feet : List Foot) → sum_by length payloads ≤ 2 ^ 24 → AllParsed schema root a payloads messages feet → HaveTrees payloads messages feet
  have_trees [] [] feet fits all = record { trees = []; decoded = refl; stand = all; short = omega arith; count = refl }
  have_trees [] (msg ∷ messages) feet fits all = absurd all
  have_trees (payload ∷ payloads) [] feet fits all = absurd all
  have_trees (payload ∷ payloads) (msg ∷ messages) feet fits all =
      let sum = sum_by-cons length payload payloads in
      let one = all.first in
      let tree = tree_map concat (shape_of_payload schema root payload) in
      let text = text_of schema root tree in
      let later = have_trees payloads messages all.rest (omega (arith, fits, sum)) all.second in
      let stand : AllStand schema (arena_places a) (arena_buffers a) root (msg ∷ messages) (tree ∷ later.trees) feet =
      record { own = all.own; rest = all.rest; are = all.are; first = (one.type, record { shape = shape_of_payload schema root payload; stands = one.stands; joined = refl }); second = later.stand } in
      record {
        trees = tree ∷ later.trees;
        decoded = head_tree schema root payload payloads tree one.tree ∙ ap (option_map (λ ts. tree ∷ ts)) later.decoded;
        stand = stand;
        short = omega (arith, text_bounded schema root payload tree lawful one.tree, length-varint_of (length text), length-append (varint_of (length text)) text, length-append (framed text) (framed_texts schema root later.trees), later.short, sum);
        count = ap suc later.count;
      }

  pub parsed_trees : (before : ArenaState) (payloads : List (List ℕ)) (messages : List MsgRef) → sum_by length payloads + length payloads ≤ 2 ^ 24 → AreParsed schema root before a payloads messages → StandDecoded schema (arena_places a) (arena_buffers a) root payloads messages
  parsed_trees before payloads messages fits are =
      let have = have_trees payloads messages are.feet (omega (arith, fits)) are.stand in
      record { trees = have.trees; decoded = have.decoded; stand = record { apart = record { feet = are.feet; stand = have.stand; once = are.once }; short = omega (arith, have.short, fits) } }

  pub parsed_count : (before : ArenaState) (payloads : List (List ℕ)) (messages : List MsgRef) → sum_by length payloads + length payloads ≤ 2 ^ 24 → AreParsed schema root before a payloads messages → length messages ≡ length payloads
  parsed_count before payloads messages fits are = (have_trees payloads messages are.feet (omega (arith, fits)) are.stand).count

-- FAULTS

abbrev if_sound : Schema → ℕ → ℕ → List (List ℕ) → Option WireFault → Option (ℕ × WireFault)
if_sound schema root index payloads found = elim found [ Some fault ↦ Some (index, fault) | None ↦ bad_payload_from schema root (suc index) payloads ]

sound_from : (schema : Schema) (root : ℕ) (a : ArenaState) (k : ℕ) (payloads : List (List ℕ)) (messages : List MsgRef) (feet : List Foot) → AllParsed schema root a payloads messages feet → bad_payload_from schema root k payloads ≡ None
sound_from schema root a k [] messages feet all = refl
sound_from schema root a k (payload ∷ payloads) [] feet all = absurd all
sound_from schema root a k (payload ∷ payloads) (msg ∷ messages) feet all =
    ap (if_sound schema root k payloads) (no_fault_then schema root payload (some_is (tree_of schema root payload) _ all.first.tree)) ∙ sound_from schema root a (suc k) payloads messages all.rest all.second
  where
    some_is : (o : Option Tree) (t : Tree) → o ≡ Some t → IsSome o
    some_is o t e = subst IsSome (sym e) refl

pub parsed_sound : (schema : Schema) (root : ℕ) (before a : ArenaState) (payloads : List (List ℕ)) (messages : List MsgRef) → AreParsed schema root before a payloads messages → bad_payload schema root payloads ≡ None
parsed_sound schema root before a payloads messages are = sound_from schema root a 0 payloads messages are.feet are.stand

bad_from : (schema : Schema) (root k : ℕ) (payloads : List (List ℕ)) (at : ℕ) (payload : List ℕ) (fault : WireFault) → get_elem? payloads at ≡ some payload → fault_of schema root 0 payload ≡ Some fault
    → ((j : ℕ) (earlier : List ℕ) → j < at → get_elem? payloads j ≡ some earlier → fault_of schema root 0 earlier ≡ None) → bad_payload_from schema root k payloads ≡ Some (k + at, fault)
bad_from schema root k [] at payload fault there bad least = absurd (some-ne-none payload (sym there))
bad_from schema root k (p ∷ payloads) zero payload fault there bad least =
    let same : p ≡ payload = some-injective p payload there in
    let index : k ≡ k + 0 = omega arith in
    ap (if_sound schema root k payloads) (ap (fault_of schema root 0) same ∙ bad) ∙ ap (λ n. Some (n, fault)) index
bad_from schema root k (p ∷ payloads) (suc at) payload fault there bad least =
    let later = bad_from schema root (suc k) payloads at payload fault there bad (λ j earlier below is. least (suc j) earlier (omega (arith, below)) is) in
    ap (if_sound schema root k payloads) (least 0 p (omega arith) refl) ∙ (later ∙ ap (λ n. Some (n, fault)) (next k at))
  where
    next : (m n : ℕ) → suc m + n ≡ m + suc n
    next m n = omega arith

pub bad_first : (schema : Schema) (root : ℕ) (payloads : List (List ℕ)) (index : ℕ) (fault : WireFault) → IsBad schema root 0 payloads index fault → option_map bad_frame (bad_payload schema root payloads) ≡ Some (BadFrame index fault)
bad_first schema root payloads index fault is =
    ap (option_map bad_frame) (bad_from schema root 0 payloads is.at is.payload fault is.there is.fault_is is.least ∙ ap (λ n. Some (n, fault)) (sym is.index_is))

-- CALLERS

-- a caller whose part has a message owns something
pub early_owner : (workers : ℕ) (a : ArenaState) (messages : List MsgRef) → 1 ≤ workers → AreEarly workers a messages → 0 < length messages → Owns a.owners 0
early_owner workers a [] some_worker early more = absurd (omega (arith, more))
early_owner workers a (msg ∷ messages) some_worker early more =
    let with : StandsWith a 0 msg = early 0 msg (omega (arith, some_worker)) refl in
    let among = with.1 in
    at_has _ among.0 0 (at_map caller a.owners among.0 with.0 among.1 ∙ ap (λ (y : ℕ). some y) with.2)

pub early_in : (workers : ℕ) (a : ArenaState) (messages : List MsgRef) (registers : List RegisterState) → registers ≡ cat_registers messages → AreEarly workers a messages → AreEarlyIn workers a registers
early_in workers a messages registers are early = λ w r msg below there holds.
    let found = at_mapped in_a messages w r (ap (λ rs. get_elem? rs w) (sym are) ∙ there) in
    let same : found.0 ≡ msg = same_msg found.0 msg (ap (λ (s : RegisterState). s.msg) found.2 ∙ holds) in
    early w msg below (found.1 ∙ ap (λ (m : MsgRef). some m) same)
  where
    same_msg : (m n : MsgRef) → ◌≡◌ {A = Option MsgRef} (Some m) (Some n) → m ≡ n
    same_msg m n e = cc

-- A PHASE OVER ALL FRAMES

one_below : (payloads : List (List ℕ)) (i : ℕ) (payload : List ℕ) → slice_get payloads i ≡ Some payload → length payload ≤ sum_by length payloads
one_below [] i payload here = absurd (none-some payload here)
one_below (p ∷ payloads) zero payload here = let same : p ≡ payload = cc in omega (arith, ap length same, sum_by-cons length p payloads)
one_below (p ∷ payloads) (suc i) payload here = omega (arith, one_below payloads i payload here, sum_by-cons length p payloads)

pub short_all : (payloads : List (List ℕ)) (first last : ℕ) → sum_by length payloads + length payloads ≤ 2 ^ 24 → AreShort payloads first last
short_all payloads first last fits = λ frame payload low high here. omega (arith, one_below payloads frame payload here, fits)

-- caches of no life fit whatever owners
pub fit_none : (life : ℕ) (owners : Owners) (caches : List CacheState) → 1 ≤ life → AreEmpty caches → FitOwners life owners caches
fit_none life owners caches born none = λ k cache here same. absurd (omega (arith, none k cache here, same, born))

pub below_none : (most : ℕ) (owners : Owners) → owners ≡ [] → AreBelow most owners
below_none most owners none = λ e among. absurd (some-ne-none e (sym (ap (λ es. get_elem? es among.0) (sym none) ∙ among.1)))

pub part_all : (payloads : List (List ℕ)) (count : ℕ) → count ≡ length payloads → part_of 0 count payloads ≡ payloads
part_all payloads count same = take_all count payloads (omega (arith, same))

-- what a phase leaves is what parsing these payloads leaves
pub side_left : (workers : ℕ) (payloads those : List (List ℕ)) (end : Option Fault) (before : ArenaState) (side : Side) → those ≡ payloads → HoldsPasses side → KeepsKeys before side → ((end ≡ Some NoMemory → ⊥) → IsSole side) → IfSole side (AreOwnersAfter workers before) → IfSole side (GrowsTo (most_made those) before)
    → LeavesSide workers payloads end before side
side_left workers payloads those end before side same passes keys settled owners grows = record {
  passes = passes;
  keys = keys;
  settled = settled;
  owners = owners;
  grows = subst (λ ps. IfSole side (GrowsTo (most_made ps) before)) same grows;
}

sole_ok : {V : Type 0} (r : Result V PoolEnd) (m : V) (side : Side) (a : ArenaState) (P : V → ArenaState → Type 0) → r ≡ Ok m → side ≡ Sole a → IfOk r (λ x. IfSole side (P x)) → P m a
sole_ok {V} r m side a P ok sole p =
    let at : IfSole side (P m) = subst (λ (x : Result V PoolEnd). IfOk x (λ y. IfSole side (P y))) ok p in
    subst (λ s. IfSole s (P m)) sole at

-- the messages of all frames, where the phase went well
pub phase_parsed : {V : Type 0} (items : V → List MsgRef) (schema : Schema) (root : ℕ) (before : ArenaState) (payloads those : List (List ℕ)) (r : Result V PoolEnd) (m : V) (side : Side) (a : ArenaState) → those ≡ payloads → r ≡ Ok m → side ≡ Sole a
    → IfOk r (λ x. IfSole side (λ b. AreParsed schema root before b those (items x))) → AreParsed schema root before a payloads (items m)
phase_parsed items schema root before payloads those r m side a same ok sole p =
    subst (λ ps. AreParsed schema root before a ps (items m)) same (sole_ok r m side a (λ x b. AreParsed schema root before b those (items x)) ok sole p)

-- the fault of a phase that ended in want of memory
pub memory_fault : (end : PoolEnd) (fault : Fault) → (((index : ℕ) (bad : WireFault) → end ≡ ends.BadFrame index bad → ⊥) → fault ≡ NoMemory) → end ≡ ends.NoMemory → fault ≡ NoMemory
memory_fault end fault other is = other (λ index bad e. absurd (let both : ends.NoMemory ≡ ends.BadFrame index bad = sym is ∙ e in cc))

pub phase_fault : (schema : Schema) (root : ℕ) (payloads : List (List ℕ)) (end : PoolEnd) (fault : Fault) → ((index : ℕ) (bad : WireFault) → end ≡ ends.BadFrame index bad → fault ≡ BadFrame index bad) → (((index : ℕ) (bad : WireFault) → end ≡ ends.BadFrame index bad → ⊥) → fault ≡ NoMemory)
    → ((index : ℕ) (bad : WireFault) → end ≡ ends.BadFrame index bad → IsBad schema root 0 payloads index bad) → (fault ≡ NoMemory) ⊎ (option_map bad_frame (bad_payload schema root payloads) ≡ Some fault)
phase_fault schema root payloads (ends.BadFrame index bad) fault told other is = inr (bad_first schema root payloads index bad (is index bad refl) ∙ ap Some (sym (told index bad refl)))
phase_fault schema root payloads ends.Done fault told other is = inl (other (λ index bad e. absurd (cc)))
phase_fault schema root payloads ends.NoMemory fault told other is = inl (other (λ index bad e. absurd (cc)))
phase_fault schema root payloads (ends.BlocksSpent region) fault told other is = inl (other (λ index bad e. absurd (cc)))

-- the same caches over and over, and the first ones of some
pub empty_over : (n : ℕ) (x : CacheState) → x.life ≡ 0 → AreEmpty (replicate n x)
empty_over zero x none k cache here = absurd (some-ne-none cache (sym here))
empty_over (suc n) x none zero cache here = subst (λ (c : CacheState). c.life ≡ 0) (some-injective x cache here) none
empty_over (suc n) x none (suc k) cache here = empty_over n x none k cache here

pub empty_front : (caches : List CacheState) (n : ℕ) → AreEmpty caches → AreEmpty (take n caches)
empty_front caches zero empty k cache here = absurd (some-ne-none cache (sym here))
empty_front [] (suc n) empty k cache here = absurd (some-ne-none cache (sym here))
empty_front (c ∷ caches) (suc n) empty zero cache here = empty 0 cache here
empty_front (c ∷ caches) (suc n) empty (suc k) cache here = empty_front caches n (λ j x at. empty (suc j) x at) k cache here
