-- The messages of a phase, each in the part of its worker, and in the arena that is settled.
use Rattle.std.proofs.Common.{◌≡◌, ◌≢◌, ◌⊎◌, ◌+◌, ◌*◌, ◌<◌, ◌≤◌, ℕ, zero, suc, List, [], ◌∷◌, length, None, Some, refl, sym, ap, ◌∙◌, inl, inr, ⊎_elim, arith, subst}
use Rattle.arena_list.proofs.Words.Lists.{at_below}
use Rattle.std.proofs.lemmas.Bool.{cases_lt}
use Rattle.std.specs.List.{concat}
use Rattle.std.proofs.lemmas.Nat.{mul-le}
use mathlib.Core.Option.{some, some-injective, some-ne-none}
use mathlib.Core.Logic.{dite}
use native.Mathlib.Decide.{ℕ_discrete}
use lib.ListN.{get_elem?}
use Rattle.serial_arena.specs.Serial.{SerialState, places_of, buffers_of}
use Rattle.arena_list.specs.declared.entry.Entry.{Entry}
use Rattle.arena_list.specs.Closing.Closed.{entry}
use Rattle.arena_list.specs.Rule.Founded.{caller, slot}
use Rattle.arena_list.proofs.Words.Few.{at_map}
use Rattle.pb_schema.specs.Tree.{tree_map}
use Rattle.pb_schema.specs.TreeOf.{tree_of}
use Rattle.dyn_message.specs.declared.msg_ref.MsgRef.{MsgRef}
use Rattle.dyn_message.specs.Feet.{Foot, IsAmong, Separate, foot_bytes}
use Rattle.dyn_message.specs.Stands.{Stands}
use Rattle.dyn_message.proofs.Counting.{among_or}
use Rattle.dyn_message.proofs.Messages.{some_value}
use Rattle.dyn_message.proofs.There.{message_there}
use Rattle.life_ids.specs.Cache.{CacheState}
use Rattle.ts_arena.specs.Arena.{ArenaState, IsArena}
use Rattle.ts_arena.specs.declared.pass.Pass.{Pass}
use Rattle.ts_arena.specs.Passes.{SharedState, AreFirstPasses}
use Rattle.ts_arena.specs.Places.{IsPartOf}
use Rattle.ts_arena.specs.Settling.{IsSettledFrom}
use Rattle.ts_arena.specs.Sole.{arena_buffers, arena_places}
use Rattle.parse_pool.specs.declared.pool_end.FrameResult.{FrameResult}
use Rattle.parse_pool.specs.declared.pool_end.PoolEnd.{PoolEnd}
use Rattle.parse_pool.specs.declared.pool_end.PoolEnd.TheVariants.{Done}
use Rattle.parse_pool.specs.Parsed.{shape_at}
use Rattle.parse_pool.specs.Phased.{HasRun}
use Rattle.parse_pool.specs.Phases.{PhaseState, payload_at}
use Rattle.parse_pool.specs.Starting.{AreCounted}
use Rattle.parse_pool.specs.Workers.{WorkerState}
use Rattle.parse_pool.proofs.AtWork.{AtWork, Grown, at_work, grown_of}
use Rattle.parse_pool.proofs.Kept.{kept_as_is}
use Rattle.parse_pool.proofs.Made.{foot_named, foot_region, looks_as_whose, looks_at_foot, part_keeps_all}
use Rattle.parse_pool.proofs.Messages.{stands_on}
use Rattle.parse_pool.proofs.Picked.{picked}

-- of two frames of one worker the earlier one is that of the earlier turn
earlier_turn : (n k i j turn other : ℕ) → i ≡ k + turn * n → j ≡ k + other * n → i < j → turn < other
earlier_turn n k i j turn other one two less = ⊎_elim (λ lt. lt) (λ ge. let more = mul-le other n turn n ge (omega arith) in absurd (omega (arith, one, two, less, more))) (cases_lt turn other)

module _ (ph : PhaseState) (passes passes' : List Pass) (caches caches' : List CacheState) (messages : List MsgRef) (end : PoolEnd) (run : HasRun ph passes passes' caches caches' messages end) (long : length caches ≡ length passes) (sized : ph.workers ≡ length passes)
    (a b : ArenaState) (sh : SharedState) (numbers : List ℕ) (first : AreFirstPasses a numbers sh passes) (counted : AreCounted numbers) (settled : IsSettledFrom sh passes' b) (is_a : IsArena a) (is_b : IsArena b) where
  -- the message of a frame of the phase, counted from its first
  pub record MadeAt (i : ℕ) (msg : MsgRef) : Type 0 where
    pub k : ℕ
    pub turn : ℕ
    pub is : i ≡ k + turn * length passes
    pub low : k < length passes
    pub w : AtWork ph passes passes' caches caches' messages end run k
    pub part : SerialState
    pub g : Grown ph passes passes' caches caches' messages end run a b sh numbers first counted settled is_b k w part
    pub result : FrameResult
    pub at : get_elem? w.new.results turn ≡ some result
    pub msg_is : result.msg ≡ msg
    pub type : msg.type_no ≡ ph.root
    pub own : List Foot
    pub stands_part : Stands ph.schema (places_of g.grown) (buffers_of g.grown) msg (shape_at ph (ph.first + i)) own
    pub tree : tree_of ph.schema ph.root (payload_at ph (ph.first + i)) ≡ Some (tree_map concat (shape_at ph (ph.first + i)))
    pub fresh : (foot : Foot) → IsAmong foot own → foot_bytes (arena_places a) (arena_buffers a) foot ≡ None

  -- the part of a worker is a part of the arena
  part_there : (i : ℕ) (msg : MsgRef) (m : MadeAt i msg) → IsPartOf b m.g.grown
  part_there i msg m = inl (m.g.index, entry m.g.at m.k m.g.grown, m.g.there, refl)

  -- it stands in the arena
  pub stands_in_arena : (i : ℕ) (msg : MsgRef) (m : MadeAt i msg) → Stands ph.schema (arena_places b) (arena_buffers b) msg (shape_at ph (ph.first + i)) m.own
  stands_in_arena i msg m = stands_on ph.schema (places_of m.g.grown) (arena_places b) (buffers_of m.g.grown) (arena_buffers b) msg (shape_at ph (ph.first + i)) m.own (part_keeps_all m.g.grown b (kept_as_is b is_b m.g.grown (part_there i msg m))) m.stands_part

  -- each of its feet names the region of the worker's part
  region_of : (i : ℕ) (msg : MsgRef) (m : MadeAt i msg) (foot : Foot) → IsAmong foot m.own → foot_region foot ≡ m.g.grown.region
  region_of i msg m foot among =
      let was = some_value (foot_bytes (places_of m.g.grown) (buffers_of m.g.grown) foot) (message_there ph.schema (places_of m.g.grown) (buffers_of m.g.grown) msg.type_no msg.place (shape_at ph (ph.first + i)) m.own m.stands_part.message foot among) in
      foot_named m.g.grown foot was.0 was.1

  -- one worker has one part
  one_grown : (i j : ℕ) (msg other : MsgRef) (m : MadeAt i msg) (o : MadeAt j other) → m.k ≡ o.k → m.g.grown ≡ o.g.grown
  one_grown i j msg other m o same =
      let index : m.g.index ≡ o.g.index = is_b.owners.callers m.g.index o.g.index m.k (at_map caller b.owners m.g.index (entry m.g.at m.k m.g.grown) m.g.there) (at_map caller b.owners o.g.index (entry o.g.at o.k o.g.grown) o.g.there ∙ ap (λ (n : ℕ). some n) (sym same)) in
      let one : entry m.g.at m.k m.g.grown ≡ entry o.g.at o.k o.g.grown = some-injective (entry m.g.at m.k m.g.grown) (entry o.g.at o.k o.g.grown) (sym m.g.there ∙ ap (λ (n : ℕ). get_elem? b.owners n) index ∙ o.g.there) in
      ap (λ (e : Entry SerialState). e.part) one

  one_worker : (i j : ℕ) (msg other : MsgRef) (m : MadeAt i msg) (o : MadeAt j other) → m.k ≡ o.k → o.w.new ≡ m.w.new
  one_worker i j msg other m o same = some-injective o.w.new m.w.new (sym o.w.there ∙ ap (λ (n : ℕ). get_elem? run.worked n) (sym same) ∙ m.w.there)

  -- two messages in one part
  apart_in_one : (i j : ℕ) (msg other : MsgRef) (m : MadeAt i msg) (o : MadeAt j other) → i < j → m.k ≡ o.k → Separate m.own o.own
  apart_in_one i j msg other m o before same =
      let later : m.turn < o.turn = earlier_turn (length passes) m.k i j m.turn o.turn m.is (o.is ∙ ap (λ (n : ℕ). n + o.turn * length passes) (sym same)) before in
      let at : get_elem? m.w.new.results o.turn ≡ some o.result = sym (ap (λ (w : WorkerState). get_elem? w.results o.turn) (one_worker i j msg other m o same)) ∙ o.at in
      let grown = one_grown i j msg other m o same in
      m.g.parsed.apart m.turn o.turn m.result o.result later m.at at (shape_at ph (ph.first + i)) (shape_at ph (ph.first + j)) m.own o.own
      (subst (λ (x : MsgRef). Stands ph.schema (places_of m.g.grown) (buffers_of m.g.grown) x (shape_at ph (ph.first + i)) m.own) (sym m.msg_is) m.stands_part)
      (subst (λ (s : SerialState). Stands ph.schema (places_of s) (buffers_of s) o.result.msg (shape_at ph (ph.first + j)) o.own) (sym grown)
      (subst (λ (x : MsgRef). Stands ph.schema (places_of o.g.grown) (buffers_of o.g.grown) x (shape_at ph (ph.first + j)) o.own) (sym o.msg_is) o.stands_part))

  -- and in two
  apart_in_two : (i j : ℕ) (msg other : MsgRef) (m : MadeAt i msg) (o : MadeAt j other) → m.k ≢ o.k → Separate m.own o.own
  apart_in_two i j msg other m o differ foot among = ⊎_elim
      (λ there.
      let slots : m.g.at ≡ o.g.at = sym m.g.slot_is ∙ sym (region_of i msg m foot among) ∙ region_of j other o foot there ∙ o.g.slot_is in
      let index : m.g.index ≡ o.g.index = is_b.owners.held.slots m.g.index o.g.index m.g.at (at_map slot b.owners m.g.index (entry m.g.at m.k m.g.grown) m.g.there) (at_map slot b.owners o.g.index (entry o.g.at o.k o.g.grown) o.g.there ∙ ap (λ (n : ℕ). some n) (sym slots)) in
      let one : entry m.g.at m.k m.g.grown ≡ entry o.g.at o.k o.g.grown = some-injective (entry m.g.at m.k m.g.grown) (entry o.g.at o.k o.g.grown) (sym m.g.there ∙ ap (λ (n : ℕ). get_elem? b.owners n) index ∙ o.g.there) in
      absurd (differ (ap (λ (e : Entry SerialState). e.caller) one)))
      (λ none. none)
      (among_or foot o.own)

  pub apart : (i j : ℕ) (msg other : MsgRef) (m : MadeAt i msg) (o : MadeAt j other) → i < j → Separate m.own o.own
  apart i j msg other m o before = dite (ℕ_discrete m.k o.k) (λ (same : m.k ≡ o.k). apart_in_one i j msg other m o before same) (λ (differ : m.k ≢ o.k). apart_in_two i j msg other m o differ)

  -- each message that was collected is made so
  pub made_at : end ≡ Done → (i : ℕ) (msg : MsgRef) → get_elem? messages i ≡ some msg → MadeAt i msg
  made_at done i msg at =
      let c = (run.collected done).each i msg at in
      let workers : length run.worked ≡ length passes = run.work.count ∙ run.begun.count in
      let low : c.worker < length passes = omega (arith, at_below run.worked c.worker c.state c.there, workers) in
      let w = at_work ph passes passes' caches caches' messages end run long c.worker low in
      let new : c.state ≡ w.new = some-injective c.state w.new (sym c.there ∙ w.there) in
      let here : get_elem? w.new.results c.turn ≡ some c.result = sym (ap (λ (x : WorkerState). get_elem? x.results c.turn) new) ∙ c.at in
      let below : c.worker < length numbers = omega (arith, low, first.count) in
      let p = picked a sh numbers passes first counted c.worker w.first below w.first_there in
      let g = grown_of ph passes passes' caches caches' messages end run a b sh numbers first counted settled is_b c.worker below w p.part p.has_part (w.turned.joined (omega (arith, at_below w.new.results c.turn c.result here))) in
      let looks = looks_as_whose a is_a c.worker p.part p.whose (omega (arith, g.region_is, g.slot_is, g.small)) in
      let m = g.parsed.messages c.turn c.result here in
      let frame : c.result.frame ≡ ph.first + i = w.turned.frames c.turn c.result here ∙ frame_is c.worker c.turn i (c.is ∙ ap (λ (n : ℕ). c.worker + c.turn * n) workers) in
      record {
        k = c.worker;
        turn = c.turn;
        is = c.is ∙ ap (λ (n : ℕ). c.worker + c.turn * n) workers;
        low = low;
        w = w;
        part = p.part;
        g = g;
        result = c.result;
        at = here;
        msg_is = c.msg_is;
        type = sym (ap (λ (x : MsgRef). x.type_no) c.msg_is) ∙ m.type;
        own = m.stands.now;
        stands_part = subst (λ (n : ℕ). Stands ph.schema (places_of g.grown) (buffers_of g.grown) msg (shape_at ph n) m.stands.now) frame
            (subst (λ (x : MsgRef). Stands ph.schema (places_of g.grown) (buffers_of g.grown) x (shape_at ph c.result.frame) m.stands.now) c.msg_is m.stands.stands);
        tree = subst (λ (n : ℕ). tree_of ph.schema ph.root (payload_at ph n) ≡ Some (tree_map concat (shape_at ph n))) frame m.tree;
        fresh = λ foot among.
            let was = some_value (foot_bytes (places_of g.grown) (buffers_of g.grown) foot) (message_there ph.schema (places_of g.grown) (buffers_of g.grown) c.result.msg.type_no c.result.msg.place (shape_at ph c.result.frame) m.stands.now m.stands.stands.message foot among) in
            looks_at_foot a p.part looks foot (foot_named g.grown foot was.0 was.1 ∙ g.region_is)
            ∙ ⊎_elim (λ none. absurd (omega (arith, none))) (λ new_foot. new_foot) (m.stands.from foot among);
      }
    where
      frame_is : (k turn i : ℕ) → i ≡ k + turn * length passes → ph.first + k + turn * ph.workers ≡ ph.first + i
      frame_is k turn i is = ap (λ (n : ℕ). ph.first + k + turn * n) sized ∙ (let z : ph.first + k + turn * length passes ≡ ph.first + i = omega (arith, is) in z)
