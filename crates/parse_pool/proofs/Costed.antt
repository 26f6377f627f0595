-- What a phase costs an arena, where all frames were parsed.
use Rattle.std.proofs.Common.{◌≡◌, ◌⊎◌, ◌+◌, ◌*◌, ◌<◌, ◌≤◌, ℕ, zero, suc, List, length, map, drop, refl, sym, ap, ◌∙◌, inl, inr, ⊎_elim, arith, subst}
use Rattle.std.proofs.lemmas.Bool.{cases_lt}
use Rattle.std.specs.Prelude.{sum_by}
use Rattle.std.specs.FinMap as fin
use Rattle.std.proofs.lemmas.List.{length-drop, length-take}
use mathlib.Core.Option.{some}
use lib.ListN.{get_elem?}
use Rattle.arena_mem.specs.Places.{used}
use Rattle.arena_mem.proofs.Maps.{used-empty}
use Rattle.serial_arena.specs.Serial.{SerialState, buffers_of, places_of}
use Rattle.arena_list.specs.declared.entry.Entry.{Entry}
use Rattle.arena_list.specs.Closing.Closed.{entry}
use Rattle.arena_list.specs.Rule.Founded.{caller, node_of}
use Rattle.arena_list.proofs.Words.Few.{at_map, at_mapped, len_map}
use Rattle.dyn_message.specs.declared.msg_ref.MsgRef.{MsgRef}
use Rattle.life_ids.specs.Cache.{CacheState}
use Rattle.pb_schema.specs.Meter.{Meter, cleanups}
use Rattle.pb_parse.specs.Costs.{record_meter}
use Rattle.pb_parse.specs.Whole.{payload_cost}
use Rattle.ts_arena.proofs.Totals.{registered_parts, sum_parts, used_parts}
use Rattle.ts_arena.specs.Arena.{ArenaState, IsArena}
use Rattle.ts_arena.specs.declared.pass.Pass.{Pass}
use Rattle.ts_arena.specs.Passes.{SharedState, AreFirstPasses, IsSharedFrom}
use Rattle.ts_arena.specs.Settling.{IsSettledFrom}
use Rattle.ts_arena.specs.Sharing.{empty_part}
use Rattle.ts_arena.specs.Sole.{parts_of}
use Rattle.parse_pool.specs.Arenas.{CostsArena, part_of}
use Rattle.parse_pool.specs.declared.pool_end.FrameResult.{FrameResult}
use Rattle.parse_pool.specs.declared.pool_end.PoolEnd.{PoolEnd}
use Rattle.parse_pool.specs.declared.pool_end.PoolEnd.TheVariants.{Done}
use Rattle.parse_pool.specs.Ends.{HasEnded}
use Rattle.parse_pool.specs.Parsed.{HasParsed}
use Rattle.parse_pool.specs.Phased.{HasRun}
use Rattle.parse_pool.specs.Phases.{PhaseState, cost_at, cost_in, end_of, frame_of}
use Rattle.parse_pool.specs.Starting.{AreBelow, AreCounted}
use Rattle.parse_pool.proofs.AllMade.{payload_is}
use Rattle.parse_pool.proofs.AtWork.{AtWork, at_work, grown_of}
use Rattle.parse_pool.proofs.Bounds.{all_dealt, dealt, sum_list, sum_to}
use Rattle.parse_pool.proofs.Exact.{IsNumberIn, is_dealt, none_dealt, sum_all, sum_equals}
use Rattle.parse_pool.proofs.Picked.{picked}
use Rattle.parse_pool.proofs.Sides.{owners_after}
use Rattle.parse_pool.proofs.Totalled.{Turned, new_became, owner_became, sum_mapped}

module _ (meter : Meter) (ph : PhaseState) where
  -- what a frame of a phase, counted from its first, costs
  abbrev pub costs_of : ℕ → ℕ
  costs_of i = cost_at meter ph (ph.first + i)

  costs_are : (n k turns : ℕ) → ph.workers ≡ n → cost_in meter ph k turns ≡ sum_to turns (λ t. costs_of (k + t * n))
  costs_are n k zero sized = refl
  costs_are n k (suc turns) sized =
      let frame : frame_of ph k turns ≡ ph.first + (k + turns * n) = ap (λ (m : ℕ). ph.first + k + turns * m) sized ∙ (let z : ph.first + k + turns * n ≡ ph.first + (k + turns * n) = omega arith in z) in
      omega (arith, costs_are n k turns sized, ap (λ (f : ℕ). cost_at meter ph f) frame)

  -- what all frames of a phase cost
  all_costs : ph.first + ph.count ≤ length ph.payloads → sum_to ph.count costs_of ≡ sum_by (λ (p : List ℕ). payload_cost meter ph.schema ph.root p) (part_of ph.first ph.count ph.payloads)
  all_costs there =
      let payloads = part_of ph.first ph.count ph.payloads in
      let long : length payloads ≡ ph.count = omega (arith, there, length-take ph.count (drop ph.first ph.payloads), length-drop ph.first ph.payloads) in
      ap (λ (n : ℕ). sum_to n costs_of) (sym long)
      ∙ sum_list (λ (p : List ℕ). payload_cost meter ph.schema ph.root p) payloads costs_of (λ i p at. ap (λ (q : List ℕ). payload_cost meter ph.schema ph.root q) (payload_is ph i p at))

module _ (ph : PhaseState) (passes passes' : List Pass) (caches caches' : List CacheState) (messages : List MsgRef) (end : PoolEnd) (run : HasRun ph passes passes' caches caches' messages end) (long : length caches ≡ length passes) (after_long : length caches' ≡ length caches)
    (a : ArenaState) (sh : SharedState) (of : ph.shared ≡ sh) (numbers : List ℕ) (shared : IsSharedFrom a numbers sh) (first : AreFirstPasses a numbers sh passes) (counted : AreCounted numbers) (b : ArenaState) (settled : IsSettledFrom sh passes' b) (is_a : IsArena a) (is_b : IsArena b)
    (sized : ph.workers ≡ length passes) (below : AreBelow 64 a.owners) (some_worker : 1 ≤ length passes) (few : length passes ≤ 64) (there : ph.first + ph.count ≤ length ph.payloads) (done : end ≡ Done) where
  -- a worker took all of its turns
  turns_past : (k : ℕ) (w : AtWork ph passes passes' caches caches' messages end run k) → (length w.new.results ≡ w.turns) × (ph.count ≤ k + w.turns * length passes)
  turns_past k w =
      let ended : HasEnded ph run.worked Done = subst (λ (e : PoolEnd). HasEnded ph run.worked e) done run.ended in
      let past : end_of ph ≤ frame_of ph k (length w.new.results) = subst (λ (n : ℕ). end_of ph ≤ frame_of ph n (length w.new.results)) w.number_is (ended.0 k w.new w.there) in
      let all : length w.new.results ≡ w.turns = ⊎_elim
      (λ less. let within = w.turned.there (length w.new.results) less in absurd (omega (arith, within, past)))
      (λ more. omega (arith, more, w.turned.begun.0))
      (cases_lt (length w.new.results) w.turns) in
      (all, omega (arith, past, ap (λ (n : ℕ). ph.first + k + n * ph.workers) all, ap (λ (n : ℕ). w.turns * n) sized))

  turns_cost : (meter : Meter) (k : ℕ) (w : AtWork ph passes passes' caches caches' messages end run k) → k < length passes → cost_in meter ph k w.turns ≡ dealt (length passes) (costs_of meter ph) ph.count k
  turns_cost meter k w low =
      let within : (t : ℕ) → t < w.turns → k + t * length passes < ph.count = λ t less.
      let here = w.turned.there t less in
      let frame : ph.first + k + t * ph.workers ≡ ph.first + k + t * length passes = ap (λ (n : ℕ). ph.first + k + t * n) sized in
      omega (arith, here, frame) in
      costs_are meter ph (length passes) k w.turns sized ∙ is_dealt (length passes) (costs_of meter ph) k low ph.count w.turns within (turns_past k w).1

  -- a worker that has a turn owns a part
  has_joined : (meter : Meter) (k : ℕ) → k < 64 → IsNumberIn (map caller b.owners) k ⊎ (dealt (length passes) (costs_of meter ph) ph.count k ≡ 0)
  has_joined meter k small = ⊎_elim
      (λ low.
      let w = at_work ph passes passes' caches caches' messages end run long k low in
      ⊎_elim
      (λ some.
      let below_numbers : k < length numbers = omega (arith, low, first.count) in
      let p = picked a sh numbers passes first counted k w.first below_numbers w.first_there in
      let g = grown_of ph passes passes' caches caches' messages end run a b sh numbers first counted settled is_b k below_numbers w p.part p.has_part (w.turned.joined (omega (arith, some, (turns_past k w).0))) in
      inl (g.index, at_map caller b.owners g.index (entry g.at k g.grown) g.there))
      (λ none.
      let zero_turns : w.turns ≡ 0 = omega (arith, none) in
      inr (sym (turns_cost meter k w low) ∙ ap (λ (t : ℕ). cost_in meter ph k t) zero_turns))
      (cases_lt 0 w.turns))
      (λ high. inr (none_dealt (length passes) (costs_of meter ph) ph.count k some_worker high))
      (cases_lt k (length passes))

  module _ (meter : Meter) (P : SerialState → ℕ) (none : (k at : ℕ) → P (empty_part a.policy a.life k at) ≡ 0) (costs : (part grown : SerialState) (k turns : ℕ) (results : List FrameResult) → length results ≡ turns → HasParsed ph k turns part grown results → P grown ≡ P part + cost_in meter ph k turns) where
    abbrev dealt_to : ℕ → ℕ
    dealt_to k = dealt (length passes) (costs_of meter ph) ph.count k

    turned_costs : (before after : SerialState) (k : ℕ) → Turned ph passes passes' caches caches' messages end run long after_long a sh of numbers shared first counted b settled is_a is_b before after k → P after ≡ P before + dealt_to k
    turned_costs before after k t = omega (arith, costs before after k t.w.turns t.w.new.results (turns_past k t.w).0 t.parsed, turns_cost meter k t.w t.low)

    pub total_costs : sum_by P (parts_of b) ≡ sum_by P (parts_of a) + sum_by (λ (p : List ℕ). payload_cost meter ph.schema ph.root p) (part_of ph.first ph.count ph.payloads)
    total_costs =
        let after = owners_after ph passes passes' caches caches' messages end run long after_long a sh of numbers shared first counted b settled is_a is_b in
        let short : length a.owners ≤ length b.owners = omega (arith, settled.begun.short, len_map node_of b.owners, len_map node_of a.owners, ap (λ (es : List (Entry SerialState)). length (map node_of es)) shared.begun) in
        let low : (i k : ℕ) → get_elem? (map caller b.owners) i ≡ some k → k < 64 = λ i k at.
        let e = at_mapped caller b.owners i k at in
        ⊎_elim (λ h. omega (arith, below h.0 h.1, h.2, e.2)) (λ l. omega (arith, l, few, e.2)) (after.others e.0 (i, e.1)) in
        let owners = sum_equals (λ (e : Entry SerialState). P e.part) (λ (e : Entry SerialState). dealt_to e.caller) a.owners b.owners short
        (λ i d e at_d at_e. ⊎_elim
        (λ t. turned_costs d.part e.part e.caller t)
        (λ s. omega (arith, ap P s.0, none_dealt (length passes) (costs_of meter ph) ph.count e.caller some_worker s.1))
        (owner_became ph passes passes' caches caches' messages end run long after_long a sh of numbers shared first counted b settled is_a is_b i d e at_d at_e))
        (λ i e high at.
        let n = new_became ph passes passes' caches caches' messages end run long after_long a sh of numbers shared first counted b settled is_a is_b i e high at in
        omega (arith, none e.caller n.0, turned_costs (empty_part a.policy a.life e.caller n.0) e.part e.caller n.1)) in
        let callers = sum_all 64 dealt_to (map caller b.owners) is_b.owners.callers low (λ k small. has_joined meter k small) in
        omega (
          arith,
          owners,
          callers,
          sum_mapped (λ (e : Entry SerialState). e.caller) dealt_to b.owners,
          all_dealt 64 (length passes) (costs_of meter ph) ph.count some_worker few,
          all_costs meter ph there,
          sum_parts P a.owners a.adopted,
          sum_parts P b.owners b.adopted,
          ap (λ (ss : List SerialState). sum_by P ss) (settled.adopted_are ∙ shared.adopted_are),
        )

  pub arena_costs : CostsArena ph.schema ph.root (part_of ph.first ph.count ph.payloads) a b
  arena_costs = record {
    space = omega (
      arith,
      used_parts a is_a,
      used_parts b is_b,
      total_costs (record_meter ph.schema) (λ (s : SerialState). used (places_of s)) (λ k at. used-empty) (λ part grown k turns results all parsed. let c = parsed.costs all in omega (arith, c.space)),
    );
    kept = omega (
      arith,
      registered_parts a is_a,
      registered_parts b is_b,
      total_costs cleanups (λ (s : SerialState). fin.len (buffers_of s)) (λ k at. fin.len-empty _ _) (λ part grown k turns results all parsed. let c = parsed.costs all in omega (arith, c.kept)),
    );
  }
