-- What a phase leaves of the arena: its owners, the caches, the passes, and why it ended.
use Rattle.std.proofs.Common.{◌≡◌, ◌+◌, ◌-◌, ◌*◌, ◌<◌, ◌≤◌, ℕ, zero, suc, not, List, length, drop, map, None, Some, refl, sym, ap, ◌∙◌, inl, inr, ⊎_elim, arith, subst}
use Rattle.std.proofs.lemmas.List.{length-drop, length-take}
use Rattle.std.proofs.lemmas.Nat.{mul-le}
use mathlib.Core.Option.{some, some-injective}
use lib.ListN.{get_elem?}
use Rattle.serial_arena.specs.Serial.{SerialState, places_of}
use Rattle.arena_list.specs.declared.entry.Entry.{Entry}
use Rattle.arena_list.specs.Closing.Closed.{entry}
use Rattle.arena_list.specs.Rule.Founded.{has, node_of}
use Rattle.arena_list.specs.Words.Nodes.{Begins}
use Rattle.arena_list.proofs.Rule.Opening.{filter_tells}
use Rattle.arena_list.proofs.Words.Lists.{at_below, at_there}
use Rattle.pb_schema.specs.Fault.{fault_of}
use Rattle.pb_schema.specs.declared.wire_fault.WireFault.{WireFault}
use Rattle.dyn_message.specs.declared.msg_ref.MsgRef.{MsgRef}
use Rattle.dyn_message.specs.Feet.{InPlace}
use Rattle.dyn_message.proofs.Opening.{record_among}
use Rattle.dyn_message.proofs.There.{message_there}
use Rattle.life_ids.specs.Cache.{CacheState}
use Rattle.ts_arena.specs.Arena.{ArenaState, IsArena}
use Rattle.ts_arena.specs.declared.pass.Pass.{Pass}
use Rattle.ts_arena.specs.Passes.{SharedState, AreAllOf, AreFirstPasses, FitsPass, IsPassOf, IsSharedFrom, caller_of, made_by, slot_of}
use Rattle.ts_arena.specs.Settling.{IsSettledFrom}
use Rattle.parse_pool.specs.Arenas.{AreAfter, AreEarly, AreOwnersAfter, IsBad, part_of}
use Rattle.parse_pool.specs.declared.pool_end.PoolEnd.{PoolEnd}
use Rattle.parse_pool.specs.declared.pool_end.PoolEnd.TheVariants.{BadFrame, Done}
use Rattle.parse_pool.specs.Ends.{HasEnded}
use Rattle.parse_pool.specs.Parsed.{shape_at}
use Rattle.parse_pool.specs.Phased.{HasRun}
use Rattle.parse_pool.specs.Phases.{PhaseState, payload_at}
use Rattle.parse_pool.specs.Starting.{AreCounted, FitOwners, FitPasses}
use Rattle.parse_pool.proofs.AllMade.{payload_is}
use Rattle.parse_pool.proofs.AtWork.{AtWork, at_work, caller_is}
use Rattle.parse_pool.proofs.MadeAt.{made_at}

module _ (ph : PhaseState) (passes passes' : List Pass) (caches caches' : List CacheState) (messages : List MsgRef) (end : PoolEnd) (run : HasRun ph passes passes' caches caches' messages end) (long : length caches ≡ length passes) (after_long : length caches' ≡ length caches)
    (a : ArenaState) (sh : SharedState) (of : ph.shared ≡ sh) (numbers : List ℕ) (shared : IsSharedFrom a numbers sh) (first : AreFirstPasses a numbers sh passes) (counted : AreCounted numbers) where
  workers_are : length run.worked ≡ length passes
  workers_are = run.work.count ∙ run.begun.count

  pub passes_are : length passes' ≡ length passes
  passes_are = run.left.count ∙ workers_are

  -- the worker of a pass
  pub of_pass : (k : ℕ) (p : Pass) → get_elem? passes' k ≡ some p → (w : AtWork ph passes passes' caches caches' messages end run k) × (w.last ≡ p) × (k < length passes)
  of_pass k p at =
      let low : k < length passes = omega (arith, at_below passes' k p at, passes_are) in
      let w = at_work ph passes passes' caches caches' messages end run long k low in
      (w, some-injective w.last p (sym w.last_there ∙ at), low)

  -- all passes are of the arena, and none is missing
  pub all_of : AreAllOf sh passes'
  all_of k p at = let w = of_pass k p at in subst (λ (x : Pass). IsPassOf sh x) w.1 (subst (λ (s : SharedState). IsPassOf s w.0.last) of w.0.turned.made)

  pub none_missing : length passes' ≡ made_by sh
  none_missing = omega (arith, passes_are, first.count, shared.made)

  -- each cache fits the pass at its place
  cache_at : (k : ℕ) (cache : CacheState) → get_elem? caches' k ≡ some cache → (w : AtWork ph passes passes' caches caches' messages end run k) × (cache ≡ w.new.cache) × (k < length passes)
  cache_at k cache at =
      let low : k < length passes = omega (arith, at_below caches' k cache at, after_long, long) in
      let w = at_work ph passes passes' caches caches' messages end run long k low in
      (w, run.left.cache k w.new cache w.there at, low)

  pub fit_passes : FitPasses caches' passes'
  fit_passes k cache p at_cache at_pass =
      let c = cache_at k cache at_cache in
      let same : c.0.last ≡ p = some-injective c.0.last p (sym c.0.last_there ∙ at_pass) in
      subst (λ (x : Pass). FitsPass cache x) same (subst (λ (x : CacheState). FitsPass x c.0.last) (sym c.1) c.0.turned.fits)

  pub caches_after : AreAfter a.life caches caches'
  caches_after = record {
    count = after_long;
    each = λ k old new at_old at_new.
        let c = cache_at k new at_new in
        let same : c.0.cache ≡ old = some-injective c.0.cache old (sym c.0.cache_there ∙ at_old) in
        ⊎_elim (λ u. inl (c.1 ∙ u.0 ∙ same)) (λ u. inr (ap (λ (x : CacheState). x.life) c.1 ∙ u.0 ∙ ap (λ (s : SharedState). s.life) of ∙ shared.life_is)) c.0.turned.cached;
  }

  -- IT IS SETTLED
  module _ (b : ArenaState) (settled : IsSettledFrom sh passes' b) (is_a : IsArena a) (is_b : IsArena b) where
    first_of : (k : ℕ) (w : AtWork ph passes passes' caches caches' messages end run k) → k < length passes → caller_of w.last ≡ k
    first_of k w low = w.turned.caller ∙ caller_is ph passes passes' caches caches' messages end run a b sh numbers first counted settled is_b k w.first (omega (arith, low, first.count)) w.first_there

    pub owners_after : AreOwnersAfter (length passes) a b
    owners_after = record {
      begun = subst (λ (es : List (Entry SerialState)). Begins (map node_of es) (map node_of b.owners)) shared.begun settled.begun;
      others = λ e among. ⊎_elim
          (λ u.
          let w = of_pass u.0 u.1 u.2 in
          let who : e.caller ≡ u.0 = sym u.4 ∙ ap (λ (x : Pass). caller_of x) (sym w.1) ∙ first_of u.0 w.0 w.2 in
          inr (omega (arith, who, w.2)))
          (λ u.
          let among' = filter_tells (λ (x : Entry SerialState). not (has numbers x.caller)) a.owners u.0 e (ap (λ (es : List (Entry SerialState)). get_elem? es u.0) (sym shared.resting_are) ∙ u.1) in
          inl (e, (among'.0, among'.1), refl, refl))
          (settled.known e among);
    }

    -- a cache of the arena's life has its owner's slot
    pub fit_owners : FitOwners b.life b.owners caches'
    fit_owners k cache at life =
        let c = cache_at k cache at in
        let w = c.0 in
        let made : IsPassOf sh w.last = subst (λ (s : SharedState). IsPassOf s w.last) of w.turned.made in
        let slot : slot_of w.last ≡ Some cache.slot = subst (λ (x : CacheState). FitsPass x w.last) (sym c.1) w.turned.fits (life ∙ settled.life_is ∙ sym made.life_is) in
        let there = settled.joined k cache.slot w.last made.part w.last_there slot made.has_part in
        (entry cache.slot (caller_of w.last) made.part, there, first_of k w c.2, refl)

    -- the first frames stand in the parts of their workers
    module _ (sized : ph.workers ≡ length passes) (done : end ≡ Done) where
      first_turn : (n k turn w : ℕ) → w ≡ k + turn * n → w < n → k ≡ w
      first_turn n k zero w is low = omega (arith, is)
      first_turn n k (suc turn) w is low = let more = mul-le 1 n (suc turn) n (omega arith) (omega arith) in absurd (omega (arith, is, low, more))

      pub early : AreEarly (length passes) b messages
      early w msg low at =
          let m = made_at ph passes passes' caches caches' messages end run long sized a b sh numbers first counted settled is_a is_b done w msg at in
          let who : m.k ≡ w = first_turn (length passes) m.k m.turn w m.is low in
          let shape = shape_at ph (ph.first + w) in
          let among = record_among ph.schema (places_of m.g.grown) _ msg shape m.own m.stands_part in
          (entry m.g.at m.k m.g.grown, (m.g.index, m.g.there), who, message_there ph.schema (places_of m.g.grown) _ msg.type_no msg.place shape m.own m.stands_part.message (InPlace msg.place) among)

  -- WHY IT ENDED

  pub bad_frame : (index : ℕ) (fault : WireFault) → ph.first + ph.count ≤ length ph.payloads → HasEnded ph run.worked (BadFrame index fault) → IsBad ph.schema ph.root ph.first (part_of ph.first ph.count ph.payloads) index fault
  unfolding Rattle.parse_pool.specs.Phases.fault_at
  bad_frame index fault there ended =
      let payloads = part_of ph.first ph.count ph.payloads in
      let low : index - ph.first < length payloads = omega (arith, ended.0, ended.1, there, length-take ph.count (drop ph.first ph.payloads), length-drop ph.first ph.payloads) in
      let p = at_there payloads (index - ph.first) low in
      let index_is : index ≡ ph.first + (index - ph.first) = omega (arith, ended.0) in
      let payload = payload_is ph (index - ph.first) p.0 p.1 in
      record {
        at = index - ph.first;
        index_is = index_is;
        payload = p.0;
        there = p.1;
        fault_is = subst (λ (y : List ℕ). fault_of ph.schema ph.root 0 y ≡ Some fault) payload (subst (λ (n : ℕ). fault_of ph.schema ph.root 0 (payload_at ph n) ≡ Some fault) index_is ended.2);
        least = λ j earlier before at.
            subst (λ (y : List ℕ). fault_of ph.schema ph.root 0 y ≡ None) (payload_is ph j earlier at) (ended.3 (ph.first + j) (omega arith) (omega (arith, before, ended.0)));
      }
