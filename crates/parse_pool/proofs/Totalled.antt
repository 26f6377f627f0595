-- How much an arena grows in a phase.
use Rattle.std.proofs.Common.{inl, inr, List, Option, [], ap, arith, drop, false, length, map, not, refl, subst, suc, sym, zero, ℕ, ⊎_elim, ◌*◌, ◌+◌, ◌<◌, ◌∙◌, ◌∷◌, ◌≡◌, ◌≤◌, ◌⊎◌}
use Rattle.arena_list.proofs.Words.Lists.{at_below}
use Rattle.std.specs.Prelude.{IsSome, sum_by}
use Rattle.std.proofs.lemmas.Bool.{cases_Bool, cases_lt, false≢true}
use Rattle.std.proofs.lemmas.List.{length-drop, length-take}
use Rattle.std.proofs.lemmas.List.Sums.{sum_by-cons}
use mathlib.Core.Option.{some, some-injective}
use lib.ListN.{get_elem?}
use Rattle.serial_arena.specs.Serial.{SerialState}
use Rattle.arena_list.specs.declared.entry.Entry.{Entry}
use Rattle.arena_list.specs.declared.for_clauses.view.Node.{Node}
use Rattle.arena_list.specs.Closing.Closed.{entry}
use Rattle.arena_list.specs.Rule.Founded.{caller, has, node_of}
use Rattle.arena_list.proofs.Rule.Opening.{at_has, filter_keeps, filter_tells, has_at}
use Rattle.arena_list.proofs.Words.Few.{at_map, at_mapped, len_map}
use Rattle.dyn_message.specs.declared.msg_ref.MsgRef.{MsgRef}
use Rattle.life_ids.specs.Cache.{CacheState}
use Rattle.ts_arena.proofs.Totals.{sum_parts}
use Rattle.ts_arena.specs.Arena.{ArenaState, IsArena}
use Rattle.ts_arena.specs.declared.pass.Pass.{Pass}
use Rattle.ts_arena.specs.Passes.{SharedState, AreFirstPasses, IsSharedFrom, caller_of, slot_of}
use Rattle.ts_arena.specs.Settling.{IsSettledFrom}
use Rattle.ts_arena.specs.Sharing.{empty_part}
use Rattle.ts_arena.specs.Sole.{parts_of}
use Rattle.parse_pool.specs.Arenas.{most_made, part_of}
use Rattle.parse_pool.specs.declared.pool_end.FrameResult.{FrameResult}
use Rattle.parse_pool.specs.declared.pool_end.PoolEnd.{PoolEnd}
use Rattle.parse_pool.specs.Parsed.{HasParsed}
use Rattle.parse_pool.specs.Phased.{HasRun}
use Rattle.parse_pool.specs.Phases.{PhaseState, frame_of, most_in, payload_at}
use Rattle.parse_pool.specs.Starting.{AreBelow, AreCounted}
use Rattle.parse_pool.proofs.AllMade.{payload_is}
use Rattle.parse_pool.proofs.AtWork.{AtWork, at_work, caller_is, grown_of}
use Rattle.parse_pool.proofs.Bounds.{all_dealt, dealt, in_dealt, sum_grows, sum_list, sum_some, sum_to}
use Rattle.parse_pool.proofs.Kept.{joined_as_before}
use Rattle.parse_pool.proofs.Picked.{New, Owned, Whose, own_number, picked}
use Rattle.parse_pool.proofs.Sides.{of_pass, owners_after}

-- what a frame of a phase, counted from its first, may add
abbrev added : PhaseState → ℕ → ℕ
added ph i = 4 * length (payload_at ph (ph.first + i)) + 4

most_is : (ph : PhaseState) (n k turns : ℕ) → ph.workers ≡ n → most_in ph k turns ≡ sum_to turns (λ t. added ph (k + t * n))
most_is ph n k zero sized = refl
most_is ph n k (suc turns) sized =
    let frame : frame_of ph k turns ≡ ph.first + (k + turns * n) = ap (λ (m : ℕ). ph.first + k + turns * m) sized ∙ (let z : ph.first + k + turns * n ≡ ph.first + (k + turns * n) = omega arith in z) in
    omega (arith, most_is ph n k turns sized, ap (λ (f : ℕ). length (payload_at ph f)) frame)

pub sum_mapped : {A : Type 0} (f : A → ℕ) (x : ℕ → ℕ) (es : List A) → sum_by (λ e. x (f e)) es ≡ sum_by x (map f es)
sum_mapped f x [] = refl
sum_mapped f x (e ∷ es) = omega (arith, sum_by-cons (λ y. x (f y)) e es, sum_by-cons x (f e) (map f es), sum_mapped f x es)

sum_of_payloads : (payloads : List (List ℕ)) → sum_by (λ p. 4 * length p + 4) payloads ≡ most_made payloads
sum_of_payloads [] = refl
sum_of_payloads (p ∷ ps) = omega (arith, sum_by-cons (λ (q : List ℕ). 4 * length q + 4) p ps, sum_by-cons (λ (q : List ℕ). length q) p ps, sum_of_payloads ps)

-- what all frames of a phase may add
all_added : (ph : PhaseState) → ph.first + ph.count ≤ length ph.payloads → sum_to ph.count (added ph) ≡ most_made (part_of ph.first ph.count ph.payloads)
all_added ph there =
    let payloads = part_of ph.first ph.count ph.payloads in
    let long : length payloads ≡ ph.count = omega (arith, there, length-take ph.count (drop ph.first ph.payloads), length-drop ph.first ph.payloads) in
    ap (λ (n : ℕ). sum_to n (added ph)) (sym long)
    ∙ sum_list (λ p. 4 * length p + 4) payloads (added ph) (λ i p at. ap (λ (q : List ℕ). 4 * length q + 4) (payload_is ph i p at))
    ∙ sum_of_payloads payloads

module _ (ph : PhaseState) (passes passes' : List Pass) (caches caches' : List CacheState) (messages : List MsgRef) (end : PoolEnd) (run : HasRun ph passes passes' caches caches' messages end) (long : length caches ≡ length passes) (after_long : length caches' ≡ length caches)
    (a : ArenaState) (sh : SharedState) (of : ph.shared ≡ sh) (numbers : List ℕ) (shared : IsSharedFrom a numbers sh) (first : AreFirstPasses a numbers sh passes) (counted : AreCounted numbers) (b : ArenaState) (settled : IsSettledFrom sh passes' b) (is_a : IsArena a) (is_b : IsArena b) where
  -- one entry for each caller
  one_entry : (i j : ℕ) (d e : Entry SerialState) → get_elem? b.owners i ≡ some d → get_elem? b.owners j ≡ some e → d.caller ≡ e.caller → (i ≡ j) × (d ≡ e)
  one_entry i j d e at_d at_e same =
      let index = is_b.owners.callers i j d.caller (at_map caller b.owners i d at_d) (at_map caller b.owners j e at_e ∙ ap (λ (n : ℕ). some n) (sym same)) in
      (index, some-injective d e (sym at_d ∙ ap (λ (n : ℕ). get_elem? b.owners n) index ∙ at_e))

  -- where an owner from before stands now
  still_there : (i : ℕ) (d : Entry SerialState) → get_elem? a.owners i ≡ some d → (e : Entry SerialState) × (get_elem? b.owners i ≡ some e) × (e.caller ≡ d.caller)
  still_there i d at =
      let node : get_elem? (map node_of b.owners) i ≡ some (node_of d) = settled.begun.same i (node_of d) (ap (λ (es : List (Entry SerialState)). get_elem? (map node_of es) i) shared.begun ∙ at_map node_of a.owners i d at) in
      let e = at_mapped node_of b.owners i (node_of d) node in
      (e.0, e.1, ap (λ (n : Node). n.caller) e.2)

  -- no owner from before stands behind them
  not_before : (i j : ℕ) (d e : Entry SerialState) → length a.owners ≤ i → get_elem? a.owners j ≡ some d → get_elem? b.owners i ≡ some e → d.caller ≡ e.caller → ⊥
  not_before i j d e high at_d at_e same =
      let still = still_there j d at_d in
      let index = (one_entry j i still.0 e still.1 at_e (still.2 ∙ same)).0 in
      omega (arith, high, index, at_below a.owners j d at_d)

  -- what became of the part of a worker
  pub record Turned (before after : SerialState) (k : ℕ) : Type 0 where
    pub low : k < length passes
    pub w : AtWork ph passes passes' caches caches' messages end run k
    pub parsed : HasParsed ph k w.turns before after w.new.results

  not_worker : (k : ℕ) → has numbers k ≡ false → length passes ≤ k
  not_worker k none = ⊎_elim
      (λ low. absurd (false≢true (sym none ∙ at_has numbers k k (own_number a sh numbers passes first counted k (omega (arith, low, first.count))))))
      (λ high. high)
      (cases_lt k (length passes))

  -- an owner from before: it is a worker that took its turns, or has what it had
  pub owner_became : (i : ℕ) (d e : Entry SerialState) → get_elem? a.owners i ≡ some d → get_elem? b.owners i ≡ some e → Turned d.part e.part e.caller ⊎ ((e.part ≡ d.part) × (length passes ≤ e.caller))
  owner_became i d e at_d at_e =
      let still = still_there i d at_d in
      let who : e.caller ≡ d.caller = sym (ap (λ (x : Entry SerialState). x.caller) (some-injective still.0 e (sym still.1 ∙ at_e))) ∙ still.2 in
      ⊎_elim
      (λ t.
      let j = has_at numbers d.caller t in
      let k = d.caller in
      let same : k ≡ j.0 = counted j.0 k j.1 in
      let low : k < length numbers = omega (arith, at_below numbers j.0 k j.1, same) in
      let low_pass : k < length passes = omega (arith, low, first.count) in
      let w = at_work ph passes passes' caches caches' messages end run long k low_pass in
      let own = (first.each k k w.first (own_number a sh numbers passes first counted k low) w.first_there).own i d at_d refl in
      let g = grown_of ph passes passes' caches caches' messages end run a b sh numbers first counted settled is_b k low w d.part own.1 (joined_as_before (slot_of w.first) (slot_of w.last) d.slot own.0 w.turned.slot) in
      let one = (one_entry g.index i (entry g.at k g.grown) e g.there at_e (sym who)).1 in
      inl (subst (λ (n : ℕ). Turned d.part e.part n) (sym who) (record { low = low_pass; w = w; parsed = subst (λ (x : Entry SerialState). HasParsed ph k w.turns d.part x.part w.new.results) one g.parsed })))
      (λ f.
      let among = filter_keeps (λ (x : Entry SerialState). not (has numbers x.caller)) a.owners i d at_d (ap not f) in
      let there = settled.rested d (among.0, ap (λ (es : List (Entry SerialState)). get_elem? es among.0) shared.resting_are ∙ among.1) in
      let one = (one_entry there.0 i d e there.1 at_e (sym who)).1 in
      inr (ap (λ (x : Entry SerialState). x.part) (sym one), omega (arith, not_worker d.caller f, who)))
      (cases_Bool (has numbers d.caller))

  picked_part : (k : ℕ) (part : SerialState) → Whose a k part → ((j : ℕ) (d : Entry SerialState) → get_elem? a.owners j ≡ some d → d.caller ≡ k → ⊥) → (at : ℕ) × (part ≡ empty_part a.policy a.life k at)
  picked_part k part (Owned d j at who same) fresh = absurd (fresh j d at who)
  picked_part k part (New at new free) fresh = (at, new)

  -- a new owner: it is a worker that began with nothing
  pub new_became : (i : ℕ) (e : Entry SerialState) → length a.owners ≤ i → get_elem? b.owners i ≡ some e → (at : ℕ) × Turned (empty_part a.policy a.life e.caller at) e.part e.caller
  new_became i e high at = ⊎_elim
      (λ u.
      let k = u.0 in
      let w = of_pass ph passes passes' caches caches' messages end run long after_long a sh of numbers shared first counted k u.1 u.2 in
      let low : k < length numbers = omega (arith, w.2, first.count) in
      let p = picked a sh numbers passes first counted k w.0.first low w.0.first_there in
      let joined : IsSome (slot_of w.0.last) = subst (λ (x : Option ℕ). IsSome x) (sym (ap (λ (x : Pass). slot_of x) w.1 ∙ u.3)) refl in
      let g = grown_of ph passes passes' caches caches' messages end run a b sh numbers first counted settled is_b k low w.0 p.part p.has_part joined in
      let who : caller_of w.0.last ≡ k = w.0.turned.caller ∙ caller_is ph passes passes' caches caches' messages end run a b sh numbers first counted settled is_b k w.0.first low w.0.first_there in
      let mine : e.caller ≡ k = sym u.4 ∙ ap (λ (x : Pass). caller_of x) (sym w.1) ∙ who in
      let one = (one_entry g.index i (entry g.at k g.grown) e g.there at (sym mine)).1 in
      let new = picked_part k p.part p.whose (λ j d at_d is. not_before i j d e high at_d at (is ∙ sym mine)) in
      let parsed = subst (λ (s : SerialState). HasParsed ph k w.0.turns s e.part w.0.new.results) new.1 (subst (λ (x : Entry SerialState). HasParsed ph k w.0.turns p.part x.part w.0.new.results) one g.parsed) in
      (new.0, subst (λ (n : ℕ). Turned (empty_part a.policy a.life n new.0) e.part n) (sym mine) (record { low = w.2; w = w.0; parsed = parsed })))
      (λ u.
      let there = filter_tells (λ (x : Entry SerialState). not (has numbers x.caller)) a.owners u.0 e (ap (λ (es : List (Entry SerialState)). get_elem? es u.0) (sym shared.resting_are) ∙ u.1) in
      absurd (not_before i there.0 e e high there.1 at refl))
      (settled.known e (i, at))

module _ (ph : PhaseState) (passes passes' : List Pass) (caches caches' : List CacheState) (messages : List MsgRef) (end : PoolEnd) (run : HasRun ph passes passes' caches caches' messages end) (long : length caches ≡ length passes) (after_long : length caches' ≡ length caches)
    (a : ArenaState) (sh : SharedState) (of : ph.shared ≡ sh) (numbers : List ℕ) (shared : IsSharedFrom a numbers sh) (first : AreFirstPasses a numbers sh passes) (counted : AreCounted numbers) (b : ArenaState) (settled : IsSettledFrom sh passes' b) (is_a : IsArena a) (is_b : IsArena b)
    (sized : ph.workers ≡ length passes) (P : SerialState → ℕ) (none : (k at : ℕ) → P (empty_part a.policy a.life k at) ≡ 0) (grows : (part grown : SerialState) (k turns : ℕ) (results : List FrameResult) → HasParsed ph k turns part grown results → P grown ≤ P part + most_in ph k turns) where
  -- what the turns of a worker may add, by the worker
  abbrev share : ℕ → ℕ
  share k = dealt (length passes) (added ph) ph.count k

  turns_add : (k : ℕ) (w : AtWork ph passes passes' caches caches' messages end run k) → k < length passes → most_in ph k w.turns ≤ share k
  turns_add k w low =
      let within : (t : ℕ) → t < w.turns → k + t * length passes < ph.count = λ t less.
      let here = w.turned.there t less in
      let frame : ph.first + k + t * ph.workers ≡ ph.first + k + t * length passes = ap (λ (n : ℕ). ph.first + k + t * n) sized in
      omega (arith, here, frame) in
      omega (arith, most_is ph (length passes) k w.turns sized, in_dealt (length passes) (added ph) k low ph.count w.turns within)

  old_grows : (i : ℕ) (d e : Entry SerialState) → get_elem? a.owners i ≡ some d → get_elem? b.owners i ≡ some e → P e.part ≤ P d.part + share e.caller
  old_grows i d e at_d at_e = ⊎_elim
      (λ t. omega (arith, grows d.part e.part e.caller t.w.turns t.w.new.results t.parsed, turns_add e.caller t.w t.low))
      (λ s. omega (arith, ap P s.0))
      (owner_became ph passes passes' caches caches' messages end run long after_long a sh of numbers shared first counted b settled is_a is_b i d e at_d at_e)

  -- a new owner has what its turns added
  new_grows : (i : ℕ) (e : Entry SerialState) → length a.owners ≤ i → get_elem? b.owners i ≡ some e → P e.part ≤ share e.caller
  new_grows i e high at =
      let n = new_became ph passes passes' caches caches' messages end run long after_long a sh of numbers shared first counted b settled is_a is_b i e high at in
      let t = n.1 in
      omega (arith, none e.caller n.0, grows (empty_part a.policy a.life e.caller n.0) e.part e.caller t.w.turns t.w.new.results t.parsed, turns_add e.caller t.w t.low)

  pub total_grows : AreBelow 64 a.owners → 1 ≤ length passes → length passes ≤ 64 → ph.first + ph.count ≤ length ph.payloads
      → sum_by P (parts_of b) ≤ sum_by P (parts_of a) + most_made (part_of ph.first ph.count ph.payloads)
  total_grows below some_worker few there =
      let after = owners_after ph passes passes' caches caches' messages end run long after_long a sh of numbers shared first counted b settled is_a is_b in
      let short : length a.owners ≤ length b.owners = omega (arith, settled.begun.short, len_map node_of b.owners, len_map node_of a.owners, ap (λ (es : List (Entry SerialState)). length (map node_of es)) shared.begun) in
      let low : (i k : ℕ) → get_elem? (map caller b.owners) i ≡ some k → k < 64 = λ i k at.
      let e = at_mapped caller b.owners i k at in
      ⊎_elim (λ h. omega (arith, below h.0 h.1, h.2, e.2)) (λ l. omega (arith, l, few, e.2)) (after.others e.0 (i, e.1)) in
      let owners = sum_grows (λ (e : Entry SerialState). P e.part) (λ (e : Entry SerialState). share e.caller) a.owners b.owners short old_grows new_grows in
      let callers = sum_some 64 share (map caller b.owners) is_b.owners.callers low in
      omega (
        arith,
        owners,
        callers,
        sum_mapped (λ (e : Entry SerialState). e.caller) share b.owners,
        all_dealt 64 (length passes) (added ph) ph.count some_worker few,
        all_added ph there,
        sum_parts P a.owners a.adopted,
        sum_parts P b.owners b.adopted,
        ap (λ (ss : List SerialState). sum_by P ss) (settled.adopted_are ∙ shared.adopted_are),
      )
