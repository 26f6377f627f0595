-- All messages of a phase, in the arena that is settled behind it.
use Rattle.std.proofs.Common.{◌≡◌, ◌+◌, ◌≤◌, ℕ, zero, suc, List, [], ◌∷◌, ◌++◌, length, drop, Some, refl, sym, ap, ◌∙◌, ⊎_elim, arith, subst}
use Rattle.std.specs.Prelude.{slice_get, unwrap_or}
use Rattle.std.specs.List.{concat}
use Rattle.std.proofs.lemmas.List.{length-drop, length-take}
use mathlib.Core.Option.{some, some-injective, some-ne-none}
use lib.ListN.{get_elem?}
use Rattle.dyn_message.specs.declared.msg_ref.MsgRef.{MsgRef}
use Rattle.dyn_message.specs.Feet.{Foot, IsAmong, Once}
use Rattle.dyn_message.specs.Stands.{Stands}
use Rattle.dyn_message.proofs.Counting.{among_or, times_join}
use Rattle.pb_schema.specs.Tree.{tree_map}
use Rattle.pb_schema.specs.TreeOf.{tree_of}
use Rattle.pb_parse.specs.Whole.{shape_of_payload}
use Rattle.life_ids.specs.Cache.{CacheState}
use Rattle.ts_arena.proofs.Finding.{at_take}
use Rattle.ts_arena.specs.Arena.{ArenaState, IsArena}
use Rattle.ts_arena.specs.declared.pass.Pass.{Pass}
use Rattle.ts_arena.specs.Passes.{SharedState, AreFirstPasses}
use Rattle.ts_arena.specs.Settling.{IsSettledFrom}
use Rattle.ts_arena.specs.Sole.{arena_buffers, arena_places}
use Rattle.parse_pool.specs.Arenas.{AllParsed, AreParsed, IsMessageOf, part_of}
use Rattle.parse_pool.specs.declared.pool_end.PoolEnd.{PoolEnd}
use Rattle.parse_pool.specs.declared.pool_end.PoolEnd.TheVariants.{Done}
use Rattle.parse_pool.specs.Phased.{HasRun}
use Rattle.parse_pool.specs.Phases.{PhaseState, payload_at}
use Rattle.parse_pool.specs.Starting.{AreCounted}
use Rattle.parse_pool.proofs.MadeAt.{MadeAt, apart, made_at, stands_in_arena}

-- THE PAYLOADS

in_slice : {A : Type 0} (xs : List A) (i : ℕ) (x : A) → get_elem? xs i ≡ some x → slice_get xs i ≡ Some x
in_slice [] i x e = absurd (some-ne-none x (sym e))
in_slice (y ∷ xs) zero x e = ap (λ z. Some z) (some-injective y x e)
in_slice (y ∷ xs) (suc i) x e = in_slice xs i x e

at_dropped : {A : Type 0} (xs : List A) (n i : ℕ) → get_elem? (drop n xs) i ≡ get_elem? xs (n + i)
at_dropped xs zero i = ap (λ k. get_elem? xs k) (let z : i ≡ 0 + i = omega arith in z)
at_dropped [] (suc n) i = refl
at_dropped (x ∷ xs) (suc n) i = at_dropped xs n i ∙ ap (λ k. get_elem? (x ∷ xs) k) (let z : suc (n + i) ≡ suc n + i = omega arith in z)

-- the payloads of a phase are those of its frames
pub payload_is : (ph : PhaseState) (i : ℕ) (payload : List ℕ) → get_elem? (part_of ph.first ph.count ph.payloads) i ≡ some payload → payload_at ph (ph.first + i) ≡ payload
payload_is ph i payload e = ap (λ o. unwrap_or o []) (in_slice ph.payloads (ph.first + i) payload (sym (at_dropped ph.payloads ph.first i) ∙ (at_take (drop ph.first ph.payloads) ph.count i payload e).0))

module _ (ph : PhaseState) (passes passes' : List Pass) (caches caches' : List CacheState) (messages : List MsgRef) (end : PoolEnd) (run : HasRun ph passes passes' caches caches' messages end) (long : length caches ≡ length passes) (sized : ph.workers ≡ length passes)
    (a b : ArenaState) (sh : SharedState) (numbers : List ℕ) (first : AreFirstPasses a numbers sh passes) (counted : AreCounted numbers) (settled : IsSettledFrom sh passes' b) (is_a : IsArena a) (is_b : IsArena b) (done : end ≡ Done) where
  abbrev Made : ℕ → MsgRef → Type 0
  Made i msg = MadeAt ph passes passes' caches caches' messages end run long sized a b sh numbers first counted settled is_a is_b i msg

  -- the messages from one on, all for their payloads
  record From (i : ℕ) (payloads : List (List ℕ)) (ms : List MsgRef) : Type 0 where
    pub feet : List Foot
    pub stand : AllParsed ph.schema ph.root b payloads ms feet
    pub once : Once feet
    pub whose : (foot : Foot) → IsAmong foot feet → (j : ℕ) × (msg : MsgRef) × (m : Made j msg) × (i ≤ j) × IsAmong foot m.own

  here_parsed : (i : ℕ) (payload : List ℕ) (msg : MsgRef) (m : Made i msg) → payload_at ph (ph.first + i) ≡ payload → IsMessageOf ph.schema ph.root b payload msg m.own
  here_parsed i payload msg m is = record {
    type = m.type;
    stands = subst (λ (y : List ℕ). Stands ph.schema (arena_places b) (arena_buffers b) msg (shape_of_payload ph.schema ph.root y) m.own) is (stands_in_arena ph passes passes' caches caches' messages end run long sized a b sh numbers first counted settled is_a is_b i msg m);
    tree = subst (λ (y : List ℕ). tree_of ph.schema ph.root y ≡ Some (tree_map concat (shape_of_payload ph.schema ph.root y))) is m.tree;
  }

  once_both : (i : ℕ) (payloads : List (List ℕ)) (ms : List MsgRef) (msg : MsgRef) (m : Made i msg) (rest : From (suc i) payloads ms) → Once (m.own ++ rest.feet)
  once_both i payloads ms msg m rest foot =
      let total = times_join foot m.own rest.feet in
      ⊎_elim
      (λ among. ⊎_elim
      (λ there.
      let w = rest.whose foot there in
      let none = apart ph passes passes' caches caches' messages end run long sized a b sh numbers first counted settled is_a is_b i w.0 msg w.1 m w.2 (omega (arith, w.3)) foot among in
      absurd (omega (arith, none, w.4)))
      (λ none. omega (arith, total, none, m.stands_part.once foot))
      (among_or foot rest.feet))
      (λ none. omega (arith, total, none, rest.once foot))
      (among_or foot m.own)

  whose_both : (i : ℕ) (payloads : List (List ℕ)) (ms : List MsgRef) (msg : MsgRef) (m : Made i msg) (rest : From (suc i) payloads ms) (foot : Foot) → IsAmong foot (m.own ++ rest.feet) → (j : ℕ) × (other : MsgRef) × (o : Made j other) × (i ≤ j) × IsAmong foot o.own
  whose_both i payloads ms msg m rest foot among = ⊎_elim
      (λ own. (i, msg, m, omega arith, own))
      (λ none.
      let total = times_join foot m.own rest.feet in
      let w = rest.whose foot (omega (arith, total, none, among)) in
      (w.0, w.1, w.2, omega (arith, w.3), w.4))
      (among_or foot m.own)

  next : (i j : ℕ) → i + suc j ≡ suc i + j
  next i j = omega arith

  from_here : (i : ℕ) (payloads : List (List ℕ)) (ms : List MsgRef) → length payloads ≡ length ms → ((j : ℕ) (msg : MsgRef) → get_elem? ms j ≡ some msg → get_elem? messages (i + j) ≡ some msg) → ((j : ℕ) (payload : List ℕ) → get_elem? payloads j ≡ some payload → payload_at ph (ph.first + (i + j)) ≡ payload) → From i payloads ms
  from_here i [] [] same at pay = record { feet = []; stand = refl; once = λ foot. omega arith; whose = λ foot among. absurd (omega (arith, among)) }
  from_here i [] (m ∷ ms) same at pay = absurd (omega (arith, same))
  from_here i (p ∷ ps) [] same at pay = absurd (omega (arith, same))
  from_here i (p ∷ ps) (m ∷ ms) same at pay =
      let none : i + 0 ≡ i = omega arith in
      let here : Made i m = made_at ph passes passes' caches caches' messages end run long sized a b sh numbers first counted settled is_a is_b done i m (sym (ap (λ k. get_elem? messages k) none) ∙ at 0 m refl) in
      let payload : payload_at ph (ph.first + i) ≡ p = sym (ap (λ k. payload_at ph (ph.first + k)) none) ∙ pay 0 p refl in
      let rest = from_here (suc i) ps ms (omega (arith, same))
      (λ j msg e. sym (ap (λ k. get_elem? messages k) (next i j)) ∙ at (suc j) msg e)
      (λ j y e. sym (ap (λ k. payload_at ph (ph.first + k)) (next i j)) ∙ pay (suc j) y e) in
      record {
        feet = here.own ++ rest.feet;
        stand = record { own = here.own; rest = rest.feet; are = refl; first = here_parsed i p m here payload; second = rest.stand };
        once = once_both i ps ms m here rest;
        whose = whose_both i ps ms m here rest;
      }

  -- all of them, each for its payload
  pub all_parsed : length messages ≡ ph.count → ph.first + ph.count ≤ length ph.payloads → AreParsed ph.schema ph.root a b (part_of ph.first ph.count ph.payloads) messages
  all_parsed counted_all there =
      let payloads = part_of ph.first ph.count ph.payloads in
      let long_part : length payloads ≡ length messages = omega (arith, counted_all, there, length-take ph.count (drop ph.first ph.payloads), length-drop ph.first ph.payloads) in
      let none : (j : ℕ) → 0 + j ≡ j = λ j. omega arith in
      let all = from_here 0 payloads messages long_part
      (λ j msg e. ap (λ k. get_elem? messages k) (none j) ∙ e)
      (λ j y e. ap (λ k. payload_at ph (ph.first + k)) (none j) ∙ payload_is ph j y e) in
      record {
        feet = all.feet;
        stand = all.stand;
        once = all.once;
        fresh = λ foot among. let w = all.whose foot among in w.2.fresh foot w.4;
      }
