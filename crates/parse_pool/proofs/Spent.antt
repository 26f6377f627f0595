-- A region that is told to be spent is one of the arena that is settled.
use Rattle.std.proofs.Common.{◌≡◌, ◌⊎◌, ◌<◌, ℕ, Bool, cond, List, length, Option, None, Some, refl, sym, ap, ◌∙◌, inl, inr, ⊎_elim, arith, subst}
use Rattle.std.proofs.lemmas.Option.{same_Some}
use Rattle.arena_list.proofs.Words.Lists.{at_below}
use Rattle.std.specs.Prelude.{◌==◌}
use Rattle.std.specs.FinMap as fin
use Rattle.std.proofs.lemmas.Bool.{cases_Bool, eqb-true}
use mathlib.Core.Option.{some-injective}
use Rattle.serial_arena.specs.Serial.{SerialState, Placement, blocks_of, places_of}
use Rattle.serial_arena.proofs.Names.{blocks_have_places}
use Rattle.arena_list.specs.Closing.Closed.{entry}
use Rattle.arena_list.proofs.Marks.Badges.{one_value}
use Rattle.dyn_message.specs.declared.msg_ref.MsgRef.{MsgRef}
use Rattle.life_ids.specs.Cache.{CacheState}
use Rattle.ts_arena.proofs.Whole.{blocks_of_part}
use Rattle.ts_arena.specs.contracts.boxed.BoxedArena.{the_row}
use Rattle.ts_arena.specs.Arena.{ArenaState, IsArena}
use Rattle.ts_arena.specs.declared.pass.Pass.{Pass}
use Rattle.ts_arena.specs.Passes.{SharedState, HasPart, IsPassOf, caller_of, serial_meter, slot_of}
use Rattle.ts_arena.specs.Settling.{IsSettledFrom}
use Rattle.ts_arena.specs.Sole.{arena_blocks}
use Rattle.parse_pool.specs.Arenas.{HasSpent}
use Rattle.parse_pool.specs.declared.pool_end.PoolEnd.{PoolEnd}
use Rattle.parse_pool.specs.Ends.{OneIsSpent}
use Rattle.parse_pool.specs.Phased.{HasRun}
use Rattle.parse_pool.specs.Phases.{PhaseState}
use Rattle.parse_pool.specs.Workers.{WorkerState}
use Rattle.parse_pool.proofs.AtWork.{at_work}

-- a region that has blocks is that of the part
region_has : (s : SerialState) (region : ℕ) → 0 < blocks_of s region → region ≡ s.region
region_has s region few = ⊎_elim
    (λ t. eqb-true region s.region t)
    (λ f. absurd (omega (arith, few, ap (λ (b : Bool). cond b (length s.sizes) 0) f)))
    (cases_Bool (region == s.region))

option_cases : (o : Option ℕ) → (o ≡ None) ⊎ ((at : ℕ) × (o ≡ Some at))
option_cases None = inl refl
option_cases (Some at) = inr (at, refl)

module _ (ph : PhaseState) (passes passes' : List Pass) (caches caches' : List CacheState) (messages : List MsgRef) (end : PoolEnd) (run : HasRun ph passes passes' caches caches' messages end) (long : length caches ≡ length passes)
    (sh : SharedState) (of : ph.shared ≡ sh) (b : ArenaState) (settled : IsSettledFrom sh passes' b) (is_b : IsArena b) where
  -- a pass whose caller hasn't joined has no block
  none_beside : (p : Pass) (part : SerialState) (region : ℕ) → IsPassOf sh p → HasPart p part → slot_of p ≡ None → blocks_of part region ≡ 0
  none_beside p part region made has none =
      let unused = made.empty none in
      let one : made.part ≡ part = one_value the_row.coded serial_meter made.part part (sym made.has_part ∙ has) in
      let few = blocks_have_places made.part made.owned.serial.laid region in
      let empty : fin.len (places_of made.part) ≡ 0 = ap (λ (xs : List Placement). fin.len (places_of (record made.part { placements = xs }))) unused.no_placements ∙ fin.len-empty _ _ in
      omega (arith, few, empty, ap (λ (s : SerialState). blocks_of s region) one)

  pub spent_there : (region : ℕ) → OneIsSpent run.worked region → HasSpent b region
  spent_there region o =
      let low : o.at < length passes = omega (arith, at_below run.worked o.at o.worker o.there, run.work.count, run.begun.count) in
      let w = at_work ph passes passes' caches caches' messages end run long o.at low in
      let same : w.new ≡ o.worker = some-injective w.new o.worker (sym w.there ∙ o.there) in
      let last : o.pass ≡ w.last = same_Some o.pass w.last (sym o.has ∙ ap (λ (x : WorkerState). x.pass) (sym same) ∙ run.left.pass o.at w.new w.last w.there w.last_there) in
      let part = o.spent.part in
      let has : HasPart w.last part = subst (λ (p : Pass). HasPart p part) last o.spent.has in
      let made : IsPassOf sh w.last = subst (λ (s : SharedState). IsPassOf s w.last) of w.turned.made in
      ⊎_elim
      (λ none. let nothing = none_beside w.last part region made has none in absurd (omega (arith, nothing, o.spent.spent)))
      (λ joined.
      let there = settled.joined o.at joined.0 w.last part w.last_there joined.1 has in
      let mine : region ≡ part.region = region_has part region (omega (arith, o.spent.spent)) in
      let blocks = blocks_of_part b is_b part (inl (there.0, entry joined.0 (caller_of w.last) part, there.1, refl)) in
      ap (λ (r : ℕ). arena_blocks b r) mine ∙ blocks ∙ ap (λ (r : ℕ). blocks_of part r) (sym mine) ∙ o.spent.spent)
      (option_cases (slot_of w.last))
