-- How a phase ended, for one worker and for all.
use Rattle.std.proofs.Common.{◌≡◌, ◌⊎◌, ◌-◌, ◌/◌, ◌%◌, ◌<◌, ◌≤◌, ℕ, zero, suc, List, [], ◌∷◌, length, None, Some, refl, sym, ap, subst, ◌∙◌, inl, inr, ⊎_elim, arith}
use Rattle.std.proofs.lemmas.Bool.{cases_lt}
use Rattle.std.proofs.lemmas.Nat.{mul-le, mod_below, div-add-mod'}
use Rattle.std.proofs.lemmas.Option.{same_Some}
use Rattle.serial_arena.specs.Serial.{SerialState, blocks_of}
use Rattle.arena_list.proofs.Words.Lists.{at_below, at_only, at_there}
use Rattle.pb_parse.specs.declared.stop.ParseFault.{ParseFault}
use Rattle.pb_parse.specs.declared.stop.ParseFault.TheVariants as faults
use Rattle.pb_parse.specs.Parsing.{IsParseFault}
use Rattle.ts_arena.specs.Passes.{caller_of, HasPart, FitsPass}
use Rattle.parse_pool.specs.declared.pool_end.FrameResult.{FrameResult}
use Rattle.ts_arena.specs.declared.pass.Pass.{Pass}
use Rattle.parse_pool.specs.declared.pool_end.PoolEnd.{PoolEnd}
use Rattle.parse_pool.specs.declared.pool_end.PoolEnd.TheVariants.{Done, BadFrame, NoMemory, BlocksSpent}
use Rattle.parse_pool.specs.Workers.{WorkerState, IsWorker}
use Rattle.parse_pool.specs.Phases.{PhaseState, fault_at, end_of, frame_of}
use Rattle.parse_pool.specs.Ends.{AreNumbered, HaveWorked, IsTaken, IsSound, EndsAs, HasEnded, StopsAs, NoneBelow, refused_by}

module _ (ph : PhaseState) where
  -- an earlier frame is that of an earlier turn
  pub earlier : (worker turn other : ℕ) → frame_of ph worker turn < frame_of ph worker other → turn < other
  earlier worker turn other less = ⊎_elim (λ lt. lt) (λ ge. let more = mul-le other ph.workers turn ph.workers ge (omega arith) in absurd (omega arith)) (cases_lt turn other)

  module _ (w : WorkerState) (now : Pass) (pass_is : w.pass ≡ Some now) (sound : (turn : ℕ) → turn < length w.results → fault_at ph (frame_of ph w.number turn) ≡ None) where
    sound_one : (bound : ℕ) → bound ≤ frame_of ph w.number (length w.results) → IsSound ph (w ∷ []) bound
    sound_one bound le frame taken below =
        let same : frame ≡ frame_of ph w.number taken.turn = taken.is ∙ ap (λ (x : WorkerState). frame_of ph x.number taken.turn) (sym (at_only w taken.worker taken.at taken.there).1) in
        let less : frame_of ph w.number taken.turn < frame_of ph w.number (length w.results) = omega (arith, same, below, le) in
        ap (fault_at ph) same ∙ sound taken.turn (earlier w.number taken.turn (length w.results) less)

    -- a worker stopped: so the phase ended for it
    pub one_ends : (end : PoolEnd) → StopsAs ph w.number now w.results end → EndsAs ph (w ∷ []) end
    one_ends Done done = (λ k x at. subst (λ (y : WorkerState). end_of ph ≤ frame_of ph y.number (length y.results)) (at_only w x k at).1 done, sound_one (end_of ph) done)
    one_ends (BadFrame index fault) bad = (
      record { at = 0; worker = w; there = refl; turn = length w.results; is = bad.0; within = bad.1 },
      bad.2,
      sound_one index (omega (arith, bad.0)),
    )
    one_ends NoMemory none = tt
    one_ends (BlocksSpent region) spent = record { at = 0; worker = w; there = refl; pass = now; has = pass_is; spent = spent }

  -- each frame of the phase is taken by one of the workers
  pub all_taken : (workers : List WorkerState) → 1 ≤ ph.workers → length workers ≡ ph.workers → AreNumbered workers → (frame : ℕ) → ph.first ≤ frame → frame < end_of ph → IsTaken ph workers frame
  all_taken workers few len numbers frame from within =
      let i = frame - ph.first in
      let k = i % ph.workers in
      let below : k < ph.workers = mod_below i ph.workers few in
      let w = at_there workers k (omega (arith, below, len)) in record {
        at = k;
        worker = w.0;
        there = w.1;
        turn = i / ph.workers;
        is =
            let whole = div-add-mod' i ph.workers in
            let number = numbers k w.0 w.1 in
            omega arith;
        within = within;
      }

  none_below : (workers : List WorkerState) → 1 ≤ ph.workers → length workers ≡ ph.workers → AreNumbered workers → (bound : ℕ) → bound ≤ end_of ph → IsSound ph workers bound → NoneBelow ph bound
  none_below workers few len numbers bound le sound frame from below = sound frame (all_taken workers few len numbers frame from (omega (arith, below, le))) below

  -- the phase ended for all workers
  pub all_ended : (workers : List WorkerState) → 1 ≤ ph.workers → length workers ≡ ph.workers → AreNumbered workers → (end : PoolEnd) → EndsAs ph workers end → HasEnded ph workers end
  all_ended workers few len numbers Done e = (e.0, none_below workers few len numbers (end_of ph) (omega arith) e.1)
  all_ended workers few len numbers (BadFrame index fault) e = (omega (arith, e.0.is), e.0.within, e.1, none_below workers few len numbers index (omega (arith, e.0.within)) e.2)
  all_ended workers few len numbers NoMemory e = tt
  all_ended workers few len numbers (BlocksSpent region) e = e

  -- workers keep their numbers
  pub numbered_on : (olds news : List WorkerState) → HaveWorked ph olds news → AreNumbered olds → AreNumbered news
  numbered_on olds news worked numbers k w at =
      let old = at_there olds k (let below = at_below news k w at in let same = worked.count in omega arith) in
      (worked.each k old.0 w old.1 at).number_is ∙ numbers k old.0 old.1

  -- a worker was refused a frame: so it stops
  pub stops_by : (worker : ℕ) (now : Pass) (results : List FrameResult) (part : SerialState) (index : ℕ) → index ≡ frame_of ph worker (length results) → index < end_of ph → HasPart now part
      → (fault : ParseFault) → IsParseFault (fault_at ph index) (blocks_of part) fault → StopsAs ph worker now results (refused_by index fault)
  stops_by worker now results part index is within has (faults.Bad fault) told = (is, within, told)
  stops_by worker now results part index is within has faults.NoMemory told = tt
  stops_by worker now results part index is within has (faults.BlocksSpent region) told = record { part = part; has = has; spent = told }

-- the pass that a worker has is that of its caller, and its cache fits it
pub own_pass : (w : WorkerState) (pass : Pass) → IsWorker w → w.pass ≡ Some pass → (caller_of pass ≡ w.number) × FitsPass w.cache pass
own_pass w pass is has =
    let same : is.own ≡ pass = same_Some is.own pass (sym is.has ∙ has) in
    (ap caller_of (sym same) ∙ is.caller, subst (FitsPass w.cache) same is.fits)
