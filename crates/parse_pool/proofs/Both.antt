-- The workers of two halves as one list.
use Rattle.std.proofs.Common.{◌≡◌, ◌⊎◌, ◌+◌, ◌<◌, ◌≤◌, ℕ, zero, suc, List, [], ◌∷◌, ◌++◌, length, set, refl, sym, subst, ◌∙◌, inl, inr, ⊎_elim, length-append, arith}
use mathlib.Core.Option.{some, some-injective, some-ne-none}
use lib.ListN.{get_elem?}
use Rattle.arena_list.proofs.Words.Lists.{at_below, at_more, at_only}
use Rattle.parse_pool.specs.declared.pool_end.PoolEnd.{PoolEnd}
use Rattle.parse_pool.specs.declared.pool_end.PoolEnd.TheVariants.{Done, BadFrame, NoMemory, BlocksSpent}
use Rattle.parse_pool.specs.Workers.{WorkerState}
use Rattle.parse_pool.specs.Phases.{PhaseState, end_of}
use Rattle.parse_pool.specs.Ends.{HasWorked, HaveWorked, AllDone, IsTaken, IsSound, OneIsSpent, EndsAs, AreReady}

module _ {A : Type 0} where
  -- an element of two lists is one of the first, or one of the second behind all of the first
  pub at_either : (l m : List A) (i : ℕ) (a : A) → get_elem? (l ++ m) i ≡ some a → (get_elem? l i ≡ some a) ⊎ ((j : ℕ) × (i ≡ length l + j) × (get_elem? m j ≡ some a))
  at_either [] m i a e = inr (i, omega arith, e)
  at_either (x ∷ xs) m zero a e = inl e
  at_either (x ∷ xs) m (suc i) a e = ⊎_elim inl (λ r. inr (r.0, omega (arith, r.1), r.2)) (at_either xs m i a e)

  pub at_beside : (l m : List A) (j i : ℕ) (a : A) → i ≡ length l + j → get_elem? m j ≡ some a → get_elem? (l ++ m) i ≡ some a
  at_beside [] m j i a is e = subst (λ (k : ℕ). get_elem? m k ≡ some a) (omega (arith, is)) e
  at_beside (x ∷ xs) m j zero a is e = absurd (omega (arith, is))
  at_beside (x ∷ xs) m j (suc i) a is e = at_beside xs m j i a (omega (arith, is)) e

-- halves of ready workers are ready
pub ready_front : (sh : _) (l m : List WorkerState) → AreReady sh (l ++ m) → AreReady sh l
ready_front sh l m ready k w at = ready k w (at_more l m k w at)

pub ready_back : (sh : _) (l m : List WorkerState) → AreReady sh (l ++ m) → AreReady sh m
ready_back sh l m ready k w at = ready (length l + k) w (at_beside l m k (length l + k) w refl at)

module _ (ph : PhaseState) where
  pub both_worked : (l m l' m' : List WorkerState) → HaveWorked ph l l' → HaveWorked ph m m' → HaveWorked ph (l ++ m) (l' ++ m')
  both_worked l m l' m' one other = record {
    count = omega (arith, length-append l m, length-append l' m', one.count, other.count);
    each = λ k old new at to. ⊎_elim
        (λ front. ⊎_elim
        (λ first. one.each k old new front first)
        (λ second. let below = at_below l k old front in let is = second.1 in absurd (omega (arith, one.count)))
        (at_either l' m' k new to))
        (λ back. ⊎_elim
        (λ first. let below = at_below l' k new first in let is = back.1 in absurd (omega (arith, one.count)))
        (λ second. let here = back.1 in let there = second.1 in
        let same : second.0 ≡ back.0 = omega (arith, one.count) in
        other.each back.0 old new back.2 (subst (λ (j : ℕ). get_elem? m' j ≡ some new) same second.2))
        (at_either l' m' k new to))
        (at_either l m k old at);
  }

  -- what one of two halves takes
  taken_or : (l m : List WorkerState) (frame : ℕ) → IsTaken ph (l ++ m) frame → IsTaken ph l frame ⊎ IsTaken ph m frame
  taken_or l m frame t = ⊎_elim
      (λ front. inl (record { at = t.at; worker = t.worker; there = front; turn = t.turn; is = t.is; within = t.within }))
      (λ back. inr (record { at = back.0; worker = t.worker; there = back.2; turn = t.turn; is = t.is; within = t.within }))
      (at_either l m t.at t.worker t.there)

  taken_front : (l m : List WorkerState) (frame : ℕ) → IsTaken ph l frame → IsTaken ph (l ++ m) frame
  taken_front l m frame t = record { at = t.at; worker = t.worker; there = at_more l m t.at t.worker t.there; turn = t.turn; is = t.is; within = t.within }

  taken_back : (l m : List WorkerState) (frame : ℕ) → IsTaken ph m frame → IsTaken ph (l ++ m) frame
  taken_back l m frame t = record { at = length l + t.at; worker = t.worker; there = at_beside l m t.at (length l + t.at) t.worker refl t.there; turn = t.turn; is = t.is; within = t.within }

  spent_front : (l m : List WorkerState) (region : ℕ) → OneIsSpent l region → OneIsSpent (l ++ m) region
  spent_front l m region s = record { at = s.at; worker = s.worker; there = at_more l m s.at s.worker s.there; pass = s.pass; has = s.has; spent = s.spent }

  spent_back : (l m : List WorkerState) (region : ℕ) → OneIsSpent m region → OneIsSpent (l ++ m) region
  spent_back l m region s = record { at = length l + s.at; worker = s.worker; there = at_beside l m s.at (length l + s.at) s.worker refl s.there; pass = s.pass; has = s.has; spent = s.spent }

  sound_both : (l m : List WorkerState) (bound more other : ℕ) → bound ≤ more → bound ≤ other → IsSound ph l more → IsSound ph m other → IsSound ph (l ++ m) bound
  sound_both l m bound more other le to one two frame taken below = ⊎_elim
      (λ front. one frame front (omega (arith, below, le)))
      (λ back. two frame back (omega (arith, below, to)))
      (taken_or l m frame taken)

  done_both : (l m : List WorkerState) → AllDone ph l → AllDone ph m → AllDone ph (l ++ m)
  done_both l m one two k w at = ⊎_elim (λ front. one k w front) (λ back. two back.0 w back.2) (at_either l m k w at)

  pub done_done : (l m : List WorkerState) → EndsAs ph l Done → EndsAs ph m Done → EndsAs ph (l ++ m) Done
  done_done l m one two = (done_both l m one.0 two.0, sound_both l m (end_of ph) (end_of ph) (end_of ph) (omega arith) (omega arith) one.1 two.1)

  pub done_bad : (l m : List WorkerState) (index : ℕ) (fault : _) → EndsAs ph l Done → EndsAs ph m (BadFrame index fault) → EndsAs ph (l ++ m) (BadFrame index fault)
  done_bad l m index fault one two = (taken_back l m index two.0, two.1, sound_both l m index (end_of ph) index (omega (arith, two.0.within)) (omega arith) one.1 two.2)

  pub bad_done : (l m : List WorkerState) (index : ℕ) (fault : _) → EndsAs ph l (BadFrame index fault) → EndsAs ph m Done → EndsAs ph (l ++ m) (BadFrame index fault)
  bad_done l m index fault one two = (taken_front l m index one.0, one.1, sound_both l m index index (end_of ph) (omega arith) (omega (arith, one.0.within)) one.2 two.1)

  pub bad_first : (l m : List WorkerState) (index second : ℕ) (fault its : _) → index ≤ second → EndsAs ph l (BadFrame index fault) → EndsAs ph m (BadFrame second its) → EndsAs ph (l ++ m) (BadFrame index fault)
  bad_first l m index second fault its le one two = (taken_front l m index one.0, one.1, sound_both l m index index second (omega arith) le one.2 two.2)

  pub bad_second : (l m : List WorkerState) (index second : ℕ) (fault its : _) → second ≤ index → EndsAs ph l (BadFrame index fault) → EndsAs ph m (BadFrame second its) → EndsAs ph (l ++ m) (BadFrame second its)
  bad_second l m index second fault its le one two = (taken_back l m second two.0, two.1, sound_both l m second index second le (omega arith) one.2 two.2)

  pub front_spent : (l m : List WorkerState) (region : ℕ) → EndsAs ph l (BlocksSpent region) → EndsAs ph (l ++ m) (BlocksSpent region)
  front_spent = spent_front

  pub back_spent : (l m : List WorkerState) (region : ℕ) → EndsAs ph m (BlocksSpent region) → EndsAs ph (l ++ m) (BlocksSpent region)
  back_spent = spent_back

  pub done_end : (l m : List WorkerState) (end : PoolEnd) → EndsAs ph l Done → EndsAs ph m end → EndsAs ph (l ++ m) end
  done_end l m Done one two = done_done l m one two
  done_end l m (BadFrame index fault) one two = done_bad l m index fault one two
  done_end l m NoMemory one two = tt
  done_end l m (BlocksSpent region) one two = spent_back l m region two

-- one worker by itself
pub one_worked : (ph : PhaseState) (ws : List WorkerState) (old new : WorkerState) → length ws < 2 → get_elem? ws 0 ≡ some old → HasWorked ph old new → HaveWorked ph ws (set ws 0 new)
one_worked ph [] old new few at worked = record { count = refl; each = λ k o n there to. absurd (some-ne-none _ (sym there)) }
one_worked ph (w ∷ []) old new few at worked = record {
  count = refl;
  each = λ k o n there to.
      let same : old ≡ o = some-injective _ _ (sym at) ∙ (at_only w o k there).1 in
      let result : new ≡ n = (at_only new n k to).1 in
      subst (λ (x : WorkerState). HasWorked ph o x) result (subst (λ (x : WorkerState). HasWorked ph x new) same worked);
}
one_worked ph (w ∷ v ∷ ws) old new few at worked = absurd (omega (arith, few))
