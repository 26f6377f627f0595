-- Worked values, computed by the definitions.
use Rattle.std.proofs.Common.{◌≡◌, [], ◌∷◌, take, refl, arith}
use Rattle.atomic_table.specs.Seated.{TableId}
use Rattle.life_ids.specs.Batches.{batch, greatest, times}
use Rattle.life_ids.specs.Seats.{Counter, SeatState, new_seat, drawn, next_id, greatest_drawn, ids_left, IsFresh}
use Rattle.life_ids.specs.Rule.{IdRule, view_of}

module _ (table : TableId) where
  abbrev counter : Counter
  counter = record { table = table; total = 4 }

  -- it took the batches from 1 and from 513 on, drew 258 ids, and may take one batch more
  abbrev seat : SeatState
  seat = record { counter = counter; taken = 1 ∷ 513 ∷ []; given = 257 ∷ []; quota = 1; rest = 254 }

  left : ids_left seat ≡ 510
  left = refl

  next : next_id seat ≡ 515
  next = refl

  first_four : take 4 (drawn seat) ≡ 1 ∷ 2 ∷ 3 ∷ 4 ∷ []
  unfolding batch
  first_four = refl

  the_greatest : greatest_drawn seat ≡ 514
  unfolding batch
  the_greatest = refl

  -- the batch from 257 on came with another seat
  given_is_not_fresh : ¬ IsFresh 257 seat
  unfolding batch IsFresh
  given_is_not_fresh fresh = fresh 257 (0, omega arith, refl) (512, omega arith, refl)

  nothing_drawn : greatest_drawn (new_seat counter 4) ≡ 0
  nothing_drawn = refl

  all_left : ids_left (new_seat counter 4) ≡ 1024
  all_left = refl

in_the_first : (times 1 1) ∷ (times 256 1) ∷ (times 257 1) ∷ (times 0 1) ∷ [] ≡ 1 ∷ 1 ∷ 0 ∷ 0 ∷ []
in_the_first = refl

no_order : greatest (3 ∷ 7 ∷ 5 ∷ []) ≡ 7
no_order = refl

-- 0 is no id
no_id_is_0 : ¬ IdRule 1 (257 ∷ []) (view_of 1 (0 ∷ []) [] 0 ∷ [])
no_id_is_0 r = let most = r.once 0 in absurd (omega arith)
