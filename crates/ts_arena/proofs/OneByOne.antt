-- Serial arenas that end one after the other.
use Rattle.std.proofs.Common.{◌≡◌, ℕ, zero, suc, ◌+◌, ◌*◌, ◌^◌, ◌<◌, ◌≤◌, List, [], ◌∷◌, ◌++◌, length, reverse, Option, None, Some, sym, refl, ap, subst, ◌∙◌, arith}
use Rattle.std.specs.Prelude.{IsSome, flat_map, sum_by}
use Rattle.std.proofs.lemmas.Bool.{false≢true}
use Rattle.std.proofs.lemmas.List.{append_assoc, append-nil, length-append, reverse-append}
use Rattle.std.proofs.lemmas.List.Sums.{sum_by-cons}
use Rattle.serial_arena.specs.Serial.{SerialState, used_of}
use Rattle.cleanup_list.specs.Told.{Triple, Gains, HasRoom, block}
use Rattle.ts_arena.specs.declared.ending.Ended.{Ended}
use Rattle.ts_arena.specs.Arena.{registered_of}
use Rattle.ts_arena.specs.Ending.{part_told}

pub gains_none : (now : Option (List Triple)) → Gains now now []
gains_none None = tt
gains_none (Some now) = sym (append-nil now)

-- what was gained first, and then the rest
pub gains_both : (before now after : Option (List Triple)) (xs ys : List Triple) → Gains before now xs → Gains now after ys → Gains before after (xs ++ ys)
gains_both before now None xs ys g h = tt
gains_both None None (Some after) xs ys g h = h
gains_both None (Some now) (Some after) xs ys g h = absurd g
gains_both (Some before) None (Some after) xs ys g h = absurd h
gains_both (Some before) (Some now) (Some after) xs ys g h = h ∙ ap (λ zs. zs ++ ys) g ∙ append_assoc before xs ys

-- what room is left once these were told
pub room_left : (before now : Option (List Triple)) (room more : ℕ) (xs : List Triple) → Gains before now xs → (HasRoom before room (length xs) → IsSome now) → HasRoom before room (length xs + more) → HasRoom now room more
room_left None now room more xs g tells h = absurd h
room_left (Some before) None room more xs g tells h = absurd (false≢true (tells (omega (arith, h))))
room_left (Some before) (Some now) room more xs g tells h = omega (arith, h, length-append before xs, ap (λ (zs : List Triple). length zs) g)

block_long : (life region n : ℕ) → length (block life region n) ≡ n
block_long life region zero = refl
block_long life region (suc n) = ap suc (block_long life region n)

module _ {A : Type 0} (part : A → SerialState) where
  abbrev pub told_by : List A → List Triple
  told_by xs = flat_map (λ x. part_told (part x)) xs

  abbrev pub registered_by : List A → ℕ
  registered_by xs = sum_by (λ x. registered_of (part x)) xs

  abbrev pub used_by : List A → ℕ
  used_by xs = sum_by (λ x. used_of (part x)) xs

  -- of all these the left ones are still to end, the last first
  pub record IsEnding (t0 t : Option (List Triple)) (r0 r : ℕ) (s0 s : Ended) (all left : List A) : Type 0 where
    pub told : (after : Option (List Triple)) → Gains t after (told_by (reverse left)) → Gains t0 after (told_by all)
    pub tells : HasRoom t0 r0 (length (told_by all)) → HasRoom t r (length (told_by (reverse left)))
    pub room : r ≡ r0
    pub registered : s.registered + registered_by (reverse left) ≡ s0.registered + registered_by all
    pub cleaned : s.cleaned + registered_by (reverse left) ≡ s0.cleaned + registered_by all
    pub used : s.used + used_by (reverse left) ≡ s0.used + used_by all
    pub few_registered : s.registered + length left * 2 ^ 64 ≤ s0.registered + length all * 2 ^ 64
    pub few_cleaned : s.cleaned + length left * 2 ^ 64 ≤ s0.cleaned + length all * 2 ^ 64
    pub few_used : s.used + length left * 2 ^ 64 ≤ s0.used + length all * 2 ^ 64

  pub ending_starts : (t : Option (List Triple)) (r : ℕ) (s : Ended) (all left : List A) → reverse left ≡ all → length left ≡ length all → IsEnding t t r r s s all left
  ending_starts t r s all left is long = record {
    told = λ after g. subst (λ (xs : List A). Gains t after (told_by xs)) is g;
    tells = λ h. subst (λ (xs : List A). HasRoom t r (length (told_by xs))) (sym is) h;
    room = refl;
    registered = ap (λ (xs : List A). s.registered + registered_by xs) is;
    cleaned = ap (λ (xs : List A). s.cleaned + registered_by xs) is;
    used = ap (λ (xs : List A). s.used + used_by xs) is;
    few_registered = omega arith;
    few_cleaned = omega arith;
    few_used = omega arith;
  }

  module _ (t0 t t' : Option (List Triple)) (r0 r r' : ℕ) (s0 s s' : Ended) (all left new : List A) (x : A) (o : IsEnding t0 t r0 r s0 s all left) (popped : left ≡ new ++ x ∷ []) (gained : Gains t t' (part_told (part x))) (tells' : HasRoom t r (registered_of (part x)) → IsSome t') (room' : r' ≡ r)
      (registered' : s'.registered ≡ s.registered + registered_of (part x)) (cleaned' : s'.cleaned ≡ s.cleaned + registered_of (part x)) (used' : s'.used ≡ s.used + used_of (part x)) (small : registered_of (part x) < 2 ^ 64) (small_used : used_of (part x) < 2 ^ 64) where
    turned : reverse left ≡ x ∷ reverse new
    turned = ap reverse popped ∙ reverse-append new (x ∷ [])

    told_is : told_by (reverse left) ≡ part_told (part x) ++ told_by (reverse new)
    told_is = ap told_by turned

    registered_is : registered_by (reverse left) ≡ registered_of (part x) + registered_by (reverse new)
    registered_is = ap registered_by turned ∙ sum_by-cons (λ y. registered_of (part y)) x (reverse new)

    used_is : used_by (reverse left) ≡ used_of (part x) + used_by (reverse new)
    used_is = ap used_by turned ∙ sum_by-cons (λ y. used_of (part y)) x (reverse new)

    long : length left ≡ length new + 1
    long = ap length popped ∙ length-append new (x ∷ [])

    pub ending_goes : IsEnding t0 t' r0 r' s0 s' all new
    ending_goes = record {
      told = λ after g. o.told after (subst (Gains t after) (sym told_is) (gains_both t t' after (part_told (part x)) (told_by (reverse new)) gained g));
      tells = λ h. subst (λ (k : ℕ). HasRoom t' k (length (told_by (reverse new)))) (sym room')
          (room_left t t' r (length (told_by (reverse new))) (part_told (part x)) gained
          (λ g. tells' (subst (HasRoom t r) (block_long (part x).life (part x).region (registered_of (part x))) g))
          (subst (HasRoom t r) (ap length told_is ∙ length-append (part_told (part x)) (told_by (reverse new))) (o.tells h)));
      room = room' ∙ o.room;
      registered = (let a = o.registered in let b = registered_is in omega arith);
      cleaned = (let a = o.cleaned in let b = registered_is in omega arith);
      used = (let a = o.used in let b = used_is in omega arith);
      few_registered = (let a = o.few_registered in let b = long in omega arith);
      few_cleaned = (let a = o.few_cleaned in let b = long in omega arith);
      few_used = (let a = o.few_used in let b = long in omega arith);
    }
