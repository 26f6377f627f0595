-- Slots and serial arenas for callers that own nothing yet.
use Rattle.std.proofs.Common.{◌≡◌, ℕ, zero, suc, ◌+◌, ◌<◌, ◌≤◌, Bool, true, false, not, cond, List, [], ◌∷◌, ◌++◌, map, length, take, get_or, sym, refl, ap, subst, ◌∙◌, ⊎_elim, arith}
use Rattle.std.specs.Prelude.{filter}
use Rattle.std.proofs.lemmas.List.{map-append, length-append, take-append-le}
use Rattle.std.proofs.lemmas.List.Elements.{filter_more}
use mathlib.Core.Option.{some-ne-none}
use Rattle.arena_block.specs.declared.policy.Policy.{Policy}
use Rattle.arena_block.specs.Policy.{IsValid}
use Rattle.serial_arena.specs.Serial.{SerialState, IsSerial}
use Rattle.arena_list.specs.declared.entry.Entry.{Entry}
use Rattle.arena_list.specs.Words.Core.{slot_count}
use Rattle.arena_list.specs.Rule.Founded.{AreFit, Differ, has, slot, caller, without}
use Rattle.arena_list.proofs.Words.Lists.{at_below, at_end}
use Rattle.arena_list.proofs.Words.Few.{at_mapped, len_map, few}
use Rattle.arena_list.proofs.Rule.Opening.{at_has}
use Rattle.ts_arena.specs.Arena.{IsOwned, AreHeld, AreOwners}
use Rattle.ts_arena.specs.Sharing.{Owners, empty_part, slots_with, asked_of, IsLeastFree, AreSpares, AddsSpare, CanShare}
use Rattle.ts_arena.specs.Passes.{serial_meter}
use Rattle.ts_arena.proofs.Finding.{differ_more, take_all}

-- ---- callers that own nothing yet
long_cond : {A : Type 0} (b : Bool) (x : A) (ys zs : List A) → length ys ≤ length zs → length (cond b (x ∷ ys) ys) ≤ length (cond b (x ∷ zs) zs)
long_cond true x ys zs h = omega arith
long_cond false x ys zs h = h

front_few : {A : Type 0} (p : A → Bool) (xs : List A) (j : ℕ) → length (filter p (take j xs)) ≤ length (filter p xs)
front_few p [] zero = omega arith
front_few p [] (suc j) = omega arith
front_few p (x ∷ xs) zero = omega arith
front_few p (x ∷ xs) (suc j) = long_cond (p x) x (filter p (take j xs)) (filter p xs) (front_few p xs j)

pub nothing_more : {A : Type 0} (xs : List A) → xs ++ [] ≡ xs
nothing_more [] = refl
nothing_more {A} (x ∷ xs) = ap (λ (ys : List A). x ∷ ys) (nothing_more xs)

along : {A : Type 0} (xs ys zs : List A) → (xs ++ ys) ++ zs ≡ xs ++ (ys ++ zs)
along [] ys zs = refl
along {A} (x ∷ xs) ys zs = ap (λ (l : List A). x ∷ l) (along xs ys zs)

true-false : true ≡ false → ⊥
true-false e = cc

module _ (owners : Owners) (callers : List ℕ) (i : ℕ) (low : i < length callers) where
  pub without_then : has (map caller owners) (get_or callers i 0) ≡ false → without owners (take (i + 1) callers) ≡ without owners (take i callers) ++ get_or callers i 0 ∷ []
  without_then new = filter_more (λ k. not (has (map caller owners) k)) callers i 0 low ∙ ap (λ (b : Bool). without owners (take i callers) ++ cond (not b) (get_or callers i 0 ∷ []) []) new

  pub without_else : has (map caller owners) (get_or callers i 0) ≡ true → without owners (take (i + 1) callers) ≡ without owners (take i callers)
  without_else old = filter_more (λ k. not (has (map caller owners) k)) callers i 0 low ∙ ap (λ (b : Bool). without owners (take i callers) ++ cond (not b) (get_or callers i 0 ∷ []) []) old ∙ nothing_more (without owners (take i callers))

  pub asked_then : has (map caller owners) (get_or callers i 0) ≡ false → asked_of owners (take (i + 1) callers) ≡ asked_of owners (take i callers) + 1
  asked_then new = ap length (without_then new) ∙ length-append (without owners (take i callers)) (get_or callers i 0 ∷ [])

  pub asked_else : has (map caller owners) (get_or callers i 0) ≡ true → asked_of owners (take (i + 1) callers) ≡ asked_of owners (take i callers)
  asked_else old = ap length (without_else old)

  -- one that is asked for has room
  pub asked_room : has (map caller owners) (get_or callers i 0) ≡ false → asked_of owners (take i callers) + 1 ≤ asked_of owners callers
  asked_room new = let a = front_few (λ k. not (has (map caller owners) k)) callers (i + 1) in let b = asked_then new in omega arith

-- ---- the spares
module _ (policy : Policy) (life : ℕ) (owners spares new : Owners) (cs cs' : List ℕ) (who : ℕ) (valid : IsValid policy) (one : AddsSpare policy life owners who spares new) where
  abbrev last : Entry SerialState
  last = record { slot = one.at; caller = who; part = empty_part policy life who one.at }

  pub spares_then : without owners cs' ≡ without owners cs ++ who ∷ [] → AreSpares policy life owners cs spares → AreSpares policy life owners cs' new
  spares_then more o = subst (AreSpares policy life owners cs') (sym one.added) (record {
    callers_are = map-append caller spares (last ∷ []) ∙ ap (λ (xs : List ℕ). xs ++ who ∷ []) o.callers_are ∙ sym more;
    slots_are = λ i e at. ⊎_elim
        (λ t. subst (λ (ys : Owners). IsLeastFree (slots_with owners ys) e.slot) (sym (take-append-le i spares (last ∷ []) (let b = at_below spares i e t in omega arith))) (o.slots_are i e t))
        (λ t. subst (λ (x : Entry SerialState). IsLeastFree (slots_with owners (take i (spares ++ last ∷ []))) x.slot) t.1
        (subst (λ (ys : Owners). IsLeastFree (slots_with owners ys) one.at) (sym (take-append-le i spares (last ∷ []) (let b = t.0 in omega arith) ∙ take_all spares i (let b = t.0 in omega arith))) one.free))
        (at_end spares last e i at);
    empty = λ i e at. ⊎_elim (λ t. o.empty i e t) (λ t. subst (λ (x : Entry SerialState). x.part ≡ empty_part policy life x.caller x.slot) t.1 refl) (at_end spares last e i at);
  })

  empty_serial : IsSerial (empty_part policy life who one.at)
  empty_serial = record {
    few = omega arith;
    policy = valid;
    laid = record {
      lens = λ k low. absurd (omega arith);
      first_block = λ low. absurd (omega arith);
      first_offset = λ low. absurd (omega arith);
      next = λ k low. absurd (omega arith);
      sized = λ k low. absurd (omega arith);
      within = λ k low. absurd (omega arith);
      held = λ k low. absurd (omega arith);
      newest = λ low. absurd (omega arith);
    };
    bytes = λ k d low. absurd (omega arith);
    used = omega arith;
  }

  pub held_then : AreHeld life policy (owners ++ spares) → AreHeld life policy (owners ++ new)
  held_then h = subst (AreHeld life policy) (along owners spares (last ∷ []) ∙ ap (λ (ys : Owners). owners ++ ys) (sym one.added)) (record {
    slots = subst Differ (sym (map-append slot (owners ++ spares) (last ∷ [])))
        (differ_more (slots_with owners spares) one.at h.slots (λ k e. absurd (true-false (sym (at_has (slots_with owners spares) k one.at e) ∙ one.free.free))));
    small = λ i e at. ⊎_elim (λ t. h.small i e t) (λ t. subst (λ (x : Entry SerialState). x.slot < slot_count) t.1 one.small) (at_end (owners ++ spares) last e i at);
    each = λ i e at. ⊎_elim (λ t. h.each i e t)
        (λ t. subst (λ (x : Entry SerialState). IsOwned life policy x.slot x.caller x.part) t.1 (record { keyed = record { region_is = refl; owner_is = refl; life_is = refl; policy_is = refl }; serial = empty_serial }))
        (at_end (owners ++ spares) last e i at);
  })

pub no_spares : (policy : Policy) (life : ℕ) (owners : Owners) → AreSpares policy life owners [] []
no_spares policy life owners = record { callers_are = refl; slots_are = λ i e at. absurd (some-ne-none e (sym at)); empty = λ i e at. absurd (some-ne-none e (sym at)) }

pub spares_same : (policy : Policy) (life : ℕ) (owners spares new : Owners) (cs cs' : List ℕ) → without owners cs' ≡ without owners cs → new ≡ spares → AreSpares policy life owners cs spares → AreSpares policy life owners cs' new
spares_same policy life owners spares new cs cs' e same o = subst (AreSpares policy life owners cs') (sym same) (record { callers_are = o.callers_are ∙ sym e; slots_are = o.slots_are; empty = o.empty })

-- ---- what the list is made of
module _ (life : ℕ) (policy : Policy) (owners spares : Owners) (callers : List ℕ) (own : AreOwners life policy owners) (some_one : 0 < length callers) (can : CanShare owners callers) (are : AreSpares policy life owners callers spares) (held : AreHeld life policy (owners ++ spares)) where
  pub fit : AreFit serial_meter life owners spares callers
  fit = record {
    slots = held.slots;
    small = held.small;
    linked_once = own.callers;
    callers_once = can.differ;
    some_caller = some_one;
    spares = are.callers_are;
    parts = λ i e at. let o = held.each i e at in record { owner = o.keyed.owner_is; life_is = o.keyed.life_is; used = o.serial.used };
  }

pub few_owners : (life : ℕ) (policy : Policy) (owners : Owners) → AreOwners life policy owners → length owners ≤ slot_count
few_owners life policy owners o = let f = few slot_count (map slot owners) o.held.slots (λ i x at. let p = at_mapped slot owners i x at in subst (λ (y : ℕ). y < slot_count) p.2 (o.held.small i p.0 p.1)) in let l = len_map slot owners in omega arith
