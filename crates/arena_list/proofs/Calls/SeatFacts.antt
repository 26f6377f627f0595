-- What a seat keeps beside its view stays right over each step.
use Rattle.std.proofs.Common.{◌≡◌, ℕ, ◌+◌, ◌*◌, ◌/◌, ◌%◌, ◌^◌, ◌<◌, ◌≤◌, Bool, true, false, eqb, List, [], ◌∷◌, ◌++◌, length, sym, refl, ap, subst, ◌∙◌, arith, Option, Some, None}
use Rattle.std.proofs.lemmas.Bool.{false≢true}
use Rattle.std.specs.Prelude.{slice_index}
use mathlib.Core.Option.{none}
use Rattle.std.proofs.lemmas.Option.{none-some}
use Rattle.atomic_table.specs.Table.{rest as rest_of_slots}
use prog.Atomic.{either}
use Rattle.atomic_table.specs.Table.{Step, step, Allows}
use Rattle.arena_list.specs.declared.for_clauses.founding.Founding.{Founding}
use Rattle.arena_list.specs.Words.Core.{slot_count}
use Rattle.arena_list.specs.Words.Nodes.{node_word}
use Rattle.arena_list.specs.Words.Written.{node_at, state_at, value_at}
use Rattle.arena_list.specs.Rule.Holds.{Holds}
use Rattle.arena_list.specs.Steps.After.{IsOut, sized, looked, counted, joined, held, settled, noted, next_link, own_node, used_now, with_seat}
use Rattle.arena_list.specs.Steps.Tales.{stored_node, took, emptied, claimed, gave, saw_size}
use Rattle.arena_list.specs.Rule.Founded.{Fits}
use Rattle.arena_list.specs.Steps.Moments.{SeenGive}
use Rattle.arena_list.proofs.Steps.States.{IsWithSeat, takes_slot, claims, empties, gives_slot, sizes_up}
use Rattle.arena_list.proofs.Steps.Keeps.{notes}
use Rattle.arena_list.proofs.Steps.Linking.{links}
use Rattle.arena_list.specs.declared.for_clauses.view.Node.{Node}
use Rattle.arena_list.specs.declared.for_clauses.view.Hold.{Hold}
use Rattle.arena_list.specs.declared.for_clauses.view.Hold.TheVariants.{Vacant, Filling, Moving, Away, Rests}
use Rattle.arena_list.specs.declared.for_clauses.view.Hand.{Hand}
use Rattle.arena_list.specs.declared.for_clauses.view.View.{View}
use Rattle.arena_list.specs.Words.Nodes.{node, before, head_of, Begins, HasNode, LacksNode}
use Rattle.arena_list.specs.Rule.Views.{hand, first_hand, mine, spare, when, unless, HasSeenOwn}
use Rattle.arena_list.specs.Rule.Founded.{Meter}
use Rattle.arena_list.specs.Steps.Tales.{Sat, Sees, IsSeated, saw_head, tried_link}
use Rattle.arena_list.proofs.Words.Links.{before_small, head_more, has_node}

-- what a list doesn't have, none has that begins it
none_before : {xs ys : List Node} {slot who : ℕ} → Begins xs ys → LacksNode ys slot who → LacksNode xs slot who
none_before {slot = slot} {who = who} begins none_there = λ k e. none_there k (begins.same k (node slot who) e)

module _ {V : Type 0} where
  pub mine_tells : (v : View V) (s : ℕ) → mine v ≡ Some s → ((hand v).linked ≡ true) × ((hand v).slot ≡ s)
  mine_tells v s e = told (hand v).linked (hand v).slot s e where
    told : (b : Bool) (t s : ℕ) → when b t ≡ Some s → (b ≡ true) × (t ≡ s)
    told true t s e = (refl, cc)
    told false t s e = absurd (none-some s e)

  pub mine_none : (v : View V) → mine v ≡ None → (hand v).linked ≡ false
  mine_none v e = told (hand v).linked (hand v).slot e where
    told : (b : Bool) (t : ℕ) → when b t ≡ None → b ≡ false
    told true t e = absurd (none-some t (sym e))
    told false t e = refl

  pub mine_is : (v : View V) (s : ℕ) → (hand v).linked ≡ true → s ≡ (hand v).slot → mine v ≡ Some s
  mine_is v s is at = ap (λ (b : Bool). when b (hand v).slot) is ∙ ap Some (sym at)

  pub spare_tells : (v : View V) (s : ℕ) → spare v ≡ Some s → ((hand v).linked ≡ false) × ((hand v).slot ≡ s)
  spare_tells v s e = told (hand v).linked (hand v).slot s e where
    told : (b : Bool) (t s : ℕ) → unless b t ≡ Some s → (b ≡ false) × (t ≡ s)
    told false t s e = (refl, cc)
    told true t s e = absurd (none-some s e)

  pub spare_is : (v : View V) (s : ℕ) → (hand v).linked ≡ false → s ≡ (hand v).slot → spare v ≡ Some s
  spare_is v s is at = ap (λ (b : Bool). unless b (hand v).slot) is ∙ ap Some (sym at)

  first_of : Option V → List (ℕ × Option V) → Option V
  first_of d [] = d
  first_of d (x ∷ xs) = x.1

  -- the slot that a seat holds
  pub front : (l : List (ℕ × Option V)) (slot : ℕ) (x : Option V) → l ≡ (slot, x) ∷ [] → (old : Option V) × (l ≡ (slot, old) ∷ rest_of_slots l)
  front l slot x e = (x, e ∙ ap (λ (r : List (ℕ × Option V)). (slot, x) ∷ rest_of_slots r) (sym e))

  -- what is found there is what it holds
  pub same_value : (l : List (ℕ × Option V)) (slot : ℕ) (y : Option V) (part other : V) → l ≡ (slot, Some part) ∷ [] → l ≡ (slot, y) ∷ rest_of_slots l → y ≡ Some other → part ≡ other
  unfolding first_of
  same_value l slot y part other a b is = let found : Some part ≡ y = ap (first_of None) (sym a ∙ b) in cc

  pub took_out : (m : Meter V) (part : V) (slot : ℕ) (me me' : Sat V) → me' ≡ (held me.0 (Moving (m.used part)), (value_at (hand me.0).slot, Some part) ∷ me.1) → (hand me.0).slot ≡ slot → me.1 ≡ []
      → me' ≡ (held me.0 (Moving (m.used part)), (value_at slot, Some part) ∷ [])
  took_out m part slot me me' is at free = is ∙ (λ i. (held me.0 (Moving (m.used part)), (value_at (at i), Some part) ∷ free i))

  used_with : (m : Meter V) (x : Hold V) → used_now m (with_seat x) ≡ used_now m x
  used_with m Vacant = refl
  used_with m Filling = refl
  used_with m (Moving used) = refl
  used_with m (Away used) = refl
  used_with m (Rests part) = refl

  comes_with : (x : Hold V) → IsOut x → IsWithSeat (with_seat x)
  comes_with Vacant out = tt
  comes_with Filling out = absurd out
  comes_with (Moving used) out = absurd out
  comes_with (Away used) out = tt
  comes_with (Rests part) out = absurd out

  -- the view while the seat holds its slot
  abbrev pub filling : Meter V → Sat V → View V
  filling m me = held me.0 (with_seat (hand me.0).hold)

  pub gave_after : (m : Meter V) (st : Step (Option V)) (r slot : ℕ) (part : V) (me me' me'' : Sat V) → me' ≡ (filling m me, (value_at slot, Some part) ∷ []) → slot ≡ (hand me.0).slot → gave m st me' r me'' → me'' ≡ (settled m me.0 part, [])
  gave_after m st r slot part me me' me'' is at told = (told part [] (ap (λ (x : Sat V). x.1) is ∙ (λ i. (value_at (at i), Some part) ∷ []) ∙ ap (λ (x : Sat V). (value_at (hand x.0).slot, Some part) ∷ []) (sym is))).0 ∙ ap (λ (x : Sat V). (settled m x.0 part, [])) is

  -- what was seen of the slot before is at most the value's used sum
  pub gave_more : (m : Meter V) (st : Step (Option V)) (r slot : ℕ) (part : V) (me me' me'' : Sat V) → me' ≡ (filling m me, (value_at slot, Some part) ∷ []) → slot ≡ (hand me.0).slot → gave m st me' r me'' → slice_index me.0.sizes (hand me.0).slot ≤ m.used part
  gave_more m st r slot part me me' me'' is at told = let t = (told part [] (ap (λ (x : Sat V). x.1) is ∙ (λ i. (value_at (at i), Some part) ∷ []) ∙ ap (λ (x : Sat V). (value_at (hand x.0).slot, Some part) ∷ []) (sym is))).1 in
      let e = ap (λ (x : Sat V). slice_index x.0.sizes (hand x.0).slot) is in omega arith

  -- and the step is a give
  pub gave_seen : (m : Meter V) (st : Step (Option V)) (r slot : ℕ) (part : V) (me me' me'' : Sat V) → me' ≡ (filling m me, (value_at slot, Some part) ∷ []) → slot ≡ (hand me.0).slot → gave m st me' r me'' → SeenGive m me.0.base (filling m me) part
  gave_seen m st r slot part me me' me'' is at told = subst (λ (x : Sat V). SeenGive m x.0.base x.0 part) is
      (told part [] (ap (λ (x : Sat V). x.1) is ∙ (λ i. (value_at (at i), Some part) ∷ []) ∙ ap (λ (x : Sat V). (value_at (hand x.0).slot, Some part) ∷ []) (sym is))).2

-- what a seat keeps tells that it has seen the caller's own node
pub seen_own : {V : Type 0} (m : Meter V) {caller slot used head : ℕ} {linked : Bool} {me : Sat V} → IsSeated m caller slot linked used head me → HasSeenOwn me.0
seen_own m {caller = caller} {slot = slot} {me = me} o at is = let told = mine_tells me.0 at is in let has = has_node me.0.seen slot caller (o.own (o.linked_is ∙ told.0)) in
    subst (λ (p : ℕ × ℕ). HasNode me.0.seen p.0 p.1) (λ i. ((o.slot_is ∙ told.1) i, o.caller_is i)) has

module _ {V : Type 0} (m : Meter V) {caller slot used head : ℕ} {linked : Bool} {me : Sat V} where
  -- a step that leaves the hands
  pub seated_as : (head' : ℕ) (me' : Sat V) → me'.0.hands ≡ me.0.hands → me'.1 ≡ me.1 → head' ≡ head_of me'.0.seen → next_link me'.0 ≤ slot_count → length me'.0.seen ≤ slot_count → (linked ≡ false → length me'.0.seen < slot_count) → (linked ≡ true → ¬ LacksNode me'.0.seen slot caller)
      → IsSeated m caller slot linked used head me → IsSeated m caller slot linked used head' me'
  seated_as head' me' hands carries is link few fewer own o = let h : hand me'.0 ≡ hand me.0 = ap first_hand hands in record {
    one = ap length hands ∙ o.one;
    caller_is = o.caller_is ∙ ap (λ (h : Hand V). h.who) (sym h);
    slot_is = o.slot_is ∙ ap (λ (h : Hand V). h.slot) (sym h);
    linked_is = o.linked_is ∙ ap (λ (h : Hand V). h.linked) (sym h);
    used_is = o.used_is ∙ ap (λ (h : Hand V). used_now m h.hold) (sym h);
    head_is = is;
    slot_small = o.slot_small;
    used_small = o.used_small;
    link_small = link;
    own = own;
    few = few;
    fewer = fewer;
    free = carries ∙ o.free;
  }

  -- after a look
  pub seated_look : (st : Step (Option V)) (r : ℕ) (me' : Sat V) → saw_head m st me r me' → IsSeated m caller slot linked used head me → IsSeated m caller slot linked used r me'
  seated_look st r me' told o = let s = told.3 in seated_as r me' (ap (λ (x : Sat V). x.0.hands) told.0) (ap (λ (x : Sat V). x.1) told.0) told.1 (before_small me'.0.seen s.small (length me'.0.seen)) s.few
      (λ e. s.fewer (sym o.linked_is ∙ e)) (λ e none. o.own e (none_before told.2 none)) o

  -- after a step that changes the count alone
  pub seated_count : (me' : Sat V) → me' ≡ (counted me.0, me.1) → IsSeated m caller slot linked used head me → IsSeated m caller slot linked used head me'
  seated_count me' is o = let seen : me'.0.seen ≡ me.0.seen = ap (λ (x : Sat V). x.0.seen) is in seated_as head me' (ap (λ (x : Sat V). x.0.hands) is) (ap (λ (x : Sat V). x.1) is) (o.head_is ∙ ap head_of (sym seen))
      (subst (λ (l : List Node). before l (length l) ≤ slot_count) (sym seen) o.link_small) (subst (λ (l : List Node). length l ≤ slot_count) (sym seen) o.few) (λ e. subst (λ (l : List Node). length l < slot_count) (sym seen) (o.fewer e)) (λ e. subst (λ (l : List Node). ¬ LacksNode l slot caller) (sym seen) (o.own e)) o

  -- the numbers in the head that was seen
  pub head_count : IsSeated m caller slot linked used head me → head / 2 ^ 32 ≡ length me.0.seen
  head_count o = let a = o.head_is in let b = o.link_small in omega arith

  pub head_link : IsSeated m caller slot linked used head me → head % 2 ^ 32 ≡ next_link me.0
  head_link o = let a = o.head_is in let b = o.link_small in omega arith

  -- the store into the own spare's node
  pub note_step : (k : Founding V) (slots id word new : ℕ) → IsSeated m caller slot linked used head me → linked ≡ false → word ≡ 8 + slot → new ≡ caller * 2 ^ 32 + head % 2 ^ 32
      → Allows (Holds m k) slots id me word (λ _. new) (λ _. stored_node (step slots word new 0 none) me new)
  note_step k slots id word new o spare at is = subst (λ (w : ℕ). Allows (Holds m k) slots id me w (λ _. new) (λ _. stored_node (step slots w new 0 none) me new)) (sym (at ∙ ap node_at o.slot_is))
      (notes m k slots id new me o.one (sym o.linked_is ∙ spare) (is ∙ (λ i. node_word (o.caller_is i) (head_link o i))))

  -- the exchange of the head, after that store
  pub link_step : (k : Founding V) (slots id new : ℕ) (me' : Sat V) → IsSeated m caller slot linked used head me → linked ≡ false → me' ≡ (noted me.0, me.1) → new ≡ (head / 2 ^ 32 + 1) * 2 ^ 32 + slot + 1
      → Allows (Holds m k) slots id me' 0 (λ n. either (eqb n head) new n) (tried_link m (step slots 0 head new none) me')
  link_step k slots id new me' o spare after is = subst (λ (x : Sat V). Allows (Holds m k) slots id x 0 (λ n. either (eqb n head) new n) (tried_link m (step slots 0 head new none) x)) (sym after)
      (links m k slots id head new (noted me.0, me.1) refl (sym o.linked_is ∙ spare) refl o.head_is
      (let h = head_more me.0.seen (own_node me.0) in let c = head_count o in let s = o.slot_is in omega arith))

  -- after an exchange that linked the spare
  pub seated_linked : (me' : Sat V) (new : ℕ) → IsSeated m caller slot linked used head me → me' ≡ (joined (noted me.0), me.1) → Sees (hand me'.0) me'.0.seen → new ≡ (head / 2 ^ 32 + 1) * 2 ^ 32 + slot + 1
      → IsSeated m caller slot true used new me'
  seated_linked me' new o after sees is = let v = joined (noted me.0) in let at = sym after in
      let caller_is : caller ≡ (hand me'.0).who = o.caller_is ∙ ap (λ (x : Sat V). (hand x.0).who) at in let slot_is : slot ≡ (hand me'.0).slot = o.slot_is ∙ ap (λ (x : Sat V). (hand x.0).slot) at in
      let linked_is : true ≡ (hand me'.0).linked = ap (λ (x : Sat V). (hand x.0).linked) at in record {
        one = ap (λ (x : Sat V). length x.0.hands) after;
        caller_is = caller_is;
        slot_is = slot_is;
        linked_is = linked_is;
        used_is = o.used_is ∙ ap (λ (x : Sat V). used_now m (hand x.0).hold) at;
        head_is = (let h = head_more me.0.seen (own_node me.0) in let c = head_count o in let s = o.slot_is in let z : new ≡ head_of (me.0.seen ++ own_node me.0 ∷ []) = omega arith in z) ∙ ap (λ (x : Sat V). head_of x.0.seen) at;
        slot_small = o.slot_small;
        used_small = o.used_small;
        link_small = before_small me'.0.seen sees.small (length me'.0.seen);
        own = λ e. subst (λ (p : ℕ × ℕ). ¬ LacksNode me'.0.seen p.0 p.1) (λ i. ((sym slot_is) i, (sym caller_is) i)) (λ none. let has = sees.linked (sym linked_is) in none has.0 has.1);
        few = sees.few;
        fewer = λ e. absurd (false≢true (sym e));
        free = ap (λ (x : Sat V). x.1) after ∙ o.free;
      }

  -- after one that showed a longer list
  pub seated_missed : (st : Step (Option V)) (r : ℕ) (me1 me' : Sat V) → IsSeated m caller slot linked used head me → me1 ≡ (noted me.0, me.1) → saw_head m st me1 r me' → IsSeated m caller slot linked used r me'
  seated_missed st r me1 me' o after told = let s = told.3 in let v = me'.0 in let at : me' ≡ (looked (noted me.0) v.seen, me.1) = told.0 ∙ ap (λ (x : Sat V). (looked x.0 v.seen, x.1)) after in
      let h : hand me'.0 ≡ hand (noted me.0) = ap (λ (x : Sat V). hand x.0) at in record {
        one = ap (λ (x : Sat V). length x.0.hands) at;
        caller_is = o.caller_is ∙ ap (λ (h : Hand V). h.who) (sym h);
        slot_is = o.slot_is ∙ ap (λ (h : Hand V). h.slot) (sym h);
        linked_is = o.linked_is ∙ ap (λ (h : Hand V). h.linked) (sym h);
        used_is = o.used_is ∙ ap (λ (h : Hand V). used_now m h.hold) (sym h);
        head_is = told.1;
        slot_small = o.slot_small;
        used_small = o.used_small;
        link_small = before_small v.seen s.small (length v.seen);
        own = λ e none. o.own e (subst (λ (l : List Node). LacksNode l slot caller) (ap (λ (x : Sat V). x.0.seen) after) (none_before told.2 none));
        few = s.few;
        fewer = λ e. s.fewer (ap (λ (x : Sat V). (hand x.0).linked) after ∙ sym o.linked_is ∙ e);
        free = ap (λ (x : Sat V). x.1) at ∙ o.free;
      }

  -- a step that changes where the value of the own slot is
  pub seated_hold : (x : Hold V) (used' : ℕ) (me' : Sat V) → me'.0.hands ≡ record (hand me.0) { hold = x } ∷ [] → me'.0.seen ≡ me.0.seen → me'.1 ≡ [] → used' ≡ used_now m x → used' < 2 ^ 63
      → IsSeated m caller slot linked used head me → IsSeated m caller slot linked used' head me'
  seated_hold x used' me' hands seen carries is small o = let h : hand me'.0 ≡ record (hand me.0) { hold = x } = ap first_hand hands in record {
    one = ap length hands;
    caller_is = o.caller_is ∙ ap (λ (h : Hand V). h.who) (sym h);
    slot_is = o.slot_is ∙ ap (λ (h : Hand V). h.slot) (sym h);
    linked_is = o.linked_is ∙ ap (λ (h : Hand V). h.linked) (sym h);
    used_is = is ∙ ap (λ (h : Hand V). used_now m h.hold) (sym h);
    head_is = o.head_is ∙ ap head_of (sym seen);
    slot_small = o.slot_small;
    used_small = small;
    link_small = subst (λ (l : List Node). before l (length l) ≤ slot_count) (sym seen) o.link_small;
    own = λ e. subst (λ (l : List Node). ¬ LacksNode l slot caller) (sym seen) (o.own e);
    few = subst (λ (l : List Node). length l ≤ slot_count) (sym seen) o.few;
    fewer = λ e. subst (λ (l : List Node). length l < slot_count) (sym seen) (o.fewer e);
    free = carries;
  }

  -- the exchange that takes the value of the own slot
  pub take_step : (k : Founding V) (slots id word new : ℕ) (part : V) → IsSeated m caller slot linked used head me → linked ≡ true → (hand me.0).hold ≡ Rests part → word ≡ 80 + 16 * slot → new ≡ 2 * used
      → Allows (Holds m k) slots id me word (λ _. new) (took m (step slots word new 0 none) me)
  take_step k slots id word new part o is_linked there at is = subst (λ (w : ℕ). Allows (Holds m k) slots id me w (λ _. new) (took m (step slots w new 0 none) me)) (sym (at ∙ ap state_at o.slot_is))
      (takes_slot m k slots id new me part o.one (sym o.linked_is ∙ is_linked) there (is ∙ ap (λ (u : ℕ). 2 * u) (o.used_is ∙ ap (used_now m) there)))

  -- the load that takes an empty slot
  pub claim_step : (k : Founding V) (slots id word : ℕ) → IsSeated m caller slot linked used head me → IsOut (hand me.0).hold → word ≡ 80 + 16 * slot
      → Allows (Holds m k) slots id me word (λ n. n) (claimed m (step slots word 0 0 none) me)
  claim_step k slots id word o out at = subst (λ (w : ℕ). Allows (Holds m k) slots id me w (λ n. n) (claimed m (step slots w 0 0 none) me)) (sym (at ∙ ap state_at o.slot_is)) (claims m k slots id me o.one out)

  -- after it the seat holds the empty slot
  pub claimed_none : (me' : Sat V) → IsSeated m caller slot linked used head me → me' ≡ (filling m me, (value_at (hand me.0).slot, None) ∷ me.1) → me' ≡ (filling m me, (value_at slot, None) ∷ [])
  claimed_none me' o is = is ∙ (λ i. (filling m me, (value_at (sym o.slot_is i), None) ∷ o.free i))

  -- the load that gives the emptied slot back
  pub empty_step : (k : Founding V) (slots id word : ℕ) (me' : Sat V) → IsSeated m caller slot linked used head me → linked ≡ true → me' ≡ (held me.0 (Moving used), (value_at slot, None) ∷ []) → word ≡ 80 + 16 * slot
      → Allows (Holds m k) slots id me' word (λ n. n) (emptied (step slots word 0 0 none) me')
  empty_step k slots id word me' o is_linked after at = subst (λ (z : ℕ × Sat V). Allows (Holds m k) slots id z.1 z.0 (λ n. n) (emptied (step slots z.0 0 0 none) z.1)) (λ i. (sym (at ∙ ap state_at o.slot_is) i, sym after i))
      (empties m k slots id used (held me.0 (Moving used), (value_at slot, None) ∷ []) [] refl (sym o.linked_is ∙ is_linked) refl (ap (λ (s : ℕ). (value_at s, None) ∷ []) o.slot_is))

  pub emptied_after : (st : Step (Option V)) (r : ℕ) (me' me'' : Sat V) → IsSeated m caller slot linked used head me → me' ≡ (held me.0 (Moving used), (value_at slot, None) ∷ []) → emptied st me' r me'' → me'' ≡ (held me.0 (Away used), [])
  emptied_after st r me' me'' o is told = told used [] (ap (λ (x : Sat V). (hand x.0).hold) is) (ap (λ (x : Sat V). x.1) is ∙ (λ i. (value_at (o.slot_is i), None) ∷ []) ∙ ap (λ (x : Sat V). (value_at (hand x.0).slot, None) ∷ []) (sym is)) ∙ ap (λ (x : Sat V). (held x.0 (Away used), [])) is

  -- the store that gives the value
  pub give_step : (k : Founding V) (slots id word new : ℕ) (me' : Sat V) (part : V) → IsSeated m caller slot linked used head me → me' ≡ (filling m me, (value_at slot, Some part) ∷ []) → used_now m (hand me.0).hold ≤ m.used part → Fits m k.life (hand me.0).who part
      → word ≡ 80 + 16 * slot → new ≡ 2 * m.used part + 1 → IsOut (hand me.0).hold → Allows (Holds m k) slots id me' word (λ _. new) (λ _. gave m (step slots word new 0 none) me' new)
  give_step k slots id word new me' part o after more fits at is out = subst (λ (z : ℕ × Sat V). Allows (Holds m k) slots id z.1 z.0 (λ _. new) (λ _. gave m (step slots z.0 new 0 none) z.1 new)) (λ i. (sym (at ∙ ap state_at o.slot_is) i, sym after i))
      (gives_slot m k slots id new (filling m me, (value_at slot, Some part) ∷ []) part [] refl (ap (λ (s : ℕ). (value_at s, Some part) ∷ []) o.slot_is) (comes_with (hand me.0).hold out) (let e = used_with m (hand me.0).hold in omega arith) fits is)

  -- after a load of a state
  pub seated_sized : (i used' : ℕ) (me' : Sat V) → me' ≡ (sized me.0 i used', me.1) → IsSeated m caller slot linked used head me → IsSeated m caller slot linked used head me'
  seated_sized i used' me' is o = let seen : me'.0.seen ≡ me.0.seen = ap (λ (x : Sat V). x.0.seen) is in seated_as head me' (ap (λ (x : Sat V). x.0.hands) is) (ap (λ (x : Sat V). x.1) is) (o.head_is ∙ ap head_of (sym seen))
      (subst (λ (l : List Node). before l (length l) ≤ slot_count) (sym seen) o.link_small) (subst (λ (l : List Node). length l ≤ slot_count) (sym seen) o.few) (λ e. subst (λ (l : List Node). length l < slot_count) (sym seen) (o.fewer e)) (λ e. subst (λ (l : List Node). ¬ LacksNode l slot caller) (sym seen) (o.own e)) o

  -- the load of a state
  pub size_step : (k : Founding V) (slots id word i : ℕ) → IsSeated m caller slot linked used head me → i < slot_count → word ≡ 80 + 16 * i → Allows (Holds m k) slots id me word (λ n. n) (saw_size m (step slots word 0 0 none) me)
  size_step k slots id word i o low at = subst (λ (w : ℕ). Allows (Holds m k) slots id me w (λ n. n) (saw_size m (step slots w 0 0 none) me)) (sym at) (sizes_up m k slots id i me o.one low)
