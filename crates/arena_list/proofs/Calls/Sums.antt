-- What the states show of the nodes of a list, added up on a walk.
use Rattle.std.proofs.Common.{◌≡◌, ℕ, zero, suc, ◌+◌, ◌-◌, ◌%◌, ◌^◌, ◌<◌, ◌≤◌, ◌≢◌, List, [], ◌∷◌, length, drop, set, sym, refl, ap, subst, ◌∙◌, arith}
use Rattle.std.specs.Prelude.{slice_index}
use Rattle.std.proofs.lemmas.List.{get_or-set_other, get_or-set_same}
use mathlib.Core.Option.{some, some-injective, some-ne-none}
use mathlib.Core.Logic.{dite}
use native.Mathlib.Decide.{ℕ_discrete, dec_le}
use lib.ListN.{get_elem?}
use Rattle.atomic_table.proofs.Lists.{drop_at}
use Rattle.arena_list.specs.declared.for_clauses.view.Node.{Node}
use Rattle.arena_list.specs.declared.for_clauses.view.Hand.{Hand}
use Rattle.arena_list.specs.declared.for_clauses.view.View.{View}
use Rattle.arena_list.specs.Words.Core.{slot_count}
use Rattle.arena_list.specs.Words.Nodes.{node, before, node_word, Begins}
use Rattle.arena_list.specs.Rule.Views.{hand, out, shown, sum_seen}
use Rattle.arena_list.specs.Rule.Founded.{Meter}
use Rattle.arena_list.specs.Steps.Moments.{SeenList, SeenSize}
use Rattle.arena_list.specs.Steps.After.{looked, counted, settled, sized, used_now}
use Rattle.arena_list.specs.Steps.Tales.{Sees}
use Rattle.arena_list.specs.Calls.Outcomes.{WasShown, IsSumming, HasSummed}
use Rattle.arena_list.proofs.Words.Lists.{at_there, at_one, at_below, begins_itself}
use Rattle.arena_list.proofs.Words.Links.{before_at, before_small, past_end}
use Rattle.arena_list.proofs.Calls.SeatFacts.{mine_tells}

pub at_drop : {A : Type 0} (l : List A) (i j : ℕ) (a : A) → get_elem? (drop i l) j ≡ some a → get_elem? l (i + j) ≡ some a
at_drop l zero j a e = subst (λ (n : ℕ). get_elem? l n ≡ some a) (let z : j ≡ 0 + j = omega arith in z) e
at_drop [] (suc i) j a e = absurd (some-ne-none a (sym e))
at_drop (x ∷ xs) (suc i) j a e = subst (λ (n : ℕ). get_elem? (x ∷ xs) n ≡ some a) (let z : suc (i + j) ≡ suc i + j = omega arith in z) (at_drop xs i j a e)

pub past : {A : Type 0} (l : List A) (i : ℕ) → length l ≤ i → drop i l ≡ []
past [] zero h = refl
past [] (suc i) h = refl
past (x ∷ xs) zero h = absurd (omega arith)
past (x ∷ xs) (suc i) h = past xs i (omega arith)

-- a sum that grows, over a longer list
pub sum_begins : (a b : List ℕ) (xs ys : List Node) → Begins xs ys → ((slot : ℕ) → slice_index a slot ≤ slice_index b slot) → sum_seen a xs ≤ sum_seen b ys
sum_begins a b [] ys p h = omega arith
sum_begins a b (x ∷ xs) [] p h = absurd (let s = p.short in omega arith)
sum_begins a b (x ∷ xs) (y ∷ ys) p h = let same : y ≡ x = some-injective y x (p.same 0 x refl) in
    let rest = sum_begins a b xs ys record { short = (let s = p.short in omega arith); same = λ k n e. p.same (suc k) n e } h in
    let here = h x.slot in let is : slice_index b y.slot ≡ slice_index b x.slot = ap (λ (n : Node). slice_index b n.slot) same in omega arith

module _ {V : Type 0} (v w : View V) where
  -- what a seat was shown never falls: by a call that leaves the sizes
  pub shown_grows : Begins v.seen w.seen → w.sizes ≡ v.sizes → shown v ≤ shown w
  shown_grows begins same = sum_begins v.sizes w.sizes v.seen w.seen begins (λ slot. let e = ap (λ (l : List ℕ). slice_index l slot) same in omega arith)

  -- and where its own value is given
  pub shown_given : (m : Meter V) (part : V) → w ≡ settled m v part → slice_index v.sizes (hand v).slot ≤ m.used part → shown v ≤ shown w
  shown_given m part is more = let on : Begins v.seen w.seen = subst (λ (l : List Node). Begins v.seen l) (ap (λ (x : View V). x.seen) (sym is)) (begins_itself v.seen) in
      sum_begins v.sizes w.sizes v.seen w.seen on (λ slot. let e : slice_index w.sizes slot ≡ slice_index (set v.sizes (hand v).slot (m.used part)) slot = ap (λ (x : View V). slice_index x.sizes slot) is in
      dite (ℕ_discrete slot (hand v).slot)
      (λ (own : slot ≡ (hand v).slot). let o : slice_index v.sizes slot ≡ slice_index v.sizes (hand v).slot = ap (slice_index v.sizes) own in dite (dec_le (length v.sizes) slot)
      (λ out. let z : slice_index v.sizes slot ≡ 0 = past_end v.sizes slot 0 out in omega arith)
      (λ within. let z : slice_index (set v.sizes (hand v).slot (m.used part)) (hand v).slot ≡ m.used part = get_or-set_same v.sizes (hand v).slot (m.used part) 0 (omega arith) in let y : slice_index (set v.sizes (hand v).slot (m.used part)) slot ≡ slice_index (set v.sizes (hand v).slot (m.used part)) (hand v).slot = ap (slice_index (set v.sizes (hand v).slot (m.used part))) own in omega arith))
      (λ other. let z : slice_index (set v.sizes (hand v).slot (m.used part)) slot ≡ slice_index v.sizes slot = get_or-set_other v.sizes (hand v).slot slot (m.used part) 0 other in omega arith))

sum_untouched : (sizes : List ℕ) (slot used : ℕ) (xs : List Node) → ((j : ℕ) (x : Node) → get_elem? xs j ≡ some x → x.slot ≢ slot) → sum_seen (set sizes slot used) xs ≡ sum_seen sizes xs
sum_untouched sizes slot used [] h = refl
sum_untouched sizes slot used (x ∷ xs) h = let here = get_or-set_other sizes slot x.slot used 0 (h 0 x refl) in let rest = sum_untouched sizes slot used xs (λ j y e. h (suc j) y e) in omega arith

sum_one : (sizes : List ℕ) (xs : List Node) (k : ℕ) (n : Node) → get_elem? xs k ≡ some n → slice_index sizes n.slot ≤ sum_seen sizes xs
sum_one sizes [] k n e = absurd (some-ne-none n (sym e))
sum_one sizes (x ∷ xs) zero n e = let is : slice_index sizes x.slot ≡ slice_index sizes n.slot = ap (λ (y : Node). slice_index sizes y.slot) (some-injective x n e) in omega arith
sum_one sizes (x ∷ xs) (suc k) n e = let r = sum_one sizes xs k n e in omega arith

-- what was shown by one view was shown by a later one of the same list
shown_on : {V : Type 0} (m : Meter V) (v w u : View V) (slot used : ℕ) → WasShown m v w slot used → w.list_steps ≤ u.list_steps → u.seen ≡ w.seen → u.base ≡ w.base → WasShown m v u slot used
shown_on m v w u slot used o later seen base = record {
  view = o.view;
  after = o.after;
  until = (let a = o.until in omega arith);
  seen = o.seen ∙ sym seen;
  base = o.base ∙ sym base;
  moment = o.moment;
}

-- and after an earlier one
shown_since : {V : Type 0} (m : Meter V) (old v w : View V) (slot used : ℕ) → old.list_steps ≤ v.list_steps → WasShown m v w slot used → WasShown m old w slot used
shown_since m old v w slot used before o = record {
  view = o.view;
  after = (let a = o.after in omega arith);
  until = o.until;
  seen = o.seen;
  base = o.base;
  moment = o.moment;
}

module _ {V : Type 0} (m : Meter V) (v : View V) (sees : Sees (hand v) v.seen) where
  pub sum_starts : (left link : ℕ) → left ≡ length v.seen → link ≡ before v.seen (length v.seen) → IsSumming m v v left link 0
  sum_starts left link is at = record {
    same = refl;
    steps = omega arith;
    link_is = at ∙ ap (before v.seen) (sym is);
    within = omega arith;
    sum_is = sym (ap (sum_seen v.sizes) (past v.seen left (omega arith)));
    small = omega arith;
    grown = λ slot. omega arith;
    own = λ k n low e mine. absurd (let b = at_below v.seen k n e in omega arith);
    shown = λ k n low e. absurd (let b = at_below v.seen k n e in omega arith);
  }

  pub sum_node : (w : View V) (left link sum : ℕ) → IsSumming m v w left link sum → 0 < left → (n : Node) × (get_elem? v.seen (left - 1) ≡ some n) × (link ≡ n.slot + 1) × (n.slot < slot_count)
  sum_node w zero link sum o h = absurd (omega arith)
  sum_node w (suc k) link sum o h = let t = at_there v.seen k (let a = o.within in omega arith) in
      let here : get_elem? v.seen (suc k - 1) ≡ some t.0 = ap (get_elem? v.seen) (let z : suc k - 1 ≡ k = omega arith in z) ∙ t.1 in
      (t.0, here, o.link_is ∙ before_at v.seen k t.0 t.1, sees.small k t.0 t.1)

  -- one node more
  pub sum_goes : (w x u : View V) (left link sum word used slot : ℕ) → IsSumming m v w left link sum → 0 < left → x ≡ counted w
      → ((k : ℕ) (n : Node) → get_elem? w.seen k ≡ some n → slot ≡ n.slot → word ≡ node_word n.caller (before w.seen k))
      → slot ≡ link - 1 → u ≡ sized x slot used → slice_index x.sizes slot ≤ used → slice_index u.sizes slot ≡ used → (slot ≡ (hand x).slot → used ≡ used_now m (out x)) → used < 2 ^ 63 → SeenSize m x.base x slot used
      → IsSumming m v u (left - 1) (word % 2 ^ 32) (sum + used)
  sum_goes w x u left link sum word used slot o h count read at step more here own low moment = let t = sum_node w left link sum o h in let n = t.0 in
      let seen : w.seen ≡ v.seen = ap (λ (z : View V). z.seen) o.same in
      let slot_is : slot ≡ n.slot = (let a = t.2 in omega arith) in
      let is : word ≡ node_word n.caller (before v.seen (left - 1)) = read (left - 1) n (ap (λ (l : List Node). get_elem? l (left - 1)) seen ∙ t.1) slot_is ∙ ap (λ (l : List Node). node_word n.caller (before l (left - 1))) seen in
      let previous : before v.seen (left - 1) ≤ slot_count = before_small v.seen sees.small (left - 1) in
      let sizes : u.sizes ≡ set w.sizes slot used = ap (λ (z : View V). z.sizes) step ∙ ap (λ (z : View V). set z.sizes slot used) count in
      let whole : x ≡ record v { list_steps = x.list_steps; sizes = x.sizes } = count ∙ ap (λ (z : View V). counted z) o.same ∙ (λ i. record v { list_steps = (ap (λ (z : View V). z.list_steps) (sym count)) i; sizes = (ap (λ (z : View V). z.sizes) (sym count)) i }) in
      let next : drop (left - 1) v.seen ≡ n ∷ drop left v.seen = drop_at v.seen (left - 1) n t.1 ∙ ap (λ (k : ℕ). n ∷ drop k v.seen) (let z : suc (left - 1) ≡ left = omega arith in z) in
      let rest : sum_seen u.sizes (drop left v.seen) ≡ sum_seen w.sizes (drop left v.seen) = ap (λ (l : List ℕ). sum_seen l (drop left v.seen)) sizes ∙ sum_untouched w.sizes slot used (drop left v.seen) (λ j y e. λ same.
      let there = at_drop v.seen left j y e in let one = sees.slots (left + j) (left - 1) y n there t.1 (same ∙ slot_is) in omega arith) in
      let used_here : slice_index u.sizes n.slot ≡ used = ap (slice_index u.sizes) (sym slot_is) ∙ here in
      let grew : (s : ℕ) → slice_index w.sizes s ≤ slice_index u.sizes s = (λ (s : ℕ). dite (ℕ_discrete s slot)
      (λ (e : s ≡ slot). subst (λ (z : ℕ). slice_index w.sizes z ≤ slice_index u.sizes z) (sym e) (let a : slice_index w.sizes slot ≡ slice_index x.sizes slot = ap (λ (z : View V). slice_index z.sizes slot) (sym count) in omega arith))
      (λ (ne : s ≢ slot). let a : slice_index u.sizes s ≡ slice_index w.sizes s = ap (λ (l : List ℕ). slice_index l s) sizes ∙ get_or-set_other w.sizes slot s used 0 ne in omega arith)) in record {
        same = step ∙ ap (λ (z : View V). sized z slot used) whole ∙ (λ i. record v { list_steps = (ap (λ (z : View V). z.list_steps) (sym step)) i; sizes = (ap (λ (z : View V). z.sizes) (sym step)) i });
        steps = (let a = o.steps in let b : u.list_steps ≡ w.list_steps + 1 = ap (λ (z : View V). z.list_steps) step ∙ ap (λ (z : View V). z.list_steps) count in omega arith);
        link_is = (let z : word % 2 ^ 32 ≡ before v.seen (left - 1) = omega arith in z);
        within = (let a = o.within in omega arith);
        sum_is = (let a = o.sum_is in let b = ap (sum_seen u.sizes) next in omega arith);
        small = (let a = o.small in omega arith);
        grown = λ s. (let a = o.grown s in let b = grew s in omega arith);
        own = λ k y high e mine. dite (ℕ_discrete k (left - 1))
            (λ (same : k ≡ left - 1). let one : y ≡ n = at_one v.seen k y n e (ap (get_elem? v.seen) same ∙ t.1) in
            let hand_is : hand x ≡ hand v = ap (λ (z : View V). hand z) whole in
            ap (λ (z : Node). slice_index u.sizes z.slot) one ∙ used_here ∙ own (slot_is ∙ ap (λ (z : Node). z.slot) (sym one) ∙ mine ∙ ap (λ (h : Hand V). h.slot) (sym hand_is)) ∙ ap (λ (h : Hand V). used_now m h.hold) hand_is)
            (λ (ne : k ≢ left - 1). let before_this = o.own k y (omega arith) e mine in
            let apart : y.slot ≢ slot = (λ (same : y.slot ≡ slot). let one = sees.slots k (left - 1) y n e t.1 (same ∙ slot_is) in ne one) in
            ap (λ (l : List ℕ). slice_index l y.slot) sizes ∙ get_or-set_other w.sizes slot y.slot used 0 apart ∙ before_this);
        shown = λ k y high e. dite (ℕ_discrete k (left - 1))
            (λ (same : k ≡ left - 1). let one : y ≡ n = at_one v.seen k y n e (ap (get_elem? v.seen) same ∙ t.1) in
            let at_y : y.slot ≡ slot = ap (λ (z : Node). z.slot) one ∙ sym slot_is in
            subst (λ (z : ℕ). WasShown m v u z (slice_index u.sizes z)) (sym at_y) (subst (λ (z : ℕ). WasShown m v u slot z) (sym here) record {
              view = x;
              after = (let a = o.steps in let b = o.within in let c : x.list_steps ≡ w.list_steps + 1 = ap (λ (z : View V). z.list_steps) count in omega arith);
              until = (let b : u.list_steps ≡ x.list_steps = ap (λ (z : View V). z.list_steps) step in omega arith);
              seen = sym (ap (λ (z : View V). z.seen) step);
              base = sym (ap (λ (z : View V). z.base) step);
              moment = moment;
            }))
            (λ (ne : k ≢ left - 1). let was = o.shown k y (omega arith) e in
            let apart : y.slot ≢ slot = (λ (same : y.slot ≡ slot). let one = sees.slots k (left - 1) y n e t.1 (same ∙ slot_is) in ne one) in
            let kept : slice_index u.sizes y.slot ≡ slice_index w.sizes y.slot = ap (λ (l : List ℕ). slice_index l y.slot) sizes ∙ get_or-set_other w.sizes slot y.slot used 0 apart in
            subst (λ (z : ℕ). WasShown m v u y.slot z) (sym kept) (shown_on m v w u y.slot (slice_index w.sizes y.slot) was (let b : u.list_steps ≡ w.list_steps + 1 = ap (λ (z : View V). z.list_steps) step ∙ ap (λ (z : View V). z.list_steps) count in omega arith)
            (ap (λ (z : View V). z.seen) step ∙ ap (λ (z : View V). z.seen) count) (ap (λ (z : View V). z.base) step ∙ ap (λ (z : View V). z.base) count)));
      }

  -- all nodes are added
  pub sum_ends : (old w : View V) (link sum : ℕ) → v ≡ looked old v.seen → Begins old.seen v.seen → SeenList m old.base old v.seen → IsSumming m v w 0 link sum → HasSummed m old w sum
  sum_ends old w link sum look begins moment o = let seen : w.seen ≡ v.seen = ap (λ (z : View V). z.seen) o.same in let hand_is : hand w ≡ hand v = ap (λ (z : View V). hand z) o.same in
      let all : sum ≡ sum_seen w.sizes w.seen = o.sum_is ∙ ap (sum_seen w.sizes) (sym seen) in
      let began : v.list_steps ≡ old.list_steps + 1 = ap (λ (z : View V). z.list_steps) look in
      let sizes : v.sizes ≡ old.sizes = ap (λ (z : View V). z.sizes) look in
      let grown : (slot : ℕ) → slice_index old.sizes slot ≤ slice_index w.sizes slot = (λ (slot : ℕ). let a = o.grown slot in let b : slice_index v.sizes slot ≡ slice_index old.sizes slot = ap (λ (l : List ℕ). slice_index l slot) sizes in omega arith) in
      let on : Begins old.seen w.seen = subst (λ (l : List Node). Begins old.seen l) (sym seen) begins in record {
        looked = subst (λ (l : List Node). SeenList m old.base old l) (sym seen) moment;
        sum_is = all;
        each = λ i n e. shown_since m old v w n.slot (slice_index w.sizes n.slot) (omega arith) (o.shown i n (omega arith) (ap (λ (l : List Node). get_elem? l i) (sym seen) ∙ e));
        own = λ slot is. let told = mine_tells w slot is in let there = sees.linked (ap (λ (h : Hand V). h.linked) (sym hand_is) ∙ told.0) in
            let used = o.own there.0 (node (hand v).slot (hand v).who) (omega arith) there.1 refl in
            let one = sum_one w.sizes w.seen there.0 (node (hand v).slot (hand v).who) (ap (λ (l : List Node). get_elem? l there.0) seen ∙ there.1) in
            let same : used_now m (out w) ≡ used_now m (out v) = ap (λ (h : Hand V). used_now m h.hold) hand_is in omega arith;
        earlier = (let a = sum_begins old.sizes w.sizes old.seen w.seen on grown in omega arith);
        grown = grown;
        steps = (let a = o.steps in let l : length w.seen ≡ length v.seen = ap length seen in omega arith);
        few_steps = (let a = o.steps in let f = sees.few in omega arith);
        few = subst (λ (l : List Node). length l ≤ slot_count) (sym seen) sees.few;
        seen = on;
        hands = ap (λ (z : View V). z.hands) o.same ∙ ap (λ (z : View V). z.hands) look;
        base = ap (λ (z : View V). z.base) o.same ∙ ap (λ (z : View V). z.base) look;
      }
