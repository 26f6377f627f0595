-- A walk over the list, node by node, and the tries of a join.
use Rattle.std.proofs.Common.{◌≡◌, ℕ, zero, suc, ◌+◌, ◌-◌, ◌/◌, ◌%◌, ◌^◌, ◌<◌, ◌≤◌, ◌≢◌, Bool, true, false, List, [], ◌∷◌, ◌++◌, length, sym, refl, ap, subst, ◌∙◌, arith, Some, None, ⊎_elim}
use mathlib.Core.Option.{some}
use mathlib.Core.Logic.{dite}
use native.Mathlib.Decide.{ℕ_discrete}
use lib.ListN.{get_elem?}
use Rattle.std.proofs.lemmas.List.{length-append}
use Rattle.std.proofs.lemmas.Bool.{cases_Bool}
use Rattle.arena_list.specs.declared.for_clauses.view.Node.{Node}
use Rattle.arena_list.specs.declared.for_clauses.view.Hand.{Hand}
use Rattle.arena_list.specs.declared.for_clauses.view.View.{View}
use Rattle.arena_list.specs.Words.Core.{slot_count}
use Rattle.arena_list.specs.Words.Nodes.{node, before, head_of, node_word, Begins}
use Rattle.arena_list.specs.Rule.Views.{hand, who, mine, spare, when, unless, HasSeenOwn}
use Rattle.arena_list.specs.Rule.Founded.{Meter}
use Rattle.arena_list.specs.Steps.Moments.{SeenList, SeenJoin}
use Rattle.arena_list.specs.Steps.After.{looked, counted, noted, own_node, joined}
use Rattle.arena_list.specs.Steps.Tales.{Sees}
use Rattle.arena_list.specs.Calls.Outcomes.{Lacks, HasFound, HasTried, HasJoined, IsWalking}
use Rattle.arena_list.proofs.Words.Lists.{at_below, at_there, at_one, begins_itself, begins_on, begins_more}
use Rattle.arena_list.proofs.Words.Links.{before_at, before_small}
use Rattle.arena_list.proofs.Steps.Keeps.{own_hand}
use Rattle.arena_list.proofs.Calls.Sums.{shown_grows}

module _ {V : Type 0} (v : View V) (sees : Sees (hand v) v.seen) where
  pub walk_starts : (left link : ℕ) → left ≡ length v.seen → link ≡ before v.seen (length v.seen) → IsWalking v v left link
  walk_starts left link is at = record {
    same = refl;
    steps = omega arith;
    link_is = at ∙ ap (before v.seen) (sym is);
    within = omega arith;
    past = λ k n h e. absurd (let b = at_below v.seen k n e in omega arith);
  }

  -- the node to come
  pub walk_node : (w : View V) (left link : ℕ) → IsWalking v w left link → 0 < left → (n : Node) × (get_elem? v.seen (left - 1) ≡ some n) × (link ≡ n.slot + 1) × (n.slot < slot_count)
  walk_node w zero link o h = absurd (omega arith)
  walk_node w (suc k) link o h = let t = at_there v.seen k (let a = o.within in omega arith) in
      let here : get_elem? v.seen (suc k - 1) ≡ some t.0 = ap (get_elem? v.seen) (let z : suc k - 1 ≡ k = omega arith in z) ∙ t.1 in
      (t.0, here, o.link_is ∙ before_at v.seen k t.0 t.1, sees.small k t.0 t.1)

  -- what its word holds
  pub word_parts : (word caller previous : ℕ) → word ≡ node_word caller previous → previous ≤ slot_count → (word / 2 ^ 32 ≡ caller) × (word % 2 ^ 32 ≡ previous)
  word_parts word caller previous e h = (omega arith, omega arith)

  previous_small : (k : ℕ) → before v.seen k ≤ slot_count
  previous_small k = before_small v.seen sees.small k

  -- what reading it showed
  pub walk_read : (w : View V) (left link word : ℕ) → IsWalking v w left link → 0 < left
      → ((k : ℕ) (n : Node) → get_elem? w.seen k ≡ some n → link - 1 ≡ n.slot → word ≡ node_word n.caller (before w.seen k))
      → (n : Node) × (get_elem? v.seen (left - 1) ≡ some n) × (link - 1 ≡ n.slot) × (word / 2 ^ 32 ≡ n.caller) × (word % 2 ^ 32 ≡ before v.seen (left - 1))
  walk_read w left link word o h read = let t = walk_node w left link o h in let n = t.0 in let seen : w.seen ≡ v.seen = ap (λ (u : View V). u.seen) o.same in
      let slot : link - 1 ≡ n.slot = (let a = t.2 in omega arith) in
      let is : word ≡ node_word n.caller (before w.seen (left - 1)) = read (left - 1) n (ap (λ (l : List Node). get_elem? l (left - 1)) seen ∙ t.1) slot in
      let is' : word ≡ node_word n.caller (before v.seen (left - 1)) = is ∙ ap (λ (l : List Node). node_word n.caller (before l (left - 1))) seen in
      let parts = word_parts word n.caller (before v.seen (left - 1)) is' (previous_small (left - 1)) in (n, t.1, slot, parts.0, parts.1)

  -- it isn't the caller's
  pub walk_goes : (w u : View V) (left link word : ℕ) → IsWalking v w left link → 0 < left → u ≡ counted w
      → ((k : ℕ) (n : Node) → get_elem? w.seen k ≡ some n → link - 1 ≡ n.slot → word ≡ node_word n.caller (before w.seen k))
      → word / 2 ^ 32 ≢ who v → IsWalking v u (left - 1) (word % 2 ^ 32)
  walk_goes w u left link word o h step read other = let t = walk_read w left link word o h read in let n = t.0 in record {
    same = step ∙ ap (λ (x : View V). counted x) o.same ∙ (λ i. record v { list_steps = (sym (ap (λ (x : View V). x.list_steps) step) i) });
    steps = (let a = o.steps in let b : u.list_steps ≡ w.list_steps + 1 = ap (λ (x : View V). x.list_steps) step in omega arith);
    link_is = t.4;
    within = (let a = o.within in omega arith);
    past = λ k m low e. λ same. dite (ℕ_discrete k (left - 1))
        (λ (here : k ≡ left - 1). let one : m ≡ n = at_one v.seen k m n e (ap (get_elem? v.seen) here ∙ t.1) in other (t.3 ∙ ap (λ (x : Node). x.caller) (sym one) ∙ same))
        (λ (ne : k ≢ left - 1). o.past k m (omega arith) e same);
  }

  -- the hand is that of the look
  walk_hand : (w : View V) (left link : ℕ) → IsWalking v w left link → hand w ≡ hand v
  walk_hand w left link o = ap (λ (x : View V). hand x) o.same

  -- the caller's node is that of its slot
  own_slot : (k : ℕ) (n : Node) → get_elem? v.seen k ≡ some n → n.caller ≡ who v → ((hand v).linked ≡ true) × (n.slot ≡ (hand v).slot)
  own_slot k n e c = ⊎_elim
      (λ t. let own = sees.linked t in let same : k ≡ own.0 = sees.callers k own.0 n (node (hand v).slot (hand v).who) e own.1 c in
      let one : n ≡ node (hand v).slot (hand v).who = at_one v.seen k n (node (hand v).slot (hand v).who) e (ap (get_elem? v.seen) same ∙ own.1) in (t, ap (λ (x : Node). x.slot) one))
      (λ f. absurd (sees.spare f k n e c))
      (cases_Bool (hand v).linked)

  -- it is: the caller's slot
  pub walk_finds : (m : Meter V) (old w u : View V) (left link word slot : ℕ) → v ≡ looked old v.seen → Begins old.seen v.seen → SeenList m old.base old v.seen → IsWalking v w left link → 0 < left → u ≡ counted w
      → ((k : ℕ) (n : Node) → get_elem? w.seen k ≡ some n → link - 1 ≡ n.slot → word ≡ node_word n.caller (before w.seen k))
      → word / 2 ^ 32 ≡ who v → slot ≡ link - 1 → HasSeenOwn u → HasFound m old u (Some slot)
  walk_finds m old w u left link word slot look begins moment o h step read own at seen_own = let t = walk_read w left link word o h read in let n = t.0 in let c : n.caller ≡ who v = sym t.3 ∙ own in
      let seen : u.seen ≡ v.seen = ap (λ (x : View V). x.seen) step ∙ ap (λ (x : View V). x.seen) o.same in
      let same_hand : hand u ≡ hand v = ap (λ (x : View V). hand x) step ∙ walk_hand w left link o in
      let n_is : n ≡ node slot (who u) = (λ i. node ((sym t.2 ∙ sym at) i) ((c ∙ ap (λ (h : Hand V). h.who) (sym same_hand)) i)) in
      let slots = own_slot (left - 1) n t.1 c in
      let steps : u.list_steps ≡ w.list_steps + 1 = ap (λ (x : View V). x.list_steps) step in let began : v.list_steps ≡ old.list_steps + 1 = ap (λ (x : View V). x.list_steps) look in record {
        looked = subst (λ (l : List Node). SeenList m old.base old l) (sym seen) moment;
        found = record { place = left - 1; node_is = ap (λ (l : List Node). get_elem? l (left - 1)) seen ∙ t.1 ∙ ap some n_is; steps = (let a = o.steps in let b = o.within in let e : length u.seen ≡ length v.seen = ap length seen in omega arith) };
        none = tt;
        earlier = shown_grows old u (subst (λ (l : List Node). Begins old.seen l) (sym seen) begins) (ap (λ (x : View V). x.sizes) step ∙ ap (λ (x : View V). x.sizes) o.same ∙ ap (λ (x : View V). x.sizes) look);
        mine_is = (λ i. Some ((at ∙ t.2 ∙ slots.1) i)) ∙ ap (λ (b : Bool). when b (hand v).slot) (sym slots.0) ∙ ap (λ (h : Hand V). when h.linked h.slot) (sym same_hand);
        own = seen_own;
        some_step = (let a = o.steps in let b = o.within in omega arith);
        few_steps = (let a = o.steps in let f = sees.few in omega arith);
        few = subst (λ (l : List Node). length l ≤ slot_count) (sym seen) sees.few;
        seen = subst (λ (l : List Node). Begins old.seen l) (sym seen) begins;
        hands = ap (λ (x : View V). x.hands) step ∙ ap (λ (x : View V). x.hands) o.same ∙ ap (λ (x : View V). x.hands) look;
        sizes = ap (λ (x : View V). x.sizes) step ∙ ap (λ (x : View V). x.sizes) o.same ∙ ap (λ (x : View V). x.sizes) look;
        base = ap (λ (x : View V). x.base) step ∙ ap (λ (x : View V). x.base) o.same ∙ ap (λ (x : View V). x.base) look;
      }

  -- no node was the caller's
  pub walk_ends : (m : Meter V) (old w : View V) (link : ℕ) → v ≡ looked old v.seen → Begins old.seen v.seen → SeenList m old.base old v.seen → IsWalking v w 0 link → HasSeenOwn w → HasFound m old w None
  walk_ends m old w link look begins moment o seen_own = let seen : w.seen ≡ v.seen = ap (λ (x : View V). x.seen) o.same in let same_hand = walk_hand w 0 link o in
      let began : v.list_steps ≡ old.list_steps + 1 = ap (λ (x : View V). x.list_steps) look in record {
        looked = subst (λ (l : List Node). SeenList m old.base old l) (sym seen) moment;
        found = tt;
        earlier = shown_grows old w (subst (λ (l : List Node). Begins old.seen l) (sym seen) begins) (ap (λ (x : View V). x.sizes) o.same ∙ ap (λ (x : View V). x.sizes) look);
        none = record { lacks = λ k n e. λ c. o.past k n (omega arith) (ap (λ (l : List Node). get_elem? l k) (sym seen) ∙ e) (c ∙ ap (λ (h : Hand V). h.who) same_hand); steps = (let a = o.steps in let e : length w.seen ≡ length v.seen = ap length seen in omega arith) };
        mine_is = ⊎_elim
            (λ t. let own = sees.linked t in absurd (o.past own.0 (node (hand v).slot (hand v).who) (omega arith) own.1 refl))
            (λ f. ap (λ (b : Bool). when b (hand v).slot) (sym f) ∙ ap (λ (h : Hand V). when h.linked h.slot) (sym same_hand))
            (cases_Bool (hand v).linked);
        own = seen_own;
        some_step = (let a = o.steps in omega arith);
        few_steps = (let a = o.steps in let f = sees.few in omega arith);
        few = subst (λ (l : List Node). length l ≤ slot_count) (sym seen) sees.few;
        seen = subst (λ (l : List Node). Begins old.seen l) (sym seen) begins;
        hands = ap (λ (x : View V). x.hands) o.same ∙ ap (λ (x : View V). x.hands) look;
        sizes = ap (λ (x : View V). x.sizes) o.same ∙ ap (λ (x : View V). x.sizes) look;
        base = ap (λ (x : View V). x.base) o.same ∙ ap (λ (x : View V). x.base) look;
      }

-- ---- the tries of a join
module _ {V : Type 0} (v : View V) where
  pub tries_none : HasTried v v
  tries_none = record { who_is = refl; slot = refl; linked = refl; hold = refl; more_steps = omega arith; steps = omega arith; seen = begins_itself v.seen; sizes = refl; base = refl }

  pub tries_again : (w u : View V) → HasTried v w → u ≡ looked (noted w) u.seen → Begins w.seen u.seen → length w.seen < length u.seen → HasTried v u
  tries_again w u o is begins more = let steps : u.list_steps ≡ w.list_steps + 1 + 1 = ap (λ (x : View V). x.list_steps) is in record {
    who_is = ap (λ (x : View V). (hand x).who) is ∙ o.who_is;
    slot = ap (λ (x : View V). (hand x).slot) is ∙ o.slot;
    linked = ap (λ (x : View V). (hand x).linked) is ∙ o.linked;
    hold = ap (λ (x : View V). (hand x).hold) is ∙ o.hold;
    more_steps = (let a = o.more_steps in omega arith);
    steps = (let a = o.steps in omega arith);
    seen = begins_on o.seen begins;
    sizes = ap (λ (x : View V). x.sizes) is ∙ o.sizes;
    base = ap (λ (x : View V). x.base) is ∙ o.base;
  }

  pub tries_end : (m : Meter V) (w u : View V) (slot : ℕ) → HasTried v w → u ≡ joined (noted w) → SeenJoin m w.base (noted w) → (hand v).linked ≡ false → length u.seen ≤ slot_count → slot ≡ (hand v).slot → HasSeenOwn u → HasJoined m v u slot
  tries_end m w u slot o is seen spare few at seen_own = let steps : u.list_steps ≡ w.list_steps + 1 + 1 = ap (λ (x : View V). x.list_steps) is in
      let long : length u.seen ≡ length w.seen + 1 = ap (λ (x : View V). length x.seen) is ∙ length-append w.seen (node (hand w).slot (hand w).who ∷ []) in
      -- the list of that moment has no node of the seat's caller, who has a spare
      let own = (own_hand m w.base seen.moment.before seen.moment.rule seen.moment.id (noted w) seen.moment.stands refl).1 in
      let no_node : Lacks w.seen (who v) = (λ k n e c. own.spare (o.linked ∙ spare) k n (ap (λ (l : List Node). get_elem? l k) seen.nodes_are ∙ e) (c ∙ sym o.who_is)) in record {
        was_spare = ap (λ (b : Bool). unless b (hand v).slot) spare ∙ ap Some (sym at);
        mine_is = ap (λ (x : View V). mine x) is ∙ ap Some (o.slot ∙ sym at);
        own = seen_own;
        appended = (w.seen, o.seen, no_node, ap (λ (x : View V). x.seen) is ∙ (λ i. w.seen ++ node ((o.slot ∙ sym at) i) (o.who_is i) ∷ []));
        moment = (noted w, is, seen);
        steps = (let a = o.steps in omega arith);
        some_steps = (let a = o.more_steps in omega arith);
        few_steps = (let a = o.steps in omega arith);
        few = few;
        earlier = shown_grows v u (subst (λ (l : List Node). Begins v.seen l) (ap (λ (x : View V). x.seen) (sym is)) (begins_on o.seen (begins_more w.seen (own_node w ∷ [])))) (ap (λ (x : View V). x.sizes) is ∙ o.sizes);
        who_is = ap (λ (x : View V). (hand x).who) is ∙ o.who_is;
        hold = ap (λ (x : View V). (hand x).hold) is ∙ o.hold;
        sizes = ap (λ (x : View V). x.sizes) is ∙ o.sizes;
        base = ap (λ (x : View V). x.base) is ∙ o.base;
      }

-- ---- a look, and the walk from it
module _ {V : Type 0} (old v : View V) (look : v ≡ looked old v.seen) where
  pub sees_after : Sees (hand old) v.seen → Sees (hand v) v.seen
  sees_after s = subst (λ (h : Hand V). Sees h v.seen) (ap (λ (x : View V). hand x) (sym look)) s

  pub head_parts : (head : ℕ) → Sees (hand old) v.seen → head ≡ head_of v.seen → (head / 2 ^ 32 ≡ length v.seen) × (head % 2 ^ 32 ≡ before v.seen (length v.seen))
  head_parts head s is = let b = before_small v.seen s.small (length v.seen) in (omega arith, omega arith)

module _ {V : Type 0} (v : View V) where
  -- whose the seat is doesn't change on a walk
  pub walk_who : (w u : View V) (left link : ℕ) → IsWalking v w left link → u ≡ counted w → who u ≡ who v
  walk_who w u left link o step = ap (λ (x : View V). who x) step ∙ ap (λ (x : View V). who x) o.same
