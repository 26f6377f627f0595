-- Values are put into slots and taken out of them, one entry after another.
use Rattle.std.proofs.Common.{◌≡◌, ℕ, zero, suc, ◌+◌, ◌-◌, ◌/◌, slice_index, ◌%◌, ◌^◌, ◌<◌, ◌≤◌, ◌≢◌, ◌⊎◌, List, [], ◌∷◌, ◌++◌, map, length, drop, reverse, set, sym, refl, ap, subst, ◌∙◌, inl, inr, ⊎_elim, arith, Option, Some, None}
use Rattle.std.proofs.lemmas.List.{append_assoc, append-nil, length-append, length-drop, length-reverse, reverse-append, reverse-reverse}
use mathlib.Core.Option.{some, some-injective, some-ne-none}
use mathlib.Core.Logic.{dite}
use native.Mathlib.Decide.{ℕ_discrete}
use lib.ListN.{get_elem?}
use Rattle.atomic_table.proofs.Lists.{set_here, set_else, at_set, drop_at}
use Rattle.arena_list.specs.declared.entry.Entry.{Entry}
use Rattle.arena_list.specs.declared.for_clauses.view.Node.{Node}
use Rattle.arena_list.specs.Words.Core.{slot_count}
use Rattle.arena_list.specs.Words.Nodes.{before, head_of, node_word}
use Rattle.arena_list.specs.Rule.Founded.{Differ, slot, node_of}
use Rattle.arena_list.specs.Closing.Closed.{entry}
use Rattle.arena_list.specs.Calls.Seats.{IsAmong}
use Rattle.arena_list.specs.Closing.Collected.{place_of, AreIn, AreStored, Fills, Empties}
use Rattle.arena_list.proofs.Words.Lists.{at_below, at_there, at_more, at_end}
use Rattle.arena_list.proofs.Words.Links.{before_at, before_small}
use Rattle.arena_list.proofs.Calls.Sums.{at_drop, past}
use Rattle.arena_list.proofs.Words.Few.{or_at, at_map, at_mapped, len_map}
use Rattle.arena_list.proofs.Steps.Seats.{at_behind, at_end_of}
use Rattle.arena_list.proofs.Making.Filling.{no_items}

module _ {A : Type 0} where
  -- lists with one more that are equal have equal last elements
  pub last_same : (xs ys : List A) (x y : A) → xs ++ x ∷ [] ≡ ys ++ y ∷ [] → (xs ≡ ys) × (x ≡ y)
  last_same [] [] x y e = (refl, some-injective x y (ap (λ (l : List A). get_elem? l 0) e))
  last_same [] (b ∷ ys) x y e = absurd (let l : length (x ∷ []) ≡ length (b ∷ (ys ++ y ∷ [])) = ap length e in let k : length (ys ++ y ∷ []) ≡ length ys + 1 = length-append ys (y ∷ []) in omega arith)
  last_same (a ∷ xs) [] x y e = absurd (let l : length (a ∷ (xs ++ x ∷ [])) ≡ length (y ∷ []) = ap length e in let k : length (xs ++ x ∷ []) ≡ length xs + 1 = length-append xs (x ∷ []) in omega arith)
  last_same (a ∷ xs) (b ∷ ys) x y e = let h : a ≡ b = some-injective a b (ap (λ (l : List A). get_elem? l 0) e) in let r = last_same xs ys x y (ap (drop 1) e) in ((λ i. h i ∷ r.0 i), r.1)

module _ {V : Type 0} where
  -- one entry stands at one place
  pub once : (es : List (Entry V)) → Differ (map slot es) → (i j : ℕ) (e f : Entry V) → get_elem? es i ≡ some e → get_elem? es j ≡ some f → e.slot ≡ f.slot → i ≡ j
  once es d i j e f a b same = d i j f.slot (at_map slot es i e a ∙ ap (λ (n : ℕ). some n) same) (at_map slot es j f b)

  -- ---- values are put
  pub fills_none : (old : List (Option V)) → Fills old old []
  fills_none old = record { here = λ i e at. absurd (some-ne-none e (sym at)); only = λ k x at. inl at; rest = λ k free. refl }

  pub fills_more : (old mid new : List (Option V)) (gone : List (Entry V)) (e : Entry V) → e.slot < length mid → Fills old mid gone → new ≡ set mid e.slot (Some e.part)
      → ((i : ℕ) (f : Entry V) → get_elem? gone i ≡ some f → f.slot ≢ e.slot) → Fills old new (e ∷ gone)
  fills_more old mid new gone e low o is apart = subst (λ (l : List (Option V)). Fills old l (e ∷ gone)) (sym is) record { here = here; only = only; rest = rest } where
    here : (i : ℕ) (f : Entry V) → get_elem? (e ∷ gone) i ≡ some f → get_elem? (set mid e.slot (Some e.part)) f.slot ≡ some (Some f.part)
    here zero f at = subst (λ (x : Entry V). get_elem? (set mid e.slot (Some e.part)) x.slot ≡ some (Some x.part)) (some-injective e f at) (set_here mid e.slot (Some e.part) low)
    here (suc i) f at = set_else mid e.slot f.slot (Some e.part) (apart i f at) ∙ o.here i f at

    only : (k : ℕ) (x : Option V) → get_elem? (set mid e.slot (Some e.part)) k ≡ some x → (get_elem? old k ≡ some x) ⊎ ((i : ℕ) × (f : Entry V) × (get_elem? (e ∷ gone) i ≡ some f) × (f.slot ≡ k))
    only k x at = ⊎_elim (λ t. inr (0, e, refl, sym t.0)) (λ t. ⊎_elim (λ p. inl p) (λ p. inr (suc p.0, p.1, p.2, p.3)) (o.only k x t.1)) (at_set mid e.slot k (Some e.part) x at)

    rest : (k : ℕ) → ((i : ℕ) (f : Entry V) → get_elem? (e ∷ gone) i ≡ some f → f.slot ≢ k) → get_elem? (set mid e.slot (Some e.part)) k ≡ get_elem? old k
    rest k free = set_else mid e.slot k (Some e.part) (λ same. free 0 e refl (sym same)) ∙ o.rest k (λ i f at. free (suc i) f at)

  -- these entries are placed, and `todo` are to come
  pub record IsPlacing (start todo : List (Entry V)) (old now : List (Option V)) : Type 0 where
    pub gone : List (Entry V)
    pub split : start ≡ todo ++ gone
    pub fills : Fills old now gone

  pub place_starts : (start : List (Entry V)) (old : List (Option V)) → IsPlacing start start old old
  place_starts start old = record { gone = []; split = sym (append-nil start); fills = fills_none old }

  module _ (start todo rest : List (Entry V)) (old now : List (Option V)) (e : Entry V) (o : IsPlacing start todo old now) (pop : todo ≡ rest ++ e ∷ []) (differ : Differ (map slot start)) (vacant : (k : ℕ) (e : Entry V) → get_elem? start k ≡ some e → get_elem? old e.slot ≡ some None) where
    place_at : get_elem? start (length rest) ≡ some e
    place_at = ap (λ (l : List (Entry V)). get_elem? l (length rest)) o.split ∙ at_more todo o.gone (length rest) e (ap (λ (l : List (Entry V)). get_elem? l (length rest)) pop ∙ at_end_of rest e)

    place_apart : (i : ℕ) (f : Entry V) → get_elem? o.gone i ≡ some f → f.slot ≢ e.slot
    place_apart i f at same = let there : get_elem? start (length todo + i) ≡ some f = ap (λ (l : List (Entry V)). get_elem? l (length todo + i)) o.split ∙ at_behind todo o.gone i f at in
        let one = once start differ (length todo + i) (length rest) f e there place_at same in let l : length todo ≡ length rest + 1 = ap length pop ∙ length-append rest (e ∷ []) in omega arith

    -- its slot is empty yet
    pub place_vacant : get_elem? now e.slot ≡ some None
    place_vacant = o.fills.rest e.slot place_apart ∙ vacant (length rest) e place_at

    pub place_goes : (new : List (Option V)) → new ≡ set now e.slot (Some e.part) → IsPlacing start rest old new
    place_goes new is = record {
      gone = e ∷ o.gone;
      split = o.split ∙ ap (λ (l : List (Entry V)). l ++ o.gone) pop ∙ append_assoc rest (e ∷ []) o.gone;
      fills = fills_more old now new o.gone e (at_below now e.slot None place_vacant) o.fills is place_apart;
    }

  pub place_ends : (start todo : List (Entry V)) (old now : List (Option V)) → todo ≡ [] → IsPlacing start todo old now → Fills old now start
  place_ends start todo old now none_left o = subst (Fills old now) (sym (o.split ∙ ap (λ (l : List (Entry V)). l ++ o.gone) none_left)) o.fills

  -- ---- values are taken
  pub empties_none : (old : List (Option V)) → Empties old old []
  empties_none old = record { gone = λ i e at. absurd (some-ne-none e (sym at)); only = λ k x at. inr at; rest = λ k free. refl }

  pub empties_more : (old mid new : List (Option V)) (done done' : List (Entry V)) (e : Entry V) → e.slot < length mid → Empties old mid done → new ≡ set mid e.slot None
      → ((f : Entry V) → IsAmong done' f → (f ≡ e) ⊎ IsAmong done f) → ((f : Entry V) → IsAmong done f → IsAmong done' f) → IsAmong done' e → Empties old new done'
  empties_more old mid new done done' e low o is tells keeps own = subst (λ (l : List (Option V)). Empties old l done') (sym is) record {
    gone = λ i f at. dite (ℕ_discrete f.slot e.slot)
        (λ (same : f.slot ≡ e.slot). subst (λ (n : ℕ). get_elem? (set mid e.slot None) n ≡ some None) (sym same) (set_here mid e.slot None low))
        (λ (ne : f.slot ≢ e.slot). set_else mid e.slot f.slot None ne ∙ ⊎_elim (λ t. absurd (ne (ap (λ (x : Entry V). x.slot) t))) (λ t. o.gone t.0 f t.1) (tells f (i, at)));
    only = λ k x at. ⊎_elim (λ t. inl (sym t.1)) (λ t. o.only k x t.1) (at_set mid e.slot k None x at);
    rest = λ k free. set_else mid e.slot k None (λ same. free own.0 e own.1 (sym same)) ∙ o.rest k (λ i f at. let t = keeps f (i, at) in free t.0 f t.1);
  }

  among_first : (x : Entry V) (xs : List (Entry V)) (f : Entry V) → IsAmong (x ∷ xs) f → (f ≡ x) ⊎ IsAmong xs f
  among_first x xs f (zero, at) = inl (sym (some-injective x f at))
  among_first x xs f (suc i, at) = inr (i, at)

  -- ---- the walk over the list
  -- the entries from the left-th on are taken out
  pub record IsTaking (es : List (Entry V)) (old now : List (Option V)) (taken : List (Entry V)) (left link : ℕ) : Type 0 where
    pub link_is : link ≡ before (map node_of es) left
    pub within : left ≤ length es
    pub items : taken ≡ reverse (drop left es)
    pub emptied : Empties old now (drop left es)

  module _ (words : List ℕ) (old : List (Option V)) (es : List (Entry V)) (st : AreStored words old es) where
    node_small : (i : ℕ) (n : Node) → get_elem? (map node_of es) i ≡ some n → n.slot < slot_count
    node_small i n at = let p = at_mapped node_of es i n at in subst (λ (n : Node). n.slot < slot_count) p.2 (st.small i p.0 p.1)

    pub take_starts : (head : ℕ) (taken : List (Entry V)) → get_elem? words 0 ≡ some head → taken ≡ [] → IsTaking es old old taken (head / 2 ^ 32) (head % 2 ^ 32)
    take_starts head taken at none = let is : head ≡ head_of (map node_of es) = sym (or_at words 0 0 head at) ∙ st.head in let b = before_small (map node_of es) node_small (length (map node_of es)) in let n = len_map node_of es in
        let left : head / 2 ^ 32 ≡ length es = omega arith in let link : head % 2 ^ 32 ≡ before (map node_of es) (length (map node_of es)) = omega arith in let gone = past es (head / 2 ^ 32) (omega arith) in record {
          link_is = link ∙ ap (before (map node_of es)) (n ∙ sym left);
          within = omega arith;
          items = none ∙ ap reverse (sym gone);
          emptied = subst (Empties old old) (sym gone) (empties_none old);
        }

    module _ (now : List (Option V)) (taken : List (Entry V)) (left link : ℕ) (o : IsTaking es old now taken left link) (more : 0 < left) where
      -- the entry to come, whose value is still there
      pub take_next : (e : Entry V) × (get_elem? es (left - 1) ≡ some e) × (link ≡ e.slot + 1) × (e.slot < slot_count) × (get_elem? now e.slot ≡ some (Some e.part))
      take_next = let t = at_there es (left - 1) (let a = o.within in omega arith) in let e = t.0 in let n = at_map node_of es (left - 1) e t.1 in
          let link_is : link ≡ e.slot + 1 = o.link_is ∙ ap (before (map node_of es)) (let z : left ≡ suc (left - 1) = omega arith in z) ∙ before_at (map node_of es) (left - 1) (node_of e) n in
          let apart : (i : ℕ) (f : Entry V) → get_elem? (drop left es) i ≡ some f → f.slot ≢ e.slot = λ i f at. λ same. let one = once es st.values.apart (left + i) (left - 1) f e (at_drop es left i f at) t.1 same in absurd (omega arith) in
          (e, t.1, link_is, st.small (left - 1) e t.1, o.emptied.rest e.slot apart ∙ st.values.there (left - 1) e t.1)

      abbrev next : Entry V
      next = take_next.0

      next_slot : link - 1 ≡ next.slot
      next_slot = let a = take_next.2 in omega arith

      -- what its word holds
      pub take_word : (word : ℕ) → get_elem? words (8 + (link - 1)) ≡ some word → (word / 2 ^ 32 ≡ next.caller) × (word % 2 ^ 32 ≡ before (map node_of es) (left - 1))
      take_word word at = let is : word ≡ node_word next.caller (before (map node_of es) (left - 1)) = sym (or_at words (8 + (link - 1)) 0 word at) ∙ ap (λ (n : ℕ). slice_index words (8 + n)) next_slot ∙ st.nodes (left - 1) next take_next.1 in
          let b = before_small (map node_of es) node_small (left - 1) in (omega arith, omega arith)

      pub take_value : get_elem? now (link - 1) ≡ some (Some next.part)
      take_value = ap (get_elem? now) next_slot ∙ take_next.4

      pub take_goes : (word : ℕ) (new : List (Option V)) (taken' : List (Entry V)) → get_elem? words (8 + (link - 1)) ≡ some word → new ≡ set now (link - 1) None → taken' ≡ taken ++ entry (link - 1) (word / 2 ^ 32) next.part ∷ []
          → IsTaking es old new taken' (left - 1) (word % 2 ^ 32)
      take_goes word new taken' at is items = let w = take_word word at in
          let same : entry (link - 1) (word / 2 ^ 32) next.part ≡ next = (λ i. entry (next_slot i) (w.0 i) next.part) in
          let cut : drop (left - 1) es ≡ next ∷ drop left es = drop_at es (left - 1) next take_next.1 ∙ ap (λ (n : ℕ). next ∷ drop n es) (let z : suc (left - 1) ≡ left = omega arith in z) in record {
            link_is = w.1;
            within = (let a = o.within in omega arith);
            items = items ∙ (λ i. o.items i ++ same i ∷ []) ∙ sym (reverse-append (next ∷ []) (drop left es)) ∙ ap reverse (sym cut);
            emptied = subst (Empties old new) (sym cut) (empties_more old now new (drop left es) (next ∷ drop left es) next (at_below now next.slot (Some next.part) take_next.4) o.emptied (is ∙ ap (λ (n : ℕ). set now n None) next_slot)
                (among_first next (drop left es)) (λ f t. (suc t.0, t.1)) (0, refl));
          }

    pub take_ends : (now : List (Option V)) (taken : List (Entry V)) (left link : ℕ) → left ≡ 0 → IsTaking es old now taken left link → (reverse taken ≡ es) × Empties old now es
    take_ends now taken left link none o = let all : drop left es ≡ es = ap (λ (n : ℕ). drop n es) none in
        (ap reverse o.items ∙ reverse-reverse (drop left es) ∙ all, subst (Empties old now) all o.emptied)

    -- so many entries are taken, and there is room for one more
    pub take_room : (now : List (Option V)) (taken : List (Entry V)) (left link : ℕ) → IsTaking es old now taken left link → length taken + left ≤ slot_count
    take_room now taken left link o = let a = ap length o.items ∙ length-reverse (drop left es) in let b = length-drop left es in let f = st.few in let w = o.within in omega arith

  -- ---- the spares
  -- the first of these entries are taken out, and the slots of the others are to come, the last first
  pub record IsPulling (es : List (Entry V)) (old now : List (Option V)) (slots : List (ℕ × ℕ)) (taken : List (Entry V)) : Type 0 where
    pub todo : List (Entry V)
    pub split : es ≡ taken ++ todo
    pub slots_are : slots ≡ reverse (map place_of todo)
    pub emptied : Empties old now taken

  pub pull_starts : (es : List (Entry V)) (old : List (Option V)) (slots : List (ℕ × ℕ)) (taken : List (Entry V)) → taken ≡ [] → slots ≡ reverse (map place_of es) → IsPulling es old old slots taken
  pull_starts es old slots taken none is = record {
    todo = es;
    split = ap (λ (l : List (Entry V)). l ++ es) (sym none);
    slots_are = is;
    emptied = subst (Empties old old) (sym none) (empties_none old);
  }

  next_of : (todo : List (Entry V)) (rest : List (ℕ × ℕ)) (place : ℕ × ℕ) → rest ++ place ∷ [] ≡ reverse (map place_of todo)
      → (e : Entry V) × (after : List (Entry V)) × (todo ≡ e ∷ after) × (rest ≡ reverse (map place_of after)) × (place ≡ place_of e)
  next_of [] rest place is = absurd (let l : length (rest ++ place ∷ []) ≡ 0 = ap length is in let k : length (rest ++ place ∷ []) ≡ length rest + 1 = length-append rest (place ∷ []) in omega arith)
  next_of (e ∷ after) rest place is = let s = last_same rest (reverse (map place_of after)) place (place_of e) (is ∙ reverse-append (place_of e ∷ []) (map place_of after)) in (e, after, refl, s.0, s.1)

  module _ (es : List (Entry V)) (old now : List (Option V)) (slots rest : List (ℕ × ℕ)) (place : ℕ × ℕ) (taken : List (Entry V)) (o : IsPulling es old now slots taken) (values : AreIn old es) (pop : slots ≡ rest ++ place ∷ []) where
    pub spare_next : (e : Entry V) × (after : List (Entry V)) × (o.todo ≡ e ∷ after) × (rest ≡ reverse (map place_of after)) × (place ≡ place_of e)
    spare_next = next_of o.todo rest place (sym pop ∙ o.slots_are)

    abbrev own : Entry V
    own = spare_next.0

    own_at : get_elem? es (length taken) ≡ some own
    own_at = ap (λ (l : List (Entry V)). get_elem? l (length taken)) (o.split ∙ ap (λ (l : List (Entry V)). taken ++ l) spare_next.2)
        ∙ ap (get_elem? (taken ++ own ∷ spare_next.1)) (let z : length taken ≡ length taken + 0 = omega arith in z) ∙ at_behind taken (own ∷ spare_next.1) 0 own refl

    own_there : get_elem? now own.slot ≡ some (Some own.part)
    own_there = o.emptied.rest own.slot (λ i f at. λ same. let in_all : get_elem? es i ≡ some f = ap (λ (l : List (Entry V)). get_elem? l i) o.split ∙ at_more taken o.todo i f at in
        let one = once es values.apart i (length taken) f own in_all own_at same in let low = at_below taken i f at in absurd (omega arith)) ∙ values.there (length taken) own own_at

    pub pull_value : get_elem? now place.0 ≡ some (Some own.part)
    pull_value = ap (λ (p : ℕ × ℕ). get_elem? now p.0) spare_next.4 ∙ own_there

    pub pull_goes : (new : List (Option V)) (taken' : List (Entry V)) → new ≡ set now place.0 None → taken' ≡ taken ++ entry place.0 place.1 own.part ∷ [] → IsPulling es old new rest taken'
    pull_goes new taken' is items = let more : taken' ≡ taken ++ own ∷ [] = items ∙ ap (λ (p : ℕ × ℕ). taken ++ entry p.0 p.1 own.part ∷ []) spare_next.4 in record {
      todo = spare_next.1;
      split = o.split ∙ ap (λ (l : List (Entry V)). taken ++ l) spare_next.2 ∙ sym (append_assoc taken (own ∷ []) spare_next.1) ∙ ap (λ (l : List (Entry V)). l ++ spare_next.1) (sym more);
      slots_are = spare_next.3;
      emptied = subst (Empties old new) (sym more) (empties_more old now new taken (taken ++ own ∷ []) own (at_below now own.slot (Some own.part) own_there) o.emptied (is ∙ ap (λ (p : ℕ × ℕ). set now p.0 None) spare_next.4)
          (λ f t. ⊎_elim (λ p. inr (t.0, p)) (λ p. inl (sym p.1)) (at_end taken own f t.0 t.1)) (λ f t. (t.0, at_more taken (own ∷ []) t.0 f t.1)) (length taken, at_end_of taken own));
    }

  pub pull_ends : (es : List (Entry V)) (old now : List (Option V)) (slots : List (ℕ × ℕ)) (taken : List (Entry V)) → slots ≡ [] → IsPulling es old now slots taken → (taken ≡ es) × Empties old now es
  pull_ends es old now slots taken none o = let l = ap length none in let a = ap length o.slots_are ∙ length-reverse (map place_of o.todo) ∙ len_map place_of o.todo in
      let nothing : o.todo ≡ [] = no_items o.todo (omega arith) in let all : es ≡ taken = o.split ∙ ap (λ (l : List (Entry V)). taken ++ l) nothing ∙ append-nil taken in
      (sym all, subst (Empties old now) (sym all) o.emptied)
