-- The words of a list are written entry by entry.
use Rattle.std.proofs.Common.{◌≡◌, ℕ, suc, ◌+◌, ◌*◌, ◌^◌, ◌<◌, ◌≤◌, ◌≢◌, Bool, true, false, not, List, ◌++◌, map, length, set, sym, refl, ap, subst, ◌∙◌, arith, ⊎_elim, length-set}
use Rattle.std.specs.Prelude.{slice_index}
use Rattle.std.proofs.lemmas.List.{get_or-set_same, get_or-set_other, length-append}
use Rattle.std.proofs.lemmas.Bool.{cases_Bool, false≢true}
use mathlib.Core.Option.{some}
use mathlib.Core.Logic.{dite}
use native.Mathlib.Decide.{ℕ_discrete}
use lib.ListN.{get_elem?}
use Rattle.arena_list.specs.declared.entry.Entry.{Entry}
use Rattle.arena_list.specs.declared.for_clauses.view.Node.{Node}
use Rattle.arena_list.specs.Words.Core.{slot_count}
use Rattle.arena_list.specs.Words.Nodes.{before, head_of, node_word}
use Rattle.arena_list.specs.Words.Written.{node_at, state_at, word_count}
use Rattle.arena_list.specs.Rule.Founded.{Meter, AreFit, IsLaid, IsLaidTo, has, slot, node_of, with_entry}
use Rattle.arena_list.proofs.Words.Lists.{at_below, at_one, at_more}
use Rattle.arena_list.proofs.Words.Few.{at_map, at_mapped, len_map, few}
use Rattle.arena_list.proofs.Words.Links.{before_at, before_small}
use Rattle.arena_list.proofs.Rule.Opening.{filter_tells, filter_keeps}

module _ {V : Type 0} (m : Meter V) (linked : List (Entry V)) (callers : List ℕ) where
  pub lays_none : (words : List ℕ) → length words ≡ word_count → ((k : ℕ) → slice_index words k ≡ 0) → IsLaidTo m linked callers words 0
  lays_none words wide zeros = record {
    wide = wide;
    nodes = λ i e low at. absurd (omega arith);
    home = λ i e low at no. absurd (omega arith);
    away = λ s low free. zeros (state_at s);
  }

  module _ (words : List ℕ) (i : ℕ) (e : Entry V) (link : ℕ) (at : get_elem? linked i ≡ some e) (small : (j : ℕ) (o : Entry V) → get_elem? linked j ≡ some o → o.slot < slot_count)
      (differ : (j : ℕ) (o : Entry V) → j < i → get_elem? linked j ≡ some o → o.slot ≢ e.slot) (is : link ≡ before (map node_of linked) i) (o : IsLaidTo m linked callers words i) where
    abbrev noded : List ℕ
    noded = set words (node_at e.slot) (node_word e.caller link)

    noded_nodes : (j : ℕ) (x : Entry V) → j < i + 1 → get_elem? linked j ≡ some x → slice_index noded (node_at x.slot) ≡ node_word x.caller (before (map node_of linked) j)
    noded_nodes j x low there = let s = small i e at in let w = o.wide in dite (ℕ_discrete j i)
        (λ (same : j ≡ i). let one : e ≡ x = at_one linked i e x at (ap (get_elem? linked) (sym same) ∙ there) in
        let here : slice_index noded (node_at e.slot) ≡ node_word e.caller link = get_or-set_same words (node_at e.slot) (node_word e.caller link) 0 (omega arith) in
        subst (λ (z : Entry V). slice_index noded (node_at z.slot) ≡ node_word z.caller (before (map node_of linked) j)) one (here ∙ ap (node_word e.caller) (is ∙ ap (before (map node_of linked)) (sym same))))
        (λ (ne : j ≢ i). let apart = differ j x (omega arith) there in get_or-set_other words (node_at e.slot) (node_at x.slot) (node_word e.caller link) 0 (λ t. apart (omega arith)) ∙ o.nodes j x (omega arith) there)

    noded_state : (s : ℕ) → slice_index noded (state_at s) ≡ slice_index words (state_at s)
    noded_state s = let z = small i e at in get_or-set_other words (node_at e.slot) (state_at s) (node_word e.caller link) 0 (λ t. omega arith)

    lays_seated : has callers e.caller ≡ true → IsLaidTo m linked callers noded (i + 1)
    lays_seated among = record {
      wide = length-set words (node_at e.slot) (node_word e.caller link) ∙ o.wide;
      nodes = noded_nodes;
      home = λ j x low there no. dite (ℕ_discrete j i)
          (λ (same : j ≡ i). let one : e ≡ x = at_one linked i e x at (ap (get_elem? linked) (sym same) ∙ there) in absurd (false≢true (sym no ∙ ap (λ (z : Entry V). has callers z.caller) (sym one) ∙ among)))
          (λ (ne : j ≢ i). noded_state x.slot ∙ o.home j x (omega arith) there no);
      away = λ s low free. noded_state s ∙ o.away s low (λ j x before_i there no. free j x (omega arith) there no);
    }

    abbrev stated : List ℕ
    stated = set noded (state_at e.slot) (2 * m.used e.part + 1)

    lays_stranger : has callers e.caller ≡ false → IsLaidTo m linked callers stated (i + 1)
    lays_stranger none_yet = let s = small i e at in let w = o.wide in let wide : length noded ≡ word_count = length-set words (node_at e.slot) (node_word e.caller link) ∙ o.wide in record {
      wide = length-set noded (state_at e.slot) (2 * m.used e.part + 1) ∙ wide;
      nodes = λ j x low there. let z = small j x there in get_or-set_other noded (state_at e.slot) (node_at x.slot) (2 * m.used e.part + 1) 0 (λ t. omega arith) ∙ noded_nodes j x low there;
      home = λ j x low there no. dite (ℕ_discrete j i)
          (λ (same : j ≡ i). let one : e ≡ x = at_one linked i e x at (ap (get_elem? linked) (sym same) ∙ there) in
          subst (λ (z : Entry V). slice_index stated (state_at z.slot) ≡ 2 * m.used z.part + 1) one (get_or-set_same noded (state_at e.slot) (2 * m.used e.part + 1) 0 (omega arith)))
          (λ (ne : j ≢ i). let apart = differ j x (omega arith) there in get_or-set_other noded (state_at e.slot) (state_at x.slot) (2 * m.used e.part + 1) 0 (λ t. apart (omega arith)) ∙ (noded_state x.slot ∙ o.home j x (omega arith) there no));
      away = λ t low free. let apart = free i e (omega arith) at none_yet in get_or-set_other noded (state_at e.slot) (state_at t) (2 * m.used e.part + 1) 0 (λ z. apart (omega arith)) ∙ (noded_state t ∙ o.away t low (λ j x before_i there no. free j x (omega arith) there no));
    }

    pub lays_more : IsLaidTo m linked callers (with_entry m words e (has callers e.caller) link) (i + 1)
    lays_more = ⊎_elim
        (λ t. subst (λ (b : Bool). IsLaidTo m linked callers (with_entry m words e b link) (i + 1)) (sym t) (lays_seated t))
        (λ f. subst (λ (b : Bool). IsLaidTo m linked callers (with_entry m words e b link) (i + 1)) (sym f) (lays_stranger f))
        (cases_Bool (has callers e.caller))

  no_more : (b : Bool) → not b ≡ true → b ≡ false
  no_more true e = absurd (false≢true e)
  no_more false e = refl

  no_less : (b : Bool) → b ≡ false → not b ≡ true
  no_less true e = absurd (false≢true (sym e))
  no_less false e = refl

  pub lays_all : (words : List ℕ) (head : ℕ) → ((j : ℕ) (o : Entry V) → get_elem? linked j ≡ some o → o.slot < slot_count) → head ≡ head_of (map node_of linked) → IsLaidTo m linked callers words (length linked) → IsLaid m linked callers (set words 0 head)
  lays_all words head small is o = let w = o.wide in record {
    wide = length-set words 0 head ∙ o.wide;
    head = get_or-set_same words 0 head 0 (omega arith) ∙ is;
    nodes = λ i e at. let b = at_below linked i e at in get_or-set_other words 0 (node_at e.slot) head 0 (λ t. omega arith) ∙ o.nodes i e b at;
    home = λ i e at. let p = filter_tells (λ (x : Entry V). not (has callers x.caller)) linked i e at in let b = at_below linked p.0 e p.1 in
        get_or-set_other words 0 (state_at e.slot) head 0 (λ t. omega arith) ∙ o.home p.0 e b p.1 (no_more (has callers e.caller) p.2);
    away = λ s low free. get_or-set_other words 0 (state_at s) head 0 (λ t. omega arith) ∙ o.away s low (λ j x b at no. let k = filter_keeps (λ (y : Entry V). not (has callers y.caller)) linked j x at (no_less (has callers x.caller) no) in free k.0 x k.1);
  }

-- what fits leaves no two entries with one slot
module _ {V : Type 0} (m : Meter V) (life : ℕ) (linked spare : List (Entry V)) (callers : List ℕ) (fit : AreFit m life linked spare callers) where
  pub linked_small : (j : ℕ) (o : Entry V) → get_elem? linked j ≡ some o → o.slot < slot_count
  linked_small j o at = fit.small j o (at_more linked spare j o at)

  pub linked_differ : (i : ℕ) (e : Entry V) → get_elem? linked i ≡ some e → (j : ℕ) (o : Entry V) → j < i → get_elem? linked j ≡ some o → o.slot ≢ e.slot
  linked_differ i e at j o low there = λ same. let p = at_map slot (linked ++ spare) j o (at_more linked spare j o there) in let q = at_map slot (linked ++ spare) i e (at_more linked spare i e at) in
      let z : j ≡ i = fit.slots j i e.slot (p ∙ ap (λ (z : ℕ). some z) same) q in omega arith

  pub linked_before : (k : ℕ) → before (map node_of linked) k ≤ slot_count
  linked_before k = before_small (map node_of linked) (λ i n at. let p = at_mapped node_of linked i n at in subst (λ (z : Node). z.slot < slot_count) p.2 (linked_small i p.0 p.1)) k

  pub next_before : (i : ℕ) (e : Entry V) → get_elem? linked i ≡ some e → before (map node_of linked) (i + 1) ≡ e.slot + 1
  next_before i e at = ap (before (map node_of linked)) (let z : i + 1 ≡ suc i = omega arith in z) ∙ before_at (map node_of linked) i (node_of e) (at_map node_of linked i e at)

  -- there are at most as many entries as slots
  pub all_few : length linked + length spare ≤ slot_count
  all_few = let f = few slot_count (map slot (linked ++ spare)) fit.slots (λ i x at. let p = at_mapped slot (linked ++ spare) i x at in subst (λ (y : ℕ). y < slot_count) p.2 (fit.small i p.0 p.1)) in
      let a = len_map slot (linked ++ spare) in let b = length-append linked spare in omega arith

  pub head_fits : (link : ℕ) → link ≡ before (map node_of linked) (length linked) → length linked * 2 ^ 32 + link ≡ head_of (map node_of linked)
  head_fits link is = let l = len_map node_of linked in is' l where
    is' : length (map node_of linked) ≡ length linked → length linked * 2 ^ 32 + link ≡ head_of (map node_of linked)
    is' l = (λ i. sym l i * 2 ^ 32 + is i) ∙ ap (λ (n : ℕ). length (map node_of linked) * 2 ^ 32 + before (map node_of linked) n) (sym l)
