-- What is so of parts is so of their marks.
use Rattle.std.proofs.Common.{◌≡◌, ℕ, Bool, true, false, List, [], ◌∷◌, ◌++◌, map, not, cond, sym, refl, ap, subst, ◌∙◌, ◌<◌, ◌*◌, ◌+◌, Option, Some, None, eqb}
use Rattle.std.proofs.lemmas.List.{map-append, length-map}
use Rattle.std.specs.Prelude.{filter, slice_index, replicate}
use Rattle.std.specs.Option.{option_map}
use mathlib.Core.Option.{some}
use lib.ListN.{get_elem?}
use base.Stored.{Coded}
use Rattle.arena_list.specs.declared.entry.Entry.{Entry}
use Rattle.arena_list.specs.declared.for_clauses.mark.Mark.{Mark}
use Rattle.arena_list.specs.Words.Core.{slot_count}
use Rattle.arena_list.specs.Rule.Founded.{Meter, Fits, AreFit, Differ, IsLaid, first_view, slot, caller, node_of, has, others_of, entry_of, hand_from, or_else, fresh}
use Rattle.atomic_table.specs.Table.{Me, opening, Allows, Splits, Joins, Final, Seen}
use Rattle.arena_list.specs.declared.for_clauses.founding.Founding.{Founding}
use Rattle.arena_list.specs.declared.for_clauses.view.View.{View}
use Rattle.arena_list.specs.Words.Nodes.{before, head_of, node_word}
use Rattle.arena_list.specs.Words.Written.{node_at, state_at, value_count}
use Rattle.arena_list.specs.Marks.Image.{seen_home, seen_state, seen_me}
use Rattle.arena_list.specs.Rule.Holds.{Holds}
use Rattle.arena_list.specs.Marks.OfParts.{marks, mark, marked, marked_entry, marked_founding, HoldsSeen}
use Rattle.arena_list.proofs.Marks.Pulled.{found_home, pulled}
use Rattle.arena_list.proofs.Rule.Opening.{opens}
use Rattle.arena_list.proofs.Words.Few.{at_map, at_mapped}

pub map_after : {A B C : Type 0} (f : A → B) (g : B → C) (h : A → C) → ((x : A) → g (f x) ≡ h x) → (l : List A) → map g (map f l) ≡ map h l
map_after f g h same [] = refl
map_after f g h same (x ∷ xs) = λ i. same x i ∷ map_after f g h same xs i

module _ {V : Type 0} (c : Coded V) (m : Meter V) where
  abbrev me : Entry V → Entry Mark
  me = marked_entry c m

  pub slots_marked : (es : List (Entry V)) → map slot (map me es) ≡ map slot es
  slots_marked es = map_after me slot slot (λ e. refl) es

  pub callers_marked : (es : List (Entry V)) → map caller (map me es) ≡ map caller es
  callers_marked es = map_after me caller caller (λ e. refl) es

  pub nodes_marked : (es : List (Entry V)) → map node_of (map me es) ≡ map node_of es
  nodes_marked es = map_after me node_of node_of (λ e. refl) es

  pub others_marked : (es : List (Entry V)) (cs : List ℕ) → others_of (map me es) cs ≡ map me (others_of es cs)
  others_marked [] cs = refl
  others_marked (e ∷ es) cs = step (not (has cs e.caller)) (others_marked es cs) where
    step : (b : Bool) → others_of (map me es) cs ≡ map me (others_of es cs) → cond b (me e ∷ others_of (map me es) cs) (others_of (map me es) cs) ≡ map me (cond b (e ∷ others_of es cs) (others_of es cs))
    step true rest = ap (λ l. me e ∷ l) rest
    step false rest = rest

  entry_marked : (es : List (Entry V)) (who : ℕ) → entry_of (map me es) who ≡ option_map me (entry_of es who)
  entry_marked [] who = refl
  entry_marked (e ∷ es) who = step (eqb e.caller who) (entry_marked es who) where
    step : (b : Bool) → entry_of (map me es) who ≡ option_map me (entry_of es who) → cond b (Some (me e)) (entry_of (map me es) who) ≡ option_map me (cond b (Some e) (entry_of es who))
    step true rest = refl
    step false rest = rest

  hand_of_marks : {A : Type 0} (get : ℕ → Bool → A) (l s : List (Entry V)) (who : ℕ) → get (hand_from (map me l) (map me s) who).slot (hand_from (map me l) (map me s) who).linked ≡ get (hand_from l s who).slot (hand_from l s who).linked
  hand_of_marks get l s who = (λ i. let h = or_else (option_map (fresh true) (entry_marked l who i)) (option_map (fresh false) (entry_marked s who i)) in get h.slot h.linked) ∙ by (entry_of l who) (entry_of s who) where
    by : (a b : Option (Entry V)) → get (or_else (option_map (fresh true) (option_map me a)) (option_map (fresh false) (option_map me b))).slot (or_else (option_map (fresh true) (option_map me a)) (option_map (fresh false) (option_map me b))).linked
        ≡ get (or_else (option_map (fresh true) a) (option_map (fresh false) b)).slot (or_else (option_map (fresh true) a) (option_map (fresh false) b)).linked
    by (Some x) b = refl
    by None (Some y) = refl
    by None None = refl

  -- the hand of a caller has the slot that its entry has
  pub hand_slot : (l s : List (Entry V)) (who : ℕ) → (hand_from (map me l) (map me s) who).slot ≡ (hand_from l s who).slot
  hand_slot = hand_of_marks (λ slot linked. slot)

  pub hand_linked : (l s : List (Entry V)) (who : ℕ) → (hand_from (map me l) (map me s) who).linked ≡ (hand_from l s who).linked
  hand_linked = hand_of_marks (λ slot linked. linked)

  pub fits_marked : (life who : ℕ) (part : V) → Fits m life who part → Fits marks life who (mark c m part)
  fits_marked life who part f = record { owner = f.owner; life_is = f.life_is; used = f.used }

  pub fit_marked : (life : ℕ) (linked spare : List (Entry V)) (callers : List ℕ) → AreFit m life linked spare callers → AreFit marks life (map me linked) (map me spare) callers
  fit_marked life linked spare callers f = let all : map me linked ++ map me spare ≡ map me (linked ++ spare) = sym (map-append me linked spare) in record {
    slots = subst Differ (sym (slots_marked (linked ++ spare)) ∙ ap (map slot) (sym all)) f.slots;
    small = λ i e at. let p = at_mapped me (linked ++ spare) i e (ap (λ l. get_elem? l i) (sym all) ∙ at) in subst (λ (x : Entry Mark). x.slot < slot_count) p.2 (f.small i p.0 p.1);
    linked_once = subst Differ (sym (callers_marked linked)) f.linked_once;
    callers_once = f.callers_once;
    some_caller = f.some_caller;
    spares = callers_marked spare ∙ f.spares ∙ ap (λ l. filter (λ x. not (has l x)) callers) (sym (callers_marked linked));
    parts = λ i e at. let p = at_mapped me (linked ++ spare) i e (ap (λ l. get_elem? l i) (sym all) ∙ at) in subst (λ (x : Entry Mark). Fits marks life x.caller x.part) p.2 (fits_marked life p.0.caller p.0.part (f.parts i p.0 p.1));
  }

  pub laid_marked : (linked : List (Entry V)) (callers words : List ℕ) → IsLaid m linked callers words → IsLaid marks (map me linked) callers words
  laid_marked linked callers words l = record {
    wide = l.wide;
    head = l.head ∙ ap head_of (sym (nodes_marked linked));
    nodes = λ i e at. let p = at_mapped me linked i e at in subst (λ (x : Entry Mark). slice_index words (node_at x.slot) ≡ node_word x.caller (before (map node_of (map me linked)) i)) p.2
        (l.nodes i p.0 p.1 ∙ ap (λ ns. node_word p.0.caller (before ns i)) (sym (nodes_marked linked)));
    home = λ i e at. let p = at_mapped me (others_of linked callers) i e (ap (λ es. get_elem? es i) (sym (others_marked linked callers)) ∙ at) in subst (λ (x : Entry Mark). slice_index words (state_at x.slot) ≡ 2 * x.part.used + 1) p.2 (l.home i p.0 p.1);
    away = λ at low none. l.away at low (λ i e there. none i (me e) (ap (λ es. get_elem? es i) (others_marked linked callers) ∙ at_map me (others_of linked callers) i e there));
  }

  module _ (k : Founding V) where
    abbrev f : Option V → Option Mark
    f = marked c m

    -- the rule holds at the start
    pub opens_seen : (words : List ℕ) → AreFit m k.life k.linked.items k.spare.items k.callers.items → IsLaid m k.linked.items k.callers.items words → HoldsSeen c m k (opening words (replicate value_count None) (first_view (marked_founding c m k)))
    opens_seen words fit laid = opens marks (marked_founding c m k) words (fit_marked k.life k.linked.items k.spare.items k.callers.items fit) (laid_marked k.linked.items k.callers.items words laid)

    pub step_seen : (slots id : ℕ) (own : Me (Option V) (View Mark)) (i : ℕ) (g : ℕ → ℕ) (then : ℕ → Me (Option Mark) (View Mark) → Type 0) → Allows (Holds marks (marked_founding c m k)) slots id (seen_me f own) i g then
        → Allows (HoldsSeen c m k) slots id own i g (λ n after. then n (seen_me f after))
    step_seen slots id own i g then allows = pulled f (Holds marks (marked_founding c m k)) slots id own i g then allows

    pub splits_seen : (id : ℕ) (v left right : View Mark) → Splits (Holds marks (marked_founding c m k)) id v left right → Splits (HoldsSeen c m k) id v left right
    splits_seen id v left right splits s holds at = splits (seen_state f s) holds at

    pub joins_seen : (id : ℕ) (v : View Mark) (other : ℕ) (w both spent : View Mark) → Joins (Holds marks (marked_founding c m k)) id v other w both spent → Joins (HoldsSeen c m k) id v other w both spent
    joins_seen id v other w both spent joins s holds at apart there = joins (seen_state f s) holds at apart there

    -- the last state, of marks
    pub final_seen : (id : ℕ) (v : View Mark) (words : List ℕ) (slots : List (Option V)) → Final (Seen (HoldsSeen c m k) id v) words slots → Final (Seen (Holds marks (marked_founding c m k)) id v) words (map f slots)
    final_seen id v words slots e = (
      seen_state f e.0,
      e.1,
      e.2,
      length-map e.0.homes (seen_home f) ∙ e.3 ∙ sym (length-map slots f),
      λ i y at. let h = found_home f e.0.homes i y at in at_map f slots i h.0 (e.4 i h.0 h.1) ∙ ap (λ x. some x) h.2,
    )
