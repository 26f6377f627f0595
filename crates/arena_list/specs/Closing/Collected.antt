-- The values of a closed list, in their slots and on the way to their entries.
use Rattle.std.specs.Prelude.{◌≡◌, ◌≢◌, ◌⊎◌, ℕ, ◌≤◌, ◌<◌, List, Option, Some, None, length, map, slice_index}
use mathlib.Core.Option.{some}
use lib.ListN.{get_elem?}
use Rattle.arena_list.specs.declared.entry.Entry.{Entry}
use Rattle.arena_list.specs.Words.Core.{slot_count}
use Rattle.arena_list.specs.Words.Nodes.{before, head_of, node_word}
use Rattle.arena_list.specs.Words.Written.{node_at}
use Rattle.arena_list.specs.Rule.Founded.{Differ, slot, node_of}

module _ {V : Type 0} where
  -- each entry's value is in the entry's slot, and the slots differ
  pub record AreIn (parts : List (Option V)) (es : List (Entry V)) : Type 0 where
    pub apart : Differ (map slot es)
    pub there : (i : ℕ) (e : Entry V) → get_elem? es i ≡ some e → get_elem? parts e.slot ≡ some (Some e.part)

  -- the words write these entries down, oldest first, and each one's value is in its slot
  pub record AreStored (words : List ℕ) (parts : List (Option V)) (es : List (Entry V)) : Type 0 where
    pub head : slice_index words 0 ≡ head_of (map node_of es)
    pub nodes : (k : ℕ) (e : Entry V) → get_elem? es k ≡ some e → slice_index words (node_at e.slot) ≡ node_word e.caller (before (map node_of es) k)
    pub small : (k : ℕ) (e : Entry V) → get_elem? es k ≡ some e → e.slot < slot_count
    pub few : length es ≤ slot_count
    pub values : AreIn parts es

  -- these entries' values were put into their slots
  pub record Fills (old new : List (Option V)) (es : List (Entry V)) : Type 0 where
    pub here : (i : ℕ) (e : Entry V) → get_elem? es i ≡ some e → get_elem? new e.slot ≡ some (Some e.part)
    pub only : (k : ℕ) (x : Option V) → get_elem? new k ≡ some x → (get_elem? old k ≡ some x) ⊎ ((i : ℕ) × (e : Entry V) × (get_elem? es i ≡ some e) × (e.slot ≡ k))
    pub rest : (k : ℕ) → ((i : ℕ) (e : Entry V) → get_elem? es i ≡ some e → e.slot ≢ k) → get_elem? new k ≡ get_elem? old k

  -- these entries' values were taken out of their slots
  pub record Empties (old new : List (Option V)) (es : List (Entry V)) : Type 0 where
    pub gone : (i : ℕ) (e : Entry V) → get_elem? es i ≡ some e → get_elem? new e.slot ≡ some None
    pub only : (k : ℕ) (x : Option V) → get_elem? new k ≡ some x → (x ≡ None) ⊎ (get_elem? old k ≡ some x)
    pub rest : (k : ℕ) → ((i : ℕ) (e : Entry V) → get_elem? es i ≡ some e → e.slot ≢ k) → get_elem? new k ≡ get_elem? old k

  -- where an entry is, and whose
  abbrev pub place_of : Entry V → ℕ × ℕ
  place_of e = (e.slot, e.caller)
