-- What changes a memory in one step and in two.
use Rattle.std.proofs.Common.{◌≡◌, ◌+◌, ◌≤◌, ℕ, Option, None, Some, true≢false, List, [], ◌∷◌, refl, sym, ap, ◌∙◌, subst, arith}
use Rattle.std.specs.Prelude.{IsSome}
use Rattle.std.proofs.lemmas.Option.{none-some}
use Rattle.std.specs.FinMap as fin
use Rattle.arena_mem.specs.declared.place.Place.{Place}
use Rattle.arena_mem.specs.Places.{Places, Buffers}
use Rattle.arena_mem.specs.Grows.{Grows}
use Rattle.dyn_message.specs.Feet.{IsAmong, Foot, InPlace, InBuffer, foot_bytes}
use Rattle.dyn_message.specs.Writes.{Rewritten}
use Rattle.dyn_message.specs.Changes.{Changes}
use Rattle.dyn_message.proofs.Counting.{none_of}
use Rattle.dyn_message.proofs.Messages.{some_value}
use Rattle.dyn_message.proofs.Setting.{write_keeps, keeps_join, growth_keeps}

module _ {S K : Type 0} (key : S → K) (places : S → Places) (buffers : S → Buffers) (blocks : S → ℕ → ℕ) where
  pub grown : (p a : ℕ) (feet : List Foot) (old new : S) → Grows key places buffers blocks p a old new → Changes key places buffers blocks p a feet old new
  grown p a feet old new g = record {
    key = g.key;
    others = growth_keeps (places old) (places new) (buffers old) (buffers new) feet g.rest g.buffers;
    still_there = λ foot some.
        let was = some_value (foot_bytes (places old) (buffers old) foot) some in
        subst IsSome (sym (growth_keeps (places old) (places new) (buffers old) (buffers new) [] g.rest g.buffers foot was.0 refl was.1)) refl;
    no_fewer_places = g.no_fewer_places;
    few_places = g.few_places;
    no_fewer_buffers = g.no_fewer_buffers;
    few_buffers = g.few_buffers;
    no_fewer_blocks = g.no_fewer_blocks;
    few_blocks = g.few_blocks;
  }

  pub rewritten : (p a : ℕ) (place : Place) (change : List ℕ → List ℕ) (old mid new : S) → Changes key places buffers blocks p a (InPlace place ∷ []) old mid → Rewritten key places buffers blocks place change mid new → Changes key places buffers blocks p a (InPlace place ∷ []) old new
  rewritten p a place change old mid new c r = record {
    key = r.key ∙ c.key;
    others = keeps_join (places old) (places mid) (places new) (buffers old) (buffers mid) (buffers new) (InPlace place ∷ []) c.others (write_keeps (places mid) (places new) (buffers mid) (buffers new) place r.others r.buffers);
    still_there = λ foot some. still foot (c.still_there foot some);
    no_fewer_places = omega (arith, c.no_fewer_places, r.count);
    few_places = omega (arith, c.few_places, r.count);
    no_fewer_buffers = omega (arith, c.no_fewer_buffers, ap fin.len r.buffers);
    few_buffers = omega (arith, c.few_buffers, ap fin.len r.buffers);
    no_fewer_blocks = λ region. omega (arith, c.no_fewer_blocks region, r.blocks region);
    few_blocks = λ region. omega (arith, c.few_blocks region, r.blocks region);
  }
    where
      still : (foot : Foot) → IsSome (foot_bytes (places mid) (buffers mid) foot) → IsSome (foot_bytes (places new) (buffers new) foot)
      still (InPlace q) some = r.still_live q some
      still (InBuffer b) some = subst (λ m. IsSome (fin.get m b)) (sym r.buffers) some

  pub changes_join : (p q a b : ℕ) (feet : List Foot) (old mid new : S) → Changes key places buffers blocks p a feet old mid → Changes key places buffers blocks q b feet mid new → Changes key places buffers blocks (p + q) (a + b) feet old new
  changes_join p q a b feet old mid new c d = record {
    key = d.key ∙ c.key;
    others = keeps_join (places old) (places mid) (places new) (buffers old) (buffers mid) (buffers new) feet c.others d.others;
    still_there = λ foot some. d.still_there foot (c.still_there foot some);
    no_fewer_places = omega (arith, c.no_fewer_places, d.no_fewer_places);
    few_places = omega (arith, c.few_places, d.few_places);
    no_fewer_buffers = omega (arith, c.no_fewer_buffers, d.no_fewer_buffers);
    few_buffers = omega (arith, c.few_buffers, d.few_buffers);
    no_fewer_blocks = λ region. omega (arith, c.no_fewer_blocks region, d.no_fewer_blocks region);
    few_blocks = λ region. omega (arith, c.few_blocks region, d.few_blocks region);
  }

  pub changes_widen : (p q a b : ℕ) (feet more : List Foot) (old new : S) → Changes key places buffers blocks p a feet old new → p ≤ q → a ≤ b → ((foot : Foot) → IsAmong foot feet → IsAmong foot more) → Changes key places buffers blocks q b more old new
  changes_widen p q a b feet more old new c few_p few_a within = record {
    key = c.key;
    others = λ foot was outside is. c.others foot was (none_of foot feet (λ among. omega (arith, within foot among, outside))) is;
    still_there = c.still_there;
    no_fewer_places = c.no_fewer_places;
    few_places = omega (arith, c.few_places, few_p);
    no_fewer_buffers = c.no_fewer_buffers;
    few_buffers = omega (arith, c.few_buffers, few_a);
    no_fewer_blocks = c.no_fewer_blocks;
    few_blocks = λ region. omega (arith, c.few_blocks region, few_p);
  }

pub fresh_before : (places places' : Places) (buffers buffers' : Buffers) (foot : Foot) → (IsSome (foot_bytes places buffers foot) → IsSome (foot_bytes places' buffers' foot)) → foot_bytes places' buffers' foot ≡ None → foot_bytes places buffers foot ≡ None
fresh_before places places' buffers buffers' foot still none = by_found (foot_bytes places buffers foot) refl
  where
    by_found : (o : Option (List ℕ)) → foot_bytes places buffers foot ≡ o → foot_bytes places buffers foot ≡ None
    by_found None is = is
    by_found (Some was) is = absurd (not_both (foot_bytes places' buffers' foot) (still (subst IsSome (sym is) refl)) none)
      where
        not_both : (o : Option (List ℕ)) → IsSome o → o ≡ None → ⊥
        not_both None some e = absurd (true≢false (sym some))
        not_both (Some x) some e = none-some x (sym e)
