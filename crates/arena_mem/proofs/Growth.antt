-- Growths one after the other.
use Rattle.std.proofs.Common.{◌≡◌, ◌+◌, ◌≤◌, ℕ, ⊎_elim, refl, sym, ap, subst, ◌∙◌, arith}
use Rattle.std.specs.FinMap as fin
use Rattle.std.proofs.lemmas.Bool.{cases_lt}
use Rattle.arena_mem.specs.Places.{Places, Buffers, KeepsRest, KeepsBuffers, AddsAtMostABlock}
use Rattle.arena_mem.specs.Grows.{Grows}

-- no region has fewer blocks, and none has more than one more
no_fewer : (old new : ℕ → ℕ) → AddsAtMostABlock old new → (region : ℕ) → old region ≤ new region
no_fewer old new adds region = ⊎_elim
    (λ l. omega (arith, adds.2 region (λ e. omega (arith, l, e))))
    (λ l. ⊎_elim (λ m. omega (arith, adds.2 region (λ e. omega (arith, m, e))))
    (λ m. let here : adds.0 ≡ region = omega (arith, l, m) in
    subst (λ r. old r ≤ new r) here (⊎_elim (λ same. omega (arith, same)) (λ more. omega (arith, more)) adds.1))
    (cases_lt adds.0 region))
    (cases_lt region adds.0)

one_more : (old new : ℕ → ℕ) → AddsAtMostABlock old new → (region : ℕ) → new region ≤ old region + 1
one_more old new adds region = ⊎_elim
    (λ l. omega (arith, adds.2 region (λ e. omega (arith, l, e))))
    (λ l. ⊎_elim (λ m. omega (arith, adds.2 region (λ e. omega (arith, m, e))))
    (λ m. let here : adds.0 ≡ region = omega (arith, l, m) in
    subst (λ r. new r ≤ old r + 1) here (⊎_elim (λ same. omega (arith, same)) (λ more. omega (arith, more)) adds.1))
    (cases_lt adds.0 region))
    (cases_lt region adds.0)

module _ {S K : Type 0} (key : S → K) (places : S → Places) (buffers : S → Buffers) (blocks : S → ℕ → ℕ) where
  -- no change is a growth by nothing
  pub nothing_grows : (now : S) → Grows key places buffers blocks 0 0 now now
  nothing_grows now = record {
    key = refl;
    rest = λ _ _ is. is;
    buffers = λ _ _ is. is;
    no_fewer_places = omega arith;
    few_places = omega arith;
    no_fewer_buffers = omega arith;
    few_buffers = omega arith;
    no_fewer_blocks = λ region. omega arith;
    few_blocks = λ region. omega arith;
  }

  -- two growths are one, by the sums
  pub growths_join : (p q a b : ℕ) (old mid new : S) → Grows key places buffers blocks p a old mid → Grows key places buffers blocks q b mid new → Grows key places buffers blocks (p + q) (a + b) old new
  growths_join p q a b old mid new g h = record {
    key = h.key ∙ g.key;
    rest = λ at was is. h.rest at was (g.rest at was is);
    buffers = λ at was is. h.buffers at was (g.buffers at was is);
    no_fewer_places = omega (arith, g.no_fewer_places, h.no_fewer_places);
    few_places = omega (arith, g.few_places, h.few_places);
    no_fewer_buffers = omega (arith, g.no_fewer_buffers, h.no_fewer_buffers);
    few_buffers = omega (arith, g.few_buffers, h.few_buffers);
    no_fewer_blocks = λ region. omega (arith, g.no_fewer_blocks region, h.no_fewer_blocks region);
    few_blocks = λ region. omega (arith, g.few_blocks region, h.few_blocks region);
  }

  -- a growth by less is one by more
  pub growth_widens : (p q a b : ℕ) (old new : S) → Grows key places buffers blocks p a old new → p ≤ q → a ≤ b → Grows key places buffers blocks q b old new
  growth_widens p q a b old new g places_le buffers_le = record {
    key = g.key;
    rest = g.rest;
    buffers = g.buffers;
    no_fewer_places = g.no_fewer_places;
    few_places = omega (arith, g.few_places);
    no_fewer_buffers = g.no_fewer_buffers;
    few_buffers = omega (arith, g.few_buffers);
    no_fewer_blocks = g.no_fewer_blocks;
    few_blocks = λ region. omega (arith, g.few_blocks region);
  }

  -- ---- the calls of a memory
  -- one placement
  pub placed_grows : (old new : S) → key new ≡ key old → KeepsRest (places old) (places new) → fin.len (places new) ≡ fin.len (places old) + 1 → buffers new ≡ buffers old → AddsAtMostABlock (blocks old) (blocks new)
      → Grows key places buffers blocks 1 0 old new
  placed_grows old new same rest count kept adds = record {
    key = same;
    rest = rest;
    buffers = λ b was is. ap (λ m. fin.get m b) kept ∙ is;
    no_fewer_places = omega (arith, count);
    few_places = omega (arith, count);
    no_fewer_buffers = omega (arith, ap fin.len kept);
    few_buffers = omega (arith, ap fin.len kept);
    no_fewer_blocks = no_fewer (blocks old) (blocks new) adds;
    few_blocks = one_more (blocks old) (blocks new) adds;
  }

  -- one byte string kept
  pub kept_grows : (old new : S) → key new ≡ key old → KeepsBuffers (buffers old) (buffers new) → fin.len (buffers new) ≡ fin.len (buffers old) + 1 → places new ≡ places old → ((region : ℕ) → blocks new region ≡ blocks old region)
      → Grows key places buffers blocks 0 1 old new
  kept_grows old new same rest count placed still = record {
    key = same;
    rest = λ p was is. ap (λ m. fin.get m p) placed ∙ is;
    buffers = rest;
    no_fewer_places = omega (arith, ap fin.len placed);
    few_places = omega (arith, ap fin.len placed);
    no_fewer_buffers = omega (arith, count);
    few_buffers = omega (arith, count);
    no_fewer_blocks = λ region. omega (arith, still region);
    few_blocks = λ region. omega (arith, still region);
  }

  -- where nothing changed
  pub same_grows : (p a : ℕ) (old new : S) → new ≡ old → Grows key places buffers blocks p a old new
  same_grows p a old new same = growth_widens 0 p 0 a old new (subst (λ now. Grows key places buffers blocks 0 0 old now) (sym same) (nothing_grows old)) (omega arith) (omega arith)
