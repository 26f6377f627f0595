-- Placements that are laid in blocks lie apart, and stay laid with one more.
use Rattle.std.proofs.Common.{◌≡◌, ℕ, zero, suc, ◌+◌, ◌-◌, ◌<◌, ◌≤◌, List, [], ◌∷◌, ◌++◌, length, get_or, inl, inr, ⊎_elim, refl, sym, ap, subst, ◌∙◌, arith}
use Rattle.std.specs.Prelude.{◌⊎◌, Option}
use Rattle.std.proofs.lemmas.List.{length_push, get_or_append_left, get_or_push}
use Rattle.std.proofs.lemmas.Bool.{cases_lt}
use Rattle.arena_mem.specs.Places.{Apart}
use Rattle.arena_block.specs.declared.policy.Policy.{Policy}
use Rattle.arena_block.specs.Policy.{IsLength, next_size}
use Rattle.serial_arena.specs.declared.span.Span.{Span}
use Rattle.serial_arena.specs.Laid.{nowhere, span_at, end_of, filled_to, size_at, size_before, place_of, GoesOn, OpensNext, Within, Laid}

-- ---- lists with one element more
pub for_each : {X : Type 0} (P : X → Type 0) (xs : List X) (y d : X) → ((k : ℕ) → k < length xs → P (get_or xs k d)) → P y → (k : ℕ) → k < length (xs ++ y ∷ []) → P (get_or (xs ++ y ∷ []) k d)
for_each P xs y d old new k h = ⊎_elim
    (λ l. subst P (sym (get_or_append_left xs (y ∷ []) d k l)) (old k l))
    (λ l. subst P (sym (get_or_push xs y d k (omega (arith, l, h, length_push xs y)))) new)
    (cases_lt k (length xs))

for_pairs : {X : Type 0} (Q : X → X → Type 0) (xs : List X) (y d : X) → ((k : ℕ) → suc k < length xs → Q (get_or xs k d) (get_or xs (suc k) d)) → (0 < length xs → Q (get_or xs (length xs - 1) d) y)
    → (k : ℕ) → suc k < length (xs ++ y ∷ []) → Q (get_or (xs ++ y ∷ []) k d) (get_or (xs ++ y ∷ []) (suc k) d)
for_pairs Q xs y d old new k h =
    let there : k < length xs = omega (arith, h, length_push xs y) in
    subst (λ x. Q x (get_or (xs ++ y ∷ []) (suc k) d)) (sym (get_or_append_left xs (y ∷ []) d k there)) (⊎_elim
    (λ l. subst (Q (get_or xs k d)) (sym (get_or_append_left xs (y ∷ []) d (suc k) l)) (old k l))
    (λ l. let last : length xs - 1 ≡ k = omega (arith, l, there) in
    subst (Q (get_or xs k d)) (sym (get_or_push xs y d (suc k) (omega (arith, l, there)))) (subst (λ n. Q (get_or xs n d) y) last (new (omega (arith, there)))))
    (cases_lt (suc k) (length xs)))

pub last_pushed : {X : Type 0} (xs : List X) (y d : X) → get_or (xs ++ y ∷ []) (length (xs ++ y ∷ []) - 1) d ≡ y
last_pushed xs y d = get_or_push xs y d (length (xs ++ y ∷ []) - 1) (omega (arith, length_push xs y))

-- ---- the order of placements
abbrev Next : List ℕ → Span → Span → Type 0
Next sizes x y = GoesOn x y ⊎ OpensNext sizes x y

-- in an earlier block, or in front of it in the same one
abbrev pub Before : Span → Span → Type 0
Before x y = (x.block < y.block) ⊎ ((x.block ≡ y.block) × (end_of x ≤ y.offset))

next_before : (sizes : List ℕ) (x y : Span) → Next sizes x y → Before x y
next_before sizes x y n = ⊎_elim (λ g. inr (sym g.block, omega (arith, g.offset))) (λ o. inl (omega (arith, o.block))) n

before_next : (sizes : List ℕ) (x y z : Span) → Before x y → Next sizes y z → Before x z
before_next sizes x y z b n = ⊎_elim
    (λ l. ⊎_elim (λ g. inl (omega (arith, l, g.block))) (λ o. inl (omega (arith, l, o.block))) n)
    (λ s. ⊎_elim (λ g. inr (s.0 ∙ sym g.block, omega (arith, s.1, g.offset))) (λ o. inl (omega (arith, s.0, o.block))) n)
    b

module _ (policy : Policy) (sizes : List ℕ) (spans : List Span) (laid : Laid policy sizes spans) where
  ordered : (gap j : ℕ) → j + suc gap < length spans → Before (span_at spans j) (span_at spans (j + suc gap))
  ordered zero j h =
      let same : suc j ≡ j + 1 = omega arith in
      subst (λ n. Before (span_at spans j) (span_at spans n)) same (next_before sizes _ _ (laid.next j (omega (arith, h))))
  ordered (suc gap) j h =
      let same : suc (j + suc gap) ≡ j + suc (suc gap) = omega arith in
      subst (λ n. Before (span_at spans j) (span_at spans n)) same (before_next sizes _ _ _ (ordered gap j (omega (arith, h))) (laid.next (j + suc gap) (omega (arith, h))))

  pub before : (j k : ℕ) → j < k → k < length spans → Before (span_at spans j) (span_at spans k)
  before j k l h =
      let same : j + suc (k - j - 1) ≡ k = omega (arith, l) in
      subst (λ n. Before (span_at spans j) (span_at spans n)) same (ordered (k - j - 1) j (omega (arith, l, h)))

  pub lie_apart : (region j k : ℕ) → j < k → k < length spans → Apart (place_of region (span_at spans j)) (place_of region (span_at spans k))
  lie_apart region j k l h = ⊎_elim (λ b. inr (inl (λ e. omega (arith, b, e)))) (λ s. inr (inr (inl s.1))) (before j k l h)

  -- no two placements begin at one byte
  pub differ : (j k : ℕ) → j < k → k < length spans → (span_at spans j).block ≡ (span_at spans k).block → (span_at spans j).offset ≡ (span_at spans k).offset → ⊥
  differ j k l h block offset = ⊎_elim (λ b. omega (arith, b, block)) (λ s. omega (arith, s.1, offset, (laid.lens j (omega (arith, l, h))).some)) (before j k l h)

  pub behind_header : (k : ℕ) → k < length spans → 16 ≤ (span_at spans k).offset
  behind_header zero h = omega (arith, laid.first_offset h)
  behind_header (suc k) h = ⊎_elim (λ g. omega (arith, g.offset, behind_header k (omega (arith, h)))) (λ o. omega (arith, o.offset)) (laid.next k h)

  block_le : (k : ℕ) → k < length spans → (span_at spans k).block ≤ k
  block_le zero h = omega (arith, laid.first_block h)
  block_le (suc k) h = ⊎_elim (λ g. omega (arith, g.block, block_le k (omega (arith, h)))) (λ o. omega (arith, o.block, block_le k (omega (arith, h)))) (laid.next k h)

  pub some_spans : 0 < length sizes → 0 < length spans
  some_spans h = let there = laid.held 0 h in omega (arith, there.1)

  pub few_blocks : length sizes ≤ length spans
  few_blocks = ⊎_elim
      (λ l. omega (arith, l, laid.newest l, block_le (length spans - 1) (omega (arith, l))))
      (λ none. ⊎_elim (λ l. absurd (omega (arith, none, some_spans l))) (λ l. omega (arith, l)) (cases_lt 0 (length sizes)))
      (cases_lt 0 (length spans))

  -- ---- one placement more
  module _ (len : ℕ) (is : IsLength len) where
    -- in the newest block
    module _ (some : 0 < length sizes) (fits : len ≤ size_at sizes (length sizes - 1) - filled_to spans) where
      abbrev here : Span
      here = record { block = length sizes - 1; offset = filled_to spans; len = len }

      there : 0 < length spans
      there = some_spans some

      last_in : Within sizes (span_at spans (length spans - 1))
      last_in = laid.within (length spans - 1) (omega (arith, there))

      newest_block : (span_at spans (length spans - 1)).block ≡ length sizes - 1
      newest_block = omega (arith, laid.newest there)

      at_old : (k : ℕ) → k < length spans → span_at (spans ++ here ∷ []) k ≡ span_at spans k
      at_old k h = get_or_append_left spans (here ∷ []) nowhere k h

      last_size : end_of (span_at spans (length spans - 1)) ≤ size_at sizes (length sizes - 1)
      last_size = subst (λ b. end_of (span_at spans (length spans - 1)) ≤ size_at sizes b) newest_block last_in.fits

      pub laid_within : Laid policy sizes (spans ++ here ∷ [])
      laid_within = record {
        lens = for_each (λ x. IsLength x.len) spans here nowhere laid.lens is;
        first_block = λ _. ap (λ (x : Span). x.block) (at_old 0 there) ∙ laid.first_block there;
        first_offset = λ _. ap (λ (x : Span). x.offset) (at_old 0 there) ∙ laid.first_offset there;
        next = for_pairs (Next sizes) spans here nowhere laid.next (λ _. inl (record { block = sym newest_block; offset = refl }));
        sized = for_each (λ x. x.offset ≡ 16 → size_at sizes x.block ≡ next_size policy (size_before sizes x.block) x.len) spans here nowhere laid.sized
            (λ first. absurd (omega (arith, first, behind_header (length spans - 1) (omega (arith, there)), (laid.lens (length spans - 1) (omega (arith, there))).some)));
        within = for_each (Within sizes) spans here nowhere laid.within (record { block = omega (arith, some); fits = omega (arith, fits, last_size, is.some) });
        held = λ block h. let at = laid.held block h in (at.0, omega (arith, at.1, length_push spans here), ap (λ (x : Span). x.block) (at_old at.0 at.1) ∙ at.2);
        newest = λ _. ap (λ (x : Span). x.block + 1) (last_pushed spans here nowhere) ∙ omega (arith, some);
      }

    -- in the next block
    module _ (longer : size_at sizes (length sizes - 1) - filled_to spans < len) where
      abbrev size : ℕ
      size = next_size policy (size_before sizes (length sizes)) len

      abbrev opens : Span
      opens = record { block = length sizes; offset = 16; len = len }

      size_old : (b : ℕ) → b < length sizes → size_at (sizes ++ size ∷ []) b ≡ size_at sizes b
      size_old b h = get_or_append_left sizes (size ∷ []) 0 b h

      before_old : (b : ℕ) → b ≤ length sizes → size_before (sizes ++ size ∷ []) b ≡ size_before sizes b
      before_old zero h = refl
      before_old (suc b) h = ap Option.Some (size_old b (omega (arith, h)))

      next_old : (k : ℕ) → suc k < length spans → Next (sizes ++ size ∷ []) (span_at spans k) (span_at spans (suc k))
      next_old k h = ⊎_elim (λ g. inl g)
          (λ o. inr (record { block = o.block; offset = o.offset; longer = subst (λ n. n - end_of (span_at spans k) < (span_at spans (suc k)).len) (sym (size_old _ (laid.within k (omega (arith, h))).block)) o.longer }))
          (laid.next k h)

      within_old : (k : ℕ) → k < length spans → Within (sizes ++ size ∷ []) (span_at spans k)
      within_old k h =
          let old = laid.within k h in
          record { block = omega (arith, old.block, length_push sizes size); fits = subst (λ n. end_of (span_at spans k) ≤ n) (sym (size_old _ old.block)) old.fits }

      sizes_old : (k : ℕ) → k < length spans → (span_at spans k).offset ≡ 16
          → size_at (sizes ++ size ∷ []) (span_at spans k).block ≡ next_size policy (size_before (sizes ++ size ∷ []) (span_at spans k).block) (span_at spans k).len
      sizes_old k h first =
          let block = (laid.within k h).block in
          size_old _ block ∙ laid.sized k h first ∙ sym (ap (λ b. next_size policy b (span_at spans k).len) (before_old _ (omega (arith, block))))

      size_new : size_at (sizes ++ size ∷ []) (length sizes) ≡ size
      size_new = get_or_push sizes size 0 (length sizes) refl

      -- the last placement before leaves too little room
      follows : 0 < length spans → Next (sizes ++ size ∷ []) (span_at spans (length spans - 1)) opens
      follows there =
          let block : (span_at spans (length spans - 1)).block + 1 ≡ length sizes = laid.newest there in
          let newest : length sizes - 1 ≡ (span_at spans (length spans - 1)).block = omega (arith, block) in
          inr (record {
            block = sym block;
            offset = refl;
            longer = subst (λ n. n - filled_to spans < len) (ap (size_at sizes) newest ∙ sym (size_old _ (omega (arith, block)))) longer;
          })

      first_of : (P : Span → Type 0) → (0 < length spans → P (span_at spans 0)) → (length spans ≡ 0 → P opens) → P (span_at (spans ++ opens ∷ []) 0)
      first_of P old new = ⊎_elim
          (λ l. subst P (sym (get_or_append_left spans (opens ∷ []) nowhere 0 l)) (old l))
          (λ l. let none : length spans ≡ 0 = omega (arith, l) in subst P (sym (get_or_push spans opens nowhere 0 none)) (new none))
          (cases_lt 0 (length spans))

      pub laid_beyond : Laid policy (sizes ++ size ∷ []) (spans ++ opens ∷ [])
      laid_beyond = record {
        lens = for_each (λ x. IsLength x.len) spans opens nowhere laid.lens is;
        first_block = λ _. first_of (λ x. x.block ≡ 0) laid.first_block (λ none. omega (arith, none, few_blocks));
        first_offset = λ _. first_of (λ x. x.offset ≡ 16) laid.first_offset (λ _. refl);
        next = for_pairs (Next (sizes ++ size ∷ [])) spans opens nowhere next_old follows;
        sized = for_each (λ x. x.offset ≡ 16 → size_at (sizes ++ size ∷ []) x.block ≡ next_size policy (size_before (sizes ++ size ∷ []) x.block) x.len) spans opens nowhere sizes_old
            (λ _. size_new ∙ sym (ap (λ b. next_size policy b len) (before_old (length sizes) (omega arith))));
        within = for_each (Within (sizes ++ size ∷ [])) spans opens nowhere within_old
            (record { block = omega (arith, length_push sizes size); fits = subst (λ n. 16 + len ≤ n) (sym size_new) (omega arith) });
        held = λ block h. ⊎_elim
            (λ l. let at = laid.held block l in (at.0, omega (arith, at.1, length_push spans opens), ap (λ (x : Span). x.block) (get_or_append_left spans (opens ∷ []) nowhere at.0 at.1) ∙ at.2))
            (λ l. (length spans, omega (arith, length_push spans opens), ap (λ (x : Span). x.block) (get_or_push spans opens nowhere (length spans) refl) ∙ omega (arith, l, h, length_push sizes size)))
            (cases_lt block (length sizes));
        newest = λ _. ap (λ (x : Span). x.block + 1) (last_pushed spans opens nowhere) ∙ sym (length_push sizes size);
      }
