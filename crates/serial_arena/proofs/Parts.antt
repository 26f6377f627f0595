-- Parts of rows of bytes, and blocks of which one changes.
use Rattle.std.proofs.Common.{◌≡◌, ℕ, ◌+◌, ◌-◌, ◌<◌, ◌≤◌, List, ◌++◌, length, take, drop, ⊎_elim, refl, sym, ap, subst, ◌∙◌, arith, rules}
use Rattle.std.specs.Prelude.{replicate}
use Rattle.std.proofs.lemmas.List.{same_lists, places, length-append, length-drop, length-replicate, length-set, drop_at, drop-append-le, take-append-le, take_all, get_or-set_same, get_or-set_other}
use Rattle.std.proofs.Math.Seq.{map-set_same}
use Rattle.std.proofs.lemmas.Bool.{cases_Bool, eqb-true, eqb-false}
use Rattle.std.specs.Prelude.{◌==◌}
use Rattle.arena_mem.specs.Places.{splice, round8}
use Rattle.arena_block.specs.Block.{BlockState, part_of, with_part, with_bytes}
use Rattle.serial_arena.specs.Layout.{no_block, block_at, newest, sizes_of, with_filled, with_written}

-- ---- parts of a row
part-splice_before : (s n at : ℕ) (bs row : List ℕ) → s + n ≤ at → at + length bs ≤ length row → take n (drop s (splice at bs row)) ≡ take n (drop s row)
part-splice_before s n at bs row before fits = same_lists _ _ (search (rules, places)) (λ k d h. grind (arith, places))

part-splice_after : (s n at : ℕ) (bs row : List ℕ) → at + length bs ≤ s → s + n ≤ length row → take n (drop s (splice at bs row)) ≡ take n (drop s row)
part-splice_after s n at bs row after fits = same_lists _ _ (search (rules, places)) (λ k d h. grind (arith, places))

part-splice_within : (s n at start : ℕ) (bs row : List ℕ) → at ≡ s + start → start + length bs ≤ n → s + n ≤ length row → take n (drop s (splice at bs row)) ≡ splice start bs (take n (drop s row))
part-splice_within s n at start bs row is within fits = same_lists _ _ (search (rules, places)) (λ k d h. grind (arith, places))

length-splice : (at : ℕ) (bs row : List ℕ) → at + length bs ≤ length row → length (splice at bs row) ≡ length row
length-splice at bs row fits = search (rules, places)

part-append : (s n : ℕ) (row zs : List ℕ) → s + n ≤ length row → take n (drop s (row ++ zs)) ≡ take n (drop s row)
part-append s n row zs fits = ap (take n) (drop-append-le s row zs (omega (arith, fits))) ∙ take-append-le n (drop s row) zs (omega (arith, fits, length-drop s row))

part_behind : (n : ℕ) (row zs : List ℕ) → length zs ≡ n → take n (drop (length row) (row ++ zs)) ≡ zs
part_behind n row zs is = ap (take n) (drop_at row zs (length row) refl) ∙ take_all n zs (omega (arith, is))

-- ---- one block is filled further
module _ (blocks : List BlockState) (some : 0 < length blocks) (bytes : ℕ) where
  filled_there : block_at (with_filled blocks bytes) (length blocks - 1) ≡ with_part (newest blocks) bytes
  filled_there = get_or-set_same blocks (length blocks - 1) (with_part (newest blocks) bytes) no_block (omega (arith, some))

  filled_else : (j : ℕ) → (j ≡ length blocks - 1 → ⊥) → block_at (with_filled blocks bytes) j ≡ block_at blocks j
  filled_else j other = get_or-set_other blocks (length blocks - 1) j (with_part (newest blocks) bytes) no_block other

  pub filled_count : length (with_filled blocks bytes) ≡ length blocks
  filled_count = length-set blocks (length blocks - 1) (with_part (newest blocks) bytes)

  pub filled_newest : newest (with_filled blocks bytes) ≡ with_part (newest blocks) bytes
  filled_newest = ap (λ n. block_at (with_filled blocks bytes) (n - 1)) filled_count ∙ filled_there

  pub filled_length : length (newest (with_filled blocks bytes)).bytes ≡ length (newest blocks).bytes + round8 bytes
  filled_length = ap (λ (b : BlockState). length b.bytes) filled_newest ∙ length-append (newest blocks).bytes (replicate (round8 bytes) 0) ∙ ap (λ n. length (newest blocks).bytes + n) (length-replicate (round8 bytes) 0)

  pub filled_sizes : sizes_of (with_filled blocks bytes) ≡ sizes_of blocks
  filled_sizes = map-set_same (λ (b : BlockState). b.size) blocks (length blocks - 1) (with_part (newest blocks) bytes) no_block refl

  at_newest : (P : ℕ → Type 0) (j : ℕ) → P (length blocks - 1) → ((j ≡ length blocks - 1 → ⊥) → P j) → P j
  at_newest P j here else = ⊎_elim (λ t. subst P (sym (eqb-true j (length blocks - 1) t)) here) (λ f. else (eqb-false j (length blocks - 1) f)) (cases_Bool (j == length blocks - 1))

  -- what was filled before is still there
  pub filled_part : (j offset len : ℕ) → offset + len ≤ length (block_at blocks j).bytes → part_of (block_at (with_filled blocks bytes) j) offset len ≡ part_of (block_at blocks j) offset len
  filled_part j offset len = at_newest (λ j. offset + len ≤ length (block_at blocks j).bytes → part_of (block_at (with_filled blocks bytes) j) offset len ≡ part_of (block_at blocks j) offset len) j
      (λ h. ap (λ b. part_of b offset len) filled_there ∙ part-append offset len (newest blocks).bytes (replicate (round8 bytes) 0) h)
      (λ other h. ap (λ b. part_of b offset len) (filled_else j other))

  pub filled_grows : (j : ℕ) → length (block_at blocks j).bytes ≤ length (block_at (with_filled blocks bytes) j).bytes
  filled_grows j = at_newest (λ j. length (block_at blocks j).bytes ≤ length (block_at (with_filled blocks bytes) j).bytes) j
      (omega (arith, ap (λ (b : BlockState). length b.bytes) filled_there, length-append (newest blocks).bytes (replicate (round8 bytes) 0)))
      (λ other. omega (arith, ap (λ (b : BlockState). length b.bytes) (filled_else j other)))

  -- what was filled is zero
  pub filled_zero : part_of (block_at (with_filled blocks bytes) (length blocks - 1)) (length (newest blocks).bytes) (round8 bytes) ≡ replicate (round8 bytes) 0
  filled_zero = ap (λ b. part_of b (length (newest blocks).bytes) (round8 bytes)) filled_there ∙ part_behind (round8 bytes) (newest blocks).bytes (replicate (round8 bytes) 0) (length-replicate (round8 bytes) 0)

-- ---- one block is written to
module _ (blocks : List BlockState) (b : ℕ) (here : b < length blocks) (at : ℕ) (bs : List ℕ) (fits : at + length bs ≤ length (block_at blocks b).bytes) where
  written_there : block_at (with_written blocks b at bs) b ≡ with_bytes (block_at blocks b) at bs
  written_there = get_or-set_same blocks b (with_bytes (block_at blocks b) at bs) no_block here

  written_else : (j : ℕ) → (j ≡ b → ⊥) → block_at (with_written blocks b at bs) j ≡ block_at blocks j
  written_else j other = get_or-set_other blocks b j (with_bytes (block_at blocks b) at bs) no_block other

  pub written_count : length (with_written blocks b at bs) ≡ length blocks
  written_count = length-set blocks b (with_bytes (block_at blocks b) at bs)

  pub written_sizes : sizes_of (with_written blocks b at bs) ≡ sizes_of blocks
  written_sizes = map-set_same (λ (x : BlockState). x.size) blocks b (with_bytes (block_at blocks b) at bs) no_block refl

  at_written : (P : ℕ → Type 0) (j : ℕ) → P b → ((j ≡ b → ⊥) → P j) → P j
  at_written P j this else = ⊎_elim (λ t. subst P (sym (eqb-true j b t)) this) (λ f. else (eqb-false j b f)) (cases_Bool (j == b))

  -- a block keeps its size and what is filled
  pub written_size : (j : ℕ) → (block_at (with_written blocks b at bs) j).size ≡ (block_at blocks j).size
  written_size j = at_written (λ j. (block_at (with_written blocks b at bs) j).size ≡ (block_at blocks j).size) j
      (ap (λ (x : BlockState). x.size) written_there)
      (λ other. ap (λ (x : BlockState). x.size) (written_else j other))

  pub written_length : (j : ℕ) → length (block_at (with_written blocks b at bs) j).bytes ≡ length (block_at blocks j).bytes
  written_length j = at_written (λ j. length (block_at (with_written blocks b at bs) j).bytes ≡ length (block_at blocks j).bytes) j
      (ap (λ (x : BlockState). length x.bytes) written_there ∙ length-splice at bs (block_at blocks b).bytes fits)
      (λ other. ap (λ (x : BlockState). length x.bytes) (written_else j other))

  -- a part beside what is written stays, in another block, in front of it and behind it
  pub written_beside : (j offset len : ℕ) → (j ≡ b → ⊥) → part_of (block_at (with_written blocks b at bs) j) offset len ≡ part_of (block_at blocks j) offset len
  written_beside j offset len other = ap (λ x. part_of x offset len) (written_else j other)

  pub written_before : (offset len : ℕ) → offset + len ≤ at → part_of (block_at (with_written blocks b at bs) b) offset len ≡ part_of (block_at blocks b) offset len
  written_before offset len before = ap (λ x. part_of x offset len) written_there ∙ part-splice_before offset len at bs (block_at blocks b).bytes before fits

  pub written_after : (offset len : ℕ) → at + length bs ≤ offset → offset + len ≤ length (block_at blocks b).bytes → part_of (block_at (with_written blocks b at bs) b) offset len ≡ part_of (block_at blocks b) offset len
  written_after offset len after within = ap (λ x. part_of x offset len) written_there ∙ part-splice_after offset len at bs (block_at blocks b).bytes after within

  pub written_within : (offset len start : ℕ) → at ≡ offset + start → start + length bs ≤ len → offset + len ≤ length (block_at blocks b).bytes
      → part_of (block_at (with_written blocks b at bs) b) offset len ≡ splice start bs (part_of (block_at blocks b) offset len)
  written_within offset len start is within part = ap (λ x. part_of x offset len) written_there ∙ part-splice_within offset len at start bs (block_at blocks b).bytes is within part
