-- Parts of bytes after a write.
use Rattle.std.proofs.Common.{◌≡◌, ◌⊎◌, ◌+◌, ◌-◌, ◌≤◌, ℕ, List, ◌++◌, length, get_or, take, drop, sym, ap, ◌∙◌, ⊎_elim, append_assoc, length-append, length-drop, length-take-le, take_at, drop_at, drop-drop, take-take, get_or-drop, get_or-take, arith}
use Rattle.std.proofs.lemmas.List.{drop-take, take-append-le}
use Rattle.arena_mem.specs.Places.{splice}
use Rattle.dyn_message.specs.Slots.{part}

-- a part lies in a front
part_of_front : (at n : ℕ) (l : List ℕ) → part at n l ≡ drop at (take (at + n) l)
part_of_front at n l = sym (drop-take at n l)

module _ (start : ℕ) (x b : List ℕ) (fits : start + length x ≤ length b) where
  front_length : length (take start b) ≡ start
  front_length = omega (arith, length-take-le start b (omega (arith, fits)))

  pub splice_length : length (splice start x b) ≡ length b
  splice_length = omega (arith, length-append (take start b ++ x) (drop (start + length x) b), length-append (take start b) x, front_length, length-drop (start + length x) b)

  -- what was written
  pub part_here : (n : ℕ) → n ≡ length x → part start n (splice start x b) ≡ x
  part_here n is =
      ap (λ l. take n (drop start l)) (append_assoc (take start b) x (drop (start + length x) b))
      ∙ ap (take n) (drop_at (take start b) (x ++ drop (start + length x) b) start front_length)
      ∙ take_at x (drop (start + length x) b) n (sym is)

  -- what lies behind
  behind_write : (at : ℕ) → start + length x ≤ at → drop at (splice start x b) ≡ drop at b
  behind_write at later =
      let end = start + length x in
      let gap : at ≡ end + (at - end) = omega (arith, later) in
      let both : length (take start b ++ x) ≡ end = omega (arith, length-append (take start b) x, front_length) in
      ap (λ n. drop n (splice start x b)) gap
      ∙ sym (drop-drop (at - end) end (splice start x b))
      ∙ ap (drop (at - end)) (drop_at (take start b ++ x) (drop end b) end both)
      ∙ drop-drop (at - end) end b
      ∙ ap (λ n. drop n b) (sym gap)

  -- what lies in front
  in_front : (n : ℕ) → n ≤ start → take n (splice start x b) ≡ take n b
  in_front n sooner =
      ap (take n) (append_assoc (take start b) x (drop (start + length x) b))
      ∙ take-append-le n (take start b) (x ++ drop (start + length x) b) (omega (arith, sooner, front_length))
      ∙ take-take n start b sooner

  pub part_beside : (at n : ℕ) → (at + n ≤ start) ⊎ (start + length x ≤ at) → part at n (splice start x b) ≡ part at n b
  part_beside at n apart = ⊎_elim
      (λ sooner. part_of_front at n (splice start x b) ∙ ap (drop at) (in_front (at + n) sooner) ∙ sym (part_of_front at n b))
      (λ later. ap (take n) (behind_write at later))
      apart

-- one byte of a part
pub byte_of_part : (at : ℕ) (l : List ℕ) → get_or (part at 1 l) 0 0 ≡ get_or l at 0
byte_of_part at l = get_or-take 1 (drop at l) 0 0 (omega arith) ∙ get_or-drop at l 0 0 ∙ ap (λ k. get_or l k 0) {x = at + 0} (omega arith)

pub same_byte : (at : ℕ) (l l' : List ℕ) → part at 1 l' ≡ part at 1 l → get_or l' at 0 ≡ get_or l at 0
same_byte at l l' same = sym (byte_of_part at l') ∙ ap (λ s. get_or s 0 0) same ∙ byte_of_part at l
