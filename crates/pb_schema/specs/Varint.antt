-- Varints: a number in groups of seven bits, the least group first (encoding guide, "Base 128 Varints").
use Rattle.std.specs.Prelude.{◌≡◌, ◌+◌, ◌*◌, ◌/◌, ◌%◌, ◌^◌, ◌<◌, ◌≤◌, ℕ, zero, suc, List, [], ◌∷◌, length, take, Option, None, Some, nat_lt, if◌then◌else◌}
use Rattle.std.specs.Option.{option_map}

-- each byte but the last has the continuation bit, which is the highest
abbrev pub IsContinued : List ℕ → Type 0
IsContinued [] = ⊥
IsContinued (b ∷ []) = b < 128
IsContinued (b ∷ c ∷ bs) = (128 ≤ b) × IsContinued (c ∷ bs)

-- the number that the low seven bits of the bytes spell
abbrev pub seven_bits : List ℕ → ℕ
seven_bits [] = 0
seven_bits (b ∷ bs) = b % 128 + 128 * seven_bits bs

-- the bytes s, at most `most` of them, spell the value v; bits past the 64th don't count
pub record Varint (s : List ℕ) (most v : ℕ) : Type 0 where
  pub continued : IsContinued s
  pub most_bytes : length s ≤ most
  pub value : v ≡ seven_bits s % 2 ^ 64

-- how many bytes the varint at the front has, where one of at most `most` bytes stands there
abbrev pub varint_bytes : ℕ → List ℕ → Option ℕ
varint_bytes zero s = None
varint_bytes (suc most) [] = None
varint_bytes (suc most) (b ∷ s) = if nat_lt b 128 then Some 1 else option_map suc (varint_bytes most s)

-- the value of the varint at the front, and how many bytes it has
abbrev pub varint_at : ℕ → List ℕ → Option (ℕ × ℕ)
varint_at most s = option_map (λ n. (seven_bits (take n s) % 2 ^ 64, n)) (varint_bytes most s)

-- a value has at most ten bytes; a tag has at most five, and so has a length or a prefix of a frame
abbrev pub value_bytes : ℕ
value_bytes = 10

abbrev pub tag_bytes : ℕ
tag_bytes = 5

abbrev pub length_bytes : ℕ
length_bytes = 5

-- the number in groups of seven bits, in at most `more` bytes and one
abbrev pub groups : ℕ → ℕ → List ℕ
groups zero v = v ∷ []
groups (suc more) v = if nat_lt v 128 then v ∷ [] else (v % 128 + 128) ∷ groups more (v / 128)

-- the shortest varint of a value of 64 bits
abbrev pub varint_of : ℕ → List ℕ
varint_of v = groups 9 v
