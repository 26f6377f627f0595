-- Slots, word by word.
use Rattle.std.proofs.Common.{◌≡◌, ◌+◌, ◌*◌, ◌/◌, ◌%◌, ◌^◌, ◌<◌, ◌≤◌, ℕ, zero, suc, List, [], ◌∷◌, ◌++◌, length, get_or, take, drop, take-take, drop-drop, replicate, refl, sym, ap, ◌∙◌, append_assoc, append-nil, arith, w32}
use Rattle.std.specs.Int.{from_le_bytes, to_le_bytes}
use Rattle.std.proofs.lemmas.List.{drop-take, take_more, take_all}
use Rattle.std.proofs.lemmas.Nat.{from_le_bytes-to_le_bytes_4}
use Rattle.arena_mem.specs.declared.place.Place.{Place}
use Rattle.arena_mem.specs.declared.place.Buffer.{Buffer}
use Rattle.dyn_message.specs.Slots.{part, word, place_in, buffer_in}

-- the bytes of some words, word by word, the lowest byte first
abbrev pub words_text : List ℕ → List ℕ
words_text [] = []
words_text (w ∷ words) = to_le_bytes w32 w ++ words_text words

words_push : (ws : List ℕ) (w : ℕ) → words_text (ws ++ w ∷ []) ≡ words_text ws ++ to_le_bytes w32 w
words_push [] w = append-nil (to_le_bytes w32 w)
words_push (v ∷ ws) w = ap (λ bs. to_le_bytes w32 v ++ bs) (words_push ws w) ∙ sym (append_assoc (to_le_bytes w32 v) (words_text ws) (to_le_bytes w32 w))

pub one_word_more : (ws bytes : List ℕ) (i : ℕ) → i < length ws → bytes ≡ to_le_bytes w32 (get_or ws i 0) → words_text (take i ws) ++ bytes ≡ words_text (take (i + 1) ws)
one_word_more ws bytes i within is = ap (λ bs. words_text (take i ws) ++ bs) is ∙ (sym (words_push (take i ws) (get_or ws i 0)) ∙ ap words_text (sym (take_more ws i 0 within)))

read_back : (a b c d e f i : ℕ) → ((k : ℕ) → get_or (a ∷ b ∷ c ∷ d ∷ e ∷ f ∷ []) k 0 < 2 ^ 32) → i < 6 → word i (words_text (a ∷ b ∷ c ∷ d ∷ e ∷ f ∷ [])) ≡ get_or (a ∷ b ∷ c ∷ d ∷ e ∷ f ∷ []) i 0
unfolding word
read_back a b c d e f zero fits within = from_le_bytes-to_le_bytes_4 a (fits 0)
read_back a b c d e f (suc zero) fits within = from_le_bytes-to_le_bytes_4 b (fits 1)
read_back a b c d e f (suc (suc zero)) fits within = from_le_bytes-to_le_bytes_4 c (fits 2)
read_back a b c d e f (suc (suc (suc zero))) fits within = from_le_bytes-to_le_bytes_4 d (fits 3)
read_back a b c d e f (suc (suc (suc (suc zero)))) fits within = from_le_bytes-to_le_bytes_4 e (fits 4)
read_back a b c d e f (suc (suc (suc (suc (suc zero))))) fits within = from_le_bytes-to_le_bytes_4 f (fits 5)
read_back a b c d e f (suc (suc (suc (suc (suc (suc i)))))) fits within = absurd (omega (arith, within))

-- six words are read as they were written
pub words_read : (ws : List ℕ) (i : ℕ) → length ws ≡ 6 → ((k : ℕ) → get_or ws k 0 < 2 ^ 32) → i < 6 → word i (words_text ws) ≡ get_or ws i 0
words_read [] i size fits within = absurd (omega (arith, size))
words_read (a ∷ []) i size fits within = absurd (omega (arith, size))
words_read (a ∷ b ∷ []) i size fits within = absurd (omega (arith, size))
words_read (a ∷ b ∷ c ∷ []) i size fits within = absurd (omega (arith, size))
words_read (a ∷ b ∷ c ∷ d ∷ []) i size fits within = absurd (omega (arith, size))
words_read (a ∷ b ∷ c ∷ d ∷ e ∷ []) i size fits within = absurd (omega (arith, size))
words_read (a ∷ b ∷ c ∷ d ∷ e ∷ f ∷ []) i size fits within = read_back a b c d e f i fits within
words_read (a ∷ b ∷ c ∷ d ∷ e ∷ f ∷ g ∷ ws) i size fits within = absurd (omega (arith, size))

-- a slot into which all six were put
pub all_words : (ws slot : List ℕ) (n : ℕ) → n ≡ 6 → length ws ≡ 6 → length slot ≡ 24 → ((k : ℕ) → get_or ws k 0 < 2 ^ 32) → take (4 * n) slot ≡ words_text (take n ws) → (i : ℕ) → i < 6 → word i slot ≡ get_or ws i 0
all_words ws slot n six count size fits written i within =
    let enough : length slot ≤ 4 * n = omega (arith, six, size) in
    let few : length ws ≤ n = omega (arith, six, count) in
    let whole : slot ≡ words_text ws = sym (take_all (4 * n) slot enough) ∙ written ∙ ap words_text (take_all n ws few) in
    ap (word i) whole ∙ words_read ws i count fits within

-- THE NAMES IN A SLOT

abbrev pub place_of : ℕ → ℕ → ℕ → ℕ → Place
place_of region block offset len = record { region = region; block = block; offset = offset; len = len }

abbrev buffer_of : ℕ → ℕ → Buffer
buffer_of region number = record { region = region; number = number }

pub place_read : (slot : List ℕ) (p : Place) (count form : ℕ) → ((i : ℕ) → i < 6 → word i slot ≡ get_or (p.region ∷ p.block ∷ p.offset ∷ p.len ∷ count ∷ form ∷ []) i 0) → place_in slot ≡ p
place_read slot p count form each =
    ap (λ n. place_of n (word 1 slot) (word 2 slot) (word 3 slot)) (each 0 (omega arith))
    ∙ ap (λ n. place_of p.region n (word 2 slot) (word 3 slot)) (each 1 (omega arith))
    ∙ ap (λ n. place_of p.region p.block n (word 3 slot)) (each 2 (omega arith))
    ∙ ap (λ n. place_of p.region p.block p.offset n) (each 3 (omega arith))

two_words : (n low high : ℕ) → low ≡ n % 2 ^ 32 → high ≡ n / 2 ^ 32 → low + 2 ^ 32 * high ≡ n
two_words n low high is_low is_high = omega arith

pub buffer_read : (slot : List ℕ) (b : Buffer) (low high none count form : ℕ) → low ≡ b.number % 2 ^ 32 → high ≡ b.number / 2 ^ 32
    → ((i : ℕ) → i < 6 → word i slot ≡ get_or (b.region ∷ low ∷ high ∷ none ∷ count ∷ form ∷ []) i 0) → buffer_in slot ≡ b
buffer_read slot b low high none count form is_low is_high each =
    ap (λ n. buffer_of n (word 1 slot + 2 ^ 32 * word 2 slot)) (each 0 (omega arith))
    ∙ ap (λ n. buffer_of b.region n) (two_words b.number (word 1 slot) (word 2 slot) (each 1 (omega arith) ∙ is_low) (each 2 (omega arith) ∙ is_high))

-- zero bytes are the slot that holds nothing
pub zero_form : word 5 (replicate 24 0) ≡ 0
unfolding word
zero_form = refl

-- A LINK

four_in_part : (at k m : ℕ) (b : List ℕ) → 4 ≤ m → part k 4 (take (k + m) (drop at b)) ≡ part (at + k) 4 b
four_in_part at k m b enough =
    ap (take 4) (drop-take k m (drop at b)) ∙ take-take 4 m (drop k (drop at b)) enough ∙ ap (take 4) (drop-drop k at b)

-- the 16 bytes from a place on name a place
pub link_words : (at : ℕ) (b : List ℕ) → place_in (part at 16 b) ≡ place_of (word 0 (drop at b)) (word 0 (drop (at + 4) b)) (word 0 (drop (at + 8) b)) (word 0 (drop (at + 12) b))
unfolding word
link_words at b = λ i. place_of
    (ap (from_le_bytes w32) (take-take 4 16 (drop at b) (omega arith)) i)
    (ap (from_le_bytes w32) (four_in_part at 4 12 b (omega arith)) i)
    (ap (from_le_bytes w32) (four_in_part at 8 8 b (omega arith)) i)
    (ap (from_le_bytes w32) (four_in_part at 12 4 b (omega arith)) i)

pub link_front : (b : List ℕ) → place_in (take 16 b) ≡ place_in b
unfolding word
link_front b = link_words 0 b

pub zero_link : (place_in (replicate 16 0)).len ≡ 0
unfolding word
zero_link = refl
