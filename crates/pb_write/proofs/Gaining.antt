-- Text that is put in front, piece by piece.
use Rattle.std.proofs.Common.{◌≡◌, ◌-◌, ◌^◌, ◌<◌, ◌≤◌, ℕ, List, [], ◌∷◌, ◌++◌, length, Result, Ok, Err, refl, sym, ap, ◌∙◌, subst, append_assoc, length-append, arith}
use Rattle.std.specs.Prelude.{OnOk}
use Rattle.pb_schema.specs.Tag.{tag_of}
use Rattle.pb_schema.specs.Text.{framed, packed_text}
use Rattle.pb_schema.specs.Varint.{varint_of}
use Rattle.pb_write.specs.Puts.{Gains}

pub gains_nothing : (A : List ℕ → Type 0) → Gains A A []
gains_nothing A = λ s held short. held

pub gains_two : (A B C : List ℕ → Type 0) (x y : List ℕ) → Gains A B x → Gains B C y → Gains A C (y ++ x)
gains_two A B C x y first second = λ s held short.
    subst C (sym (append_assoc y x s))
    (second (x ++ s)
    (first s held (omega (arith, short, length-append (y ++ x) s, length-append y x, length-append x s)))
    (subst (λ l. length l < 2 ^ 63) (append_assoc y x s) short))

pub gains_same : (A B : List ℕ → Type 0) (x y : List ℕ) → x ≡ y → Gains A B x → Gains A B y
gains_same A B x y same gains = subst (Gains A B) same gains

-- the last of two pieces, where a call put it
pub then_gains : {R E : Type 0} (r : Result R E) (A B C : List ℕ → Type 0) (x y whole : List ℕ) → Gains A B x → OnOk r (Gains B C y) → whole ≡ y ++ x → OnOk r (Gains A C whole)
then_gains (Ok v) A B C x y whole first second is = gains_same A C (y ++ x) whole (sym is) (gains_two A B C x y first second)
then_gains (Err e) A B C x y whole first second is = tt

pub on_ok_same : {R E : Type 0} (r : Result R E) (A B : List ℕ → Type 0) (x y : List ℕ) → x ≡ y → OnOk r (Gains A B x) → OnOk r (Gains A B y)
on_ok_same (Ok v) A B x y same gains = gains_same A B x y same gains
on_ok_same (Err e) A B x y same gains = tt

-- LENGTHS

-- a count is the length of what is held
abbrev pub Tells : (List ℕ → Type 0) → ℕ → Type 0
Tells A n = (s : List ℕ) → A s → length s < 2 ^ 63 → n ≡ length s

-- what was put between two counts has their difference
grown_by : (A B : List ℕ → Type 0) (text s : List ℕ) (before after : ℕ) → Tells A before → Tells B after → Gains A B text → A s → length (text ++ s) < 2 ^ 63 → after - before ≡ length text
grown_by A B text s before after start end gains held short =
    let first = start s held (omega (arith, short, length-append text s)) in
    let last = end (text ++ s) (gains s held short) short in
    omega (arith, first, last, length-append text s)

pub gains_framed : {R E : Type 0} (r : Result R E) (A B C : List ℕ → Type 0) (text : List ℕ) (before after : ℕ) → Tells A before → Tells B after → Gains A B text → OnOk r (Gains B C (varint_of (after - before))) → OnOk r (Gains A C (framed text))
gains_framed (Ok v) A B C text before after start end gains second = λ s held short.
    let front = varint_of (length text) in
    let less : length (text ++ s) < 2 ^ 63 = omega (arith, short, length-append (front ++ text) s, length-append front text, length-append text s) in
    let len = grown_by A B text s before after start end gains held less in
    gains_two A B C text front gains (subst (λ n. Gains B C (varint_of n)) len second) s held short
gains_framed (Err e) A B C text before after start end gains second = tt

-- PACKED

pub packed_longer : (number : ℕ) (text : List ℕ) → length text ≤ length (packed_text number text)
packed_longer number [] = omega arith
packed_longer number (b ∷ s) = omega (arith, length-append (varint_of (tag_of number 2)) (framed (b ∷ s)), length-append (varint_of (length (b ∷ s))) (b ∷ s))

pub no_bytes : (text : List ℕ) → length text ≡ 0 → text ≡ []
no_bytes [] none = refl
no_bytes (b ∷ s) none = absurd (omega (arith, none))

packed_none : (number : ℕ) (text : List ℕ) → text ≡ [] → packed_text number text ≡ text
packed_none number text is = ap (packed_text number) is ∙ sym is

pub packed_some : (number : ℕ) (text : List ℕ) → (length text ≡ 0 → ⊥) → packed_text number text ≡ varint_of (tag_of number 2) ++ framed text
packed_some number [] some = absurd (some refl)
packed_some number (b ∷ s) some = refl

less_text : (number : ℕ) (text s : List ℕ) → length (packed_text number text ++ s) < 2 ^ 63 → length (text ++ s) < 2 ^ 63
less_text number text s short = omega (arith, short, length-append (packed_text number text) s, length-append text s, packed_longer number text)

pub gains_packed_none : (A B : List ℕ → Type 0) (number : ℕ) (text : List ℕ) (before after : ℕ) → Tells A before → Tells B after → Gains A B text → after - before ≡ 0 → Gains A B (packed_text number text)
gains_packed_none A B number text before after start end gains none = λ s held short.
    let less = less_text number text s short in
    let len = grown_by A B text s before after start end gains held less in
    subst (λ x. B (x ++ s)) (sym (packed_none number text (no_bytes text (sym len ∙ none)))) (gains s held less)

pub gains_packed : {R E : Type 0} (r : Result R E) (A B C D : List ℕ → Type 0) (number : ℕ) (text : List ℕ) (before after : ℕ) → Tells A before → Tells B after → Gains A B text → (after - before ≡ 0 → ⊥)
    → Gains B C (varint_of (after - before)) → OnOk r (Gains C D (varint_of (tag_of number 2))) → OnOk r (Gains A D (packed_text number text))
gains_packed (Ok v) A B C D number text before after start end gains some third last = λ s held short.
    let less = less_text number text s short in
    let len = grown_by A B text s before after start end gains held less in
    let front = varint_of (length text) in
    let is = packed_some number text (λ none. some (len ∙ none)) in
    gains_same A D (varint_of (tag_of number 2) ++ framed text) (packed_text number text) (sym is)
    (gains_two A C D (framed text) (varint_of (tag_of number 2)) (gains_two A B C text front gains (subst (λ n. Gains B C (varint_of n)) len third)) last) s held short
gains_packed (Err e) A B C D number text before after start end gains some third last = tt
