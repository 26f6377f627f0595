-- A number digit by digit, from the front.
use Rattle.std.proofs.Common.{◌≡◌, ◌+◌, ◌-◌, ◌*◌, ◌^◌, ℕ, suc, List, [], ◌∷◌, length, Bool, true, false, Option, None, Some, refl, sym, ap, ◌∙◌, cond, arith}
use Rattle.std.proofs.Math.Nat.{mul_assoc, add-mul, pow-succ'}
use Rattle.std.specs.Option.{option_map}
use Rattle.arena_run.specs.Words.{is_digit, number_in}

-- the number that some digits spell behind those of v
abbrev pub number_behind : ℕ → List ℕ → Option ℕ
number_behind v [] = Some v
number_behind v (b ∷ s) = cond (is_digit b) (number_behind (v * 10 + (b - 48)) s) None

one_digit : (v d p q m : ℕ) → q ≡ 10 * p → (v * 10 + d) * p + m ≡ v * q + (d * p + m)
one_digit v d p q m ten = let apart = add-mul (v * 10) d p in let both = mul_assoc v 10 p in let more = ap (λ n. v * n) ten in omega (arith, apart, both, more)

behind_digit : (v d p q : ℕ) (o : Option ℕ) → q ≡ 10 * p → option_map (λ m. (v * 10 + d) * p + m) o ≡ option_map (λ n. v * q + n) (option_map (λ m. d * p + m) o)
behind_digit v d p q None ten = refl
behind_digit v d p q (Some m) ten = ap Some (one_digit v d p q m ten)

either : (b : Bool) (x y z : Option ℕ) (f : Option ℕ → Option ℕ) → f None ≡ None → x ≡ f y → cond b x None ≡ f (cond b y None)
either true x y z f none e = e
either false x y z f none e = sym none

pub behind_is : (v : ℕ) (s : List ℕ) → number_behind v s ≡ option_map (λ n. v * 10 ^ length s + n) (number_in s)
behind_is v [] = let whole : v ≡ v * 1 + 0 = omega arith in ap Some whole
behind_is v (b ∷ s) =
    either (is_digit b) (number_behind (v * 10 + (b - 48)) s) (option_map (λ m. (b - 48) * 10 ^ length s + m) (number_in s)) None (option_map (λ n. v * 10 ^ suc (length s) + n)) refl
    (behind_is (v * 10 + (b - 48)) s ∙ behind_digit v (b - 48) (10 ^ length s) (10 ^ suc (length s)) (number_in s) (pow-succ' 10 (length s)))

same_number : (o : Option ℕ) (p : ℕ) → option_map (λ n. 0 * p + n) o ≡ o
same_number None p = refl
same_number (Some n) p = let whole : 0 * p + n ≡ n = omega arith in ap Some whole

pub number_is : (s : List ℕ) → number_behind 0 s ≡ number_in s
number_is s = behind_is 0 s ∙ same_number (number_in s) (10 ^ length s)
