-- Numbers that are noted one after another, up to the first that stands twice.
use Rattle.std.proofs.Common.{◌≡◌, ◌+◌, ◌<◌, ◌≤◌, ℕ, suc, List, [], ◌∷◌, length, drop, get_or, drop-cons, Bool, true, false, cond, ◌||◌, eqb, ltb, Option, None, Some, refl, sym, ap, ◌∙◌, subst, arith}
use Rattle.std.specs.List.{list_any}
use Rattle.std.specs.Option.{is_some}
use Rattle.std.specs.Ordering.{is_eq, nat_cmp}
use Rattle.std.specs.declared.cmp.Ordering.TheVariants.{Less, Equal, Greater}
use Rattle.std.proofs.Math.ListN.{drop_of_length-le}
use Rattle.std.proofs.lemmas.Bool.{cond-true, cond-false, ltb-true, ne_eqb}
use Rattle.desc_pool.specs.declared.file.FieldDecl.{FieldDecl}
use Rattle.desc_pool.specs.Refusals.{first_repeated}

equal_is : (k q : ℕ) → is_eq (nat_cmp k q) ≡ eqb k q
equal_is k q = by_less (ltb k q) refl
  where
    not_less : (t : Bool) → is_eq (cond t Equal Greater) ≡ t
    not_less true = refl
    not_less false = refl

    by_less : (t : Bool) → ltb k q ≡ t → is_eq (cond t Less (cond (eqb k q) Equal Greater)) ≡ eqb k q
    by_less true e = let below = ltb-true k q e in sym (ne_eqb k q (λ same. absurd (omega (arith, below, same))))
    by_less false e = not_less (eqb k q)

-- what is known where the numbers of the first fields are noted and differ
pub record NotedTo (fields : List FieldDecl) (n : ℕ) (get : ℕ → Option Bool) : Type 0 where
  pub earlier : List ℕ
  pub same : first_repeated earlier (drop n fields) ≡ first_repeated [] fields
  pub known : (number : ℕ) → is_some (get number) ≡ list_any (λ x. eqb x number) earlier

pub noted_none : (fields : List FieldDecl) (get : ℕ → Option Bool) → ((number : ℕ) → get number ≡ None) → NotedTo fields 0 get
noted_none fields get none = record { earlier = []; same = refl; known = λ number. ap is_some (none number) }

front_is : (fields items : List FieldDecl) (n : ℕ) (x : FieldDecl) → items ≡ fields → n < length items → x ≡ get_or items n x → drop n fields ≡ x ∷ drop (n + 1) fields
front_is fields items n x same h is =
    drop-cons fields n x (subst (λ ys. n < length ys) same h)
    ∙ (ap (λ y. y ∷ drop (suc n) fields) (sym (is ∙ ap (λ ys. get_or ys n x) same)) ∙ ap (λ k. x ∷ drop k fields) (let P : suc n ≡ n + 1 = omega arith in P))

pub noted_twice : (fields items : List FieldDecl) (n : ℕ) (x : FieldDecl) (get : ℕ → Option Bool) → items ≡ fields → n < length items → x ≡ get_or items n x → NotedTo fields n get → is_some (get x.number) ≡ true → first_repeated [] fields ≡ Some x
noted_twice fields items n x get same h is p twice =
    sym p.same ∙ (ap (first_repeated p.earlier) (front_is fields items n x same h is) ∙ cond-true (list_any (λ y. eqb y x.number) p.earlier) _ _ (sym (p.known x.number) ∙ twice))

pub noted_once : (fields items : List FieldDecl) (n : ℕ) (x : FieldDecl) (get get' : ℕ → Option Bool) → items ≡ fields → n < length items → x ≡ get_or items n x → NotedTo fields n get → is_some (get x.number) ≡ false
    → ((q : ℕ) → get' q ≡ cond (is_eq (nat_cmp x.number q)) (Some true) (get q)) → NotedTo fields (n + 1) get'
noted_once fields items n x get get' same h is p once puts = record {
  earlier = x.number ∷ p.earlier;
  same =
      sym (cond-false (list_any (λ y. eqb y x.number) p.earlier) _ _ (sym (p.known x.number) ∙ once))
      ∙ (ap (first_repeated p.earlier) (sym (front_is fields items n x same h is)) ∙ p.same);
  known =
      λ number.
      ap is_some (puts number ∙ ap (λ b. cond b (Some true) (get number)) (equal_is x.number number))
      ∙ (one (eqb x.number number) (get number) ∙ ap (λ b. eqb x.number number || b) (p.known number));
}
  where
    one : (b : Bool) (o : Option Bool) → is_some (cond b (Some true) o) ≡ (b || is_some o)
    one true o = refl
    one false o = refl

pub noted_all : (fields items : List FieldDecl) (n : ℕ) (get : ℕ → Option Bool) → items ≡ fields → length items ≤ n → NotedTo fields n get → first_repeated [] fields ≡ None
noted_all fields items n get same h p =
    sym p.same ∙ ap (first_repeated p.earlier) (drop_of_length-le fields {i = n} (subst (λ ys. length ys ≤ n) same h))
