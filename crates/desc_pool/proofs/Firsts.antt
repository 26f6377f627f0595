-- The first of a list, looked for one after another.
use Rattle.std.proofs.Common.{◌≡◌, ◌+◌, ◌<◌, ◌≤◌, ℕ, zero, suc, List, [], ◌∷◌, ◌++◌, length, take, drop, drop-cons, take-append-drop, length-append, get_or, Bool, true, false, Option, None, Some, refl, sym, ap, ◌∙◌, subst, arith}
use Rattle.std.proofs.Math.Seq.{take-suc}
use Rattle.std.proofs.lemmas.Bool.{cond-true, cond-false}
use Rattle.std.proofs.lemmas.List.{take_all}
use Rattle.std.proofs.lemmas.Option.{none-some}
use Rattle.std.proofs.lemmas.Grind.{flat_map-append}
use Rattle.desc_pool.specs.declared.file.FileDecl.{FileDecl}
use Rattle.desc_pool.specs.Refusals.{all_messages, first_that, first_some, place_that}

one_more_is : (n : ℕ) → n + 1 ≡ suc n
one_more_is n = omega arith

-- THE FIRST WITH A PROPERTY

passed_over : {A : Type 0} (test : A → Bool) (x : A) (xs : List A) (t : Bool) → test x ≡ t → first_that test (x ∷ xs) ≡ None → (test x ≡ false) × (first_that test xs ≡ None)
passed_over test x xs true is e = absurd (none-some x (sym e ∙ cond-true (test x) _ _ is))
passed_over test x xs false is e = (is, sym (cond-false (test x) _ _ is) ∙ e)

pub first_hit : {A : Type 0} (test : A → Bool) (xs : List A) (n : ℕ) (d : A) → first_that test (take n xs) ≡ None → n < length xs → test (get_or xs n d) ≡ true → first_that test xs ≡ Some (get_or xs n d)
first_hit test [] n d none h hits = absurd (omega (arith, h))
first_hit test (x ∷ xs) zero d none h hits = cond-true (test x) _ _ hits
first_hit test (x ∷ xs) (suc n) d none h hits =
    let p = passed_over test x (take n xs) (test x) refl none in
    cond-false (test x) _ _ p.0 ∙ first_hit test xs n d p.1 (omega (arith, h)) hits

pub first_miss : {A : Type 0} (test : A → Bool) (xs : List A) (n : ℕ) (d : A) → first_that test (take n xs) ≡ None → n < length xs → test (get_or xs n d) ≡ false → first_that test (take (n + 1) xs) ≡ None
first_miss test xs n d none h misses = ap (λ k. first_that test (take k xs)) (one_more_is n) ∙ (ap (first_that test) (take-suc xs n d h) ∙ end test (take n xs) (get_or xs n d) none misses)
  where
    end : {A : Type 0} (test : A → Bool) (ys : List A) (y : A) → first_that test ys ≡ None → test y ≡ false → first_that test (ys ++ y ∷ []) ≡ None
    end test [] y none misses = cond-false (test y) _ _ misses
    end test (x ∷ ys) y none misses =
        let p = passed_over test x ys (test x) refl none in
        cond-false (test x) _ _ p.0 ∙ end test ys y p.1 misses

pub first_none : {A : Type 0} (test : A → Bool) (xs : List A) (n : ℕ) → first_that test (take n xs) ≡ None → length xs ≤ n → first_that test xs ≡ None
first_none test xs n none h = ap (first_that test) (sym (take_all n xs h)) ∙ none

-- THE FIRST THAT GIVES SOMETHING

given_none : {A B : Type 0} (f : A → Option B) (x : A) (xs : List A) (o : Option B) → f x ≡ o → first_some f (x ∷ xs) ≡ None → (f x ≡ None) × (first_some f xs ≡ None)
given_none f x xs None is e = (is, sym (ap (λ o. elim o [ Some y ↦ Some y | None ↦ first_some f xs ]) is) ∙ e)
given_none f x xs (Some y) is e = absurd (none-some y (sym e ∙ ap (λ o. elim o [ Some y ↦ Some y | None ↦ first_some f xs ]) is))

pub some_hit : {A B : Type 0} (f : A → Option B) (xs : List A) (n : ℕ) (d : A) (y : B) → first_some f (take n xs) ≡ None → n < length xs → f (get_or xs n d) ≡ Some y → first_some f xs ≡ Some y
some_hit f [] n d y none h hits = absurd (omega (arith, h))
some_hit f (x ∷ xs) zero d y none h hits = ap (λ o. elim o [ Some y ↦ Some y | None ↦ first_some f xs ]) hits
some_hit f (x ∷ xs) (suc n) d y none h hits =
    let p = given_none f x (take n xs) (f x) refl none in
    ap (λ o. elim o [ Some y ↦ Some y | None ↦ first_some f xs ]) p.0 ∙ some_hit f xs n d y p.1 (omega (arith, h)) hits

pub some_miss : {A B : Type 0} (f : A → Option B) (xs : List A) (n : ℕ) (d : A) → first_some f (take n xs) ≡ None → n < length xs → f (get_or xs n d) ≡ None → first_some f (take (n + 1) xs) ≡ None
some_miss f xs n d none h misses = ap (λ k. first_some f (take k xs)) (one_more_is n) ∙ (ap (first_some f) (take-suc xs n d h) ∙ end f (take n xs) (get_or xs n d) none misses)
  where
    end : {A B : Type 0} (f : A → Option B) (ys : List A) (y : A) → first_some f ys ≡ None → f y ≡ None → first_some f (ys ++ y ∷ []) ≡ None
    end f [] y none misses = ap (λ o. elim o [ Some y ↦ Some y | None ↦ None ]) misses
    end f (x ∷ ys) y none misses =
        let p = given_none f x ys (f x) refl none in
        ap (λ o. elim o [ Some y ↦ Some y | None ↦ first_some f (ys ++ y ∷ []) ]) p.0 ∙ end f ys y p.1 misses

pub some_none : {A B : Type 0} (f : A → Option B) (xs : List A) (n : ℕ) → first_some f (take n xs) ≡ None → length xs ≤ n → first_some f xs ≡ None
some_none f xs n none h = ap (first_some f) (sym (take_all n xs h)) ∙ none

-- ITS PLACE

place_over : {A : Type 0} (test : A → Bool) (place : ℕ) (x : A) (xs : List A) (t : Bool) → test x ≡ t → place_that test place (x ∷ xs) ≡ None → (test x ≡ false) × (place_that test (suc place) xs ≡ None)
place_over test place x xs true is e = absurd (none-some place (sym e ∙ cond-true (test x) _ _ is))
place_over test place x xs false is e = (is, sym (cond-false (test x) _ _ is) ∙ e)

pub place_hit : {A : Type 0} (test : A → Bool) (place : ℕ) (xs : List A) (n : ℕ) (d : A) → place_that test place (take n xs) ≡ None → n < length xs → test (get_or xs n d) ≡ true → place_that test place xs ≡ Some (place + n)
place_hit test place [] n d none h hits = absurd (omega (arith, h))
place_hit test place (x ∷ xs) zero d none h hits = cond-true (test x) _ _ hits ∙ ap Some (let P : place ≡ place + 0 = omega arith in P)
place_hit test place (x ∷ xs) (suc n) d none h hits =
    let p = place_over test place x (take n xs) (test x) refl none in
    cond-false (test x) _ _ p.0 ∙ (place_hit test (suc place) xs n d p.1 (omega (arith, h)) hits ∙ ap Some (let P : suc place + n ≡ place + suc n = omega arith in P))

pub place_miss : {A : Type 0} (test : A → Bool) (place : ℕ) (xs : List A) (n : ℕ) (d : A) → place_that test place (take n xs) ≡ None → n < length xs → test (get_or xs n d) ≡ false → place_that test place (take (n + 1) xs) ≡ None
place_miss test place xs n d none h misses = ap (λ k. place_that test place (take k xs)) (one_more_is n) ∙ (ap (place_that test place) (take-suc xs n d h) ∙ end test place (take n xs) (get_or xs n d) none misses)
  where
    end : {A : Type 0} (test : A → Bool) (place : ℕ) (ys : List A) (y : A) → place_that test place ys ≡ None → test y ≡ false → place_that test place (ys ++ y ∷ []) ≡ None
    end test place [] y none misses = cond-false (test y) _ _ misses
    end test place (x ∷ ys) y none misses =
        let p = place_over test place x ys (test x) refl none in
        cond-false (test x) _ _ p.0 ∙ end test (suc place) ys y p.1 misses

pub place_none : {A : Type 0} (test : A → Bool) (place : ℕ) (xs : List A) (n : ℕ) → place_that test place (take n xs) ≡ None → length xs ≤ n → place_that test place xs ≡ None
place_none test place xs n none h = ap (place_that test place) (sym (take_all n xs h)) ∙ none

-- THE SAME OF AN ITEM THAT STANDS AT A PLACE OF A LENT LIST

pub hit_in : {A : Type 0} (test : A → Bool) (items xs : List A) (n : ℕ) (x : A) → items ≡ xs → first_that test (take n xs) ≡ None → n < length items → x ≡ get_or items n x → test x ≡ true → first_that test xs ≡ Some x
hit_in test items xs n x same none h is hits =
    first_hit test xs n x none (subst (λ ys. n < length ys) same h) (subst (λ y. test y ≡ true) (is ∙ ap (λ ys. get_or ys n x) same) hits)
    ∙ ap Some (sym (is ∙ ap (λ ys. get_or ys n x) same))

pub miss_in : {A : Type 0} (test : A → Bool) (items xs : List A) (n : ℕ) (x : A) → items ≡ xs → first_that test (take n xs) ≡ None → n < length items → x ≡ get_or items n x → test x ≡ false → first_that test (take (n + 1) xs) ≡ None
miss_in test items xs n x same none h is misses =
    first_miss test xs n x none (subst (λ ys. n < length ys) same h) (subst (λ y. test y ≡ false) (is ∙ ap (λ ys. get_or ys n x) same) misses)

pub some_hit_in : {A B : Type 0} (f : A → Option B) (items xs : List A) (n : ℕ) (x : A) (y : B) → items ≡ xs → first_some f (take n xs) ≡ None → n < length items → x ≡ get_or items n x → f x ≡ Some y → first_some f xs ≡ Some y
some_hit_in f items xs n x y same none h is hits =
    some_hit f xs n x y none (subst (λ ys. n < length ys) same h) (subst (λ z. f z ≡ Some y) (is ∙ ap (λ ys. get_or ys n x) same) hits)

pub some_miss_in : {A B : Type 0} (f : A → Option B) (items xs : List A) (n : ℕ) (x : A) → items ≡ xs → first_some f (take n xs) ≡ None → n < length items → x ≡ get_or items n x → f x ≡ None → first_some f (take (n + 1) xs) ≡ None
some_miss_in f items xs n x same none h is misses =
    some_miss f xs n x none (subst (λ ys. n < length ys) same h) (subst (λ z. f z ≡ None) (is ∙ ap (λ ys. get_or ys n x) same) misses)

-- FILES

-- the messages of the first files, and of the one behind them
pub some_messages : (files : List FileDecl) (n : ℕ) (file : FileDecl) → n < length files → file ≡ get_or files n file → length (all_messages (take n files)) + length file.messages ≤ length (all_messages files)
some_messages files n file h is =
    let rest = drop (suc n) files in
    let whole : files ≡ take n files ++ (file ∷ rest) = sym (take-append-drop n files) ∙ ap (λ fs. take n files ++ fs) (drop-cons files n file h ∙ ap (λ x. x ∷ rest) (sym is)) in
    let split : length (all_messages files) ≡ length (all_messages (take n files)) + length (file.messages ++ all_messages rest) =
    ap (λ fs. length (all_messages fs)) whole
    ∙ (ap length (flat_map-append (λ (f : FileDecl). f.messages) (take n files) (file ∷ rest)) ∙ length-append (all_messages (take n files)) (file.messages ++ all_messages rest)) in
    let last = length-append file.messages (all_messages rest) in
    omega (arith, split, last)
