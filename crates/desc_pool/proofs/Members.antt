-- Members of oneofs that are counted one after another, and numbers that stand once.
use Rattle.std.proofs.Common.{◌≡◌, ◌+◌, ◌-◌, ◌<◌, ◌≤◌, ℕ, zero, suc, List, [], ◌∷◌, ◌++◌, length, take, get_or, Bool, true, false, not, cond, ◌&&◌, ◌||◌, eqb, ltb, leb, Option, None, Some, refl, sym, ap, ◌∙◌, subst, arith, length-append}
use Rattle.std.specs.Prelude.{filter, slice_index}
use Rattle.std.proofs.Math.Seq.{take-suc}
use Rattle.std.proofs.lemmas.Bool.{le-leb, lt-leb, lt-ltb, le-ltb, ltb-true, ltb-false, ne_eqb}
use Rattle.std.proofs.lemmas.List.Elements.{filter-append}
use Rattle.desc_pool.specs.declared.file.FieldDecl.{FieldDecl}
use Rattle.desc_pool.specs.declared.file.MessageDecl.{MessageDecl}
use Rattle.desc_pool.specs.Refusals.{is_in, members, is_bad_member, is_repeated}
use Rattle.desc_pool.specs.Rules.{CountsInside, CountsMembers, is_inside}
use Rattle.desc_pool.specs.Linked.{is_synthetic, real_below}
use Rattle.desc_pool.specs.LinkTables.{CountsReal}
use Rattle.std.specs.List.{list_any}
use Rattle.std.proofs.Math.Seq.{get_or-append_seam}
use Rattle.std.proofs.lemmas.List.{get_or_append_left}

-- how many of the first fields are in a oneof
abbrev pub members_to : Bool → List FieldDecl → ℕ → ℕ → ℕ
members_to only fields n oneof = length (filter (is_inside only oneof) (take n fields))

members_more : (only : Bool) (fields : List FieldDecl) (n oneof : ℕ) (field : FieldDecl) → n < length fields → field ≡ get_or fields n field → members_to only fields (n + 1) oneof ≡ members_to only fields n oneof + cond (is_inside only oneof field) 1 0
members_more only fields n oneof field h is =
    ap (λ k. length (filter (is_inside only oneof) (take k fields))) (let P : n + 1 ≡ suc n = omega arith in P)
    ∙ (ap (λ fs. length (filter (is_inside only oneof) fs)) (take-suc fields n field h ∙ ap (λ x. take n fields ++ x ∷ []) (sym is))
    ∙ (ap length (filter-append (is_inside only oneof) (take n fields) (field ∷ []))
    ∙ (length-append (filter (is_inside only oneof) (take n fields)) (cond (is_inside only oneof field) (field ∷ []) [])
    ∙ ap (λ k. members_to only fields n oneof + k) (one (is_inside only oneof field)))))
  where
    one : (b : Bool) → length (cond b (field ∷ []) []) ≡ cond b 1 0
    one true = refl
    one false = refl

filter_few : (test : FieldDecl → Bool) (fields : List FieldDecl) (n : ℕ) → length (filter test (take n fields)) ≤ n
filter_few test [] zero = omega arith
filter_few test [] (suc n) = omega arith
filter_few test (x ∷ fields) zero = omega arith
filter_few test (x ∷ fields) (suc n) = one (test x) (filter_few test fields n)
  where
    one : (b : Bool) → length (filter test (take n fields)) ≤ n → length (cond b (x ∷ filter test (take n fields)) (filter test (take n fields))) ≤ suc n
    one true h = omega (arith, h)
    one false h = omega (arith, h)

-- what is known where the first fields are counted
pub record CountedTo (only : Bool) (message : MessageDecl) (n : ℕ) (counts : List ℕ) : Type 0 where
  pub size : length counts ≡ message.oneofs
  pub members : (oneof : ℕ) → oneof < message.oneofs → slice_index counts oneof ≡ members_to only message.fields n oneof

pub few_counted : (only : Bool) (message : MessageDecl) (n : ℕ) (counts : List ℕ) → CountedTo only message n counts → (oneof : ℕ) → oneof < length counts → slice_index counts oneof ≤ n
few_counted only message n counts p oneof h =
    let e = p.members oneof (omega (arith, h, p.size)) in
    let few = filter_few (is_inside only oneof) message.fields n in omega (arith, e, few)

abbrev index_is : Option ℕ → ℕ → Bool
index_is o oneof = elim o [ Some index ↦ eqb index oneof | None ↦ false ]

pub none_more : (only : Bool) (message : MessageDecl) (n : ℕ) (counts : List ℕ) (items : List FieldDecl) (field : FieldDecl) (o : Option ℕ) → items ≡ message.fields → n < length items → field ≡ get_or items n field → ((oneof : ℕ) → is_inside only oneof field ≡ index_is o oneof) → o ≡ None → CountedTo only message n counts → CountedTo only message (n + 1) counts
none_more only message n counts items field o same h is inside none p = record {
  size = p.size;
  members =
      λ oneof below.
      let more = members_more only message.fields n oneof field (subst (λ ys. n < length ys) same h) (is ∙ ap (λ ys. get_or ys n field) same) in
      let not_in = ap {B = ℕ} (λ b. cond b 1 0) (inside oneof ∙ ap (λ o. index_is o oneof) none) in
      let before = p.members oneof below in omega (arith, more, not_in, before);
}

pub one_more : (only : Bool) (message : MessageDecl) (n : ℕ) (counts counts' : List ℕ) (items : List FieldDecl) (field : FieldDecl) (o : Option ℕ) (index : ℕ) → items ≡ message.fields → n < length items → field ≡ get_or items n field → ((oneof : ℕ) → is_inside only oneof field ≡ index_is o oneof) → o ≡ Some index
    → length counts' ≡ length counts → ((j : ℕ) → j < length counts → slice_index counts' j ≡ slice_index counts j + cond (eqb index j) 1 0) → CountedTo only message n counts → CountedTo only message (n + 1) counts'
one_more only message n counts counts' items field o index same h is inside some size bumped p = record {
  size = size ∙ p.size;
  members =
      λ oneof below.
      let more = members_more only message.fields n oneof field (subst (λ ys. n < length ys) same h) (is ∙ ap (λ ys. get_or ys n field) same) in
      let in_it = ap {B = ℕ} (λ b. cond b 1 0) (inside oneof ∙ ap (λ o. index_is o oneof) some) in
      let new = bumped oneof (omega (arith, below, p.size)) in
      let before = p.members oneof below in omega (arith, more, in_it, before, new);
}

-- REAL ONEOFS

any_is : (p : FieldDecl → Bool) (xs : List FieldDecl) → list_any p xs ≡ ltb 0 (length (filter p xs))
any_is p [] = refl
any_is p (x ∷ xs) = one (p x) (any_is p xs)
  where
    some : (n : ℕ) → true ≡ ltb 0 (suc n)
    some n = sym (lt-ltb 0 (suc n) (omega arith))

    one : (b : Bool) → list_any p xs ≡ ltb 0 (length (filter p xs)) → (b || list_any p xs) ≡ ltb 0 (length (cond b (x ∷ filter p xs) (filter p xs)))
    one true more = some (length (filter p xs))
    one false more = more

-- WRONG IN ITS ONEOF

pub bad_index : (message : MessageDecl) (counts : List ℕ) (field : FieldDecl) (oneof : ℕ) → CountsMembers message counts → length counts ≤ oneof → true ≡ is_bad_member message field oneof
bad_index message counts field oneof p h =
    sym (ap (λ b. b || (is_repeated field || (field.optional && ltb 1 (members message oneof)))) (le-leb message.oneofs oneof (omega (arith, h, p.size))))

pub bad_list : (message : MessageDecl) (field : FieldDecl) (oneof : ℕ) → is_repeated field ≡ true → true ≡ is_bad_member message field oneof
bad_list message field oneof e =
    sym (ap (λ b. leb message.oneofs oneof || (b || (field.optional && ltb 1 (members message oneof)))) e ∙ or_true (leb message.oneofs oneof))
  where
    or_true : (b : Bool) → (b || true) ≡ true
    or_true true = refl
    or_true false = refl

pub alone_or_not : (message : MessageDecl) (counts : List ℕ) (field : FieldDecl) (oneof : ℕ) → CountsMembers message counts → oneof < length counts → is_repeated field ≡ false → (field.optional && ltb 1 (slice_index counts oneof)) ≡ is_bad_member message field oneof
alone_or_not message counts field oneof p h e =
    ap (λ n. field.optional && ltb 1 n) (p.members oneof (omega (arith, h, p.size)))
    ∙ sym
    (ap (λ b. b || (is_repeated field || (field.optional && ltb 1 (members message oneof)))) (lt-leb message.oneofs oneof (omega (arith, h, p.size)))
    ∙ ap (λ b. b || (field.optional && ltb 1 (members message oneof))) e)

-- what is known where so many oneofs are looked at
pub record RealTo (message : MessageDecl) (n : ℕ) (before : List ℕ) (count : ℕ) : Type 0 where
  pub size : length before ≡ n + 1
  pub reals : (oneof : ℕ) → oneof ≤ n → slice_index before oneof ≡ real_below message oneof
  pub now : count ≡ real_below message n
  pub few : count ≤ n

real_step : (message : MessageDecl) (n count : ℕ) (counts : List ℕ) → CountsInside true message counts → n < message.oneofs → real_below message (n + 1) ≡ real_below message n + cond (eqb (slice_index counts n) 0) 1 0
real_step message n count counts p h =
    ap (real_below message) (let P : n + 1 ≡ suc n = omega arith in P)
    ∙ ap (λ b. real_below message n + cond b 1 0) (ap (λ b. b && not (is_synthetic message n)) (lt-ltb n message.oneofs h) ∙ (ap not (any_is (λ field. field.optional && is_in n field) message.fields ∙ ap (ltb 0) (sym (p.members n h))) ∙ none_is (slice_index counts n)))
  where
    none_is : (k : ℕ) → not (ltb 0 k) ≡ eqb k 0
    none_is zero = refl
    none_is (suc k) = ap not (lt-ltb 0 (suc k) (omega arith)) ∙ sym (ne_eqb (suc k) 0 (λ e. absurd (omega (arith, e))))

pub real_none : (message : MessageDecl) → RealTo message 0 (0 ∷ []) 0
real_none message = record {
  size = refl;
  reals = λ oneof h. let none : oneof ≡ 0 = omega (arith, h) in ap (slice_index (0 ∷ [])) none ∙ sym (ap (real_below message) none);
  now = refl;
  few = omega arith;
}

pub real_more : (message : MessageDecl) (n : ℕ) (before : List ℕ) (count count' : ℕ) (counts : List ℕ) → CountsInside true message counts → n < message.oneofs → count' ≡ count + cond (eqb (slice_index counts n) 0) 1 0 → RealTo message n before count → RealTo message (n + 1) (before ++ count' ∷ []) count'
real_more message n before count count' counts p h step q =
    let next : count' ≡ real_below message (n + 1) = step ∙ (ap (λ c. c + cond (eqb (slice_index counts n) 0) 1 0) q.now ∙ sym (real_step message n count counts p h)) in
    record {
      size = let e = length-append before (count' ∷ []) in omega (arith, e, q.size);
      reals = λ oneof h. at oneof h (ltb n oneof) refl next;
      now = next;
      few = small (eqb (slice_index counts n) 0) step;
    }
  where
    at : (oneof : ℕ) → oneof ≤ n + 1 → (t : Bool) → ltb n oneof ≡ t → count' ≡ real_below message (n + 1) → slice_index (before ++ count' ∷ []) oneof ≡ real_below message oneof
    at oneof h true e next =
        let above = ltb-true n oneof e in
        let last : oneof ≡ length before = omega (arith, above, h, q.size) in
        let here : length before ≡ n + 1 = q.size in
        ap (slice_index (before ++ count' ∷ [])) last ∙ (get_or-append_seam before count' [] 0 ∙ (next ∙ ap (real_below message) (sym (last ∙ here))))
    at oneof h false e next =
        let below = ltb-false n oneof e in
        get_or_append_left before (count' ∷ []) 0 oneof (omega (arith, below, q.size)) ∙ q.reals oneof below

    small : (b : Bool) → count' ≡ count + cond b 1 0 → count' ≤ n + 1
    small true e = let few = q.few in omega (arith, e, few)
    small false e = let few = q.few in omega (arith, e, few)

-- oneofs that aren't declared aren't counted
real_beyond : (message : MessageDecl) (k : ℕ) → real_below message (message.oneofs + k) ≡ real_below message message.oneofs
real_beyond message zero = ap (real_below message) (let P : message.oneofs + 0 ≡ message.oneofs = omega arith in P)
real_beyond message (suc k) =
    ap (real_below message) (let P : message.oneofs + suc k ≡ suc (message.oneofs + k) = omega arith in P)
    ∙ (ap (λ b. real_below message (message.oneofs + k) + cond (b && not (is_synthetic message (message.oneofs + k))) 1 0) (le-ltb (message.oneofs + k) message.oneofs (omega arith))
    ∙ ((let P : real_below message (message.oneofs + k) + 0 ≡ real_below message (message.oneofs + k) = omega arith in P) ∙ real_beyond message k))

pub real_declared : (message : MessageDecl) (before : List ℕ) (oneof : ℕ) → CountsReal message before → oneof < length before → slice_index before oneof ≡ real_below message oneof
real_declared message before oneof p h = p.reals oneof (omega (arith, h, p.size))

pub real_undeclared : (message : MessageDecl) (before : List ℕ) (oneof last : ℕ) → CountsReal message before → length before ≤ oneof → last ≡ length before - 1 → slice_index before last ≡ real_below message oneof
real_undeclared message before oneof last p h e =
    let is : last ≡ message.oneofs = omega (arith, e, p.size) in
    let beyond : message.oneofs + (oneof - message.oneofs) ≡ oneof = omega (arith, h, p.size) in
    ap (slice_index before) is ∙ (p.reals message.oneofs (omega arith) ∙ (sym (real_beyond message (oneof - message.oneofs)) ∙ ap (real_below message) beyond))
