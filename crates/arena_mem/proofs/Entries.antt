-- Maps made of entries in order, no two of which have one key.
use Rattle.std.proofs.Common.{◌≡◌, ℕ, suc, ◌+◌, ◌<◌, Bool, true, false, cond, List, [], ◌∷◌, ◌++◌, length, get_or, Option, Some, None, Ordering, ⊎_elim, refl, sym, ap, subst, ◌∙◌, arith}
use Rattle.std.specs.Prelude.{IsSome, is_some, map, sum_by}
use Rattle.std.specs.Option.{option_map}
use Rattle.std.specs.Ordering.{eq_by_cmp, is_eq}
use Rattle.std.specs.declared.cmp.Ordering.TheVariants.{Less, Equal, Greater}
use Rattle.std.specs.Cmp.{IsTotalOrder}
use Rattle.std.specs.FinMap.Entries.{by_order}
use Rattle.std.specs.FinMap.{FinMap, IsAntisymmetric, find, put, get, insert, remove, keys, entries, empty, from_entries, len, len-entries, get-insert, get-remove, get-entries, get-from_entries, entries-insert, same_map, from_entries_push, len-insert, len-empty}
use Rattle.std.proofs.lemmas.Cmp.{tied_itself}
use Rattle.std.proofs.lemmas.List.Sums.{sum_by-cons}
use Rattle.std.proofs.lemmas.Bool.{false≢true, false_from_ne_true, cases_Bool}
use Rattle.std.proofs.lemmas.Option.{none-some, same_Some}

is_equal : (r : Ordering) → is_eq r ≡ true → r ≡ Equal
is_equal Less h = absurd (false≢true h)
is_equal Equal h = refl
is_equal Greater h = absurd (false≢true h)

either : {V : Type 0} (b : Bool) (r : Option V) (v : V) → IsSome r → IsSome (cond b (Some v) r)
either true r v there = refl
either false r v there = there

-- keys that compare alike are one
pub one_key : {K : Type 0} {R : K → K → Ordering} (same : IsAntisymmetric R) (p q : K) → eq_by_cmp R p q ≡ true → p ≡ q
one_key same p q h = same p q (is_equal _ h)

pub other_key : {K : Type 0} {R : K → K → Ordering} (same : IsAntisymmetric R) (p q : K) → (p ≡ q → ⊥) → eq_by_cmp R p q ≡ false
other_key same p q other = false_from_ne_true _ (λ h. other (one_key same p q h))

pub same_key : {K : Type 0} {R : K → K → Ordering} (o : IsTotalOrder R) (p q : K) → p ≡ q → eq_by_cmp R p q ≡ true
same_key {K} {R} o p q e = ap (λ x. eq_by_cmp R x q) e ∙ ap is_eq (tied_itself o q)

-- ---- one map
module _ {K V : Type 0} {R : K → K → Ordering} (o : IsTotalOrder R) (same : IsAntisymmetric R) (m : FinMap R V) (k : K) (v : V) where
  pub get_inserted : get (insert m k v) k ≡ Some v
  get_inserted = get-insert o m k v k ∙ ap (λ r. cond (is_eq r) (Some v) (get m k)) (tied_itself o k)

  pub get_beside : (q : K) → (q ≡ k → ⊥) → get (insert m k v) q ≡ get m q
  get_beside q other = get-insert o m k v q ∙ ap (λ b. cond b (Some v) (get m q)) (other_key same q k other)

  -- what was there still is
  pub stays_there : (q : K) → IsSome (get m q) → IsSome (get (insert m k v) q)
  stays_there q there = subst IsSome (sym (get-insert o m k v q)) (either (eq_by_cmp R q k) (get m q) v there)

  -- a new key takes nothing away
  pub keeps_rest : get m k ≡ None → (q : K) (was : V) → get m q ≡ Some was → get (insert m k v) q ≡ Some was
  keeps_rest none q was some = get_beside q (λ e. none-some was (sym none ∙ ap (get m) (sym e) ∙ some)) ∙ some

-- ---- entries
-- this key is none of theirs; d stands for an entry that isn't there
abbrev pub IsFresh : {K V : Type 0} → K × V → List (K × V) → K → Type 0
IsFresh d es q = (i : ℕ) → i < length es → (get_or es i d).0 ≡ q → ⊥

-- no two have one key
abbrev pub AreDistinct : {K V : Type 0} → K × V → List (K × V) → Type 0
AreDistinct d es = (i j : ℕ) → i < j → j < length es → (get_or es i d).0 ≡ (get_or es j d).0 → ⊥

-- the entries with other values, each by its key
abbrev pub altered : {K V : Type 0} → (K → V → V) → List (K × V) → List (K × V)
altered change es = map (λ e. (e.0, change e.0 e.1)) es

module _ {K V : Type 0} {R : K → K → Ordering} (o : IsTotalOrder R) (same : IsAntisymmetric R) (d : K × V) where
  find_none : (es : List (K × V)) (q : K) → IsFresh d es q → find R q es ≡ None
  find_none [] q fresh = refl
  find_none (e ∷ es) q fresh =
      let step : cond (eq_by_cmp R q e.0) (Some e.1) (find R q es) ≡ find R q es = ap (λ b. cond b (Some e.1) (find R q es)) (other_key same q e.0 (λ h. fresh 0 (omega arith) (sym h))) in
      step ∙ find_none es q (λ i l. fresh (suc i) (omega (arith, l)))

  -- where a key is found, it stands somewhere
  found : (es : List (K × V)) (q : K) (v : V) → find R q es ≡ Some v → (i : ℕ) × (i < length es) × (get_or es i d ≡ (q, v))
  found [] q v some = absurd (none-some v some)
  found (e ∷ es) q v some = ⊎_elim
      (λ t. let here : e.1 ≡ v = same_Some _ _ (ap (λ b. cond b (Some e.1) (find R q es)) (sym t) ∙ some) in
      let key : q ≡ e.0 = one_key same q e.0 t in
      (0, omega arith, λ i. (sym key i, here i)))
      (λ f. let rest = found es q v (ap (λ b. cond b (Some e.1) (find R q es)) (sym f) ∙ some) in
      (suc rest.0, omega (arith, rest.1), rest.2))
      (cases_Bool (eq_by_cmp R q e.0))

  find-altered : (change : K → V → V) (es : List (K × V)) (q : K) → find R q (altered change es) ≡ option_map (change q) (find R q es)
  find-altered change [] q = refl
  find-altered change (e ∷ es) q = ⊎_elim
      (λ t. ap (λ b. cond b (Some (change e.0 e.1)) (find R q (altered change es))) t
      ∙ ap (λ k. Some (change k e.1)) (sym (one_key same q e.0 t))
      ∙ ap (λ b. option_map (change q) (cond b (Some e.1) (find R q es))) (sym t))
      (λ f. ap (λ b. cond b (Some (change e.0 e.1)) (find R q (altered change es))) f
      ∙ find-altered change es q
      ∙ ap (λ b. option_map (change q) (cond b (Some e.1) (find R q es))) (sym f))
      (cases_Bool (eq_by_cmp R q e.0))

  pub get_fresh : (es : List (K × V)) (k : K) → IsFresh d es k → get (from_entries {R = R} es) k ≡ None
  get_fresh es k fresh = get-from_entries o es k ∙ find_none es k fresh

  pub from_entries_fresh : (es : List (K × V)) (k : K) (v : V) → IsFresh d es k → from_entries {R = R} (es ++ (k, v) ∷ []) ≡ insert (from_entries es) k v
  from_entries_fresh es k v fresh = from_entries_push o same es k v (find_none es k fresh)

  -- a key that is there stands somewhere, with its value
  pub stands : (es : List (K × V)) (q : K) (v : V) → get (from_entries {R = R} es) q ≡ Some v → (i : ℕ) × (i < length es) × (get_or es i d ≡ (q, v))
  stands es q v some = found es q v (sym (get-from_entries o es q) ∙ some)

  -- another value at one key
  pub from_entries-altered : (change : K → V → V) (es : List (K × V)) (k : K) (was : V) → get (from_entries {R = R} es) k ≡ Some was
      → ((q : K) (v : V) → eq_by_cmp R q k ≡ false → change q v ≡ v) → from_entries {R = R} (altered change es) ≡ insert (from_entries es) k (change k was)
  from_entries-altered change es k was some others = same_map o same _ _ (λ q.
      let left : get (from_entries {R = R} (altered change es)) q ≡ option_map (change q) (get (from_entries {R = R} es) q) =
      get-from_entries o _ q ∙ find-altered change es q ∙ ap (option_map (change q)) (sym (get-from_entries o es q)) in
      ⊎_elim
      (λ t. let key : q ≡ k = one_key same q k t in
      left ∙ ap (λ x. option_map (change x) (get (from_entries {R = R} es) x)) key ∙ ap (option_map (change k)) some
      ∙ sym (get_inserted o same _ k _) ∙ ap (get (insert (from_entries es) k (change k was))) (sym key))
      (λ f. left ∙ stays q (get (from_entries {R = R} es) q) f ∙ sym (get-insert o (from_entries {R = R} es) k _ q ∙ ap (λ b. cond b (Some (change k was)) (get (from_entries {R = R} es) q)) f))
      (cases_Bool (eq_by_cmp R q k)))
    where
      stays : (q : K) (r : Option V) → eq_by_cmp R q k ≡ false → option_map (change q) r ≡ r
      stays q None f = refl
      stays q (Some v) f = ap Some (others q v f)

  -- as many keys as entries
  pub len_all : (es : List (K × V)) → AreDistinct d es → len (from_entries {R = R} es) ≡ length es
  len_all [] distinct = len-empty R V
  len_all (e ∷ es) distinct =
      let new : get (from_entries {R = R} es) e.0 ≡ None = get_fresh es e.0 (λ i l h. distinct 0 (suc i) (omega arith) (omega (arith, l)) (sym h)) in
      len-insert o (from_entries es) e.0 e.1 ∙ ap (λ r. cond (is_some r) (len (from_entries {R = R} es)) (len (from_entries {R = R} es) + 1)) new
      ∙ ap (λ n. n + 1) (len_all es (λ i j l h. distinct (suc i) (suc j) (omega (arith, l)) (omega (arith, h)))) ∙ omega arith

-- ---- sums over the keys
abbrev pub key_sum : {K V : Type 0} {R : K → K → Ordering} → (K → ℕ) → FinMap R V → ℕ
key_sum f m = sum_by f (keys m)

module _ {K V : Type 0} (R : K → K → Ordering) (f : K → ℕ) (k : K) (v : V) where
  -- one entry more, in its place, adds its own term
  sum-put : (es : List (K × V)) → find R k es ≡ None → sum_by f (map (λ e. e.0) (put R k v es)) ≡ sum_by f (map (λ e. e.0) es) + f k
  sum-put [] none = refl
  sum-put (e ∷ es) none =
      elim (R k e.0) as (λ r. cond (is_eq r) (Some e.1) (find R k es) ≡ None → sum_by f (map (λ e. e.0) (by_order r ((k, v) ∷ e ∷ es) ((e.0, v) ∷ es) (e ∷ put R k v es))) ≡ sum_by f (map (λ e. e.0) (e ∷ es)) + f k) [
        | Less ↦ λ _. omega (arith, sum_by-cons f k (map (λ e. e.0) (e ∷ es)))
        | Equal ↦ λ some. absurd (none-some e.1 (sym some))
        | Greater ↦ λ rest. omega (arith, sum_by-cons f e.0 (map (λ e. e.0) (put R k v es)), sum_by-cons f e.0 (map (λ e. e.0) es), sum-put es rest)
      ] none

no_length : {X : Type 0} (es : List X) → length es ≡ 0 → es ≡ []
no_length [] e = refl
no_length (x ∷ es) e = absurd (omega arith)

pub no_entries : {K V : Type 0} (R : K → K → Ordering) → entries (empty {X = V} {R = R}) ≡ []
no_entries {V = V} R = no_length _ (sym (len-entries (empty {X = V} {R = R})) ∙ len-empty R V)

-- a test that is repeated
shadowed : {X : Type 0} (b : Bool) (x y z : X) → cond b x (cond b y z) ≡ cond b x z
shadowed true x y z = refl
shadowed false x y z = refl

module _ {K V : Type 0} {R : K → K → Ordering} (o : IsTotalOrder R) (same : IsAntisymmetric R) (f : K → ℕ) where
  pub key_sum-new : (m : FinMap R V) (k : K) (v : V) → get m k ≡ None → key_sum f (insert m k v) ≡ key_sum f m + f k
  key_sum-new m k v none = ap (λ es. sum_by f (map (λ e. e.0) es)) (entries-insert o m k v) ∙ sum-put R f k v (entries m) (sym (get-entries m k) ∙ none)

  -- the map without the key, and then with it
  put_back : (m : FinMap R V) (k : K) (v : V) → insert (remove m k) k v ≡ insert m k v
  put_back m k v = same_map o same _ _ (λ q.
      get-insert o (remove m k) k v q ∙ ap (cond (eq_by_cmp R q k) (Some v)) (get-remove o m k q)
      ∙ shadowed (eq_by_cmp R q k) (Some v) None (get m q) ∙ sym (get-insert o m k v q))

  pub same_again : (m : FinMap R V) (k : K) (v : V) → get m k ≡ Some v → insert m k v ≡ m
  same_again m k v some = same_map o same _ _ (λ q. ⊎_elim
      (λ t. get-insert o m k v q ∙ ap (λ b. cond b (Some v) (get m q)) t ∙ sym some ∙ ap (get m) (sym (one_key same q k t)))
      (λ f. get-insert o m k v q ∙ ap (λ b. cond b (Some v) (get m q)) f)
      (cases_Bool (eq_by_cmp R q k)))

  -- another value at a key that is there
  pub key_sum-old : (m : FinMap R V) (k : K) (v was : V) → get m k ≡ Some was → key_sum f (insert m k v) ≡ key_sum f m
  key_sum-old m k v was some =
      let without : get (remove m k) k ≡ None = get-remove o m k k ∙ ap (λ b. cond b None (get m k)) (same_key o k k refl) in
      ap (key_sum f) (sym (put_back m k v)) ∙ key_sum-new (remove m k) k v without
      ∙ sym (key_sum-new (remove m k) k was without) ∙ ap (key_sum f) (put_back m k was ∙ same_again m k was some)

  -- two values at one key: the later one counts
  pub insert_again : (m : FinMap R V) (k : K) (v w : V) → insert (insert m k v) k w ≡ insert m k w
  insert_again m k v w = same_map o same _ _ (λ q.
      get-insert o (insert m k v) k w q ∙ ap (cond (eq_by_cmp R q k) (Some w)) (get-insert o m k v q)
      ∙ shadowed (eq_by_cmp R q k) (Some w) (Some v) (get m q) ∙ sym (get-insert o m k w q))

  -- of entries no two of which have one key
  pub key_sum_all : (d : K × V) (es : List (K × V)) → AreDistinct d es → key_sum f (from_entries {R = R} es) ≡ sum_by f (map (λ e. e.0) es)
  key_sum_all d [] distinct = ap (λ es. sum_by f (map (λ e. e.0) es)) (no_entries R)
  key_sum_all d (e ∷ es) distinct =
      let new : get (from_entries {R = R} es) e.0 ≡ None = get_fresh o same d es e.0 (λ i l h. distinct 0 (suc i) (omega arith) (omega (arith, l)) (sym h)) in
      key_sum-new (from_entries es) e.0 e.1 new
      ∙ omega (arith, sum_by-cons f e.0 (map (λ e. e.0) es), key_sum_all d es (λ i j l h. distinct (suc i) (suc j) (omega (arith, l)) (omega (arith, h))))
