-- Names that are counted and looked up, one after another.
use Rattle.std.proofs.Common.{◌≡◌, ◌+◌, ◌<◌, ◌≤◌, ℕ, suc, List, [], ◌∷◌, ◌++◌, length, take, get_or, Bool, true, false, not, cond, ◌&&◌, ◌||◌, Option, None, Some, refl, sym, ap, ◌∙◌, subst, arith}
use Rattle.std.proofs.Math.Seq.{take-suc}
use Rattle.std.specs.Str.{bytes_eq}
use Rattle.std.specs.Prelude.{IfSome}
use Rattle.std.proofs.lemmas.Option.{none-some, same_Some}
use Rattle.std.specs.List.{fold}
use Rattle.std.specs.Option.{is_some, unwrap_or}
use Rattle.std.specs.Cmp.Lexicographic.{bytes_decides, nat_list_eq_equiv}
use Rattle.std.proofs.lemmas.List.Sums.{sum_by_push}
use Rattle.desc_pool.specs.declared.names.NameDecl.{NameDecl}
use Rattle.desc_pool.specs.Names.{times, is_enum, place_from, place_of}

-- how many of them are messages
abbrev pub messages_in : List NameDecl → ℕ
messages_in [] = 0
messages_in (decl ∷ names) = cond decl.is_message 1 0 + messages_in names

-- one more name, which stands at this place of all
abbrev pub Stands : List NameDecl → ℕ → NameDecl → Type 0
Stands names n decl = (n < length names) × (decl ≡ get_or names n decl)

with_more : (names : List NameDecl) (n : ℕ) (decl : NameDecl) → Stands names n decl → take (n + 1) names ≡ take n names ++ decl ∷ []
with_more names n decl p =
    ap (λ k. take k names) (let P : n + 1 ≡ suc n = omega arith in P) ∙ (take-suc names n decl p.0 ∙ ap (λ x. take n names ++ x ∷ []) (sym p.1))

symm : (v w : List ℕ) (b : Bool) → bytes_eq v w ≡ b → bytes_eq w v ≡ b
symm v w b e = sym (nat_list_eq_equiv.symm v w) ∙ e

-- COUNTS

few_from : (q : List ℕ) (n : ℕ) (names : List NameDecl) → fold (λ a (decl : NameDecl). a + cond (bytes_eq q decl.name) 1 0) n names ≤ n + length names
few_from q n [] = omega arith
few_from q n (decl ∷ names) = one (bytes_eq q decl.name) (few_from q (n + cond (bytes_eq q decl.name) 1 0) names)
  where
    one : {m : ℕ} (b : Bool) → m ≤ n + cond b 1 0 + length names → m ≤ n + suc (length names)
    one true h = omega (arith, h)
    one false h = omega (arith, h)

pub times_few : (q : List ℕ) (names : List NameDecl) → times q names ≤ length names
times_few q names = subst (λ n. times q names ≤ n) (let P : 0 + length names ≡ length names = omega arith in P) (few_from q 0 names)

pub count_more : (names : List NameDecl) (n : ℕ) (decl : NameDecl) (name : List ℕ) (count : ℕ) (get get' : List ℕ → Option ℕ) → Stands names n decl → name ≡ decl.name → count ≡ unwrap_or (get name) 0
    → ((q : List ℕ) → get' q ≡ cond (bytes_eq name q) (Some (count + 1)) (get q)) → ((q : List ℕ) → unwrap_or (get q) 0 ≡ times q (take n names)) → (q : List ℕ) → unwrap_or (get' q) 0 ≡ times q (take (n + 1) names)
count_more names n decl name count get get' stands named counted puts before q =
    ap (λ o. unwrap_or o 0) (puts q)
    ∙ (one (bytes_eq name q) refl
    ∙ (sym (sum_by_push (λ decl. cond (bytes_eq q decl.name) 1 0) (take n names) decl)
    ∙ ap (times q) (sym (with_more names n decl stands))))
  where
    one : (b : Bool) → bytes_eq name q ≡ b → unwrap_or (cond (bytes_eq name q) (Some (count + 1)) (get q)) 0 ≡ times q (take n names) + cond (bytes_eq q decl.name) 1 0
    one true e =
        let same : name ≡ q = (bytes_decides name q).0 e in
        let now : count ≡ times q (take n names) = counted ∙ (ap (λ x. unwrap_or (get x) 0) same ∙ before q) in
        ap (λ b. unwrap_or (cond b (Some (count + 1)) (get q)) 0) e
        ∙ (ap (λ k. k + 1) now
        ∙ ap (λ b. times q (take n names) + cond b 1 0) (sym (ap (bytes_eq q) (sym named) ∙ symm name q true e)))
    one false e =
        let none : times q (take n names) ≡ times q (take n names) + 0 = omega arith in
        ap (λ b. unwrap_or (cond b (Some (count + 1)) (get q)) 0) e
        ∙ (before q ∙ (none ∙ ap (λ b. times q (take n names) + cond b 1 0) (sym (ap (bytes_eq q) (sym named) ∙ symm name q false e))))

-- ENUMS

enum_end : (names : List NameDecl) (decl : NameDecl) (q : List ℕ) → is_enum (names ++ decl ∷ []) q ≡ (is_enum names q || (not decl.is_message && bytes_eq q decl.name))
enum_end [] decl q = or_false (not decl.is_message && bytes_eq q decl.name)
  where
    or_false : (b : Bool) → (b || false) ≡ (false || b)
    or_false true = refl
    or_false false = refl
enum_end (x ∷ names) decl q =
    ap (λ b. (not x.is_message && bytes_eq q x.name) || b) (enum_end names decl q)
    ∙ or_assoc (not x.is_message && bytes_eq q x.name) (is_enum names q) (not decl.is_message && bytes_eq q decl.name)
  where
    or_assoc : (a b c : Bool) → (a || (b || c)) ≡ ((a || b) || c)
    or_assoc true b c = refl
    or_assoc false b c = refl

pub enum_more : (names : List NameDecl) (n : ℕ) (decl : NameDecl) (name : List ℕ) (get get' : List ℕ → Option ℕ) → Stands names n decl → name ≡ decl.name → decl.is_message ≡ false
    → ((q : List ℕ) → get' q ≡ cond (bytes_eq name q) (Some 1) (get q)) → ((q : List ℕ) → is_some (get q) ≡ is_enum (take n names) q) → (q : List ℕ) → is_some (get' q) ≡ is_enum (take (n + 1) names) q
enum_more names n decl name get get' stands named is puts before q =
    ap is_some (puts q)
    ∙ (one (bytes_eq name q) (get q)
    ∙ (ap (λ b. b || bytes_eq name q) (before q)
    ∙ (ap (λ b. is_enum (take n names) q || b) own
    ∙ (sym (enum_end (take n names) decl q) ∙ ap (λ ds. is_enum ds q) (sym (with_more names n decl stands))))))
  where
    one : (b : Bool) (o : Option ℕ) → is_some (cond b (Some 1) o) ≡ (is_some o || b)
    one true None = refl
    one true (Some x) = refl
    one false None = refl
    one false (Some x) = refl

    own : bytes_eq name q ≡ (not decl.is_message && bytes_eq q decl.name)
    own = symm q name (bytes_eq q name) refl ∙ (ap (bytes_eq q) named ∙ ap (λ b. not b && bytes_eq q decl.name) (sym is))

-- PLACES

messages_end : (names : List NameDecl) (decl : NameDecl) → messages_in (names ++ decl ∷ []) ≡ messages_in names + cond decl.is_message 1 0
messages_end [] decl = let P : cond decl.is_message 1 0 + 0 ≡ 0 + cond decl.is_message 1 0 = omega arith in P
messages_end (x ∷ names) decl = let e = messages_end names decl in omega (arith, e)

place_end : (place : ℕ) (names : List NameDecl) (decl : NameDecl) (q : List ℕ) → place_from place (names ++ decl ∷ []) q ≡ cond (decl.is_message && bytes_eq q decl.name) (Some (place + messages_in names)) (place_from place names q)
place_end place [] decl q = ap (λ p. cond (decl.is_message && bytes_eq q decl.name) (Some p) None) (let P : place ≡ place + 0 = omega arith in P)
place_end place (x ∷ names) decl q =
    ap (λ o. elim o [ Some later ↦ Some later | None ↦ cond (x.is_message && bytes_eq q x.name) (Some place) None ]) (place_end (cond x.is_message (suc place) place) names decl q)
    ∙ later (decl.is_message && bytes_eq q decl.name)
  where
    front : (b : Bool) → cond b (suc place) place + messages_in names ≡ place + (cond b 1 0 + messages_in names)
    front true = omega arith
    front false = omega arith

    later : (t : Bool)
        → elim (cond t (Some (cond x.is_message (suc place) place + messages_in names)) (place_from (cond x.is_message (suc place) place) names q)) [ Some later ↦ Some later | None ↦ cond (x.is_message && bytes_eq q x.name) (Some place) None ]
        ≡ cond t (Some (place + (cond x.is_message 1 0 + messages_in names))) (place_from place (x ∷ names) q)
    later true = ap Some (front x.is_message)
    later false = refl

-- what is known where the places of the first names are told
pub record PlacesTo (names : List NameDecl) (n : ℕ) (get : List ℕ → Option ℕ) (place : ℕ) : Type 0 where
  pub places : (q : List ℕ) → get q ≡ place_of (take n names) q
  pub count : place ≡ messages_in (take n names)
  pub few : place ≤ n

pub place_skip : (names : List NameDecl) (n : ℕ) (decl : NameDecl) (get : List ℕ → Option ℕ) (place : ℕ) → Stands names n decl → decl.is_message ≡ false → PlacesTo names n get place → PlacesTo names (n + 1) get place
place_skip names n decl get place stands is p =
    let more = with_more names n decl stands in
    record {
      places =
          λ q. p.places q
          ∙ (ap (λ b. cond (b && bytes_eq q decl.name) (Some (0 + messages_in (take n names))) (place_of (take n names) q)) (sym is)
          ∙ (sym (place_end 0 (take n names) decl q) ∙ ap (λ ds. place_of ds q) (sym more)));
      count =
          let none = ap {B = ℕ} (λ b. cond b 1 0) is in
          let end = messages_end (take n names) decl in
          let all = ap messages_in more in omega (arith, p.count, none, end, all);
      few = let few = p.few in omega (arith, few);
    }

pub place_more : (names : List NameDecl) (n : ℕ) (decl : NameDecl) (name : List ℕ) (get get' : List ℕ → Option ℕ) (place : ℕ) → Stands names n decl → name ≡ decl.name → decl.is_message ≡ true → ((q : List ℕ) → get' q ≡ cond (bytes_eq name q) (Some place) (get q)) → PlacesTo names n get place → PlacesTo names (n + 1) get' (place + 1)
place_more names n decl name get get' place stands named is puts p =
    let more = with_more names n decl stands in
    record {
      places =
          λ q. puts q
          ∙ (ap (λ o. cond (bytes_eq name q) (Some place) o) (p.places q)
          ∙ (ap (λ k. cond (bytes_eq name q) (Some k) (place_of (take n names) q)) (p.count ∙ (let P : messages_in (take n names) ≡ 0 + messages_in (take n names) = omega arith in P))
          ∙ (ap (λ b. cond b (Some (0 + messages_in (take n names))) (place_of (take n names) q)) (symm q name (bytes_eq q name) refl ∙ (ap (bytes_eq q) named ∙ ap (λ b. b && bytes_eq q decl.name) (sym is)))
          ∙ (sym (place_end 0 (take n names) decl q) ∙ ap (λ ds. place_of ds q) (sym more)))));
      count =
          let one = ap {B = ℕ} (λ b. cond b 1 0) is in
          let end = messages_end (take n names) decl in
          let all = ap messages_in more in omega (arith, p.count, one, end, all);
      few = let few = p.few in omega (arith, few);
    }

-- places are those of messages among the names
place_few : (place : ℕ) (names : List NameDecl) (q : List ℕ) (p : ℕ) → place_from place names q ≡ Some p → p < place + length names
place_few place [] q p e = absurd (none-some p e)
place_few place (x ∷ names) q p e = behind (place_from (cond x.is_message (suc place) place) names q) refl (place_few (cond x.is_message (suc place) place) names q p)
  where
    front : (b : Bool) → p < cond b (suc place) place + length names → p < place + suc (length names)
    front true h = omega (arith, h)
    front false h = omega (arith, h)

    own : (b : Bool) → cond b (Some place) None ≡ Some p → p < place + suc (length names)
    own true e = let same = same_Some place p e in omega (arith, same)
    own false e = absurd (none-some p e)

    behind : (o : Option ℕ) → place_from (cond x.is_message (suc place) place) names q ≡ o → (place_from (cond x.is_message (suc place) place) names q ≡ Some p → p < cond x.is_message (suc place) place + length names) → p < place + suc (length names)
    behind (Some k) is more = front x.is_message (more (is ∙ (sym (ap (λ o. elim o [ Some l ↦ Some l | None ↦ cond (x.is_message && bytes_eq q x.name) (Some place) None ]) is) ∙ e)))
    behind None is more = own (x.is_message && bytes_eq q x.name) (sym (ap (λ o. elim o [ Some l ↦ Some l | None ↦ cond (x.is_message && bytes_eq q x.name) (Some place) None ]) is) ∙ e)

pub place_within : (names : List NameDecl) (q : List ℕ) (o : Option ℕ) → o ≡ place_of names q → IfSome o (λ p. p < length names)
place_within names q None e = tt
place_within names q (Some p) e = let few = place_few 0 names q p (sym e) in let within : p < length names = omega (arith, few) in within
