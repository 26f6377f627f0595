-- Runs of a field's records: what all records have, those of the last run have; and of two fields with different numbers one has an empty last run.
use Rattle.std.proofs.Common.{◌≡◌, ◌≢◌, ◌⊎◌, List, [], ◌∷◌, ◌++◌, Bool, true, false, not, cond, Option, None, Some, refl, sym, ap, ◌∙◌, inl, inr}
use Rattle.std.specs.Prelude.{filter}
use Rattle.std.specs.List.{slice_split, onto_first}
use Rattle.std.proofs.lemmas.Bool.{false≢true}
use Rattle.std.proofs.lemmas.Option.{none-some, same_Some}
use Rattle.pb_schema.specs.declared.kind.FieldType.{FieldType}
use Rattle.pb_schema.specs.declared.schema.Schema.{Schema}
use Rattle.pb_schema.specs.Record.{Record}
use Rattle.pb_schema.specs.Fits.{takes}
use Rattle.pb_schema.specs.TreeOf.{last_of, or_none, runs, last_run}
use Rattle.pb_schema.proofs.FitsLaws.{taken_by, not_taken}

-- of each record
abbrev pub Each : (Record → Type 0) → List Record → Type 0
Each P [] = Unit {0}
Each P (r ∷ rs) = P r × Each P rs

pub each_join : (P : Record → Type 0) (xs ys : List Record) → Each P xs → Each P ys → Each P (xs ++ ys)
each_join P [] ys p q = q
each_join P (x ∷ xs) ys p q = (p.0, each_join P xs ys p.1 q)

pub each_filter : (P : Record → Type 0) (test : Record → Bool) (rs : List Record) → Each P rs → Each (λ r. P r × (test r ≡ true)) (filter test rs)
each_filter P test [] p = tt
each_filter P test (r ∷ rs) p = pick (each_filter P test rs p.1) (test r) refl
  where
    pick : Each (λ r. P r × (test r ≡ true)) (filter test rs) → (t : Bool) → test r ≡ t → Each (λ r. P r × (test r ≡ true)) (cond t (r ∷ filter test rs) (filter test rs))
    pick more true e = ((p.0, e), more)
    pick more false e = more

pub each_same : (P Q : Record → Type 0) (rs : List Record) → ((r : Record) → P r → Q r) → Each P rs → Each Q rs
each_same P Q [] f p = tt
each_same P Q (r ∷ rs) f p = (f r p.0, each_same P Q rs f p.1)

-- EACH RUN

abbrev EachRun : (Record → Type 0) → List (List Record) → Type 0
EachRun P [] = Unit {0}
EachRun P (run ∷ more) = Each P run × EachRun P more

run_grows : (P : Record → Type 0) (r : Record) (parts : List (List Record)) → P r → EachRun P parts → EachRun P (onto_first r parts)
run_grows P r [] p q = ((p, tt), tt)
run_grows P r (run ∷ more) p q = ((p, q.0), q.1)

-- of the records in each part
parts_each : (P : Record → Type 0) (test : Record → Bool) (rs : List Record) → Each (λ r. test r ≡ false → P r) rs → EachRun P (slice_split test rs)
parts_each P test [] p = (tt, tt)
parts_each P test (r ∷ rs) p = pick (parts_each P test rs p.1) (test r) refl
  where
    pick : EachRun P (slice_split test rs) → (t : Bool) → test r ≡ t → EachRun P (cond t ([] ∷ slice_split test rs) (onto_first r (slice_split test rs)))
    pick more true e = (tt, more)
    pick more false e = run_grows P r (slice_split test rs) (p.0 e) more

last_each : (P : Record → Type 0) (parts : List (List Record)) → EachRun P parts → Each P (or_none (last_of parts))
last_each P [] p = tt
last_each P (run ∷ []) p = p.0
last_each P (run ∷ next ∷ more) p = last_each P (next ∷ more) p.1

not_false : (b : Bool) → not b ≡ false → b ≡ true
not_false true e = refl
not_false false e = absurd (false≢true (sym e))

-- the records of the last run are taken, and are as all are
pub run_each : (schema : Schema) (field : FieldType) (P : Record → Type 0) (rs : List Record) → Each P rs → Each (λ r. P r × (takes schema field r ≡ true)) (last_run schema field rs)
run_each schema field P rs p =
    let Q : Record → Type 0 = λ r. P r × (takes schema field r ≡ true) in
    last_each Q (runs schema field rs)
    (parts_each Q (λ r. not (takes schema field r)) rs (each_same P (λ r. not (takes schema field r) ≡ false → Q r) rs (λ r q e. (q, not_false (takes schema field r) e)) p))

-- THE LAST RUN

last_behind : (first : List Record) (front : List (List Record)) → last_of (first ∷ (front ++ ([] ∷ []))) ≡ Some []
last_behind first [] = refl
last_behind first (next ∷ front) = last_behind next front

-- a part begins behind each record that parts them
parted : (test : Record → Bool) (rs : List Record) (r : Record) → last_of rs ≡ Some r → test r ≡ true → (first : List Record) × (front : List (List Record)) × (slice_split test rs ≡ first ∷ (front ++ ([] ∷ [])))
parted test [] r e t = absurd (none-some r e)
parted test (x ∷ []) r e t = ([], [], ap (λ b. cond b ([] ∷ [] ∷ []) ((x ∷ []) ∷ [])) (ap test (same_Some x r e) ∙ t))
parted test (x ∷ y ∷ rs) r e t = pick (parted test (y ∷ rs) r e t) (test x)
  where
    pick : ((first : List Record) × (front : List (List Record)) × (slice_split test (y ∷ rs) ≡ first ∷ (front ++ ([] ∷ [])))) → (b : Bool) → (first : List Record) × (front : List (List Record)) × (cond b ([] ∷ slice_split test (y ∷ rs)) (onto_first x (slice_split test (y ∷ rs))) ≡ first ∷ (front ++ ([] ∷ [])))
    pick p true = ([], p.0 ∷ p.1, ap (λ parts. [] ∷ parts) p.2)
    pick p false = (x ∷ p.0, p.1, ap (onto_first x) p.2)

-- where the last record is another, the last run is empty
pub ended_run : (schema : Schema) (field : FieldType) (rs : List Record) (r : Record) → last_of rs ≡ Some r → takes schema field r ≡ false → last_run schema field rs ≡ []
ended_run schema field rs r e other =
    let p = parted (λ r. not (takes schema field r)) rs r e (ap not other) in
    ap (λ parts. or_none (last_of parts)) p.2 ∙ ap or_none (last_behind p.0 p.1)

nil_last : (rs : List Record) → last_of rs ≡ None → rs ≡ []
nil_last [] e = refl
nil_last (r ∷ []) e = absurd (none-some r (sym e))
nil_last (r ∷ q ∷ rs) e = absurd (cons_nil q rs (nil_last (q ∷ rs) e))
  where
    cons_nil : (q : Record) (rs : List Record) → q ∷ rs ≡ [] → ⊥
    cons_nil q rs e = cc

-- of two fields of different numbers one has no run at the end
pub runs_differ : (schema : Schema) (f g : FieldType) → f.number ≢ g.number → (rs : List Record) → (last_run schema f rs ≡ []) ⊎ (last_run schema g rs ≡ [])
runs_differ schema f g differ rs = cases (last_of rs) refl
  where
    taken : (r : Record) → last_of rs ≡ Some r → (t : Bool) → takes schema f r ≡ t → (last_run schema f rs ≡ []) ⊎ (last_run schema g rs ≡ [])
    taken r e false other = inl (ended_run schema f rs r e other)
    taken r e true own = inr (ended_run schema g rs r e (not_taken schema g r (λ same. differ ((taken_by schema f r own).number ∙ sym same))))

    cases : (o : Option Record) → last_of rs ≡ o → (last_run schema f rs ≡ []) ⊎ (last_run schema g rs ≡ [])
    cases None e = inl (ap (last_run schema f) (nil_last rs e))
    cases (Some r) e = taken r e (takes schema f r) refl
