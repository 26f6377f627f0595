-- What a step told of views, said of the seats that have them.
use Rattle.std.proofs.Common.{◌≡◌, ℕ, ap, sym, subst}
use Rattle.life_ids.specs.declared.view.View.{View}
use Rattle.life_ids.specs.Rule.{view_of}
use Rattle.life_ids.specs.Moments.{TakenView, SeenView}

with_quota : (v : View) (quota : ℕ) → v.quota ≡ quota → v ≡ view_of v.total v.taken v.given quota
with_quota v quota e = ap (λ (n : ℕ). view_of v.total v.taken v.given n) e

pub taken_of_seats : (v w : View) (found quota left : ℕ) → v.quota ≡ quota → w.quota ≡ left → TakenView v.total found v w
    → TakenView v.total found (view_of v.total v.taken v.given quota) (view_of w.total w.taken w.given left)
taken_of_seats v w found quota left e e' t =
    subst (λ (u : View). TakenView v.total found u (view_of w.total w.taken w.given left)) (with_quota v quota e) (subst (TakenView v.total found v) (with_quota w left e') t)

pub seen_of_seat : (v w : View) (quota : ℕ) → w ≡ v → w.quota ≡ quota → SeenView v.total v → SeenView w.total (view_of w.total w.taken w.given quota)
seen_of_seat v w quota same e s =
    subst (SeenView w.total) (with_quota w quota e) (subst (λ (u : View). SeenView u.total u) (sym same) s)
