use Rattle.std.proofs.Common.{◌≡◌, ◌++◌, ◌∷◌, [], ℕ, List, subst, sym}
use Rattle.std.specs.List.{Contains}
use Rattle.std.proofs.lemmas.List.Elements.{Contains-push}
use Rattle.life_ids.proofs.tests.one_from_each.Goals as goal

-- the last of some ids is one of them
last_in : (all before : List ℕ) (id : ℕ) → all ≡ before ++ id ∷ [] → Contains all id
last_in all before id is = subst (λ (ids : List ℕ). Contains ids id) (sym is) (Contains-push before id)

pub returns-clause-differ : goal.returns-clause-differ
returns-clause-differ c same =
    let mine = last_in _ _ _ c.in-Ok.ensures.drawn in
    let other = last_in _ _ _ c.in-Ok-draw.ensures.drawn in
    c.give_back.ensures.apart c.in-Ok.mine mine (subst (Contains _) (sym same) other)
