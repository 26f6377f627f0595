use Rattle.std.proofs.Common.{◌≡◌, ℕ, List, [], ◌∷◌, ◌++◌, sym, ap, subst, ◌∙◌}
use Rattle.std.specs.Prelude.{Result, Ok, Err, OnOk, OnErr}
use Rattle.serial_arena.specs.declared.kept.KeptBytes.{KeptBytes}
use Rattle.serial_arena.specs.Chunks.{LiesIn, AllLieIn}
use Rattle.serial_arena.proofs.Chunks.{mapped, StaysIn, chunks_go_on, all_lie, all_same, all_pushed, one_more}
use Rattle.serial_arena.proofs.strings.KeptStrings.keep_short.Goals as goal
use Rattle.serial_arena.proofs.strings.KeptStrings.keep_short.Goals.{Joined-register, in-Ok, in-Err}

on_err : {X E : Type 0} {P : Type 0} (r : Result X E) → P → OnErr r P
on_err (Ok x) p = tt
on_err (Err e) p = p

on_ok : {X E : Type 0} {P : Type 0} (r : Result X E) → P → OnOk r P
on_ok (Ok x) p = p
on_ok (Err e) p = tt

-- ---- no chunk
pub invariant_of-self : goal.invariant_of-self
invariant_of-self c = all_lie _ _ _ _ (chunks_go_on c.self.inside.own.items c.self.inside.chunks.items c.share.new.chunks.items c.share.ensures.others) c.self.inside.list c.self.invariant

pub returns-in_err-item-clause-unchanged : goal.returns-in_err-item-clause-unchanged
returns-in_err-item-clause-unchanged c =
    on_err c.from_residual.result
    (all_same _ _ _ _ (chunks_go_on c.self.inside.own.items c.self.inside.chunks.items c.share.new.chunks.items c.share.ensures.others) c.self.inside.list c.self.invariant ∙ c.self.view_is)

-- ---- a part of a chunk
module _ (c : Joined-register) where
  abbrev own : List (List ℕ)
  own = c.self.inside.own.items

  abbrev now : List (List ℕ)
  now = c.share.new.chunks.items

  on : (item : KeptBytes) → LiesIn own c.self.inside.chunks.items item → StaysIn own c.self.inside.chunks.items own now item
  on = chunks_go_on own c.self.inside.chunks.items now c.share.ensures.others

  lie : AllLieIn own now c.self.inside.list
  lie = all_lie own c.self.inside.chunks.items own now on c.self.inside.list c.self.invariant

  one : mapped own now (c.self.inside.list ++ c.in_ok-item.item ∷ []) ≡ c.args.self.now ++ c.args.bytes.now ∷ []
  one =
      one_more own c.self.inside.chunks.items own now on c.self.inside.list c.in_ok-item.item c.args.bytes.now c.self.invariant (c.in_ok-item.ensures.bytes own)
      ∙ ap (λ strings. strings ++ c.args.bytes.now ∷ []) c.self.view_is

  same : mapped own now c.self.inside.list ≡ c.args.self.now
  same = all_same own c.self.inside.chunks.items own now on c.self.inside.list c.self.invariant ∙ c.self.view_is

pub invariant_of-self-2 : goal.invariant_of-self-2
invariant_of-self-2 c = elim c.match-register.branch [
  | in-Ok w ↦ subst (AllLieIn (own c) (now c)) (sym w.in-Ok.ensures.registered) (all_pushed (own c) (now c) c.self.inside.list c.in_ok-item.item (lie c) (c.in_ok-item.ensures.lies (own c)))
  | in-Err w ↦ subst (AllLieIn (own c) (now c)) (sym w.in-Err.ensures.unchanged) (lie c)
]

pub returns-clause-kept : goal.returns-clause-kept
returns-clause-kept c = elim c.match-register.branch [
  | in-Ok w ↦ on_ok c.match-register.result (ap (mapped (own c) (now c)) w.in-Ok.ensures.registered ∙ one c)
  | in-Err w ↦ subst (λ r. OnOk r (mapped (own c) (now c) c.register.new.self ≡ c.args.self.now ++ c.args.bytes.now ∷ [])) (sym w.result-is) tt
]

pub returns-clause-unchanged : goal.returns-clause-unchanged
returns-clause-unchanged c = elim c.match-register.branch [
  | in-Ok w ↦ subst (λ r. OnErr r (mapped (own c) (now c) c.register.new.self ≡ c.args.self.now)) (sym w.result-is) tt
  | in-Err w ↦ on_err c.match-register.result (ap (mapped (own c) (now c)) w.in-Err.ensures.unchanged ∙ same c)
]
