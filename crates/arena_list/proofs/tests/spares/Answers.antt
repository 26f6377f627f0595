use Rattle.std.proofs.Common.{refl, arith, ◌+◌, ◌*◌, [], ◌∷◌}
use Rattle.arena_list.specs.declared.tests.Counter.{Counter}
use Rattle.arena_list.specs.Rule.Founded.{meter}
use Rattle.arena_list.proofs.Worked.{spares_more, none_beside, one_beside, are_fit}
use Rattle.arena_list.proofs.tests.spares.Goals as goal

pub loop-slot-preserved : goal.loop-slot-preserved
loop-slot-preserved c = let m = (meter (λ (x : Counter). x.owner) (λ (x : Counter). x.life) (λ (x : Counter). x.used)) in let n = c.loop-slot.slot in
    spares_more m c.loop-slot.spare.items c.push.new.self.items c.loop-slot.callers.items c.push-in-loop-slot.new.self.items n
    (record { slot = n; caller = 4 + 3 * n; part = record { owner = 4 + 3 * n; life = 5; used = 0 } })
    c.loop-slot.invariant c.in_ok-push.ensures.items c.in_ok-push-2.ensures.items refl refl (record { owner = refl; life_is = refl; used = omega arith })

pub returns-clause-fit : goal.returns-clause-fit
returns-clause-fit c = let m = (meter (λ (x : Counter). x.owner) (λ (x : Counter). x.life) (λ (x : Counter). x.used)) in let n = c.loop-slot.slot in let a = c.loop-slot-test.false in let b = c.loop-slot.auto.slot-end in let r = c.requires.0 in let s = c.requires.1 in
    are_fit m [] c.loop-slot.spare.items c.loop-slot.callers.items n c.loop-slot.invariant (none_beside m n [] refl) (omega arith) (omega arith)

pub returns-clause-beside : goal.returns-clause-beside
returns-clause-beside c e low small whose fits = let m = (meter (λ (x : Counter). x.owner) (λ (x : Counter). x.life) (λ (x : Counter). x.used)) in let n = c.loop-slot.slot in let a = c.loop-slot-test.false in let b = c.loop-slot.auto.slot-end in let r = c.requires.0 in let s = c.requires.1 in
    are_fit m (e ∷ []) c.loop-slot.spare.items c.loop-slot.callers.items n c.loop-slot.invariant (one_beside m n (e ∷ []) e refl (omega arith) small whose fits) (omega arith) (omega arith)
