use Rattle.std.proofs.Common.{◌≡◌, ◌+◌, ◌∙◌, Some, true, false, not, sym, ap, subst, arith}
use Rattle.desc_pool.specs.declared.file.FileDecl.{FileDecl}
use Rattle.desc_pool.proofs.Firsts.{place_hit, place_miss}
use Rattle.desc_pool.proofs.refusals.bad_syntax.Goals as goal

pub returns-then-not-files-i-clause-place : goal.returns-then-not-files-i-clause-place
returns-then-not-files-i-clause-place c =
    let test = λ (file : FileDecl). not file.is_proto3 in
    let place : 0 + c.loop-i.i ≡ c.loop-i.i = omega arith in
    sym (place_hit test 0 c.args.files.now c.loop-i.i c.index-files-i.result c.loop-i.invariant c.loop-i-test.true (subst (λ x. test x ≡ true) c.index-files-i.is (ap (λ (x : FileDecl). not x.is_proto3) c.index-files-i.is ∙ ap not c.if-not-files-i.true)) ∙ ap Some place)

pub loop-i-preserved : goal.loop-i-preserved
loop-i-preserved c =
    let test = λ (file : FileDecl). not file.is_proto3 in
    place_miss test 0 c.args.files.now c.loop-i.i c.index-files-i.result c.loop-i.invariant c.loop-i-test.true (subst (λ x. test x ≡ false) c.index-files-i.is (ap (λ (x : FileDecl). not x.is_proto3) c.index-files-i.is ∙ ap not c.if-not-files-i.false))
