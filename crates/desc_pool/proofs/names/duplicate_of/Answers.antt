use Rattle.std.proofs.Common.{◌≡◌, ◌<◌, ◌≤◌, ◌∙◌, true, false, Some, sym, ap, subst, append-nil}
use Rattle.std.specs.Prelude.{nat_lt}
use Rattle.std.specs.Option.{option_map}
use Rattle.std.proofs.lemmas.Bool.{lt-ltb, le-ltb}
use Rattle.desc_pool.specs.declared.names.NameDecl.{NameDecl}
use Rattle.desc_pool.specs.Names.{times}
use Rattle.desc_pool.proofs.Firsts.{first_hit, first_miss}
use Rattle.desc_pool.proofs.names.duplicate_of.Goals as goal

pub returns-then-count_of-gt1 : goal.returns-then-count_of-gt1
returns-then-count_of-gt1 c =
    let test = λ (decl : NameDecl). nat_lt 1 (times decl.name c.args.names.now) in
    let counted = c.count_of.ensures ∙ (c.in_ok-counts.ensures c.as_str.result.now ∙ ap (λ s. times s c.args.names.now) c.as_str.ensures) in
    let hits = lt-ltb 1 (times c.decl-item.result.name c.args.names.now) (subst (λ n. 1 < n) counted c.if-count_of-gt1.true) in
    ap Some (c.in_ok-told.ensures ∙ (append-nil _ ∙ c.as_str-then-count_of-gt1.ensures))
    ∙ (ap (λ x. Some x.name) c.decl-item.is
    ∙ sym (ap (option_map (λ (decl : NameDecl). decl.name)) (first_hit test c.args.names.now c.loop-decl.decl-index c.decl-item.result c.loop-decl.invariant c.loop-decl-test.true (subst (λ x. test x ≡ true) c.decl-item.is hits))))

pub loop-decl-preserved : goal.loop-decl-preserved
loop-decl-preserved c =
    let test = λ (decl : NameDecl). nat_lt 1 (times decl.name c.args.names.now) in
    let counted = c.count_of.ensures ∙ (c.in_ok-counts.ensures c.as_str.result.now ∙ ap (λ s. times s c.args.names.now) c.as_str.ensures) in
    let misses = le-ltb 1 (times c.decl-item.result.name c.args.names.now) (subst (λ n. n ≤ 1) counted c.if-count_of-gt1.false) in
    first_miss test c.args.names.now c.loop-decl.decl-index c.decl-item.result c.loop-decl.invariant c.loop-decl-test.true (subst (λ x. test x ≡ false) c.decl-item.is misses)
