use Rattle.std.proofs.Common.{◌∙◌, sym, ap}
use Rattle.std.specs.Prelude.{nat_lt}
use Rattle.std.specs.Option.{option_map}
use Rattle.desc_pool.specs.declared.names.NameDecl.{NameDecl}
use Rattle.desc_pool.specs.Names.{times}
use Rattle.desc_pool.specs.Refusals.{field_that, first_that, is_unknown}
use Rattle.desc_pool.proofs.Order.{at_3, at_4, at_5, at_6, at_7, at_8, at_9, at_none}
use Rattle.desc_pool.proofs.refusals.refusal.Goals as goal

pub returns-in-Some-3 : goal.returns-in-Some-3
returns-in-Some-3 c = sym (at_3 _ _ _ _ _ _ _ _ _ c.in-Some-3.name (sym c.bad_syntax.ensures.place ∙ c.in_default.is) (sym (c.in_ok-told.ensures ∙ ap (λ names. option_map (λ (decl : NameDecl). decl.name) (first_that (λ (decl : NameDecl). nat_lt 1 (times decl.name names)) names)) c.requires.list) ∙ c.in_default-2.is) (sym c.in_ok-name-2.ensures ∙ c.in-Some-3.is))

pub returns-in-Some-4 : goal.returns-in-Some-4
returns-in-Some-4 c = sym (at_4 _ _ _ _ _ _ _ _ _ c.in-Some-4.name (sym c.bad_syntax.ensures.place ∙ c.in_default.is) (sym (c.in_ok-told.ensures ∙ ap (λ names. option_map (λ (decl : NameDecl). decl.name) (first_that (λ (decl : NameDecl). nat_lt 1 (times decl.name names)) names)) c.requires.list) ∙ c.in_default-2.is) (sym c.in_ok-name-2.ensures ∙ c.in_default-3.is) (sym c.in_ok-name-3.ensures ∙ c.in-Some-4.is))

pub returns-in-Some-5 : goal.returns-in-Some-5
returns-in-Some-5 c = sym (at_5 _ _ _ _ _ _ _ _ _ c.in-Some-5.name (sym c.bad_syntax.ensures.place ∙ c.in_default.is) (sym (c.in_ok-told.ensures ∙ ap (λ names. option_map (λ (decl : NameDecl). decl.name) (first_that (λ (decl : NameDecl). nat_lt 1 (times decl.name names)) names)) c.requires.list) ∙ c.in_default-2.is) (sym c.in_ok-name-2.ensures ∙ c.in_default-3.is) (sym c.in_ok-name-3.ensures ∙ c.in_default-4.is) (sym c.in_ok-name-4.ensures ∙ c.in-Some-5.is))

pub returns-in-Some-6 : goal.returns-in-Some-6
returns-in-Some-6 c = sym (at_6 _ _ _ _ _ _ _ _ _ c.in-Some-6.name (sym c.bad_syntax.ensures.place ∙ c.in_default.is) (sym (c.in_ok-told.ensures ∙ ap (λ names. option_map (λ (decl : NameDecl). decl.name) (first_that (λ (decl : NameDecl). nat_lt 1 (times decl.name names)) names)) c.requires.list) ∙ c.in_default-2.is) (sym c.in_ok-name-2.ensures ∙ c.in_default-3.is) (sym c.in_ok-name-3.ensures ∙ c.in_default-4.is) (sym c.in_ok-name-4.ensures ∙ c.in_default-5.is) (sym (c.in_ok-name-5.ensures ∙ ap (λ names. field_that (is_unknown names) c.args.files.now) c.requires.list) ∙ c.in-Some-6.is))

pub returns-in-Some-7 : goal.returns-in-Some-7
returns-in-Some-7 c = sym (at_7 _ _ _ _ _ _ _ _ _ c.in-Some-7.name (sym c.bad_syntax.ensures.place ∙ c.in_default.is) (sym (c.in_ok-told.ensures ∙ ap (λ names. option_map (λ (decl : NameDecl). decl.name) (first_that (λ (decl : NameDecl). nat_lt 1 (times decl.name names)) names)) c.requires.list) ∙ c.in_default-2.is) (sym c.in_ok-name-2.ensures ∙ c.in_default-3.is) (sym c.in_ok-name-3.ensures ∙ c.in_default-4.is) (sym c.in_ok-name-4.ensures ∙ c.in_default-5.is) (sym (c.in_ok-name-5.ensures ∙ ap (λ names. field_that (is_unknown names) c.args.files.now) c.requires.list) ∙ c.in_default-6.is) (sym c.in_ok-name-6.ensures ∙ c.in-Some-7.is))

pub returns-in-Some-8 : goal.returns-in-Some-8
returns-in-Some-8 c = sym (at_8 _ _ _ _ _ _ _ _ _ c.in-Some-8.name (sym c.bad_syntax.ensures.place ∙ c.in_default.is) (sym (c.in_ok-told.ensures ∙ ap (λ names. option_map (λ (decl : NameDecl). decl.name) (first_that (λ (decl : NameDecl). nat_lt 1 (times decl.name names)) names)) c.requires.list) ∙ c.in_default-2.is) (sym c.in_ok-name-2.ensures ∙ c.in_default-3.is) (sym c.in_ok-name-3.ensures ∙ c.in_default-4.is) (sym c.in_ok-name-4.ensures ∙ c.in_default-5.is) (sym (c.in_ok-name-5.ensures ∙ ap (λ names. field_that (is_unknown names) c.args.files.now) c.requires.list) ∙ c.in_default-6.is) (sym c.in_ok-name-6.ensures ∙ c.in_default-7.is) (sym c.in_ok-name-7.ensures ∙ c.in-Some-8.is))

pub returns-in-Some-wide : goal.returns-in-Some-wide
returns-in-Some-wide c = sym (at_9 _ _ _ _ _ _ _ _ _ c.in-Some-wide.name (sym c.bad_syntax.ensures.place ∙ c.in_default.is) (sym (c.in_ok-told.ensures ∙ ap (λ names. option_map (λ (decl : NameDecl). decl.name) (first_that (λ (decl : NameDecl). nat_lt 1 (times decl.name names)) names)) c.requires.list) ∙ c.in_default-2.is) (sym c.in_ok-name-2.ensures ∙ c.in_default-3.is) (sym c.in_ok-name-3.ensures ∙ c.in_default-4.is) (sym c.in_ok-name-4.ensures ∙ c.in_default-5.is) (sym (c.in_ok-name-5.ensures ∙ ap (λ names. field_that (is_unknown names) c.args.files.now) c.requires.list) ∙ c.in_default-6.is) (sym c.in_ok-name-6.ensures ∙ c.in_default-7.is) (sym c.in_ok-name-7.ensures ∙ c.in_default-8.is) (sym c.in_ok-wide.ensures ∙ c.in-Some-wide.is))

pub returns-in-None : goal.returns-in-None
returns-in-None c = sym (at_none _ _ _ _ _ _ _ _ _ (sym c.bad_syntax.ensures.place ∙ c.in_default.is) (sym (c.in_ok-told.ensures ∙ ap (λ names. option_map (λ (decl : NameDecl). decl.name) (first_that (λ (decl : NameDecl). nat_lt 1 (times decl.name names)) names)) c.requires.list) ∙ c.in_default-2.is) (sym c.in_ok-name-2.ensures ∙ c.in_default-3.is) (sym c.in_ok-name-3.ensures ∙ c.in_default-4.is) (sym c.in_ok-name-4.ensures ∙ c.in_default-5.is) (sym (c.in_ok-name-5.ensures ∙ ap (λ names. field_that (is_unknown names) c.args.files.now) c.requires.list) ∙ c.in_default-6.is) (sym c.in_ok-name-6.ensures ∙ c.in_default-7.is) (sym c.in_ok-name-7.ensures ∙ c.in_default-8.is) (sym c.in_ok-wide.ensures ∙ c.in-None.is))
