-- The order of the refusals: each comes where none before it does.
use Rattle.std.proofs.Common.{◌≡◌, ℕ, List, [], Option, None, Some, refl, ap, ◌∙◌}
use Rattle.std.specs.Option.{option_map}
use Rattle.desc_pool.specs.declared.file.FileDecl.{FileDecl}
use Rattle.desc_pool.specs.declared.fault.SchemaFault.{SchemaFault}
use Rattle.desc_pool.specs.declared.fault.SchemaFault.TheVariants.{Syntax, DuplicateName, BadNumber, DuplicateNumber, RelativeName, UnknownType, BadOneof, UnsupportedType, TooMany}
use Rattle.desc_pool.specs.Refusals.{◌otherwise◌, refusal, syntax, duplicate_name, field_that, first_field, first_repeated, first_that, has_bad_number, is_relative, is_unknown, is_badly_placed, is_unsupported, too_many}
use Rattle.desc_pool.specs.Names.{names_of}

abbrev pub chain : Option ℕ → Option (List ℕ) → Option (List ℕ) → Option (List ℕ) → Option (List ℕ) → Option (List ℕ) → Option (List ℕ) → Option (List ℕ) → Option (List ℕ) → Option SchemaFault
chain s d n r l u b t m =
    option_map Syntax s
    otherwise option_map DuplicateName d
    otherwise option_map BadNumber n
    otherwise option_map DuplicateNumber r
    otherwise option_map RelativeName l
    otherwise option_map UnknownType u
    otherwise option_map BadOneof b
    otherwise option_map UnsupportedType t
    otherwise option_map TooMany m

pub refusal_is : (files : List FileDecl) → refusal files ≡ chain (syntax files) (duplicate_name files) (field_that has_bad_number files) (first_field (λ message. first_repeated [] message.fields) files) (field_that is_relative files) (field_that (is_unknown (names_of files)) files) (first_field (λ message. first_that (is_badly_placed message) message.fields) files) (field_that is_unsupported files) (too_many files)
refusal_is files = refl

pub at_3 : (s : Option ℕ) (d n r l u b t m : Option (List ℕ)) (a : List ℕ) → s ≡ None → d ≡ None → n ≡ Some a → chain s d n r l u b t m ≡ Some (BadNumber a)
at_3 s d n r l u b t m a e0 e1 e2 = ap (λ s. chain s d n r l u b t m) e0 ∙ (ap (λ d. chain None d n r l u b t m) e1 ∙ (ap (λ n. chain None None n r l u b t m) e2))

pub at_4 : (s : Option ℕ) (d n r l u b t m : Option (List ℕ)) (a : List ℕ) → s ≡ None → d ≡ None → n ≡ None → r ≡ Some a → chain s d n r l u b t m ≡ Some (DuplicateNumber a)
at_4 s d n r l u b t m a e0 e1 e2 e3 = ap (λ s. chain s d n r l u b t m) e0 ∙ (ap (λ d. chain None d n r l u b t m) e1 ∙ (ap (λ n. chain None None n r l u b t m) e2 ∙ (ap (λ r. chain None None None r l u b t m) e3)))

pub at_5 : (s : Option ℕ) (d n r l u b t m : Option (List ℕ)) (a : List ℕ) → s ≡ None → d ≡ None → n ≡ None → r ≡ None → l ≡ Some a → chain s d n r l u b t m ≡ Some (RelativeName a)
at_5 s d n r l u b t m a e0 e1 e2 e3 e4 = ap (λ s. chain s d n r l u b t m) e0 ∙ (ap (λ d. chain None d n r l u b t m) e1 ∙ (ap (λ n. chain None None n r l u b t m) e2 ∙ (ap (λ r. chain None None None r l u b t m) e3 ∙ (ap (λ l. chain None None None None l u b t m) e4))))

pub at_6 : (s : Option ℕ) (d n r l u b t m : Option (List ℕ)) (a : List ℕ) → s ≡ None → d ≡ None → n ≡ None → r ≡ None → l ≡ None → u ≡ Some a → chain s d n r l u b t m ≡ Some (UnknownType a)
at_6 s d n r l u b t m a e0 e1 e2 e3 e4 e5 = ap (λ s. chain s d n r l u b t m) e0 ∙ (ap (λ d. chain None d n r l u b t m) e1 ∙ (ap (λ n. chain None None n r l u b t m) e2 ∙ (ap (λ r. chain None None None r l u b t m) e3 ∙ (ap (λ l. chain None None None None l u b t m) e4 ∙ (ap (λ u. chain None None None None None u b t m) e5)))))

pub at_7 : (s : Option ℕ) (d n r l u b t m : Option (List ℕ)) (a : List ℕ) → s ≡ None → d ≡ None → n ≡ None → r ≡ None → l ≡ None → u ≡ None → b ≡ Some a → chain s d n r l u b t m ≡ Some (BadOneof a)
at_7 s d n r l u b t m a e0 e1 e2 e3 e4 e5 e6 = ap (λ s. chain s d n r l u b t m) e0 ∙ (ap (λ d. chain None d n r l u b t m) e1 ∙ (ap (λ n. chain None None n r l u b t m) e2 ∙ (ap (λ r. chain None None None r l u b t m) e3 ∙ (ap (λ l. chain None None None None l u b t m) e4 ∙ (ap (λ u. chain None None None None None u b t m) e5 ∙ (ap (λ b. chain None None None None None None b t m) e6))))))

pub at_8 : (s : Option ℕ) (d n r l u b t m : Option (List ℕ)) (a : List ℕ) → s ≡ None → d ≡ None → n ≡ None → r ≡ None → l ≡ None → u ≡ None → b ≡ None → t ≡ Some a → chain s d n r l u b t m ≡ Some (UnsupportedType a)
at_8 s d n r l u b t m a e0 e1 e2 e3 e4 e5 e6 e7 = ap (λ s. chain s d n r l u b t m) e0 ∙ (ap (λ d. chain None d n r l u b t m) e1 ∙ (ap (λ n. chain None None n r l u b t m) e2 ∙ (ap (λ r. chain None None None r l u b t m) e3 ∙ (ap (λ l. chain None None None None l u b t m) e4 ∙ (ap (λ u. chain None None None None None u b t m) e5 ∙ (ap (λ b. chain None None None None None None b t m) e6 ∙ (ap (λ t. chain None None None None None None None t m) e7)))))))

pub at_9 : (s : Option ℕ) (d n r l u b t m : Option (List ℕ)) (a : List ℕ) → s ≡ None → d ≡ None → n ≡ None → r ≡ None → l ≡ None → u ≡ None → b ≡ None → t ≡ None → m ≡ Some a → chain s d n r l u b t m ≡ Some (TooMany a)
at_9 s d n r l u b t m a e0 e1 e2 e3 e4 e5 e6 e7 e8 = ap (λ s. chain s d n r l u b t m) e0 ∙ (ap (λ d. chain None d n r l u b t m) e1 ∙ (ap (λ n. chain None None n r l u b t m) e2 ∙ (ap (λ r. chain None None None r l u b t m) e3 ∙ (ap (λ l. chain None None None None l u b t m) e4 ∙ (ap (λ u. chain None None None None None u b t m) e5 ∙ (ap (λ b. chain None None None None None None b t m) e6 ∙ (ap (λ t. chain None None None None None None None t m) e7 ∙ (ap (λ m. chain None None None None None None None None m) e8))))))))

pub at_none : (s : Option ℕ) (d n r l u b t m : Option (List ℕ)) → s ≡ None → d ≡ None → n ≡ None → r ≡ None → l ≡ None → u ≡ None → b ≡ None → t ≡ None → m ≡ None → chain s d n r l u b t m ≡ None
at_none s d n r l u b t m e0 e1 e2 e3 e4 e5 e6 e7 e8 = ap (λ s. chain s d n r l u b t m) e0 ∙ (ap (λ d. chain None d n r l u b t m) e1 ∙ (ap (λ n. chain None None n r l u b t m) e2 ∙ (ap (λ r. chain None None None r l u b t m) e3 ∙ (ap (λ l. chain None None None None l u b t m) e4 ∙ (ap (λ u. chain None None None None None u b t m) e5 ∙ (ap (λ b. chain None None None None None None b t m) e6 ∙ (ap (λ t. chain None None None None None None None t m) e7 ∙ (ap (λ m. chain None None None None None None None None m) e8))))))))
