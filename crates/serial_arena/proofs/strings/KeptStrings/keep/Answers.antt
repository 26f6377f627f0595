use Rattle.std.proofs.Common.{◌≡◌, ℕ, List, [], ◌∷◌, ◌++◌, length, sym, ap, subst, ◌∙◌, arith}
use Rattle.serial_arena.specs.declared.kept.KeptBytes.{KeptBytes}
use Rattle.serial_arena.specs.declared.kept.KeptBytes.TheVariants.{Own}
use Rattle.serial_arena.specs.Chunks.{LiesIn, AllLieIn}
use Rattle.serial_arena.proofs.Chunks.{mapped, own_more, own_last, all_lie, all_pushed, one_more}
use Rattle.std.proofs.lemmas.List.{length_push}
use Rattle.serial_arena.proofs.strings.KeptStrings.keep.Goals as goal
use Rattle.serial_arena.proofs.strings.KeptStrings.keep.Goals.{After-push_reserved}

abbrev own : After-push_reserved → List (List ℕ)
own c = c.self.inside.own.items

abbrev item : After-push_reserved → KeptBytes
item c = Own (length (own c))

own_is : (c : After-push_reserved) → c.push_reserved.new.self.items ≡ own c ++ c.args.bytes.items ∷ []
own_is c = c.push_reserved.ensures.items ∙ (λ i. c.reserve.ensures.items i ++ c.of.ensures i ∷ [])

list_is : (c : After-push_reserved) → c.register.new.self ≡ c.self.inside.list ++ item c ∷ []
list_is c =
    let count : c.len-own.result ≡ length (own c) = omega (arith, c.len-own.ensures, c.reserve.new.self.ok.0, ap (λ (rows : List (List ℕ)). length rows) c.reserve.ensures.items) in
    c.in-Ok.ensures.registered ∙ ap (λ number. c.self.inside.list ++ Own number ∷ []) count

pub invariant_of-self-in-Ok : goal.invariant_of-self-in-Ok
invariant_of-self-in-Ok c =
    let rows = own c ++ c.args.bytes.items ∷ [] in
    let chunks = c.self.inside.chunks.items in
    let lies : LiesIn rows chunks (item c) = omega (arith, length_push (own c) c.args.bytes.items) in
    let more = all_pushed rows chunks c.self.inside.list (item c) (all_lie (own c) chunks rows chunks (own_more (own c) chunks c.args.bytes.items) c.self.inside.list c.self.invariant) lies in
    subst (λ (x : List (List ℕ) × List KeptBytes). AllLieIn x.0 chunks x.1) (λ i. (sym (own_is c) i, sym (list_is c) i)) more

pub returns-in-Ok-clause-kept : goal.returns-in-Ok-clause-kept
returns-in-Ok-clause-kept c =
    let rows = own c ++ c.args.bytes.items ∷ [] in
    let chunks = c.self.inside.chunks.items in
    (λ i. mapped (own_is c i) chunks (list_is c i))
    ∙ one_more (own c) chunks rows chunks (own_more (own c) chunks c.args.bytes.items) c.self.inside.list (item c) c.args.bytes.items c.self.invariant (own_last (own c) c.args.bytes.items)
    ∙ ap (λ strings. strings ++ c.args.bytes.items ∷ []) c.self.view_is
