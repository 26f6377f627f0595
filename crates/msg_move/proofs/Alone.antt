-- What a caller has in an arena that it used alone, for the tests.
use Rattle.std.proofs.Common.{◌≡◌, ℕ, true, List, [], ◌∷◌, length, map, Result, Ok, Err, refl, sym, ap, subst, ◌∙◌, ⊎_elim, arith}
use Rattle.std.specs.Prelude.{IfOk}
use Rattle.std.proofs.lemmas.Bool.{cases_Bool}
use Rattle.std.proofs.lemmas.Simd.{map-map}
use Rattle.serial_arena.specs.Serial.{SerialState}
use Rattle.arena_list.specs.Rule.Founded.{caller, has, node_of}
use Rattle.ts_arena.specs.Arena.{ArenaState}
use Rattle.ts_arena.specs.Sharing.{Owners}
use Rattle.ts_arena.specs.Sole.{IsEntered, KeepsAllElse, Owns, unwritten}
use Rattle.ts_arena.proofs.Entering.{owns_at}

-- what holds of what a sole use left holds of what the arena has then
pub last_if_ok : {T E A : Type 0} (r : Result T E) (last now : A) (P : A → Type 0) → last ≡ now → P now → IfOk r (λ _. P last)
last_if_ok (Ok x) last now P is p = subst P (sym is) p
last_if_ok (Err e) last now P is p = tt

callers_of : (owners : Owners) → map (λ n. n.caller) (map node_of owners) ≡ map caller owners
callers_of owners = map-map (λ n. n.caller) node_of owners

-- the caller owns a serial arena there
pub owns_then : (before start last : ArenaState) (at who : ℕ) → IsEntered before who start at → KeepsAllElse at start last → Owns last.owners who
owns_then before start last at who entered keeps =
    subst (λ cs. has cs who ≡ true) (sym (sym (callers_of last.owners) ∙ ap (map (λ n. n.caller)) keeps.nodes ∙ callers_of start.owners)) (owns_at start.owners at who entered.there entered.own)

none_written : (regions : List SerialState) → map unwritten regions ≡ [] → regions ≡ []
none_written [] is = refl
none_written (s ∷ rest) is = let n = ap length is in absurd (omega (arith, n))

-- the arena adopted nothing
pub none_then : (before start last : ArenaState) (at who : ℕ) → IsEntered before who start at → KeepsAllElse at start last → before.adopted ≡ [] → last.adopted ≡ []
none_then before start last at who entered keeps none =
    let was : start.adopted ≡ [] = ⊎_elim
    (λ owns. ap (λ (a : ArenaState). a.adopted) (entered.same owns) ∙ none)
    (λ nothing. ap (λ (a : ArenaState). a.adopted) (entered.added nothing).2 ∙ none)
    (cases_Bool (has (map caller before.owners) who)) in
    none_written last.adopted (keeps.adopted ∙ ap (map unwritten) was)
