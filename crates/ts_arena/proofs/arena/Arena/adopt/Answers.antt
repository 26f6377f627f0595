use Rattle.std.proofs.Common.{◌≡◌, ◌≢◌, ℕ, List, [], ◌∷◌, ◌++◌, sym, subst, arith, Result, Ok, Err}
use Rattle.std.specs.Prelude.{OnOk, OnErr}
use mathlib.Core.Option.{some}
use lib.ListN.{get_elem?}
use Rattle.serial_arena.specs.Serial.{SerialState}
use Rattle.ts_arena.specs.Arena.{ArenaState, IsArena, IsAdopted}
use Rattle.ts_arena.proofs.Ends.{adopted_more}
use Rattle.ts_arena.proofs.arena.Arena.adopt.Goals as goal

abbrev with_adopted : ArenaState → List SerialState → ArenaState
with_adopted a ss = record a { adopted = ss }

-- the arena with the region, or as it was
either_way : {T E : Type 0} (r : Result T E) (a : ArenaState) (s : SerialState) (new : List SerialState) → IsArena a → IsAdopted s → ((k : ℕ) (x : SerialState) → get_elem? a.adopted k ≡ some x → x.region ≢ s.region)
    → OnOk r (new ≡ a.adopted ++ s ∷ []) → OnErr r (new ≡ a.adopted) → IsArena (with_adopted a new)
either_way (Ok x) a s new o is differ added same = subst (λ (ss : List SerialState). IsArena (with_adopted a ss)) (sym added) (record {
  born = o.born;
  policy = o.policy;
  owners = o.owners;
  adopted = adopted_more a.adopted s o.adopted is differ;
})
either_way (Err x) a s new o is differ added same = subst (λ (ss : List SerialState). IsArena (with_adopted a ss)) (sym same) o

pub invariant_of-self : goal.invariant_of-self
invariant_of-self c = let i = c.self.inside in let s = c.args.region in
    either_way c.push.result (record { life = i.life; policy = i.policy; owners = i.owners.items; adopted = i.adopted }) s c.push.new.self c.self.invariant
    (record { high = c.requires.high; named = (let f = c.region.type_inv in let e = c.region.ensures in omega arith); life_is = c.requires.life; serial = c.arena_is_laid.ensures })
    (λ k x at. c.requires.new k x (subst (λ (a : ArenaState). get_elem? a.adopted k ≡ some x) c.self.view_is at))
    c.push.ensures.added c.push.ensures.unchanged

pub push-requires : goal.push-requires
push-requires c = record { new = λ k x at. c.requires.new k x (subst (λ (a : ArenaState). get_elem? a.adopted k ≡ some x) c.self.view_is at) }
