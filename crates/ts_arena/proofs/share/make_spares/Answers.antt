use Rattle.std.proofs.Common.{ℕ, ◌+◌, List, [], ◌++◌, map, length, take, get_or, sym, ap, subst, ⊎_elim, arith}
use Rattle.std.proofs.lemmas.Bool.{cases_Bool}
use Rattle.arena_list.specs.Rule.Founded.{has, caller}
use Rattle.arena_list.proofs.Words.Few.{len_map}
use Rattle.ts_arena.specs.Arena.{AreHeld}
use Rattle.ts_arena.specs.Sharing.{Owners, AreSpares}
use Rattle.ts_arena.proofs.Finding.{take_all}
use Rattle.ts_arena.proofs.Sharing.{nothing_more, no_spares, spares_then, spares_same, held_then, without_then, without_else, asked_room}
use Rattle.ts_arena.proofs.share.make_spares.Goals as goal

pub loop-who-init : goal.loop-who-init
loop-who-init c = let os = c.args.owners.now in (
  subst (AreSpares c.args.policy c.args.life os []) (sym c.in_ok-spares.ensures.items) (no_spares c.args.policy c.args.life os),
  subst (λ (xs : Owners). AreHeld c.args.life c.args.policy (os ++ xs)) (sym c.in_ok-spares.ensures.items) (subst (AreHeld c.args.life c.args.policy) (sym (nothing_more os)) c.requires.owners.held),
  c.in_ok-spares.ensures.capacity,
)

pub add_spare-requires : goal.add_spare-requires
add_spare-requires c = let os = c.args.owners.now in let cs = c.args.callers.now in let i = c.loop-who.who-index in let o = c.loop-who.invariant in record {
  policy = c.requires.policy;
  room = λ new. let a = asked_room os cs i c.loop-who-test.true new in let n = ap length o.0.callers_are in let m = len_map caller c.loop-who.spares.items in let few = c.requires.can.few in let cap = o.2 in (omega arith, omega arith);
}

pub loop-who-preserved : goal.loop-who-preserved
loop-who-preserved c = let os = c.args.owners.now in let cs = c.args.callers.now in let i = c.loop-who.who-index in let o = c.loop-who.invariant in let low = c.loop-who-test.true in
    let p = c.args.policy in let l = c.args.life in let was = c.loop-who.spares.items in let now = c.add_spare.new.spares.items in let who = get_or cs i 0 in (
      ⊎_elim
          (λ t. spares_same p l os was now (take i cs) (take (i + 1) cs) (without_else os cs i low t) (c.in_ok-add_spare.ensures.owner t) o.0)
          (λ t. spares_then p l os was now (take i cs) (take (i + 1) cs) who c.requires.policy (c.in_ok-add_spare.ensures.added t) (without_then os cs i low t) o.0)
          (cases_Bool (has (map caller os) who)),
      ⊎_elim
          (λ t. subst (λ (xs : Owners). AreHeld l p (os ++ xs)) (sym (c.in_ok-add_spare.ensures.owner t)) o.1)
          (λ t. held_then p l os was now (take i cs) (take (i + 1) cs) who c.requires.policy (c.in_ok-add_spare.ensures.added t) o.1)
          (cases_Bool (has (map caller os) who)),
      (let a = o.2 in let b = c.add_spare.ensures.capacity in omega arith),
    )

pub returns-clause-spares : goal.returns-clause-spares
returns-clause-spares c = subst (λ (l : List ℕ). AreSpares c.args.policy c.args.life c.args.owners.now l c.loop-who.spares.items) (take_all c.args.callers.now c.loop-who.who-index (let a = c.loop-who-test.false in omega arith)) c.loop-who.invariant.0
