use Rattle.std.proofs.Common.{◌++◌, List, sym, subst, ◌∙◌, ap, refl, arith}
use Rattle.std.specs.Prelude.{sum_by}
use Rattle.serial_arena.specs.Serial.{SerialState, used_of}
use Rattle.ts_arena.specs.Arena.{ArenaState, AreHeld}
use Rattle.ts_arena.specs.Sharing.{Owners, AreSpares, CanShare}
use Rattle.ts_arena.specs.Passes.{AreFirstPasses}
use Rattle.ts_arena.proofs.Sharing.{fit}
use Rattle.ts_arena.proofs.FirstPasses.{shared_is, first_passes}
use Rattle.ts_arena.proofs.arena.Arena.share_among.Goals as goal
use Rattle.ts_arena.proofs.arena.Arena.share_among.Goals.{After-sums_in-adopted_used, After-make_passes}

pub make-requires : goal.make-requires
make-requires c = let i = c.self.inside in let e = c.deref.ensures.value in record {
  fit = fit i.life i.policy i.owners.items c.in-Ok-spares.spares.items c.args.callers.now c.self.invariant.owners c.requires.callers.0
      (subst (λ (a : ArenaState). CanShare a.owners c.args.callers.now) (sym c.self.view_is) c.requires.can)
      (subst (λ (os : Owners). AreSpares i.policy i.life os c.args.callers.now c.in-Ok-spares.spares.items) e c.in-Ok-spares.ensures.spares)
      (subst (λ (os : Owners). AreHeld i.life i.policy (os ++ c.in-Ok-spares.spares.items)) e c.in-Ok-spares.ensures.held);
}

abbrev whole : After-make_passes → ArenaState
whole c = record { life = c.self.inside.life; policy = c.self.inside.policy; owners = c.self.inside.owners.items; adopted = c.self.inside.adopted }

pub invariant_of-shared : goal.invariant_of-shared
invariant_of-shared c = let i = c.self.inside in let e = c.deref.ensures.value in
    shared_is (whole c) c.self.invariant c.args.callers.now c.in-Ok-spares.spares.items
    (subst (λ (os : Owners). AreSpares i.policy i.life os c.args.callers.now c.in-Ok-spares.spares.items) e c.in-Ok-spares.ensures.spares)
    (subst (λ (os : Owners). AreHeld i.life i.policy (os ++ c.in-Ok-spares.spares.items)) e c.in-Ok-spares.ensures.held)
    c.in-Ok-make.list c.in-Ok-make.ensures.list _ _ refl
    (c.sums_in-adopted_used.ensures.used ∙ ap (λ (l : List SerialState). sum_by used_of l) c.list.ensures)
    (let small = c.sums_in-adopted_used.ensures.small.used in let long = c.list.type_inv.1 in omega arith)

pub returns-in-Ok-make-clause-passes : goal.returns-in-Ok-make-clause-passes
returns-in-Ok-make-clause-passes c = let i = c.self.inside in let e = c.deref.ensures.value in
    subst (λ (a : ArenaState). AreFirstPasses a c.args.callers.now (record { life = i.life; policy = i.policy; list = c.in-Ok-make.list; adopted = i.adopted }) c.make_passes.new.passes.items) c.self.view_is
    (first_passes (whole c) c.self.invariant c.args.callers.now c.in-Ok-spares.spares.items
    (subst (λ (os : Owners). AreSpares i.policy i.life os c.args.callers.now c.in-Ok-spares.spares.items) e c.in-Ok-spares.ensures.spares)
    (subst (λ (os : Owners). AreHeld i.life i.policy (os ++ c.in-Ok-spares.spares.items)) e c.in-Ok-spares.ensures.held)
    c.in-Ok-make.list c.in-Ok-make.ensures.list c.in-Ok-make.seats.items c.make_passes.new.passes.items c.make_passes.ensures.made c.in-Ok-make.ensures.seats)
