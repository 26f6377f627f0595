use Rattle.std.proofs.Common.{◌≡◌, ℕ, ◌++◌, ◌≤◌, List, map, length, sym, subst, ◌∙◌, ap}
use mathlib.Core.Option.{some}
use lib.ListN.{get_elem?}
use Rattle.arena_list.specs.declared.list.ListSeat.{ListSeat}
use Rattle.arena_list.specs.Calls.Seats.{wards_of, founding_of, view}
use Rattle.arena_list.specs.Rule.Views.{shown}
use Rattle.arena_list.specs.Closing.Closed.{used_sum, AreAll, AreApart, AreLinked}
use Rattle.ts_arena.specs.contracts.boxed.BoxedArena.{the_row}
use Rattle.ts_arena.specs.Passes.{SharedState, serial_meter, made_by, pass_of}
use Rattle.ts_arena.specs.Settling.{AreOwn, AreOfLife, IsSettledFrom}
use Rattle.arena_list.proofs.Words.Few.{len_map}
use Rattle.ts_arena.proofs.Passes.{seat_of}
use Rattle.ts_arena.proofs.Settled.{all_back, settled_is, settled_from, passes_back}
use Rattle.ts_arena.proofs.shared.Shared.settle_all.Goals as goal

pub close-requires : goal.close-requires
close-requires c = let i = c.self.inside in let v : SharedState = record { life = i.life; policy = i.policy; list = i.list; adopted = i.adopted } in let ps = c.args.passes.items in let back = sym c.self.view_is in record {
  all = subst (AreAll i.list) (sym c.take_seats.ensures.seats) (all_back v i.made i.adopted_used c.self.invariant ps (subst (λ (s : SharedState). AreOwn s ps) back c.requires.own) (subst (λ (s : SharedState). AreOfLife s.life ps) back c.requires.life) (subst (λ (s : SharedState). made_by s ≤ length ps) back c.requires.all));
}

pub invariant_of-result : goal.invariant_of-result
invariant_of-result c = let i = c.self.inside in let v : SharedState = record { life = i.life; policy = i.policy; list = i.list; adopted = i.adopted } in let ps = c.args.passes.items in let back = sym c.self.view_is in
    settled_is v i.made i.adopted_used c.self.invariant ps (subst (λ (s : SharedState). AreOwn s ps) back c.requires.own) (subst (λ (s : SharedState). AreOfLife s.life ps) back c.requires.life) c.in-Ok-close.owners.items c.in-Ok-close.field-0-1.items (subst (λ (l : ℕ). AreApart serial_meter l (c.in-Ok-close.owners.items ++ c.in-Ok-close.field-0-1.items)) c.self.invariant.life_is c.in-Ok-close.ensures.apart) (subst (λ (ss : List ListSeat). AreLinked the_row.coded serial_meter (wards_of c.self.inside.list) (founding_of c.self.inside.list).linked.items ss c.in-Ok-close.owners.items) c.take_seats.ensures.seats c.in-Ok-close.ensures.linked)

pub returns-in-Ok-close-clause-settled : goal.returns-in-Ok-close-clause-settled
returns-in-Ok-close-clause-settled c = let i = c.self.inside in let v : SharedState = record { life = i.life; policy = i.policy; list = i.list; adopted = i.adopted } in let ps = c.args.passes.items in let back = sym c.self.view_is in let es = c.in-Ok-close.owners.items in
    subst (λ (s : SharedState). IsSettledFrom s ps (record { life = i.life; policy = i.policy; owners = es; adopted = i.adopted })) c.self.view_is
    (settled_from v i.made i.adopted_used c.self.invariant ps (subst (λ (s : SharedState). AreOwn s ps) back c.requires.own) (subst (λ (s : SharedState). AreOfLife s.life ps) back c.requires.life) es c.in-Ok-close.field-0-1.items (subst (λ (l : ℕ). AreApart serial_meter l (c.in-Ok-close.owners.items ++ c.in-Ok-close.field-0-1.items)) c.self.invariant.life_is c.in-Ok-close.ensures.apart) (subst (λ (ss : List ListSeat). AreLinked the_row.coded serial_meter (wards_of c.self.inside.list) (founding_of c.self.inside.list).linked.items ss c.in-Ok-close.owners.items) c.take_seats.ensures.seats c.in-Ok-close.ensures.linked)
    (sym (ap length c.take_seats.ensures.seats ∙ len_map seat_of ps) ∙ c.in-Ok-close.ensures.count)
    (subst (λ (ss : List ListSeat). (k : ℕ) (s : ListSeat) → get_elem? ss k ≡ some s → shown (view s) ≤ used_sum serial_meter es) c.take_seats.ensures.seats c.in-Ok-close.ensures.used))

pub returns-in-Err-clause-refused : goal.returns-in-Err-clause-refused
returns-in-Err-clause-refused c = let i = c.self.inside in let ps = c.args.passes.items in let back = c.in-Err.ensures.refused in let life = subst (λ (s : SharedState). AreOfLife s.life ps) (sym c.self.view_is) c.requires.life in (
  ap (λ l. record { life = i.life; policy = i.policy; list = l; adopted = i.adopted }) back.0 ∙ c.self.view_is,
  c.make_passes.ensures.made ∙ ap (map (pass_of i.life)) (back.1 ∙ c.take_seats.ensures.seats) ∙ passes_back i.life ps life,
  (c.requires.life, c.requires.all),
)
