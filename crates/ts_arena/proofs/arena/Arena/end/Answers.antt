use Rattle.std.proofs.Common.{◌≡◌, length, sym, ap, subst, ◌∙◌, arith}
use Rattle.std.specs.Prelude.{IsSome, List, ◌+◌, flat_map, sum_by}
use Rattle.serial_arena.specs.Serial.{SerialState, used_of}
use Rattle.cleanup_list.specs.Told.{Gains, HasRoom}
use Rattle.ts_arena.specs.Arena.{ArenaState, registered_of}
use Rattle.ts_arena.specs.Ending.{cleanups, record_of, part_told}
use Rattle.ts_arena.proofs.Ends.{few_adopted, all_told, all_tells, sum_two}
use Rattle.ts_arena.proofs.Sharing.{few_owners}
use Rattle.ts_arena.proofs.arena.Arena.end.Goals as goal

pub overflow_cast-adopted : goal.overflow_cast-adopted
overflow_cast-adopted g c = let a = few_adopted _ c.self.invariant.adopted in let n = c.len-adopted.ensures in let same = ap (λ (l : List SerialState). length l) c.into_list-regions.ensures in let o = c.into_list-regions.result.ok.0 in omega arith

pub end_all-requires-2-clause-registered : goal.end_all-requires-2-clause-registered
end_all-requires-2-clause-registered g c = let same = ap (λ (l : List SerialState). length l) c.into_list-regions.ensures in let a = few_adopted _ c.self.invariant.adopted in let o = few_owners _ _ _ c.self.invariant.owners in let few = c.end_all.ensures.few_registered in omega arith

pub end_all-requires-2-clause-cleaned : goal.end_all-requires-2-clause-cleaned
end_all-requires-2-clause-cleaned g c = let same = ap (λ (l : List SerialState). length l) c.into_list-regions.ensures in let a = few_adopted _ c.self.invariant.adopted in let o = few_owners _ _ _ c.self.invariant.owners in let few = c.end_all.ensures.few_cleaned in omega arith

pub end_all-requires-2-clause-used : goal.end_all-requires-2-clause-used
end_all-requires-2-clause-used g c = let same = ap (λ (l : List SerialState). length l) c.into_list-regions.ensures in let a = few_adopted _ c.self.invariant.adopted in let o = few_owners _ _ _ c.self.invariant.owners in let few = c.end_all.ensures.few_used in omega arith

pub returns-clause-record_ : goal.returns-clause-record_
returns-clause-record_ g c = let v : ArenaState = record { life = c.self.inside.life; policy = c.self.inside.policy; owners = c.self.inside.owners.items; adopted = c.self.inside.adopted } in
    let serials : c.owners-serials.result ≡ length v.owners = c.owners-serials.ensures ∙ ap (λ (a : ArenaState). length a.owners) (sym c.self.view_is) in
    let adopted : c.len-adopted.result ≡ length v.adopted = ((let n = c.len-adopted.ensures in let same = ap (λ (l : List SerialState). length l) c.into_list-regions.ensures in let o = c.into_list-regions.result.ok.0 in omega arith)) in
    let registered = sum_two _ _ _ _ c.end_all.ensures.registered (c.end_all-2.ensures.registered ∙ ap (λ (l : List SerialState). c.end_all.new.sums.registered + sum_by registered_of l) c.into_list-regions.ensures) in
    let cleaned = sum_two _ _ _ _ c.end_all.ensures.cleaned (c.end_all-2.ensures.cleaned ∙ ap (λ (l : List SerialState). c.end_all.new.sums.cleaned + sum_by registered_of l) c.into_list-regions.ensures) in
    let used = sum_two _ _ _ _ c.end_all.ensures.used (c.end_all-2.ensures.used ∙ ap (λ (l : List SerialState). c.end_all.new.sums.used + sum_by used_of l) c.into_list-regions.ensures) in
    (λ i. record { life = v.life; serials = serials i; adopted = adopted i; registered = registered i; cleaned = cleaned i; used = used i }) ∙ ap record_of c.self.view_is

pub returns-clause-told : goal.returns-clause-told
returns-clause-told g c = let v : ArenaState = record { life = c.self.inside.life; policy = c.self.inside.policy; owners = c.self.inside.owners.items; adopted = c.self.inside.adopted } in let told = g.W.CleanupWatch.told in let room = g.W.CleanupWatch.room in
    subst (λ (a : ArenaState). Gains (told c.args.watch.now) (told c.end_all-2.new.watch) (cleanups a)) c.self.view_is
    (all_told v c.self.invariant (told c.args.watch.now) (told c.end_all.new.watch) (told c.end_all-2.new.watch) (room c.args.watch.now) (room c.end_all.new.watch) c.end_all.ensures.told (subst (λ (l : List SerialState). Gains (told c.end_all.new.watch) (told c.end_all-2.new.watch) (flat_map part_told l)) c.into_list-regions.ensures c.end_all-2.ensures.told))

pub returns-clause-tells : goal.returns-clause-tells
returns-clause-tells g c = let v : ArenaState = record { life = c.self.inside.life; policy = c.self.inside.policy; owners = c.self.inside.owners.items; adopted = c.self.inside.adopted } in let told = g.W.CleanupWatch.told in let room = g.W.CleanupWatch.room in
    subst (λ (a : ArenaState). HasRoom (told c.args.watch.now) (room c.args.watch.now) (length (cleanups a)) → IsSome (told c.end_all-2.new.watch)) c.self.view_is
    (all_tells v c.self.invariant (told c.args.watch.now) (told c.end_all.new.watch) (told c.end_all-2.new.watch) (room c.args.watch.now) (room c.end_all.new.watch) c.end_all.ensures.told (subst (λ (l : List SerialState). Gains (told c.end_all.new.watch) (told c.end_all-2.new.watch) (flat_map part_told l)) c.into_list-regions.ensures c.end_all-2.ensures.told) c.end_all.ensures.tells (subst (λ (l : List SerialState). HasRoom (told c.end_all.new.watch) (room c.end_all.new.watch) (length (flat_map part_told l)) → IsSome (told c.end_all-2.new.watch)) c.into_list-regions.ensures c.end_all-2.ensures.tells) c.end_all.ensures.room)
