use Rattle.std.proofs.Common.{refl, arith, sym, ap, ◌∙◌, ◌++◌, length, subst}
use Rattle.arena_list.specs.declared.for_clauses.founding.Founding.{Founding}
use Rattle.arena_list.specs.Rule.Founded.{meter, AreFit}
use Rattle.arena_list.proofs.Marks.Marked.{opens_seen}
use Rattle.arena_list.proofs.Making.Filling.{no_other_spare, spare_seated}
use Rattle.arena_list.proofs.Making.FirstSeats.{fit_as, laid_as, none_yet, in_order, are_first, others_apart}
use Rattle.arena_list.proofs.list.ArenaList.make.Goals as goal

pub vacant-requires : goal.vacant-requires
vacant-requires g c = let k : Founding g.row.V.Denot = record { life = c.args.life; linked = c.of.result; spare = c.of-2.result; callers = c.of-3.result } in
    let linked_is = c.of.ensures ∙ c.as_slice-2.ensures.value in let spare_is = c.of-2.ensures ∙ c.as_slice-3.ensures.value in
    opens_seen g.row.V.coded (meter g.V.Part.owner_of g.V.Part.life_of g.V.Part.used_of) k c.opening_words-words.result
    (fit_as (meter g.V.Part.owner_of g.V.Part.life_of g.V.Part.used_of) c.args.life c.args.linked.items k.linked.items c.args.spare.items k.spare.items c.args.callers.now k.callers.items linked_is spare_is c.of-3.ensures c.requires.fit)
    (laid_as (meter g.V.Part.owner_of g.V.Part.life_of g.V.Part.used_of) c.as_slice.result.now k.linked.items c.args.callers.now k.callers.items c.opening_words-words.result (linked_is ∙ sym c.as_slice.ensures.value) c.of-3.ensures c.opening_words-words.ensures)

pub fill-requires-2-clause-room : goal.fill-requires-2-clause-room
fill-requires-2-clause-room g c = let key = c.in-Ok-vacant.ensures.5 in let linked_is = ap (λ k. k.linked.items) key ∙ (c.of.ensures ∙ c.as_slice-2.ensures.value) in let spare_is = ap (λ k. k.spare.items) key ∙ (c.of-2.ensures ∙ c.as_slice-3.ensures.value) in
    let callers_is = ap (λ k. k.callers.items) key ∙ c.of-3.ensures in let cs = c.in-Ok-vacant.table.shared.key.callers.items in
    let fit = fit_as (meter g.V.Part.owner_of g.V.Part.life_of g.V.Part.used_of) c.args.life c.args.linked.items c.args.linked.items c.args.spare.items c.args.spare.items c.args.callers.now cs refl refl callers_is c.requires.fit in
    let nothing = none_yet c.in-Ok.others.items c.fill.new.others.items c.args.spare.items cs c.in-Ok.ensures.0 c.fill.ensures.others (no_other_spare (meter g.V.Part.owner_of g.V.Part.life_of g.V.Part.used_of) c.args.life c.args.linked.items c.args.spare.items cs fit c.args.spare.items (spare_seated (meter g.V.Part.owner_of g.V.Part.life_of g.V.Part.used_of) c.args.life c.args.linked.items c.args.spare.items cs fit)) in
    let n = ap length nothing in let a = c.fill.ensures.room in let b = c.in-Ok.ensures.1 in let d = c.args.linked.ok.0 in let e = c.len.ensures in let f = c.len-2.ensures in omega arith

pub invariant_of-result : goal.invariant_of-result
invariant_of-result g c = let key = c.in-Ok-vacant.ensures.5 in let linked_is = ap (λ k. k.linked.items) key ∙ (c.of.ensures ∙ c.as_slice-2.ensures.value) in let spare_is = ap (λ k. k.spare.items) key ∙ (c.of-2.ensures ∙ c.as_slice-3.ensures.value) in
    let callers_is = ap (λ k. k.callers.items) key ∙ c.of-3.ensures in let cs = c.in-Ok-vacant.table.shared.key.callers.items in
    let fit = fit_as (meter g.V.Part.owner_of g.V.Part.life_of g.V.Part.used_of) c.args.life c.args.linked.items c.args.linked.items c.args.spare.items c.args.spare.items c.args.callers.now cs refl refl callers_is c.requires.fit in
    let nothing = none_yet c.in-Ok.others.items c.fill.new.others.items c.args.spare.items cs c.in-Ok.ensures.0 c.fill.ensures.others (no_other_spare (meter g.V.Part.owner_of g.V.Part.life_of g.V.Part.used_of) c.args.life c.args.linked.items c.args.spare.items cs fit c.args.spare.items (spare_seated (meter g.V.Part.owner_of g.V.Part.life_of g.V.Part.used_of) c.args.life c.args.linked.items c.args.spare.items cs fit)) in
    let kept = c.reverse.ensures.items ∙ in_order c.fill.new.others.items c.fill-2.new.others.items c.args.linked.items c.in-Ok-vacant.table.shared.key.linked.items cs nothing c.fill-2.ensures.others linked_is in record {
      sized = (c.in-Ok-vacant.ensures.0 ∙ c.opening_words-words.ensures.wide, c.in-Ok-vacant.ensures.1);
      kept = kept;
      apart = others_apart (meter g.V.Part.owner_of g.V.Part.life_of g.V.Part.used_of) c.args.life c.args.linked.items c.in-Ok-vacant.table.shared.key.linked.items c.args.spare.items cs fit linked_is _ kept;
      called = fit.some_caller;
    }

pub returns-clause-seats : goal.returns-clause-seats
returns-clause-seats g c = let key = c.in-Ok-vacant.ensures.5 in let linked_told = c.of.ensures ∙ c.as_slice-2.ensures.value in let spare_told = c.of-2.ensures ∙ c.as_slice-3.ensures.value in
    let linked_is = ap (λ k. k.linked.items) key ∙ linked_told in let spare_is = ap (λ k. k.spare.items) key ∙ spare_told in let callers_is = ap (λ k. k.callers.items) key ∙ c.of-3.ensures in
    let fit = fit_as (meter g.V.Part.owner_of g.V.Part.life_of g.V.Part.used_of) c.args.life c.args.linked.items c.of.result.items c.args.spare.items c.of-2.result.items c.args.callers.now c.of-3.result.items linked_told spare_told c.of-3.ensures c.requires.fit in
    are_first g.row.V.coded (meter g.V.Part.owner_of g.V.Part.life_of g.V.Part.used_of) _ (subst (λ (k : Founding g.row.V.Denot). AreFit (meter g.V.Part.owner_of g.V.Part.life_of g.V.Part.used_of) k.life k.linked.items k.spare.items k.callers.items) (sym key) fit) c.args.linked.items c.args.spare.items c.args.callers.now (c.args.linked.items ++ c.of-2.result.items) c.fill-2.new.seats.items linked_is spare_is callers_is
    (λ i. sym linked_is i ++ sym (ap (λ k. k.spare.items) key) i) c.fill-2.ensures.seats
