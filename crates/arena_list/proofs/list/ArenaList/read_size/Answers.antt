use Rattle.std.proofs.Common.{rules, ap, arith, [], ◌+◌, ◌*◌, ◌∙◌}
use Rattle.std.specs.Prelude.{slice_index}
use mathlib.Core.Option.{none}
use Rattle.atomic_table.specs.Table.{step}
use Rattle.arena_list.specs.Rule.Founded.{meter}
use Rattle.arena_list.specs.Marks.OfParts.{marks, marked_founding}
use Rattle.arena_list.specs.Calls.Seats.{view}
use Rattle.arena_list.specs.Steps.Tales.{saw_size}
use Rattle.arena_list.proofs.Marks.Badges.{up, allows, tells, told, no_slot, lone, seated_laid, seen}
use Rattle.arena_list.proofs.Calls.SeatFacts.{size_step, seated_sized}
use Rattle.arena_list.proofs.list.ArenaList.read_size.Goals as goal

pub load-word-requires : goal.load-word-requires
load-word-requires g c = let o = c.args.seat.now.seated in let v = view c.args.seat.now in let k = c.args.self.now.table.shared.key in (
  search rules,
  (let w = c.args.self.now.sized.0 in let s = c.requires.slot in omega arith),
  allows g.row.V.coded (meter g.V.Part.owner_of g.V.Part.life_of g.V.Part.used_of) k _ _ c.take_up-own.result.me _ (λ n. n) (saw_size marks (step 0 (80 + c.args.slot * 16) 0 0 none)) (v, []) (up g.row.V.coded (meter g.V.Part.owner_of g.V.Part.life_of g.V.Part.used_of) c.take_up-own.result.me v c.take_up-own.ensures.me) (size_step marks (marked_founding g.row.V.coded (meter g.V.Part.owner_of g.V.Part.life_of g.V.Part.used_of) k) _ _ _ c.args.slot o c.requires.slot (omega arith)),
)

pub into_badge-requires : goal.into_badge-requires
into_badge-requires g c = let o = c.args.seat.now.seated in let v = view c.args.seat.now in let t = (tells g.row.V.coded (meter g.V.Part.owner_of g.V.Part.life_of g.V.Part.used_of) (saw_size marks (step 0 (80 + c.args.slot * 16) 0 0 none)) c.take_up-own.result.me c.load-word.new.seat.me c.load-word.result (v, []) (up g.row.V.coded (meter g.V.Part.owner_of g.V.Part.life_of g.V.Part.used_of) c.take_up-own.result.me v c.take_up-own.ensures.me) c.load-word.ensures.2) c.args.slot (omega arith) in let free = no_slot g.row.V.coded (meter g.V.Part.owner_of g.V.Part.life_of g.V.Part.used_of) c.load-word.new.seat.me.1 (ap (λ y. y.1) t.0) in free

pub invariant_of-seat : goal.invariant_of-seat
invariant_of-seat g c = let o = c.args.seat.now.seated in let v = view c.args.seat.now in let t = (tells g.row.V.coded (meter g.V.Part.owner_of g.V.Part.life_of g.V.Part.used_of) (saw_size marks (step 0 (80 + c.args.slot * 16) 0 0 none)) c.take_up-own.result.me c.load-word.new.seat.me c.load-word.result (v, []) (up g.row.V.coded (meter g.V.Part.owner_of g.V.Part.life_of g.V.Part.used_of) c.take_up-own.result.me v c.take_up-own.ensures.me) c.load-word.ensures.2) c.args.slot (omega arith) in let free = no_slot g.row.V.coded (meter g.V.Part.owner_of g.V.Part.life_of g.V.Part.used_of) c.load-word.new.seat.me.1 (ap (λ y. y.1) t.0) in record {
  one = lone c.into_badge.result.views c.load-word.new.seat.me.0 c.into_badge.ensures.2;
  seated = seated_laid g.row.V.coded (meter g.V.Part.owner_of g.V.Part.life_of g.V.Part.used_of) c.into_badge.result.views c.load-word.new.seat.me c.into_badge.ensures.2 (seated_sized marks c.args.slot _ (seen g.row.V.coded (meter g.V.Part.owner_of g.V.Part.life_of g.V.Part.used_of) c.load-word.new.seat.me) t.0 o);
}

pub returns-clause-view : goal.returns-clause-view
returns-clause-view g c = let o = c.args.seat.now.seated in let v = view c.args.seat.now in let t = (tells g.row.V.coded (meter g.V.Part.owner_of g.V.Part.life_of g.V.Part.used_of) (saw_size marks (step 0 (80 + c.args.slot * 16) 0 0 none)) c.take_up-own.result.me c.load-word.new.seat.me c.load-word.result (v, []) (up g.row.V.coded (meter g.V.Part.owner_of g.V.Part.life_of g.V.Part.used_of) c.take_up-own.result.me v c.take_up-own.ensures.me) c.load-word.ensures.2) c.args.slot (omega arith) in let free = no_slot g.row.V.coded (meter g.V.Part.owner_of g.V.Part.life_of g.V.Part.used_of) c.load-word.new.seat.me.1 (ap (λ y. y.1) t.0) in
    let n = (told g.row.V.coded (meter g.V.Part.owner_of g.V.Part.life_of g.V.Part.used_of) (saw_size marks (step 0 (80 + c.args.slot * 16) 0 0 none)) c.take_up-own.result.me c.load-word.new.seat.me c.load-word.result v c.into_badge.result.views c.take_up-own.ensures.me c.into_badge.ensures.2 (free) c.load-word.ensures.2) c.args.slot (omega arith) in ap (λ x. x.0) n.0

pub returns-clause-more : goal.returns-clause-more
returns-clause-more g c = let o = c.args.seat.now.seated in let v = view c.args.seat.now in let t = (tells g.row.V.coded (meter g.V.Part.owner_of g.V.Part.life_of g.V.Part.used_of) (saw_size marks (step 0 (80 + c.args.slot * 16) 0 0 none)) c.take_up-own.result.me c.load-word.new.seat.me c.load-word.result (v, []) (up g.row.V.coded (meter g.V.Part.owner_of g.V.Part.life_of g.V.Part.used_of) c.take_up-own.result.me v c.take_up-own.ensures.me) c.load-word.ensures.2) c.args.slot (omega arith) in let free = no_slot g.row.V.coded (meter g.V.Part.owner_of g.V.Part.life_of g.V.Part.used_of) c.load-word.new.seat.me.1 (ap (λ y. y.1) t.0) in
    let n = (told g.row.V.coded (meter g.V.Part.owner_of g.V.Part.life_of g.V.Part.used_of) (saw_size marks (step 0 (80 + c.args.slot * 16) 0 0 none)) c.take_up-own.result.me c.load-word.new.seat.me c.load-word.result v c.into_badge.result.views c.take_up-own.ensures.me c.into_badge.ensures.2 (free) c.load-word.ensures.2) c.args.slot (omega arith) in n.1

pub returns-clause-here : goal.returns-clause-here
returns-clause-here g c = let o = c.args.seat.now.seated in let v = view c.args.seat.now in let t = (tells g.row.V.coded (meter g.V.Part.owner_of g.V.Part.life_of g.V.Part.used_of) (saw_size marks (step 0 (80 + c.args.slot * 16) 0 0 none)) c.take_up-own.result.me c.load-word.new.seat.me c.load-word.result (v, []) (up g.row.V.coded (meter g.V.Part.owner_of g.V.Part.life_of g.V.Part.used_of) c.take_up-own.result.me v c.take_up-own.ensures.me) c.load-word.ensures.2) c.args.slot (omega arith) in let free = no_slot g.row.V.coded (meter g.V.Part.owner_of g.V.Part.life_of g.V.Part.used_of) c.load-word.new.seat.me.1 (ap (λ y. y.1) t.0) in
    let n = (told g.row.V.coded (meter g.V.Part.owner_of g.V.Part.life_of g.V.Part.used_of) (saw_size marks (step 0 (80 + c.args.slot * 16) 0 0 none)) c.take_up-own.result.me c.load-word.new.seat.me c.load-word.result v c.into_badge.result.views c.take_up-own.ensures.me c.into_badge.ensures.2 (free) c.load-word.ensures.2) c.args.slot (omega arith) in ap (λ x. slice_index x.0.sizes c.args.slot) n.0 ∙ n.2

pub returns-clause-own : goal.returns-clause-own
returns-clause-own g c = let o = c.args.seat.now.seated in let v = view c.args.seat.now in let t = (tells g.row.V.coded (meter g.V.Part.owner_of g.V.Part.life_of g.V.Part.used_of) (saw_size marks (step 0 (80 + c.args.slot * 16) 0 0 none)) c.take_up-own.result.me c.load-word.new.seat.me c.load-word.result (v, []) (up g.row.V.coded (meter g.V.Part.owner_of g.V.Part.life_of g.V.Part.used_of) c.take_up-own.result.me v c.take_up-own.ensures.me) c.load-word.ensures.2) c.args.slot (omega arith) in let free = no_slot g.row.V.coded (meter g.V.Part.owner_of g.V.Part.life_of g.V.Part.used_of) c.load-word.new.seat.me.1 (ap (λ y. y.1) t.0) in
    let n = (told g.row.V.coded (meter g.V.Part.owner_of g.V.Part.life_of g.V.Part.used_of) (saw_size marks (step 0 (80 + c.args.slot * 16) 0 0 none)) c.take_up-own.result.me c.load-word.new.seat.me c.load-word.result v c.into_badge.result.views c.take_up-own.ensures.me c.into_badge.ensures.2 (free) c.load-word.ensures.2) c.args.slot (omega arith) in n.3

pub returns-clause-moment : goal.returns-clause-moment
returns-clause-moment g c = let o = c.args.seat.now.seated in let v = view c.args.seat.now in let t = (tells g.row.V.coded (meter g.V.Part.owner_of g.V.Part.life_of g.V.Part.used_of) (saw_size marks (step 0 (80 + c.args.slot * 16) 0 0 none)) c.take_up-own.result.me c.load-word.new.seat.me c.load-word.result (v, []) (up g.row.V.coded (meter g.V.Part.owner_of g.V.Part.life_of g.V.Part.used_of) c.take_up-own.result.me v c.take_up-own.ensures.me) c.load-word.ensures.2) c.args.slot (omega arith) in let free = no_slot g.row.V.coded (meter g.V.Part.owner_of g.V.Part.life_of g.V.Part.used_of) c.load-word.new.seat.me.1 (ap (λ y. y.1) t.0) in
    let n = (told g.row.V.coded (meter g.V.Part.owner_of g.V.Part.life_of g.V.Part.used_of) (saw_size marks (step 0 (80 + c.args.slot * 16) 0 0 none)) c.take_up-own.result.me c.load-word.new.seat.me c.load-word.result v c.into_badge.result.views c.take_up-own.ensures.me c.into_badge.ensures.2 (free) c.load-word.ensures.2) c.args.slot (omega arith) in n.4
