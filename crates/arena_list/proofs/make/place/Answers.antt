use Rattle.std.proofs.Common.{refl, arith, sym, ap, ◌∙◌, ℕ, ◌<◌, length, subst}
use lib.ListN.{get_elem?}
use Rattle.atomic_table.proofs.Lists.{at_index}
use Rattle.arena_list.specs.Rule.Founded.{meter, Fits}
use Rattle.arena_list.proofs.Making.Placing.{none_seats, places_none, has_own, own_table, own_out, own_more, places_own}
use Rattle.arena_list.proofs.make.place.Goals as goal

pub returns-then-at-len-clause-placed : goal.returns-then-at-len-clause-placed
returns-then-at-len-clause-placed g c = let s = c.requires.seats in let k = c.args.words.now.key in let xs = c.args.seats.now.items in let sl = c.as_slice.ensures in
    places_none g.row.V.coded (meter g.V.Part.owner_of g.V.Part.life_of g.V.Part.used_of) k c.args.words.now.table_id c.requires.fit s.0 xs s.1 c.args.entry (λ i t low at. λ own. c.seat_of-at.ensures.before i t (let b = ap length sl.value in let d = sl.len in let e = c.len.ensures in let n = c.if-at-len.true in omega arith) (ap (λ l. get_elem? l i) sl.value ∙ at) (t.seated.caller_is ∙ own))

pub returns-then-at-len-clause-back : goal.returns-then-at-len-clause-back
returns-then-at-len-clause-back g c = let s = c.requires.seats in let k = c.args.words.now.key in let xs = c.args.seats.now.items in let sl = c.as_slice.ensures in
    (refl, none_seats g.row.V.coded (meter g.V.Part.owner_of g.V.Part.life_of g.V.Part.used_of) k c.args.words.now.table_id c.requires.fit s.0 xs s.1 c.args.entry (λ i t low at. λ own. c.seat_of-at.ensures.before i t (let b = ap length sl.value in let d = sl.len in let e = c.len.ensures in let n = c.if-at-len.true in omega arith) (ap (λ l. get_elem? l i) sl.value ∙ at) (t.seated.caller_is ∙ own)))

pub put-requires-clause-list : goal.put-requires-clause-list
put-requires-clause-list g c = let s = c.requires.seats in let k = c.args.words.now.key in let xs = c.args.seats.now.items in let sl = c.as_slice.ensures in let f = c.seat_of-at.ensures in let at : ℕ = c.seat_of-at.result in let x = c.index_mut.result.now in
    let low : at < length xs = (let a = f.within in let b = ap length sl.value in let d = sl.len in let e = c.len.ensures in let n = c.if-at-len.false in omega arith) in
    let there = at_index xs at x low c.index_mut.ensures.value in let own = sym x.seated.caller_is ∙ f.found x (ap (λ l. get_elem? l at) sl.value ∙ there) in
    (own_table g.row.V.coded (meter g.V.Part.owner_of g.V.Part.life_of g.V.Part.used_of) k c.args.words.now.table_id c.requires.fit s.0 xs s.1 c.args.entry at x low there own, c.requires.words)

pub put-requires-clause-out : goal.put-requires-clause-out
put-requires-clause-out g c = let s = c.requires.seats in let k = c.args.words.now.key in let xs = c.args.seats.now.items in let sl = c.as_slice.ensures in let f = c.seat_of-at.ensures in let at : ℕ = c.seat_of-at.result in let x = c.index_mut.result.now in
    let low : at < length xs = (let a = f.within in let b = ap length sl.value in let d = sl.len in let e = c.len.ensures in let n = c.if-at-len.false in omega arith) in
    let there = at_index xs at x low c.index_mut.ensures.value in let own = sym x.seated.caller_is ∙ f.found x (ap (λ l. get_elem? l at) sl.value ∙ there) in
    own_out g.row.V.coded (meter g.V.Part.owner_of g.V.Part.life_of g.V.Part.used_of) k c.args.words.now.table_id c.requires.fit s.0 xs s.1 c.args.entry at x low there own s.2

pub put-requires-clause-more : goal.put-requires-clause-more
put-requires-clause-more g c = let s = c.requires.seats in let k = c.args.words.now.key in let xs = c.args.seats.now.items in let sl = c.as_slice.ensures in let f = c.seat_of-at.ensures in let at : ℕ = c.seat_of-at.result in let x = c.index_mut.result.now in
    let low : at < length xs = (let a = f.within in let b = ap length sl.value in let d = sl.len in let e = c.len.ensures in let n = c.if-at-len.false in omega arith) in
    let there = at_index xs at x low c.index_mut.ensures.value in let own = sym x.seated.caller_is ∙ f.found x (ap (λ l. get_elem? l at) sl.value ∙ there) in
    own_more g.row.V.coded (meter g.V.Part.owner_of g.V.Part.life_of g.V.Part.used_of) k c.args.words.now.table_id c.requires.fit s.0 xs s.1 c.args.entry at x low there own s.2

pub put-requires-clause-part : goal.put-requires-clause-part
put-requires-clause-part g c = let s = c.requires.seats in let k = c.args.words.now.key in let xs = c.args.seats.now.items in let sl = c.as_slice.ensures in let f = c.seat_of-at.ensures in let at : ℕ = c.seat_of-at.result in let x = c.index_mut.result.now in
    let low : at < length xs = (let a = f.within in let b = ap length sl.value in let d = sl.len in let e = c.len.ensures in let n = c.if-at-len.false in omega arith) in
    let there = at_index xs at x low c.index_mut.ensures.value in let own = sym x.seated.caller_is ∙ f.found x (ap (λ l. get_elem? l at) sl.value ∙ there) in
    subst (λ (w : ℕ). Fits (meter g.V.Part.owner_of g.V.Part.life_of g.V.Part.used_of) k.life w c.args.entry.part) (sym own) c.requires.fits

pub returns-clause-placed : goal.returns-clause-placed
returns-clause-placed g c = let s = c.requires.seats in let k = c.args.words.now.key in let xs = c.args.seats.now.items in let sl = c.as_slice.ensures in let f = c.seat_of-at.ensures in let at : ℕ = c.seat_of-at.result in let x = c.index_mut.result.now in
    let low : at < length xs = (let a = f.within in let b = ap length sl.value in let d = sl.len in let e = c.len.ensures in let n = c.if-at-len.false in omega arith) in
    let there = at_index xs at x low c.index_mut.ensures.value in let own = sym x.seated.caller_is ∙ f.found x (ap (λ l. get_elem? l at) sl.value ∙ there) in
    places_own g.row.V.coded (meter g.V.Part.owner_of g.V.Part.life_of g.V.Part.used_of) k c.args.words.now.table_id c.requires.fit s.0 xs s.1 c.args.entry at x low there own c.put.new.seat c.put.ensures.list c.put.ensures.view

pub returns-clause-none : goal.returns-clause-none
returns-clause-none g c = let s = c.requires.seats in let k = c.args.words.now.key in let xs = c.args.seats.now.items in let sl = c.as_slice.ensures in let f = c.seat_of-at.ensures in let at : ℕ = c.seat_of-at.result in let x = c.index_mut.result.now in
    let low : at < length xs = (let a = f.within in let b = ap length sl.value in let d = sl.len in let e = c.len.ensures in let n = c.if-at-len.false in omega arith) in
    let there = at_index xs at x low c.index_mut.ensures.value in let own = sym x.seated.caller_is ∙ f.found x (ap (λ l. get_elem? l at) sl.value ∙ there) in
    has_own g.row.V.coded (meter g.V.Part.owner_of g.V.Part.life_of g.V.Part.used_of) k c.args.words.now.table_id c.requires.fit s.0 xs s.1 c.args.entry at x low there own
