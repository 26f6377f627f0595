use Rattle.std.proofs.Common.{arith, length, vec_capacity, ◌++◌, ◌≤◌, ap, ◌∙◌, ◌∷◌, []}
use Rattle.std.proofs.lemmas.List.{length-append}
use Rattle.arena_list.specs.Rule.Founded.{meter}
use Rattle.arena_list.proofs.Making.Filling.{fill_starts, fill_ends, next_fits, next_not_given, fill_same, fill_other, fill_wider, no_items}
use Rattle.arena_list.proofs.Making.Placing.{seats_given}
use Rattle.arena_list.proofs.make.fill.Goals as goal

pub loop-entry-init : goal.loop-entry-init
loop-entry-init g c = ((let z : vec_capacity c.args.others.now ≤ vec_capacity c.args.others.now = omega arith in z), fill_starts g.row.V.coded (meter g.V.Part.owner_of g.V.Part.life_of g.V.Part.used_of) c.args.words.now.key c.args.words.now.table_id _ _ _ _ _ c.requires.seats c.requires.room)

pub place-requires-clause-fits : goal.place-requires-clause-fits
place-requires-clause-fits g c = let k = c.args.words.now.key in let t = c.args.words.now.table_id in let o = c.loop-entry.invariant.1 in let fit = c.requires.fit in let p = c.requires.piece in let pop = c.in-Some.ensures.items in let e = c.in-Some.entry in
    next_fits g.row.V.coded (meter g.V.Part.owner_of g.V.Part.life_of g.V.Part.used_of) k t c.args.entries.items c.args.earlier.now.items c.args.others.now.items fit p.0 p.1 c.loop-entry.others.items c.loop-entry.entries.items c.pop.new.self.items e _ c.loop-entry.seats.items o pop

pub place-requires-clause-seats : goal.place-requires-clause-seats
place-requires-clause-seats g c = let k = c.args.words.now.key in let t = c.args.words.now.table_id in let o = c.loop-entry.invariant.1 in let fit = c.requires.fit in let p = c.requires.piece in let pop = c.in-Some.ensures.items in let e = c.in-Some.entry in
    (o.gone ++ c.args.earlier.now.items, o.seats_are, next_not_given g.row.V.coded (meter g.V.Part.owner_of g.V.Part.life_of g.V.Part.used_of) k t c.args.entries.items c.args.earlier.now.items c.args.others.now.items fit p.0 p.1 c.loop-entry.others.items c.loop-entry.entries.items c.pop.new.self.items e _ c.loop-entry.seats.items o pop)

pub unreachable-requires : goal.unreachable-requires
unreachable-requires g c = let o = c.loop-entry.invariant.1 in let l = ap length c.in-Some.ensures.items ∙ length-append c.pop.new.self.items (c.in-Some.entry ∷ []) in
    let f = o.fits in let full = c.in-Err.ensures.full in let ok = c.loop-entry.others.ok.0 in omega arith

pub loop-entry-smaller-in_default-push : goal.loop-entry-smaller-in_default-push
loop-entry-smaller-in_default-push g c = let l = ap length c.in-Some.ensures.items ∙ length-append c.pop.new.self.items (c.in-Some.entry ∷ []) in omega arith

pub loop-entry-preserved-in_default-push : goal.loop-entry-preserved-in_default-push
loop-entry-preserved-in_default-push g c = let k = c.args.words.now.key in let t = c.args.words.now.table_id in let o = c.loop-entry.invariant.1 in let fit = c.requires.fit in let p = c.requires.piece in let pop = c.in-Some.ensures.items in let e = c.in-Some.entry in
    let back = c.in-Some-place.ensures.back in (
      (let x = c.loop-entry.invariant.0 in let y = c.push.ensures.capacity in omega arith),
      fill_wider g.row.V.coded (meter g.V.Part.owner_of g.V.Part.life_of g.V.Part.used_of) k t c.args.entries.items c.pop.new.self.items c.args.earlier.now.items c.args.others.now.items c.push.new.self.items c.place.new.seats.items _ _ c.push.ensures.capacity
          (fill_other g.row.V.coded (meter g.V.Part.owner_of g.V.Part.life_of g.V.Part.used_of) k t c.args.entries.items c.args.earlier.now.items c.args.others.now.items fit p.0 p.1 c.loop-entry.others.items c.loop-entry.entries.items c.pop.new.self.items e _ c.loop-entry.seats.items o pop c.place.new.seats.items c.push.new.self.items (seats_given g.row.V.coded (meter g.V.Part.owner_of g.V.Part.life_of g.V.Part.used_of) k t fit (o.gone ++ c.args.earlier.now.items) c.loop-entry.seats.items o.seats_are e c.place.new.seats.items (next_not_given g.row.V.coded (meter g.V.Part.owner_of g.V.Part.life_of g.V.Part.used_of) k t c.args.entries.items c.args.earlier.now.items c.args.others.now.items fit p.0 p.1 c.loop-entry.others.items c.loop-entry.entries.items c.pop.new.self.items e _ c.loop-entry.seats.items o pop) c.place.ensures.placed) back.1 (c.in_default-push.ensures.items ∙ ap (λ x. c.loop-entry.others.items ++ x ∷ []) back.0)),
    )

pub loop-entry-smaller : goal.loop-entry-smaller
loop-entry-smaller g c = let l = ap length c.in-Some.ensures.items ∙ length-append c.pop.new.self.items (c.in-Some.entry ∷ []) in omega arith

pub loop-entry-preserved : goal.loop-entry-preserved
loop-entry-preserved g c = let k = c.args.words.now.key in let t = c.args.words.now.table_id in let o = c.loop-entry.invariant.1 in let fit = c.requires.fit in let p = c.requires.piece in let pop = c.in-Some.ensures.items in let e = c.in-Some.entry in
    (c.loop-entry.invariant.0, fill_same g.row.V.coded (meter g.V.Part.owner_of g.V.Part.life_of g.V.Part.used_of) k t c.args.entries.items c.args.earlier.now.items c.args.others.now.items fit p.0 p.1 c.loop-entry.others.items c.loop-entry.entries.items c.pop.new.self.items e _ c.loop-entry.seats.items o pop c.place.new.seats.items (seats_given g.row.V.coded (meter g.V.Part.owner_of g.V.Part.life_of g.V.Part.used_of) k t fit (o.gone ++ c.args.earlier.now.items) c.loop-entry.seats.items o.seats_are e c.place.new.seats.items (next_not_given g.row.V.coded (meter g.V.Part.owner_of g.V.Part.life_of g.V.Part.used_of) k t c.args.entries.items c.args.earlier.now.items c.args.others.now.items fit p.0 p.1 c.loop-entry.others.items c.loop-entry.entries.items c.pop.new.self.items e _ c.loop-entry.seats.items o pop) c.place.ensures.placed) c.in_default-place.ensures.none)

pub returns-clause-seats : goal.returns-clause-seats
returns-clause-seats g c = (fill_ends g.row.V.coded (meter g.V.Part.owner_of g.V.Part.life_of g.V.Part.used_of) c.args.words.now.key c.args.words.now.table_id c.args.entries.items c.args.earlier.now.items c.args.others.now.items c.loop-entry.others.items c.loop-entry.entries.items _ c.loop-entry.seats.items (no_items c.loop-entry.entries.items (let a = c.in_default.ensures.cases.0 in let b = c.loop-entry.entries.ok.0 in omega arith)) c.loop-entry.invariant.1).0

pub returns-clause-others : goal.returns-clause-others
returns-clause-others g c = (fill_ends g.row.V.coded (meter g.V.Part.owner_of g.V.Part.life_of g.V.Part.used_of) c.args.words.now.key c.args.words.now.table_id c.args.entries.items c.args.earlier.now.items c.args.others.now.items c.loop-entry.others.items c.loop-entry.entries.items _ c.loop-entry.seats.items (no_items c.loop-entry.entries.items (let a = c.in_default.ensures.cases.0 in let b = c.loop-entry.entries.ok.0 in omega arith)) c.loop-entry.invariant.1).1
