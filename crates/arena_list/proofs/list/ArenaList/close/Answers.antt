use Rattle.std.proofs.Common.{◌≤◌, ◌++◌, ◌≡◌, length, reverse, sym, ap, subst, ◌∙◌, arith}
use Rattle.std.proofs.lemmas.List.{length-reverse}
use Rattle.std.specs.Slots.{slots_items, slots_len, IsFull}
use Rattle.arena_list.specs.Words.Written.{word_count}
use Rattle.arena_list.specs.Rule.Founded.{meter}
use Rattle.arena_list.specs.Rule.Views.{shown}
use Rattle.arena_list.specs.Calls.Seats.{view, founding_of, wards_of}
use Rattle.arena_list.specs.Closing.Closed.{used_sum, AreApart, AreLinked, AreSpares, slots_of}
use Rattle.arena_list.proofs.Closing.Ending.{slots_within}
use Rattle.arena_list.proofs.Closing.Ended.{between_empty, others_vacant, ended}
use Rattle.arena_list.proofs.list.ArenaList.close.Goals as goal

pub empty-requires-clause-between : goal.empty-requires-clause-between
empty-requires-clause-between g c = between_empty g.row.V.coded (meter g.V.Part.owner_of g.V.Part.life_of g.V.Part.used_of) c.args.self.table.shared.key c.gather-all.result.id c.gather-all.result.me.0 (slots_items c.close_with-closed.result.words) (slots_items c.close_with-closed.result.slots) c.close_with-closed.ensures.values.2
    (let n = c.close_with-closed.ensures.counts.1 in let s = c.args.self.sized.1 in let o = c.close_with-closed.result.slots.ok.0 in omega arith)

pub place_others-requires-clause-vacant : goal.place_others-requires-clause-vacant
place_others-requires-clause-vacant g c = others_vacant g.row.V.coded (meter g.V.Part.owner_of g.V.Part.life_of g.V.Part.used_of) c.args.self.table.shared.key c.gather-all.result.id c.gather-all.result.me.0 (slots_items c.close_with-closed.result.words) (slots_items c.close_with-closed.result.slots) c.empty.new.parts.items c.args.seats.items
    c.close_with-closed.ensures.values.2 c.empty.ensures.parts c.empty.ensures.count c.gather-all.ensures.hands c.requires.all.enough (λ i t a. (c.requires.all.each i t a).1) c.args.self.others.items c.args.self.kept

pub pull_linked-requires-clause-words : goal.pull_linked-requires-clause-words
pull_linked-requires-clause-words g c = subst (λ w. IsFull w × (slots_len w ≡ word_count)) (sym c.empty.ensures.words) (c.close_with-closed.ensures.values.0, c.close_with-closed.ensures.counts.0 ∙ c.args.self.sized.0)

pub pull_linked-requires-clause-stored : goal.pull_linked-requires-clause-stored
pull_linked-requires-clause-stored g c = let e = ended g.row.V.coded (meter g.V.Part.owner_of g.V.Part.life_of g.V.Part.used_of) c.args.self.table.shared.key c.gather-all.result.id c.gather-all.result.me.0 (slots_items c.close_with-closed.result.words) (slots_items c.close_with-closed.result.slots) c.empty.new.parts.items c.args.seats.items
    c.close_with-closed.ensures.values.2 c.empty.ensures.parts c.empty.ensures.count c.gather-all.ensures.hands c.requires.all.enough (λ i t a. (c.requires.all.each i t a).1) c.args.self.others.items c.args.self.kept c.place_others.new.parts.items c.place_others.ensures in
    (e.entries, e.stored (slots_items c.empty.new.closed.words) (ap slots_items c.empty.ensures.words))

pub pull_spares-requires-clause-values : goal.pull_spares-requires-clause-values
pull_spares-requires-clause-values g c = let e = ended g.row.V.coded (meter g.V.Part.owner_of g.V.Part.life_of g.V.Part.used_of) c.args.self.table.shared.key c.gather-all.result.id c.gather-all.result.me.0 (slots_items c.close_with-closed.result.words) (slots_items c.close_with-closed.result.slots) c.empty.new.parts.items c.args.seats.items
    c.close_with-closed.ensures.values.2 c.empty.ensures.parts c.empty.ensures.count c.gather-all.ensures.hands c.requires.all.enough (λ i t a. (c.requires.all.each i t a).1) c.args.self.others.items c.args.self.kept c.place_others.new.parts.items c.place_others.ensures in
    let stored = e.stored (slots_items c.empty.new.closed.words) (ap slots_items c.empty.ensures.words) in let linked = c.pull_linked.ensures e.entries stored in let own = e.spares c.pull_linked.new.parts.items linked.1 in let slots = c.gather-all.ensures.slots ∙ ap reverse own.2 in (own.0, slots, own.3)

pub pull_spares-requires-clause-room : goal.pull_spares-requires-clause-room
pull_spares-requires-clause-room g c = (
  c.in-Ok.ensures.empty.1,
  (let a = ap length c.gather-all.ensures.slots ∙ length-reverse (slots_of c.args.seats.items) in let b = slots_within c.args.seats.items in let r = c.in-Ok.ensures.room.1 in let n = c.len.ensures in let o = c.args.seats.ok.0 in omega arith),
)

pub free_parts-requires : goal.free_parts-requires
free_parts-requires g c = let e = ended g.row.V.coded (meter g.V.Part.owner_of g.V.Part.life_of g.V.Part.used_of) c.args.self.table.shared.key c.gather-all.result.id c.gather-all.result.me.0 (slots_items c.close_with-closed.result.words) (slots_items c.close_with-closed.result.slots) c.empty.new.parts.items c.args.seats.items
    c.close_with-closed.ensures.values.2 c.empty.ensures.parts c.empty.ensures.count c.gather-all.ensures.hands c.requires.all.enough (λ i t a. (c.requires.all.each i t a).1) c.args.self.others.items c.args.self.kept c.place_others.new.parts.items c.place_others.ensures in
    let stored = e.stored (slots_items c.empty.new.closed.words) (ap slots_items c.empty.ensures.words) in let linked = c.pull_linked.ensures e.entries stored in let own = e.spares c.pull_linked.new.parts.items linked.1 in let slots = c.gather-all.ensures.slots ∙ ap reverse own.2 in let spare = c.pull_spares.ensures own.0 slots own.3 in
    e.none_left c.pull_linked.new.parts.items c.pull_spares.new.parts.items own.0 linked.1 own.1 spare.1

pub returns-clause-count : goal.returns-clause-count
returns-clause-count g c = let e = ended g.row.V.coded (meter g.V.Part.owner_of g.V.Part.life_of g.V.Part.used_of) c.args.self.table.shared.key c.gather-all.result.id c.gather-all.result.me.0 (slots_items c.close_with-closed.result.words) (slots_items c.close_with-closed.result.slots) c.empty.new.parts.items c.args.seats.items
    c.close_with-closed.ensures.values.2 c.empty.ensures.parts c.empty.ensures.count c.gather-all.ensures.hands c.requires.all.enough (λ i t a. (c.requires.all.each i t a).1) c.args.self.others.items c.args.self.kept c.place_others.new.parts.items c.place_others.ensures in e.count

pub returns-clause-linked : goal.returns-clause-linked
returns-clause-linked g c = let e = ended g.row.V.coded (meter g.V.Part.owner_of g.V.Part.life_of g.V.Part.used_of) c.args.self.table.shared.key c.gather-all.result.id c.gather-all.result.me.0 (slots_items c.close_with-closed.result.words) (slots_items c.close_with-closed.result.slots) c.empty.new.parts.items c.args.seats.items
    c.close_with-closed.ensures.values.2 c.empty.ensures.parts c.empty.ensures.count c.gather-all.ensures.hands c.requires.all.enough (λ i t a. (c.requires.all.each i t a).1) c.args.self.others.items c.args.self.kept c.place_others.new.parts.items c.place_others.ensures in
    let stored = e.stored (slots_items c.empty.new.closed.words) (ap slots_items c.empty.ensures.words) in let linked = c.pull_linked.ensures e.entries stored in
    subst (λ l. AreLinked g.row.V.coded (meter g.V.Part.owner_of g.V.Part.life_of g.V.Part.used_of) (wards_of c.args.self) (founding_of c.args.self).linked.items c.args.seats.items l) (sym linked.0) (e.linked c.gather-all.ensures.told)

pub returns-clause-spares : goal.returns-clause-spares
returns-clause-spares g c = let e = ended g.row.V.coded (meter g.V.Part.owner_of g.V.Part.life_of g.V.Part.used_of) c.args.self.table.shared.key c.gather-all.result.id c.gather-all.result.me.0 (slots_items c.close_with-closed.result.words) (slots_items c.close_with-closed.result.slots) c.empty.new.parts.items c.args.seats.items
    c.close_with-closed.ensures.values.2 c.empty.ensures.parts c.empty.ensures.count c.gather-all.ensures.hands c.requires.all.enough (λ i t a. (c.requires.all.each i t a).1) c.args.self.others.items c.args.self.kept c.place_others.new.parts.items c.place_others.ensures in
    let stored = e.stored (slots_items c.empty.new.closed.words) (ap slots_items c.empty.ensures.words) in let linked = c.pull_linked.ensures e.entries stored in let own = e.spares c.pull_linked.new.parts.items linked.1 in let slots = c.gather-all.ensures.slots ∙ ap reverse own.2 in let spare = c.pull_spares.ensures own.0 slots own.3 in subst (AreSpares g.row.V.coded (meter g.V.Part.owner_of g.V.Part.life_of g.V.Part.used_of) c.args.seats.items) (sym spare.0) (e.spares_are own.0 own.1)

pub returns-clause-used : goal.returns-clause-used
returns-clause-used g c = λ i t a. let e = ended g.row.V.coded (meter g.V.Part.owner_of g.V.Part.life_of g.V.Part.used_of) c.args.self.table.shared.key c.gather-all.result.id c.gather-all.result.me.0 (slots_items c.close_with-closed.result.words) (slots_items c.close_with-closed.result.slots) c.empty.new.parts.items c.args.seats.items
    c.close_with-closed.ensures.values.2 c.empty.ensures.parts c.empty.ensures.count c.gather-all.ensures.hands c.requires.all.enough (λ i t a. (c.requires.all.each i t a).1) c.args.self.others.items c.args.self.kept c.place_others.new.parts.items c.place_others.ensures in
    let stored = e.stored (slots_items c.empty.new.closed.words) (ap slots_items c.empty.ensures.words) in let linked = c.pull_linked.ensures e.entries stored in
    subst (λ l. shown (view t) ≤ used_sum (meter g.V.Part.owner_of g.V.Part.life_of g.V.Part.used_of) l) (sym linked.0) (e.used c.gather-all.ensures.told c.gather-all.ensures.sizes i t a)

pub returns-clause-apart : goal.returns-clause-apart
returns-clause-apart g c = let e = ended g.row.V.coded (meter g.V.Part.owner_of g.V.Part.life_of g.V.Part.used_of) c.args.self.table.shared.key c.gather-all.result.id c.gather-all.result.me.0 (slots_items c.close_with-closed.result.words) (slots_items c.close_with-closed.result.slots) c.empty.new.parts.items c.args.seats.items
    c.close_with-closed.ensures.values.2 c.empty.ensures.parts c.empty.ensures.count c.gather-all.ensures.hands c.requires.all.enough (λ i t a. (c.requires.all.each i t a).1) c.args.self.others.items c.args.self.kept c.place_others.new.parts.items c.place_others.ensures in
    let stored = e.stored (slots_items c.empty.new.closed.words) (ap slots_items c.empty.ensures.words) in let linked = c.pull_linked.ensures e.entries stored in let own = e.spares c.pull_linked.new.parts.items linked.1 in let slots = c.gather-all.ensures.slots ∙ ap reverse own.2 in let spare = c.pull_spares.ensures own.0 slots own.3 in
    subst (AreApart (meter g.V.Part.owner_of g.V.Part.life_of g.V.Part.used_of) c.args.self.table.shared.key.life) (λ i. sym linked.0 i ++ sym spare.0 i) (e.apart own.0 own.1)
