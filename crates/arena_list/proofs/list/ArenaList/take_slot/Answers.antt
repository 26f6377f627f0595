use Rattle.std.proofs.Common.{rules, arith, refl, sym, ap, subst, ◌∙◌, ◌≡◌, ℕ, ◌*◌, [], ◌∷◌, Some, None}
use mathlib.Core.Option.{none}
use Rattle.atomic_table.specs.Table.{step}
use Rattle.arena_list.specs.declared.for_clauses.mark.Mark.{Mark}
use Rattle.arena_list.specs.declared.for_clauses.view.Hold.TheVariants.{Moving, Away, Rests}
use Rattle.arena_list.specs.Words.Written.{value_at}
use Rattle.arena_list.specs.Rule.Founded.{meter}
use Rattle.arena_list.specs.Marks.OfParts.{marks, mark, marked_founding}
use Rattle.arena_list.specs.Steps.Moments.{SeenTake}
use Rattle.arena_list.specs.Calls.Seats.{view}
use Rattle.arena_list.specs.Steps.After.{held, used_now}
use Rattle.arena_list.specs.Steps.Tales.{Sat, took, emptied}
use Rattle.arena_list.proofs.Marks.Badges.{up, allows, tells, no_slot, one_full, filled, none_out, lone, seated_laid, laid_view, seen}
use Rattle.arena_list.proofs.Calls.SeatFacts.{take_step, mine_tells, took_out, front, empty_step, emptied_after, same_value, seated_hold}
use Rattle.arena_list.proofs.list.ArenaList.take_slot.Goals as goal

pub swap-requires : goal.swap-requires
swap-requires g c = let o = c.args.seat.now.seated in let v = view c.args.seat.now in let k = c.args.self.now.table.shared.key in let z = marked_founding g.row.V.coded (meter g.V.Part.owner_of g.V.Part.life_of g.V.Part.used_of) k in let p = c.requires.home.0 in let own = mine_tells v _ c.requires.own in let at : c.args.slot ≡ c.args.seat.now.slot = sym own.1 ∙ sym o.slot_is in (
  search rules,
  (let w = c.args.self.now.sized.0 in let s = o.slot_small in omega arith),
  allows g.row.V.coded (meter g.V.Part.owner_of g.V.Part.life_of g.V.Part.used_of) k _ _ c.take_up-own.result.me _ (λ _. 2 * c.args.seat.now.used) (took marks (step 0 0 0 0 none)) (v, []) (up g.row.V.coded (meter g.V.Part.owner_of g.V.Part.life_of g.V.Part.used_of) c.take_up-own.result.me v c.take_up-own.ensures.me) (take_step marks z _ _ _ _ p o (o.linked_is ∙ own.0) c.requires.home.1 (omega arith) refl),
)

pub exchange-part-requires : goal.exchange-part-requires
exchange-part-requires g c = let o = c.args.seat.now.seated in let v = view c.args.seat.now in let k = c.args.self.now.table.shared.key in let z = marked_founding g.row.V.coded (meter g.V.Part.owner_of g.V.Part.life_of g.V.Part.used_of) k in let p = c.requires.home.0 in let own = mine_tells v _ c.requires.own in let at : c.args.slot ≡ c.args.seat.now.slot = sym own.1 ∙ sym o.slot_is in
    let t = tells g.row.V.coded (meter g.V.Part.owner_of g.V.Part.life_of g.V.Part.used_of) (took marks (step 0 0 0 0 none)) c.take_up-own.result.me c.swap.new.seat.me c.swap.result (v, []) (up g.row.V.coded (meter g.V.Part.owner_of g.V.Part.life_of g.V.Part.used_of) c.take_up-own.result.me v c.take_up-own.ensures.me) c.swap.ensures.2 in let out = took_out marks p c.args.slot (v, []) (seen g.row.V.coded (meter g.V.Part.owner_of g.V.Part.life_of g.V.Part.used_of) c.swap.new.seat.me) (t p c.requires.home.1).0 own.1 refl in
    let y = one_full g.row.V.coded (meter g.V.Part.owner_of g.V.Part.life_of g.V.Part.used_of) c.swap.new.seat.me.1 (value_at c.args.slot) p (ap (λ x. x.1) out) in (search rules, front c.swap.new.seat.me.1 (value_at c.args.slot) (Some y.0) y.1)

pub load-requires : goal.load-requires
load-requires g c = let o = c.args.seat.now.seated in let v = view c.args.seat.now in let k = c.args.self.now.table.shared.key in let z = marked_founding g.row.V.coded (meter g.V.Part.owner_of g.V.Part.life_of g.V.Part.used_of) k in let p = c.requires.home.0 in let own = mine_tells v _ c.requires.own in let at : c.args.slot ≡ c.args.seat.now.slot = sym own.1 ∙ sym o.slot_is in
    let t = tells g.row.V.coded (meter g.V.Part.owner_of g.V.Part.life_of g.V.Part.used_of) (took marks (step 0 0 0 0 none)) c.take_up-own.result.me c.swap.new.seat.me c.swap.result (v, []) (up g.row.V.coded (meter g.V.Part.owner_of g.V.Part.life_of g.V.Part.used_of) c.take_up-own.result.me v c.take_up-own.ensures.me) c.swap.ensures.2 in let out = took_out marks p c.args.slot (v, []) (seen g.row.V.coded (meter g.V.Part.owner_of g.V.Part.life_of g.V.Part.used_of) c.swap.new.seat.me) (t p c.requires.home.1).0 own.1 refl in
    let y = one_full g.row.V.coded (meter g.V.Part.owner_of g.V.Part.life_of g.V.Part.used_of) c.swap.new.seat.me.1 (value_at c.args.slot) p (ap (λ x. x.1) out) in let x = c.exchange-part.ensures in let same : p.used ≡ c.args.seat.now.used = sym (o.used_is ∙ ap (used_now marks) c.requires.home.1) in
    let empty = ap (seen g.row.V.coded (meter g.V.Part.owner_of g.V.Part.life_of g.V.Part.used_of)) (filled g.row.V.coded (meter g.V.Part.owner_of g.V.Part.life_of g.V.Part.used_of) (value_at c.args.slot) (Some y.0) None c.swap.new.seat.me c.exchange-part.new.seat.me y.1 x.3) ∙ (λ i. ((out i).0, (value_at c.args.slot, None) ∷ [])) ∙ (λ i. (held v (Moving (same i)), (value_at (at i), None) ∷ [])) in
    let w : Sat Mark = (held v (Moving c.args.seat.now.used), (value_at c.args.seat.now.slot, None) ∷ []) in (
      search rules,
      (let w = c.args.self.now.sized.0 in let s = o.slot_small in omega arith),
      allows g.row.V.coded (meter g.V.Part.owner_of g.V.Part.life_of g.V.Part.used_of) k _ _ c.exchange-part.new.seat.me _ (λ n. n) (emptied (step 0 0 0 0 none)) w empty (empty_step marks z _ _ _ w o (o.linked_is ∙ own.0) refl (omega arith)),
    )

pub into_badge-requires : goal.into_badge-requires
into_badge-requires g c = let o = c.args.seat.now.seated in let v = view c.args.seat.now in let k = c.args.self.now.table.shared.key in let z = marked_founding g.row.V.coded (meter g.V.Part.owner_of g.V.Part.life_of g.V.Part.used_of) k in let p = c.requires.home.0 in let own = mine_tells v _ c.requires.own in let at : c.args.slot ≡ c.args.seat.now.slot = sym own.1 ∙ sym o.slot_is in
    let t = tells g.row.V.coded (meter g.V.Part.owner_of g.V.Part.life_of g.V.Part.used_of) (took marks (step 0 0 0 0 none)) c.take_up-own.result.me c.swap.new.seat.me c.swap.result (v, []) (up g.row.V.coded (meter g.V.Part.owner_of g.V.Part.life_of g.V.Part.used_of) c.take_up-own.result.me v c.take_up-own.ensures.me) c.swap.ensures.2 in let out = took_out marks p c.args.slot (v, []) (seen g.row.V.coded (meter g.V.Part.owner_of g.V.Part.life_of g.V.Part.used_of) c.swap.new.seat.me) (t p c.requires.home.1).0 own.1 refl in
    let y = one_full g.row.V.coded (meter g.V.Part.owner_of g.V.Part.life_of g.V.Part.used_of) c.swap.new.seat.me.1 (value_at c.args.slot) p (ap (λ x. x.1) out) in let x = c.exchange-part.ensures in let same : p.used ≡ c.args.seat.now.used = sym (o.used_is ∙ ap (used_now marks) c.requires.home.1) in
    let empty = ap (seen g.row.V.coded (meter g.V.Part.owner_of g.V.Part.life_of g.V.Part.used_of)) (filled g.row.V.coded (meter g.V.Part.owner_of g.V.Part.life_of g.V.Part.used_of) (value_at c.args.slot) (Some y.0) None c.swap.new.seat.me c.exchange-part.new.seat.me y.1 x.3) ∙ (λ i. ((out i).0, (value_at c.args.slot, None) ∷ [])) ∙ (λ i. (held v (Moving (same i)), (value_at (at i), None) ∷ [])) in
    let w : Sat Mark = (held v (Moving c.args.seat.now.used), (value_at c.args.seat.now.slot, None) ∷ []) in let u = tells g.row.V.coded (meter g.V.Part.owner_of g.V.Part.life_of g.V.Part.used_of) (emptied (step 0 0 0 0 none)) c.exchange-part.new.seat.me c.load.new.seat.me 0 w empty c.load.ensures.2 in let gone = emptied_after marks (step 0 0 0 0 none) 0 w (seen g.row.V.coded (meter g.V.Part.owner_of g.V.Part.life_of g.V.Part.used_of) c.load.new.seat.me) o refl u in no_slot g.row.V.coded (meter g.V.Part.owner_of g.V.Part.life_of g.V.Part.used_of) c.load.new.seat.me.1 (ap (λ x. x.1) gone)

pub unreachable-requires : goal.unreachable-requires
unreachable-requires g c = let o = c.args.seat.now.seated in let v = view c.args.seat.now in let k = c.args.self.now.table.shared.key in let z = marked_founding g.row.V.coded (meter g.V.Part.owner_of g.V.Part.life_of g.V.Part.used_of) k in let p = c.requires.home.0 in let own = mine_tells v _ c.requires.own in let at : c.args.slot ≡ c.args.seat.now.slot = sym own.1 ∙ sym o.slot_is in
    let t = tells g.row.V.coded (meter g.V.Part.owner_of g.V.Part.life_of g.V.Part.used_of) (took marks (step 0 0 0 0 none)) c.take_up-own.result.me c.swap.new.seat.me c.swap.result (v, []) (up g.row.V.coded (meter g.V.Part.owner_of g.V.Part.life_of g.V.Part.used_of) c.take_up-own.result.me v c.take_up-own.ensures.me) c.swap.ensures.2 in let out = took_out marks p c.args.slot (v, []) (seen g.row.V.coded (meter g.V.Part.owner_of g.V.Part.life_of g.V.Part.used_of) c.swap.new.seat.me) (t p c.requires.home.1).0 own.1 refl in
    let y = one_full g.row.V.coded (meter g.V.Part.owner_of g.V.Part.life_of g.V.Part.used_of) c.swap.new.seat.me.1 (value_at c.args.slot) p (ap (λ x. x.1) out) in none_out g.row.V.coded (meter g.V.Part.owner_of g.V.Part.life_of g.V.Part.used_of) c.swap.new.seat.me.1 (value_at c.args.slot) y.0 c.exchange-part.result y.1 c.exchange-part.ensures.2 c.in-None.is

pub invariant_of-seat : goal.invariant_of-seat
invariant_of-seat g c = let o = c.args.seat.now.seated in let v = view c.args.seat.now in let k = c.args.self.now.table.shared.key in let z = marked_founding g.row.V.coded (meter g.V.Part.owner_of g.V.Part.life_of g.V.Part.used_of) k in let p = c.requires.home.0 in let own = mine_tells v _ c.requires.own in let at : c.args.slot ≡ c.args.seat.now.slot = sym own.1 ∙ sym o.slot_is in
    let t = tells g.row.V.coded (meter g.V.Part.owner_of g.V.Part.life_of g.V.Part.used_of) (took marks (step 0 0 0 0 none)) c.take_up-own.result.me c.swap.new.seat.me c.swap.result (v, []) (up g.row.V.coded (meter g.V.Part.owner_of g.V.Part.life_of g.V.Part.used_of) c.take_up-own.result.me v c.take_up-own.ensures.me) c.swap.ensures.2 in let out = took_out marks p c.args.slot (v, []) (seen g.row.V.coded (meter g.V.Part.owner_of g.V.Part.life_of g.V.Part.used_of) c.swap.new.seat.me) (t p c.requires.home.1).0 own.1 refl in
    let y = one_full g.row.V.coded (meter g.V.Part.owner_of g.V.Part.life_of g.V.Part.used_of) c.swap.new.seat.me.1 (value_at c.args.slot) p (ap (λ x. x.1) out) in let x = c.exchange-part.ensures in let same : p.used ≡ c.args.seat.now.used = sym (o.used_is ∙ ap (used_now marks) c.requires.home.1) in
    let empty = ap (seen g.row.V.coded (meter g.V.Part.owner_of g.V.Part.life_of g.V.Part.used_of)) (filled g.row.V.coded (meter g.V.Part.owner_of g.V.Part.life_of g.V.Part.used_of) (value_at c.args.slot) (Some y.0) None c.swap.new.seat.me c.exchange-part.new.seat.me y.1 x.3) ∙ (λ i. ((out i).0, (value_at c.args.slot, None) ∷ [])) ∙ (λ i. (held v (Moving (same i)), (value_at (at i), None) ∷ [])) in
    let w : Sat Mark = (held v (Moving c.args.seat.now.used), (value_at c.args.seat.now.slot, None) ∷ []) in let u = tells g.row.V.coded (meter g.V.Part.owner_of g.V.Part.life_of g.V.Part.used_of) (emptied (step 0 0 0 0 none)) c.exchange-part.new.seat.me c.load.new.seat.me 0 w empty c.load.ensures.2 in let gone = emptied_after marks (step 0 0 0 0 none) 0 w (seen g.row.V.coded (meter g.V.Part.owner_of g.V.Part.life_of g.V.Part.used_of) c.load.new.seat.me) o refl u in record {
      one = lone c.into_badge.result.views c.load.new.seat.me.0 c.into_badge.ensures.2;
      seated = seated_laid g.row.V.coded (meter g.V.Part.owner_of g.V.Part.life_of g.V.Part.used_of) c.into_badge.result.views c.load.new.seat.me c.into_badge.ensures.2
          (seated_hold marks (Away c.args.seat.now.used) c.args.seat.now.used (seen g.row.V.coded (meter g.V.Part.owner_of g.V.Part.life_of g.V.Part.used_of) c.load.new.seat.me) (ap (λ x. x.0.hands) gone) (ap (λ x. x.0.seen) gone) (ap (λ x. x.1) gone) refl o.used_small o);
    }

pub returns-clause-value : goal.returns-clause-value
returns-clause-value g c = let o = c.args.seat.now.seated in let v = view c.args.seat.now in let k = c.args.self.now.table.shared.key in let z = marked_founding g.row.V.coded (meter g.V.Part.owner_of g.V.Part.life_of g.V.Part.used_of) k in let p = c.requires.home.0 in let own = mine_tells v _ c.requires.own in let at : c.args.slot ≡ c.args.seat.now.slot = sym own.1 ∙ sym o.slot_is in
    let t = tells g.row.V.coded (meter g.V.Part.owner_of g.V.Part.life_of g.V.Part.used_of) (took marks (step 0 0 0 0 none)) c.take_up-own.result.me c.swap.new.seat.me c.swap.result (v, []) (up g.row.V.coded (meter g.V.Part.owner_of g.V.Part.life_of g.V.Part.used_of) c.take_up-own.result.me v c.take_up-own.ensures.me) c.swap.ensures.2 in let out = took_out marks p c.args.slot (v, []) (seen g.row.V.coded (meter g.V.Part.owner_of g.V.Part.life_of g.V.Part.used_of) c.swap.new.seat.me) (t p c.requires.home.1).0 own.1 refl in
    let y = one_full g.row.V.coded (meter g.V.Part.owner_of g.V.Part.life_of g.V.Part.used_of) c.swap.new.seat.me.1 (value_at c.args.slot) p (ap (λ x. x.1) out) in let x = c.exchange-part.ensures in let value = same_value c.swap.new.seat.me.1 (value_at c.args.slot) c.exchange-part.result y.0 c.in-Some.part y.1 x.2 c.in-Some.is in c.requires.home.1 ∙ ap (λ (q : Mark). Rests q) (y.2 ∙ ap (mark g.row.V.coded (meter g.V.Part.owner_of g.V.Part.life_of g.V.Part.used_of)) value)

pub returns-clause-view : goal.returns-clause-view
returns-clause-view g c = let o = c.args.seat.now.seated in let v = view c.args.seat.now in let k = c.args.self.now.table.shared.key in let z = marked_founding g.row.V.coded (meter g.V.Part.owner_of g.V.Part.life_of g.V.Part.used_of) k in let p = c.requires.home.0 in let own = mine_tells v _ c.requires.own in let at : c.args.slot ≡ c.args.seat.now.slot = sym own.1 ∙ sym o.slot_is in
    let t = tells g.row.V.coded (meter g.V.Part.owner_of g.V.Part.life_of g.V.Part.used_of) (took marks (step 0 0 0 0 none)) c.take_up-own.result.me c.swap.new.seat.me c.swap.result (v, []) (up g.row.V.coded (meter g.V.Part.owner_of g.V.Part.life_of g.V.Part.used_of) c.take_up-own.result.me v c.take_up-own.ensures.me) c.swap.ensures.2 in let out = took_out marks p c.args.slot (v, []) (seen g.row.V.coded (meter g.V.Part.owner_of g.V.Part.life_of g.V.Part.used_of) c.swap.new.seat.me) (t p c.requires.home.1).0 own.1 refl in
    let y = one_full g.row.V.coded (meter g.V.Part.owner_of g.V.Part.life_of g.V.Part.used_of) c.swap.new.seat.me.1 (value_at c.args.slot) p (ap (λ x. x.1) out) in let x = c.exchange-part.ensures in let same : p.used ≡ c.args.seat.now.used = sym (o.used_is ∙ ap (used_now marks) c.requires.home.1) in
    let empty = ap (seen g.row.V.coded (meter g.V.Part.owner_of g.V.Part.life_of g.V.Part.used_of)) (filled g.row.V.coded (meter g.V.Part.owner_of g.V.Part.life_of g.V.Part.used_of) (value_at c.args.slot) (Some y.0) None c.swap.new.seat.me c.exchange-part.new.seat.me y.1 x.3) ∙ (λ i. ((out i).0, (value_at c.args.slot, None) ∷ [])) ∙ (λ i. (held v (Moving (same i)), (value_at (at i), None) ∷ [])) in
    let w : Sat Mark = (held v (Moving c.args.seat.now.used), (value_at c.args.seat.now.slot, None) ∷ []) in let u = tells g.row.V.coded (meter g.V.Part.owner_of g.V.Part.life_of g.V.Part.used_of) (emptied (step 0 0 0 0 none)) c.exchange-part.new.seat.me c.load.new.seat.me 0 w empty c.load.ensures.2 in let gone = emptied_after marks (step 0 0 0 0 none) 0 w (seen g.row.V.coded (meter g.V.Part.owner_of g.V.Part.life_of g.V.Part.used_of) c.load.new.seat.me) o refl u in let value = same_value c.swap.new.seat.me.1 (value_at c.args.slot) c.exchange-part.result y.0 c.in-Some.part y.1 x.2 c.in-Some.is in
    laid_view g.row.V.coded (meter g.V.Part.owner_of g.V.Part.life_of g.V.Part.used_of) c.into_badge.result.views c.load.new.seat.me c.into_badge.ensures.2 ∙ ap (λ x. x.0) gone ∙ ap (λ u. held v (Away u)) (sym same ∙ ap (λ (q : Mark). q.used) (y.2 ∙ ap (mark g.row.V.coded (meter g.V.Part.owner_of g.V.Part.life_of g.V.Part.used_of)) value))

pub returns-clause-moment : goal.returns-clause-moment
returns-clause-moment g c = let o = c.args.seat.now.seated in let v = view c.args.seat.now in let k = c.args.self.now.table.shared.key in let z = marked_founding g.row.V.coded (meter g.V.Part.owner_of g.V.Part.life_of g.V.Part.used_of) k in let p = c.requires.home.0 in let own = mine_tells v _ c.requires.own in let at : c.args.slot ≡ c.args.seat.now.slot = sym own.1 ∙ sym o.slot_is in
    let t = tells g.row.V.coded (meter g.V.Part.owner_of g.V.Part.life_of g.V.Part.used_of) (took marks (step 0 0 0 0 none)) c.take_up-own.result.me c.swap.new.seat.me c.swap.result (v, []) (up g.row.V.coded (meter g.V.Part.owner_of g.V.Part.life_of g.V.Part.used_of) c.take_up-own.result.me v c.take_up-own.ensures.me) c.swap.ensures.2 in let out = took_out marks p c.args.slot (v, []) (seen g.row.V.coded (meter g.V.Part.owner_of g.V.Part.life_of g.V.Part.used_of) c.swap.new.seat.me) (t p c.requires.home.1).0 own.1 refl in
    let y = one_full g.row.V.coded (meter g.V.Part.owner_of g.V.Part.life_of g.V.Part.used_of) c.swap.new.seat.me.1 (value_at c.args.slot) p (ap (λ x. x.1) out) in let x = c.exchange-part.ensures in let value = same_value c.swap.new.seat.me.1 (value_at c.args.slot) c.exchange-part.result y.0 c.in-Some.part y.1 x.2 c.in-Some.is in subst (λ (u : ℕ). SeenTake marks v.base v u) (ap (λ (q : Mark). q.used) (y.2 ∙ ap (mark g.row.V.coded (meter g.V.Part.owner_of g.V.Part.life_of g.V.Part.used_of)) value)) (t p c.requires.home.1).1
