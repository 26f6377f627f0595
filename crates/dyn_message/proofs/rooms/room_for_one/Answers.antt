use Rattle.std.proofs.Common.{◌≡◌, ℕ, List, sym, ap, ◌∙◌, arith, Some}
use Rattle.std.specs.FinMap as map
use Rattle.arena_mem.specs.declared.place.Place.{Place}
use Rattle.arena_mem.specs.Places.{Places}
use Rattle.dyn_message.specs.Slots.{part, word, place_in}
use Rattle.dyn_message.specs.Rooms.{list_slot}
use Rattle.dyn_message.proofs.Growing.{slot_read, next_placeable, first_made, next_made, room_stays, next_space, same_space}
use Rattle.dyn_message.proofs.rooms.room_for_one.Goals as goal

-- what was read is the slot's
counted : (places : Places) (p : Place) (at : ℕ) (bytes : List ℕ) (count : ℕ) → map.get places p ≡ Some bytes → count ≡ word 4 (part at 24 bytes) → count ≡ word 4 (list_slot places p at)
counted places p at bytes count there is = is ∙ ap (word 4) (sym (slot_read places p at bytes there))

named : (places : Places) (p : Place) (at : ℕ) (bytes : List ℕ) (array : Place) → map.get places p ≡ Some bytes → array ≡ place_in (part at 24 bytes) → array ≡ place_in (list_slot places p at)
named places p at bytes array there is = is ∙ ap place_in (sym (slot_read places p at bytes there))

pub place-requires-then-is_full : goal.place-requires-then-is_full
place-requires-then-is_full g c =
    next_placeable _ c.args.size _ c.requires.list c.list_at-count.result.1 c.list_at-count.result.0
    (counted _ _ _ _ _ c.read.ensures.value c.list_at-count.ensures.count) (named _ _ _ _ _ c.read.ensures.value c.list_at-count.ensures.place) c.requires.some
    c.if-count-eq0.false c.requires.most (sym c.is_full.ensures ∙ c.if-is_full.true)

pub returns-in_ok-first-clause-made : goal.returns-in_ok-first-clause-made
returns-in_ok-first-clause-made g c =
    first_made _ c.args.size _ c.requires.list c.list_at-count.result.1 c.list_at-count.result.0
    (counted _ _ _ _ _ c.read.ensures.value c.list_at-count.ensures.count) (named _ _ _ _ _ c.read.ensures.value c.list_at-count.ensures.place) c.requires.some
    _ c.in_ok-first.first c.if-count-eq0.true c.in_ok-first.ensures.zeros c.in_ok-first.ensures.len c.in_ok-first.ensures.fresh

pub returns-in_ok-next-clause-made : goal.returns-in_ok-next-clause-made
returns-in_ok-next-clause-made g c =
    next_made _ c.args.size _ c.requires.list c.list_at-count.result.1 c.list_at-count.result.0
    (counted _ _ _ _ _ c.read.ensures.value c.list_at-count.ensures.count) (named _ _ _ _ _ c.read.ensures.value c.list_at-count.ensures.place) c.requires.some
    _ _ c.in_ok-next.next c.if-count-eq0.false (sym c.is_full.ensures ∙ c.if-is_full.true) c.in_ok-next.ensures.zeros c.in_ok-next.ensures.len c.in_ok-next.ensures.fresh c.in_ok-next.ensures.rest c.copy_front.ensures.here

pub returns-in_ok-next-clause-space : goal.returns-in_ok-next-clause-space
returns-in_ok-next-clause-space g c =
    let cost = next_space _ c.args.size _ c.requires.list c.list_at-count.result.1 c.list_at-count.result.0
    (counted _ _ _ _ _ c.read.ensures.value c.list_at-count.ensures.count) (named _ _ _ _ _ c.read.ensures.value c.list_at-count.ensures.place) c.requires.some
    c.if-count-eq0.false (sym c.is_full.ensures ∙ c.if-is_full.true) in
    omega (arith, cost, c.copy_front.ensures.space, c.in_ok-next.ensures.space, c.in_ok-next.ensures.len)

pub returns-else-is_full-clause-made : goal.returns-else-is_full-clause-made
returns-else-is_full-clause-made g c =
    room_stays _ c.args.size _ c.requires.list c.list_at-count.result.1 c.list_at-count.result.0
    (counted _ _ _ _ _ c.read.ensures.value c.list_at-count.ensures.count) (named _ _ _ _ _ c.read.ensures.value c.list_at-count.ensures.place) c.requires.some
    c.if-count-eq0.false (sym c.is_full.ensures ∙ c.if-is_full.false)

pub returns-else-is_full-clause-space : goal.returns-else-is_full-clause-space
returns-else-is_full-clause-space g c =
    let cost = same_space _ c.args.size _ c.requires.list c.list_at-count.result.1 c.list_at-count.result.0
    (counted _ _ _ _ _ c.read.ensures.value c.list_at-count.ensures.count) (named _ _ _ _ _ c.read.ensures.value c.list_at-count.ensures.place) c.requires.some
    c.if-count-eq0.false (sym c.is_full.ensures ∙ c.if-is_full.false) in
    omega (arith, cost)
