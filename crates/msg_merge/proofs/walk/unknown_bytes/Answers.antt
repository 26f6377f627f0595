use Rattle.std.proofs.Common.{◌≡◌, ◌+◌, ◌-◌, ◌*◌, ◌^◌, ◌<◌, ◌≤◌, ℕ, suc, List, length, drop, min, Some, sym, ap, ◌∙◌, arith}
use Rattle.std.specs.Prelude.{slice_get}
use Rattle.arena_mem.specs.Places.{Places, Buffers}
use Rattle.msg_layout.specs.Slots.{array_slot}
use Rattle.dyn_message.specs.Feet.{Foot}
use Rattle.dyn_message.specs.Slots.{part, word}
use Rattle.dyn_message.specs.Stands.{PiecesStand}
use Rattle.dyn_message.proofs.Appending.{count_is}
use Rattle.dyn_message.proofs.UnknownLaws.{piece_at}
use Rattle.pb_write.proofs.Lists.{array_live, count_same, elements_there, element_fits, part_long}
use Rattle.pb_write.proofs.Parts.{pieces_end}
use Rattle.msg_merge.specs.Extents.{pieces_bytes}
use Rattle.msg_merge.proofs.Counts.{piece_counts, bytes_counted, no_pieces, bytes_more}
use Rattle.msg_merge.proofs.walk.unknown_bytes.Goals as goal

pub returns-then-count-eq0 : goal.returns-then-count-eq0
returns-then-count-eq0 g c = λ pieces feet holds.
    let none = no_pieces pieces (sym (count_is (g.M.Memory.places c.args.mem.now) array_slot (length pieces) (part c.args.at array_slot c.args.bytes.now) feet holds) ∙ sym c.list_at-count.ensures.count ∙ c.if-count-eq0.true) in
    omega (arith, none)

pub read-elements-requires : goal.read-elements-requires
read-elements-requires g c =
    array_live (g.M.Memory.places c.args.mem.now) array_slot (length c.requires.stand.0) (part c.args.at array_slot c.args.bytes.now) c.requires.stand.1 c.requires.stand.2 c.list_at-count.result.0 c.list_at-count.result.1 c.list_at-count.ensures.place c.list_at-count.ensures.count c.if-count-eq0.false

pub pieces-init : goal.pieces-init
pieces-init g c = record {
  within = omega arith;
  counted = λ pieces feet holds.
      let same = count_same (g.M.Memory.places c.args.mem.now) array_slot (length pieces) (part c.args.at array_slot c.args.bytes.now) feet holds c.list_at-count.result.0 c.list_at-count.result.1 c.list_at-count.ensures.place c.list_at-count.ensures.count c.if-count-eq0.false in
      let none : pieces_bytes (drop c.list_at-count.result.1 pieces) ≡ 0 = ap (λ n. pieces_bytes (drop n pieces)) same ∙ ap (λ (l : List ℕ). length l) (pieces_end pieces) in
      omega (arith, none);
}

pub overflow_mul-i : goal.overflow_mul-i
overflow_mul-i g c =
    let there = elements_there (g.M.Memory.places c.args.mem.now) array_slot (length c.requires.stand.0) (part c.args.at array_slot c.args.bytes.now) c.requires.stand.1 c.requires.stand.2 c.list_at-count.result.0 c.list_at-count.result.1 c.list_at-count.ensures.place c.list_at-count.ensures.count c.if-count-eq0.false c.read-elements.result.now c.read-elements.ensures.value in
    let most = there.most in
    let less = c.pieces.invariant.within in
    omega (arith, most, less)

pub slot_at-requires : goal.slot_at-requires
slot_at-requires g c =
    let there = elements_there (g.M.Memory.places c.args.mem.now) array_slot (length c.requires.stand.0) (part c.args.at array_slot c.args.bytes.now) c.requires.stand.1 c.requires.stand.2 c.list_at-count.result.0 c.list_at-count.result.1 c.list_at-count.ensures.place c.list_at-count.ensures.count c.if-count-eq0.false c.read-elements.result.now c.read-elements.ensures.value in
    let within = c.pieces.invariant.within in
    let some = c.pieces-test.true in
    element_fits (c.pieces.i - 1) c.list_at-count.result.1 24 (length c.read-elements.result.now) (omega (arith, within, some)) there.fit

pub word-len-requires-clause-slot : goal.word-len-requires-clause-slot
word-len-requires-clause-slot g c =
    let there = elements_there (g.M.Memory.places c.args.mem.now) array_slot (length c.requires.stand.0) (part c.args.at array_slot c.args.bytes.now) c.requires.stand.1 c.requires.stand.2 c.list_at-count.result.0 c.list_at-count.result.1 c.list_at-count.ensures.place c.list_at-count.ensures.count c.if-count-eq0.false c.read-elements.result.now c.read-elements.ensures.value in
    let within = c.pieces.invariant.within in
    let some = c.pieces-test.true in
    let fits = element_fits (c.pieces.i - 1) c.list_at-count.result.1 24 (length c.read-elements.result.now) (omega (arith, within, some)) there.fit in
    omega (arith, ap (λ (s : List ℕ). length s) c.slot_at.ensures, part_long ((c.pieces.i - 1) * 24) 24 c.read-elements.result.now fits)

-- the piece of this index, and what its slot tells
piece_of : (places : Places) (buffers : Buffers) (pieces : List (List ℕ)) (feet : List Foot) (elements slot : List ℕ) (i count : ℕ) → PiecesStand places buffers elements pieces feet → count ≡ length pieces → 0 < i → i ≤ count → slot ≡ part ((i - 1) * 24) 24 elements
    → (piece : List ℕ) × (slice_get pieces (i - 1) ≡ Some piece) × (word 4 slot ≡ length piece)
piece_of places buffers pieces feet elements slot i count stand same some within is =
    let at = piece_at places buffers elements pieces feet (i - 1) stand (omega (arith, same, some, within)) in
    (at.0, at.2, ap (word 4) is ∙ bytes_counted places buffers (part ((i - 1) * 24) 24 elements) at.0 at.1 at.3)

pub pieces-preserved : goal.pieces-preserved
pieces-preserved g c = record {
  within = omega (arith, c.pieces.invariant.within);
  counted = λ pieces feet holds.
      let there = elements_there (g.M.Memory.places c.args.mem.now) array_slot (length pieces) (part c.args.at array_slot c.args.bytes.now) feet holds c.list_at-count.result.0 c.list_at-count.result.1 c.list_at-count.ensures.place c.list_at-count.ensures.count c.if-count-eq0.false c.read-elements.result.now c.read-elements.ensures.value in
      let same = count_same (g.M.Memory.places c.args.mem.now) array_slot (length pieces) (part c.args.at array_slot c.args.bytes.now) feet holds c.list_at-count.result.0 c.list_at-count.result.1 c.list_at-count.ensures.place c.list_at-count.ensures.count c.if-count-eq0.false in
      let at = piece_of (g.M.Memory.places c.args.mem.now) (g.M.Memory.buffers c.args.mem.now) pieces there.behind c.read-elements.result.now c.slot_at.result.now c.pieces.i c.list_at-count.result.1 there.stand same c.pieces-test.true c.pieces.invariant.within c.slot_at.ensures in
      let some = c.pieces-test.true in
      let next : suc (c.pieces.i - 1) ≡ c.pieces.i = omega (arith, some) in
      let more = piece_counts pieces (c.pieces.i - 1) at.0 at.1 ∙ ap (λ n. length at.0 + pieces_bytes (drop n pieces)) next in
      bytes_more c.pieces.total (pieces_bytes (drop c.pieces.i pieces)) (length at.0) (pieces_bytes (drop (c.pieces.i - 1) pieces)) _ (c.pieces.invariant.counted pieces feet holds) more (c.saturating_add-total.ensures ∙ ap (λ n. min (c.pieces.total + n) (2 ^ 64 - 1)) (c.from.ensures ∙ (c.word-len.ensures ∙ at.2)));
}

pub returns : goal.returns
returns g c = λ pieces feet holds.
    let none : c.pieces.i ≡ 0 = omega (arith, c.pieces-test.false) in
    c.pieces.invariant.counted pieces feet holds ∙ ap (λ n. min (pieces_bytes (drop n pieces)) (2 ^ 64 - 1)) none
