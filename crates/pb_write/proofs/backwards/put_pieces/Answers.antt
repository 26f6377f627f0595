use Rattle.std.proofs.Common.{◌≡◌, ◌-◌, ◌*◌, ◌<◌, ◌≤◌, ◌∷◌, [], ◌++◌, ℕ, suc, List, length, drop, Some, refl, sym, ap, ◌∙◌, subst, arith}
use Rattle.std.specs.List.{concat}
use Rattle.msg_layout.specs.Slots.{array_slot}
use Rattle.dyn_message.specs.Feet.{Foot}
use Rattle.dyn_message.specs.Slots.{part}
use Rattle.dyn_message.specs.Strings.{HoldsBytes}
use Rattle.dyn_message.specs.Stands.{PiecesStand}
use Rattle.dyn_message.proofs.Appending.{count_is}
use Rattle.arena_mem.specs.Places.{Places, Buffers}
use Rattle.std.specs.Prelude.{slice_get}
use Rattle.dyn_message.proofs.UnknownLaws.{piece_at}
use Rattle.pb_write.proofs.Gaining.{gains_nothing, gains_same, gains_two}
use Rattle.pb_write.proofs.Lists.{array_live, count_same, elements_there, element_fits, part_long}
use Rattle.pb_write.proofs.Parts.{piece_text_at, pieces_end}
use Rattle.pb_write.proofs.backwards.put_pieces.Goals as goal

no_pieces : (pieces : List (List ℕ)) → length pieces ≡ 0 → [] ≡ concat pieces
no_pieces [] none = refl
no_pieces (piece ∷ pieces) none = absurd (omega (arith, none))

pub returns-then-count-eq0 : goal.returns-then-count-eq0
returns-then-count-eq0 g c = λ pieces feet holds.
    let A = g.T.Target.holds c.args.target.now in
    gains_same A A [] (concat pieces) (no_pieces pieces (sym (count_is (g.M.Memory.places c.args.mem.now) array_slot (length pieces) (part c.args.at array_slot c.args.bytes.now) feet holds) ∙ sym c.list_at-count.ensures.count ∙ c.if-count-eq0.true)) (gains_nothing A)

pub read-elements-requires : goal.read-elements-requires
read-elements-requires g c =
    array_live (g.M.Memory.places c.args.mem.now) array_slot (length c.requires.stand.0) (part c.args.at array_slot c.args.bytes.now) c.requires.stand.1 c.requires.stand.2 c.list_at-count.result.0 c.list_at-count.result.1 c.list_at-count.ensures.place c.list_at-count.ensures.count c.if-count-eq0.false

pub pieces-init : goal.pieces-init
pieces-init g c = record {
  within = omega arith;
  gained = λ pieces feet holds.
      let A = g.T.Target.holds c.args.target.now in
      let same = count_same (g.M.Memory.places c.args.mem.now) array_slot (length pieces) (part c.args.at array_slot c.args.bytes.now) feet holds c.list_at-count.result.0 c.list_at-count.result.1 c.list_at-count.ensures.place c.list_at-count.ensures.count c.if-count-eq0.false in
      gains_same A A [] (concat (drop c.list_at-count.result.1 pieces)) (sym (ap (λ n. concat (drop n pieces)) same ∙ pieces_end pieces)) (gains_nothing A);
}

pub overflow_mul-i : goal.overflow_mul-i
overflow_mul-i g c =
    let there = elements_there (g.M.Memory.places c.args.mem.now) array_slot (length c.requires.stand.0) (part c.args.at array_slot c.args.bytes.now) c.requires.stand.1 c.requires.stand.2 c.list_at-count.result.0 c.list_at-count.result.1 c.list_at-count.ensures.place c.list_at-count.ensures.count c.if-count-eq0.false c.read-elements.result.now c.read-elements.ensures.value in
    let most = there.most in
    let less = c.pieces.invariant.within in
    omega (arith, most, less)

pub slot_at-requires : goal.slot_at-requires
slot_at-requires g c =
    let there = elements_there (g.M.Memory.places c.args.mem.now) array_slot (length c.requires.stand.0) (part c.args.at array_slot c.args.bytes.now) c.requires.stand.1 c.requires.stand.2 c.list_at-count.result.0 c.list_at-count.result.1 c.list_at-count.ensures.place c.list_at-count.ensures.count c.if-count-eq0.false c.read-elements.result.now c.read-elements.ensures.value in
    let within = c.pieces.invariant.within in
    let some = c.pieces-test.true in
    element_fits (c.pieces.i - 1) c.list_at-count.result.1 24 (length c.read-elements.result.now) (omega (arith, within, some)) there.fit

pub bytes_in-requires-clause-size : goal.bytes_in-requires-clause-size
bytes_in-requires-clause-size g c =
    let there = elements_there (g.M.Memory.places c.args.mem.now) array_slot (length c.requires.stand.0) (part c.args.at array_slot c.args.bytes.now) c.requires.stand.1 c.requires.stand.2 c.list_at-count.result.0 c.list_at-count.result.1 c.list_at-count.ensures.place c.list_at-count.ensures.count c.if-count-eq0.false c.read-elements.result.now c.read-elements.ensures.value in
    let within = c.pieces.invariant.within in
    let some = c.pieces-test.true in
    let fits = element_fits (c.pieces.i - 1) c.list_at-count.result.1 24 (length c.read-elements.result.now) (omega (arith, within, some)) there.fit in
    omega (arith, ap (λ (s : List ℕ). length s) c.slot_at.ensures, part_long ((c.pieces.i - 1) * 24) 24 c.read-elements.result.now fits)

-- the piece of this index, by its slot
piece_of : (places : Places) (buffers : Buffers) (pieces : List (List ℕ)) (feet : List Foot) (elements slot : List ℕ) (i count : ℕ) → PiecesStand places buffers elements pieces feet → count ≡ length pieces → 0 < i → i ≤ count → slot ≡ part ((i - 1) * 24) 24 elements
    → (piece : List ℕ) × (own : List Foot) × (slice_get pieces (i - 1) ≡ Some piece) × HoldsBytes places buffers slot piece own
piece_of places buffers pieces feet elements slot i count stand same some within is =
    let at = piece_at places buffers elements pieces feet (i - 1) stand (omega (arith, same, some, within)) in
    (at.0, at.1, at.2, subst (λ s. HoldsBytes places buffers s at.0 at.1) (sym is) at.3)

pub bytes_in-requires-clause-holds : goal.bytes_in-requires-clause-holds
bytes_in-requires-clause-holds g c =
    let there = elements_there (g.M.Memory.places c.args.mem.now) array_slot (length c.requires.stand.0) (part c.args.at array_slot c.args.bytes.now) c.requires.stand.1 c.requires.stand.2 c.list_at-count.result.0 c.list_at-count.result.1 c.list_at-count.ensures.place c.list_at-count.ensures.count c.if-count-eq0.false c.read-elements.result.now c.read-elements.ensures.value in
    let same = count_same (g.M.Memory.places c.args.mem.now) array_slot (length c.requires.stand.0) (part c.args.at array_slot c.args.bytes.now) c.requires.stand.1 c.requires.stand.2 c.list_at-count.result.0 c.list_at-count.result.1 c.list_at-count.ensures.place c.list_at-count.ensures.count c.if-count-eq0.false in
    let at = piece_of (g.M.Memory.places c.args.mem.now) (g.M.Memory.buffers c.args.mem.now) c.requires.stand.0 there.behind c.read-elements.result.now c.slot_at.result.now c.pieces.i c.list_at-count.result.1 there.stand same c.pieces-test.true c.pieces.invariant.within c.slot_at.ensures in
    (at.0, at.1, at.3)

pub pieces-preserved : goal.pieces-preserved
pieces-preserved g c = record {
  within = omega (arith, c.pieces.invariant.within);
  gained = λ pieces feet holds.
      let there = elements_there (g.M.Memory.places c.args.mem.now) array_slot (length pieces) (part c.args.at array_slot c.args.bytes.now) feet holds c.list_at-count.result.0 c.list_at-count.result.1 c.list_at-count.ensures.place c.list_at-count.ensures.count c.if-count-eq0.false c.read-elements.result.now c.read-elements.ensures.value in
      let same = count_same (g.M.Memory.places c.args.mem.now) array_slot (length pieces) (part c.args.at array_slot c.args.bytes.now) feet holds c.list_at-count.result.0 c.list_at-count.result.1 c.list_at-count.ensures.place c.list_at-count.ensures.count c.if-count-eq0.false in
      let at = piece_of (g.M.Memory.places c.args.mem.now) (g.M.Memory.buffers c.args.mem.now) pieces there.behind c.read-elements.result.now c.slot_at.result.now c.pieces.i c.list_at-count.result.1 there.stand same c.pieces-test.true c.pieces.invariant.within c.slot_at.ensures in
      let A = g.T.Target.holds c.args.target.now in
      let B = g.T.Target.holds c.pieces.target in
      let C = g.T.Target.holds c.put_bytes.new.self in
      let is = c.bytes_in.ensures at.0 at.1 at.3 in
      let some = c.pieces-test.true in
      let next : suc (c.pieces.i - 1) ≡ c.pieces.i = omega (arith, some) in
      gains_same A C (at.0 ++ concat (drop c.pieces.i pieces)) (concat (drop (c.pieces.i - 1) pieces)) (sym (piece_text_at pieces (c.pieces.i - 1) at.0 at.2 ∙ ap (λ n. at.0 ++ concat (drop n pieces)) next))
      (gains_two A B C (concat (drop c.pieces.i pieces)) at.0 (c.pieces.invariant.gained pieces feet holds) (gains_same B C c.bytes_in.result.now at.0 is c.in_ok-put_bytes.ensures));
}

pub returns : goal.returns
returns g c = λ pieces feet holds.
    let A = g.T.Target.holds c.args.target.now in
    let B = g.T.Target.holds c.pieces.target in
    let none : c.pieces.i ≡ 0 = omega (arith, c.pieces-test.false) in
    gains_same A B (concat (drop c.pieces.i pieces)) (concat pieces) (ap (λ n. concat (drop n pieces)) none) (c.pieces.invariant.gained pieces feet holds)
