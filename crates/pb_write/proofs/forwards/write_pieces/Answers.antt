use Rattle.std.proofs.Common.{◌≡◌, ◌+◌, ◌*◌, ◌<◌, ◌++◌, ℕ, suc, List, length, drop, Some, sym, ap, ◌∙◌, subst, arith}
use Rattle.std.specs.Prelude.{slice_get}
use Rattle.std.specs.List.{concat}
use Rattle.std.proofs.lemmas.Result.{err_from_is_err_and}
use Rattle.arena_mem.specs.Outside.{Gathers, TookPart}
use Rattle.arena_mem.specs.Places.{Places, Buffers}
use Rattle.msg_layout.specs.Slots.{array_slot}
use Rattle.dyn_message.specs.Feet.{Foot}
use Rattle.dyn_message.specs.Slots.{part}
use Rattle.dyn_message.specs.Stands.{PiecesStand}
use Rattle.dyn_message.specs.Strings.{HoldsBytes}
use Rattle.dyn_message.proofs.UnknownLaws.{piece_at}
use Rattle.pb_write.specs.Writes.{gathered_in}
use Rattle.pb_write.proofs.Lists.{array_live, count_same, elements_there, element_fits, part_long}
use Rattle.pb_write.proofs.Parts.{piece_text_at, pieces_end}
use Rattle.pb_write.proofs.Taken.{KeepsTaken-trans, Counts-trans}
use Rattle.pb_write.proofs.Writing.{IsWritten, written_more, written_failed, written_all, failed_with}
use Rattle.pb_write.proofs.forwards.write_pieces.Goals as goal

-- the piece of this index, by its slot
piece_here : (places : Places) (buffers : Buffers) (pieces : List (List ℕ)) (feet : List Foot) (elements slot : List ℕ) (i count : ℕ) → PiecesStand places buffers elements pieces feet → count ≡ length pieces → i < count → slot ≡ part (i * 24) 24 elements
    → (piece : List ℕ) × (own : List Foot) × (slice_get pieces i ≡ Some piece) × HoldsBytes places buffers slot piece own
piece_here places buffers pieces feet elements slot i count stand same less is =
    let at = piece_at places buffers elements pieces feet i stand (omega (arith, same, less)) in
    (at.0, at.1, at.2, subst (λ s. HoldsBytes places buffers s at.0 at.1) (sym is) at.3)

pub read-elements-requires : goal.read-elements-requires
read-elements-requires g c = array_live (g.M.Memory.places c.args.mem.now) array_slot (length c.requires.stand.0) (part c.args.at array_slot c.args.bytes.now) c.requires.stand.1 c.requires.stand.2 c.list_at-count.result.0 c.list_at-count.result.1 c.list_at-count.ensures.place c.list_at-count.ensures.count c.if-count-eq0.false

pub overflow_mul-i : goal.overflow_mul-i
overflow_mul-i g c =
    let there = elements_there (g.M.Memory.places c.args.mem.now) array_slot (length c.requires.stand.0) (part c.args.at array_slot c.args.bytes.now) c.requires.stand.1 c.requires.stand.2 c.list_at-count.result.0 c.list_at-count.result.1 c.list_at-count.ensures.place c.list_at-count.ensures.count c.if-count-eq0.false c.read-elements.result.now c.read-elements.ensures.value in
    let same = count_same (g.M.Memory.places c.args.mem.now) array_slot (length c.requires.stand.0) (part c.args.at array_slot c.args.bytes.now) c.requires.stand.1 c.requires.stand.2 c.list_at-count.result.0 c.list_at-count.result.1 c.list_at-count.ensures.place c.list_at-count.ensures.count c.if-count-eq0.false in
    let most = there.most in let less = c.pieces-test.true in
    omega (arith, most, less)

pub slot_at-requires : goal.slot_at-requires
slot_at-requires g c =
    let there = elements_there (g.M.Memory.places c.args.mem.now) array_slot (length c.requires.stand.0) (part c.args.at array_slot c.args.bytes.now) c.requires.stand.1 c.requires.stand.2 c.list_at-count.result.0 c.list_at-count.result.1 c.list_at-count.ensures.place c.list_at-count.ensures.count c.if-count-eq0.false c.read-elements.result.now c.read-elements.ensures.value in
    let same = count_same (g.M.Memory.places c.args.mem.now) array_slot (length c.requires.stand.0) (part c.args.at array_slot c.args.bytes.now) c.requires.stand.1 c.requires.stand.2 c.list_at-count.result.0 c.list_at-count.result.1 c.list_at-count.ensures.place c.list_at-count.ensures.count c.if-count-eq0.false in
    element_fits c.pieces.i c.list_at-count.result.1 24 (length c.read-elements.result.now) c.pieces-test.true there.fit

pub bytes_in-requires-clause-size : goal.bytes_in-requires-clause-size
bytes_in-requires-clause-size g c =
    let there = elements_there (g.M.Memory.places c.args.mem.now) array_slot (length c.requires.stand.0) (part c.args.at array_slot c.args.bytes.now) c.requires.stand.1 c.requires.stand.2 c.list_at-count.result.0 c.list_at-count.result.1 c.list_at-count.ensures.place c.list_at-count.ensures.count c.if-count-eq0.false c.read-elements.result.now c.read-elements.ensures.value in
    let same = count_same (g.M.Memory.places c.args.mem.now) array_slot (length c.requires.stand.0) (part c.args.at array_slot c.args.bytes.now) c.requires.stand.1 c.requires.stand.2 c.list_at-count.result.0 c.list_at-count.result.1 c.list_at-count.ensures.place c.list_at-count.ensures.count c.if-count-eq0.false in
    omega (arith, ap (λ (s : List ℕ). length s) c.slot_at.ensures, part_long (c.pieces.i * 24) 24 c.read-elements.result.now (element_fits c.pieces.i c.list_at-count.result.1 24 (length c.read-elements.result.now) c.pieces-test.true there.fit))

pub bytes_in-requires-clause-holds : goal.bytes_in-requires-clause-holds
bytes_in-requires-clause-holds g c =
    let there = elements_there (g.M.Memory.places c.args.mem.now) array_slot (length c.requires.stand.0) (part c.args.at array_slot c.args.bytes.now) c.requires.stand.1 c.requires.stand.2 c.list_at-count.result.0 c.list_at-count.result.1 c.list_at-count.ensures.place c.list_at-count.ensures.count c.if-count-eq0.false c.read-elements.result.now c.read-elements.ensures.value in
    let same = count_same (g.M.Memory.places c.args.mem.now) array_slot (length c.requires.stand.0) (part c.args.at array_slot c.args.bytes.now) c.requires.stand.1 c.requires.stand.2 c.list_at-count.result.0 c.list_at-count.result.1 c.list_at-count.ensures.place c.list_at-count.ensures.count c.if-count-eq0.false in
    let at = piece_here (g.M.Memory.places c.args.mem.now) (g.M.Memory.buffers c.args.mem.now) c.requires.stand.0 there.behind c.read-elements.result.now c.slot_at.result.now c.pieces.i c.list_at-count.result.1 there.stand same c.pieces-test.true c.slot_at.ensures in
    (at.0, at.1, at.3)

pub returns-in_err-gather-clause-written : goal.returns-in_err-gather-clause-written
returns-in_err-gather-clause-written g c = λ pieces feet holds short.
    let p = err_from_is_err_and c.from_residual.result c.from_residual.ensures.1 in
    let there = elements_there (g.M.Memory.places c.args.mem.now) array_slot (length pieces) (part c.args.at array_slot c.args.bytes.now) feet holds c.list_at-count.result.0 c.list_at-count.result.1 c.list_at-count.ensures.place c.list_at-count.ensures.count c.if-count-eq0.false c.read-elements.result.now c.read-elements.ensures.value in
    let same = count_same (g.M.Memory.places c.args.mem.now) array_slot (length pieces) (part c.args.at array_slot c.args.bytes.now) feet holds c.list_at-count.result.0 c.list_at-count.result.1 c.list_at-count.ensures.place c.list_at-count.ensures.count c.if-count-eq0.false in
    let at = piece_here (g.M.Memory.places c.args.mem.now) (g.M.Memory.buffers c.args.mem.now) pieces there.behind c.read-elements.result.now c.slot_at.result.now c.pieces.i c.list_at-count.result.1 there.stand same c.pieces-test.true c.slot_at.ensures in
    let is = c.bytes_in.ensures at.0 at.1 at.3 in
    let own = at.0 in
    let whole = concat pieces in
    let rest = concat (drop c.pieces.i pieces) in
    let later = concat (drop (suc c.pieces.i) pieces) in
    let rest_is : rest ≡ own ++ later = piece_text_at pieces c.pieces.i at.0 at.2 in
    let so_far = c.pieces.invariant.written pieces feet holds in
    let a = (g.S.Sink.taken c.args.sink.now) in let b = (g.S.Sink.taken c.pieces.sink) in let d = (g.S.Sink.taken c.gather.new.sink) in
    let before = (gathered_in c.args.out.now) in let middle = (gathered_in c.pieces.out) in let after = (gathered_in c.gather.new.out) in
    failed_with a d before after whole c.from_residual.result p.0 p.1
    (written_failed a b d before middle whole rest own later c.pieces.invariant.longer so_far rest_is (subst (λ l. TookPart b d (middle ++ l)) is c.in_err-gather.ensures.written.err))

pub pieces-preserved : goal.pieces-preserved
pieces-preserved g c = record {
  within = omega (arith, c.pieces-test.true);
  longer = KeepsTaken-trans (g.S.Sink.taken c.args.sink.now) (g.S.Sink.taken c.pieces.sink) (g.S.Sink.taken c.gather.new.sink) c.pieces.invariant.longer c.in_ok-gather.ensures.sent.longer;
  counted = Counts-trans (g.S.Sink.taken c.args.sink.now) (g.S.Sink.taken c.pieces.sink) (g.S.Sink.taken c.gather.new.sink) c.args.out.now.taken c.pieces.out.taken c.gather.new.out.taken c.pieces.invariant.counted c.in_ok-gather.ensures.counted;
  faults = omega (arith, c.pieces.invariant.faults, c.in_ok-gather.ensures.sent.cause.never_falls);
  written = λ pieces feet holds.
      let there = elements_there (g.M.Memory.places c.args.mem.now) array_slot (length pieces) (part c.args.at array_slot c.args.bytes.now) feet holds c.list_at-count.result.0 c.list_at-count.result.1 c.list_at-count.ensures.place c.list_at-count.ensures.count c.if-count-eq0.false c.read-elements.result.now c.read-elements.ensures.value in
      let same = count_same (g.M.Memory.places c.args.mem.now) array_slot (length pieces) (part c.args.at array_slot c.args.bytes.now) feet holds c.list_at-count.result.0 c.list_at-count.result.1 c.list_at-count.ensures.place c.list_at-count.ensures.count c.if-count-eq0.false in
      let at = piece_here (g.M.Memory.places c.args.mem.now) (g.M.Memory.buffers c.args.mem.now) pieces there.behind c.read-elements.result.now c.slot_at.result.now c.pieces.i c.list_at-count.result.1 there.stand same c.pieces-test.true c.slot_at.ensures in
      let is = c.bytes_in.ensures at.0 at.1 at.3 in
      let own = at.0 in
      let whole = concat pieces in
      let rest = concat (drop c.pieces.i pieces) in
      let later = concat (drop (suc c.pieces.i) pieces) in
      let rest_is : rest ≡ own ++ later = piece_text_at pieces c.pieces.i at.0 at.2 in
      let so_far = c.pieces.invariant.written pieces feet holds in
      let a = (g.S.Sink.taken c.args.sink.now) in let b = (g.S.Sink.taken c.pieces.sink) in let d = (g.S.Sink.taken c.gather.new.sink) in
      let before = (gathered_in c.args.out.now) in let middle = (gathered_in c.pieces.out) in let after = (gathered_in c.gather.new.out) in
      let done = written_more a b d before middle after whole rest own later so_far rest_is (subst (λ l. Gathers b middle d after l) is c.in_ok-gather.ensures.written.ok) in
      let next : suc c.pieces.i ≡ c.pieces.i + 1 = omega arith in
      subst (λ n. IsWritten a before d after whole (concat (drop n pieces))) next done;
}

pub returns-clause-written : goal.returns-clause-written
returns-clause-written g c = λ pieces feet holds short.
    let same = count_same (g.M.Memory.places c.args.mem.now) array_slot (length pieces) (part c.args.at array_slot c.args.bytes.now) feet holds c.list_at-count.result.0 c.list_at-count.result.1 c.list_at-count.ensures.place c.list_at-count.ensures.count c.if-count-eq0.false in
    let less = c.pieces.invariant.within in let past = c.pieces-test.false in
    let last : c.pieces.i ≡ length pieces = omega (arith, less, past, same) in
    record {
      ok = written_all (g.S.Sink.taken c.args.sink.now) (g.S.Sink.taken c.pieces.sink) (gathered_in c.args.out.now) (gathered_in c.pieces.out) (concat pieces) (concat (drop c.pieces.i pieces)) (c.pieces.invariant.written pieces feet holds) (ap (λ n. concat (drop n pieces)) last ∙ pieces_end pieces);
      err = tt;
    }
