use Rattle.std.proofs.Common.{◌≡◌, ◌+◌, ◌*◌, length, drop, refl, ap, ◌∙◌, arith}
use Rattle.pb_schema.specs.Meter.{array_bytes, cleanups, string_bytes}
use Rattle.pb_schema.proofs.MeterLaws.{placed_in_parts}
use Rattle.dyn_message.specs.Unknown.{pieces_of}
use Rattle.pb_parse.proofs.Memories.{nothing_changes, then_within}
use Rattle.msg_merge.specs.Merging.{pieces_count}
use Rattle.msg_merge.proofs.Listed.{stands_as, string_grown, kept_more}
use Rattle.msg_merge.proofs.Pieced.{pieced_none, pieced_more, pieced_all, piece_left, piece_of, same_pieces, drop_all}
use Rattle.msg_merge.proofs.lists.merge_pieces.Goals as goal

pub pieces-init : goal.pieces-init
pieces-init g c =
    record {
      within = omega arith;
      listed = λ t feet u own st su. pieced_none c.args.types.now c.args.to (g.M.Memory.places c.args.to_mem.now) (g.M.Memory.buffers c.args.to_mem.now) (pieces_of u) t feet st;
      space = λ t feet u own st su.
          let n = length (pieces_of t) in
          let none = (placed_in_parts (λ type_no. 0)).none 24 n in
          let same = ap (array_bytes 24 n) {x = n + 0} {y = n} (omega arith) in
          omega (arith, none, same);
      kept = λ u own su. refl;
      changes = λ t feet st. let M = g.M.Memory in nothing_changes M.key M.places M.buffers M.blocks feet c.args.to_mem.now;
    }

pub append_unknown-requires-clause-message : goal.append_unknown-requires-clause-message
append_unknown-requires-clause-message g c =
    let r = c.requires.to in let f = c.requires.from in
    let l = c.pieces.invariant.listed r.0 r.1 f.0 f.1 r.2 f.2 in
    (l.shape, l.stands.now, l.stands.stands)

pub append_unknown-requires-clause-whole : goal.append_unknown-requires-clause-whole
append_unknown-requires-clause-whole g c =
    let f = c.requires.from in
    let su = stands_as c.args.types.now (g.N.Memory.places c.args.from_mem.now) (g.N.Memory.buffers c.args.from_mem.now) c.args.from c.args.to.type_no f.0 f.1 c.requires.same f.2 in
    (piece_of c.args.types.now (g.N.Memory.places c.args.from_mem.now) (g.N.Memory.buffers c.args.from_mem.now) _ f.0 f.1 c.pieces.i c.unknown_element-piece.result.now su (c.unknown_element-piece.ensures f.0 f.1 su)).whole

pub append_unknown-requires-clause-some : goal.append_unknown-requires-clause-some
append_unknown-requires-clause-some g c =
    let f = c.requires.from in
    let su = stands_as c.args.types.now (g.N.Memory.places c.args.from_mem.now) (g.N.Memory.buffers c.args.from_mem.now) c.args.from c.args.to.type_no f.0 f.1 c.requires.same f.2 in
    (piece_of c.args.types.now (g.N.Memory.places c.args.from_mem.now) (g.N.Memory.buffers c.args.from_mem.now) _ f.0 f.1 c.pieces.i c.unknown_element-piece.result.now su (c.unknown_element-piece.ensures f.0 f.1 su)).some

pub append_unknown-requires-clause-short : goal.append_unknown-requires-clause-short
append_unknown-requires-clause-short g c =
    let f = c.requires.from in
    let su = stands_as c.args.types.now (g.N.Memory.places c.args.from_mem.now) (g.N.Memory.buffers c.args.from_mem.now) c.args.from c.args.to.type_no f.0 f.1 c.requires.same f.2 in
    (piece_of c.args.types.now (g.N.Memory.places c.args.from_mem.now) (g.N.Memory.buffers c.args.from_mem.now) _ f.0 f.1 c.pieces.i c.unknown_element-piece.result.now su (c.unknown_element-piece.ensures f.0 f.1 su)).short

pub append_unknown-requires-clause-few : goal.append_unknown-requires-clause-few
append_unknown-requires-clause-few g c = λ t feet st.
    let r = c.requires.to in let f = c.requires.from in
    let l = c.pieces.invariant.listed r.0 r.1 f.0 f.1 r.2 f.2 in
    let su = stands_as c.args.types.now (g.N.Memory.places c.args.from_mem.now) (g.N.Memory.buffers c.args.from_mem.now) c.args.from c.args.to.type_no f.0 f.1 c.requires.same f.2 in
    let same = same_pieces c.args.types.now (g.M.Memory.places c.pieces.to_mem) (g.M.Memory.buffers c.pieces.to_mem) c.args.to t l.shape feet l.stands.now st l.stands.stands in
    omega (arith, same, l.count, c.pieces-test.true, c.unknown_count-len.ensures f.0 f.1 su, c.requires.few r.0 r.1 f.0 f.1 r.2 f.2)

pub returns-in_err-append_unknown-clause-changes : goal.returns-in_err-append_unknown-clause-changes
returns-in_err-append_unknown-clause-changes g c = λ t feet u own st su.
    let l = c.pieces.invariant.listed t feet u own st su in
    let their = stands_as c.args.types.now (g.N.Memory.places c.args.from_mem.now) (g.N.Memory.buffers c.args.from_mem.now) c.args.from c.args.to.type_no u own c.requires.same su in
    let less = c.pieces-test.true in let len = c.unknown_count-len.ensures u own their in
    let M = g.M.Memory in
    then_within M.key M.places M.buffers M.blocks (2 * c.pieces.i) 2 c.pieces.i 1 (2 * length (pieces_of u)) (length (pieces_of u)) feet l.stands.now c.args.to_mem.now c.pieces.to_mem c.append_unknown.new.mem
    (c.pieces.invariant.changes t feet st) l.stands.from (c.append_unknown.ensures.changes l.shape l.stands.now l.stands.stands) (omega (arith, less, len)) (omega (arith, less, len))

pub pieces-preserved : goal.pieces-preserved
pieces-preserved g c =
    let r = c.requires.to in let f = c.requires.from in
    record {
      within = omega (arith, c.pieces-test.true);
      listed = λ t feet u own st su.
          let l = c.pieces.invariant.listed t feet u own st su in
          let their = stands_as c.args.types.now (g.N.Memory.places c.args.from_mem.now) (g.N.Memory.buffers c.args.from_mem.now) c.args.from c.args.to.type_no u own c.requires.same su in
          pieced_more c.args.types.now c.args.to (g.M.Memory.places c.args.to_mem.now) (g.M.Memory.places c.pieces.to_mem) (g.M.Memory.places c.append_unknown.new.mem) (g.M.Memory.buffers c.args.to_mem.now) (g.M.Memory.buffers c.pieces.to_mem) (g.M.Memory.buffers c.append_unknown.new.mem)
          (pieces_of u) c.pieces.i (c.pieces.i + 1) (omega arith) c.unknown_element-piece.result.now t feet (c.pieces.invariant.changes t feet st).still_there l (c.unknown_element-piece.ensures u own their) (c.in_ok-append_unknown.ensures.appended l.shape l.stands.now l.stands.stands);
      space = λ t feet u own st su.
          let l = c.pieces.invariant.listed t feet u own st su in
          let their = stands_as c.args.types.now (g.N.Memory.places c.args.from_mem.now) (g.N.Memory.buffers c.args.from_mem.now) c.args.from c.args.to.type_no u own c.requires.same su in
          let values = pieces_of u in
          string_grown (length (pieces_of t)) c.pieces.i (length (pieces_of l.shape)) (string_bytes (length c.unknown_element-piece.result.now)) (pieces_count string_bytes (drop c.pieces.i values)) (pieces_count string_bytes (drop (c.pieces.i + 1) values)) (pieces_count string_bytes values) _ _ _ l.count
          (piece_left string_bytes values c.pieces.i (c.pieces.i + 1) (omega arith) c.unknown_element-piece.result.now (c.unknown_element-piece.ensures u own their)) (c.pieces.invariant.space t feet u own st su) (c.in_ok-append_unknown.ensures.space l.shape l.stands.now l.stands.stands);
      kept = λ u own su.
          let their = stands_as c.args.types.now (g.N.Memory.places c.args.from_mem.now) (g.N.Memory.buffers c.args.from_mem.now) c.args.from c.args.to.type_no u own c.requires.same su in
          let values = pieces_of u in
          let left = piece_left cleanups.bytes values c.pieces.i (c.pieces.i + 1) (omega arith) c.unknown_element-piece.result.now (c.unknown_element-piece.ensures u own their) in
          let before = c.pieces.invariant.kept u own su in let more = c.in_ok-append_unknown.ensures.kept in
          kept_more _ _ _ _ _ _ _ left before more;
      changes = λ t feet st.
          let l = c.pieces.invariant.listed t feet f.0 f.1 st f.2 in
          let M = g.M.Memory in
          then_within M.key M.places M.buffers M.blocks (2 * c.pieces.i) 2 c.pieces.i 1 (2 * (c.pieces.i + 1)) (c.pieces.i + 1) feet l.stands.now c.args.to_mem.now c.pieces.to_mem c.append_unknown.new.mem
          (c.pieces.invariant.changes t feet st) l.stands.from (c.in_ok-append_unknown.ensures.changes l.shape l.stands.now l.stands.stands) (omega arith) (omega arith);
    }

pub returns-clause-merged : goal.returns-clause-merged
returns-clause-merged g c = λ t feet u own st su.
    let l = c.pieces.invariant.listed t feet u own st su in
    let their = stands_as c.args.types.now (g.N.Memory.places c.args.from_mem.now) (g.N.Memory.buffers c.args.from_mem.now) c.args.from c.args.to.type_no u own c.requires.same su in
    let values = pieces_of u in
    let within = c.pieces.invariant.within in let done = c.pieces-test.false in let len = c.unknown_count-len.ensures u own their in
    let all : c.pieces.i ≡ length (values) = omega (arith, within, done, len) in
    pieced_all c.args.types.now c.args.to (g.M.Memory.places c.args.to_mem.now) (g.M.Memory.places c.pieces.to_mem) (g.M.Memory.buffers c.args.to_mem.now) (g.M.Memory.buffers c.pieces.to_mem) values c.pieces.i t feet (ap (λ n. drop n values) all ∙ drop_all values) l

pub returns-clause-space : goal.returns-clause-space
returns-clause-space g c = λ t feet u own st su.
    let their = stands_as c.args.types.now (g.N.Memory.places c.args.from_mem.now) (g.N.Memory.buffers c.args.from_mem.now) c.args.from c.args.to.type_no u own c.requires.same su in
    let values = pieces_of u in
    let within = c.pieces.invariant.within in let done = c.pieces-test.false in let len = c.unknown_count-len.ensures u own their in
    let all : c.pieces.i ≡ length (values) = omega (arith, within, done, len) in
    let none : pieces_count string_bytes (drop c.pieces.i values) ≡ 0 = ap (pieces_count string_bytes) (ap (λ n. drop n values) all ∙ drop_all values) in
    let n = length (pieces_of t) in
    let grown = ap (λ k. array_bytes 24 n (n + k)) all in
    omega (arith, c.pieces.invariant.space t feet u own st su, none, grown)

pub returns-clause-kept : goal.returns-clause-kept
returns-clause-kept g c = λ u own su.
    let their = stands_as c.args.types.now (g.N.Memory.places c.args.from_mem.now) (g.N.Memory.buffers c.args.from_mem.now) c.args.from c.args.to.type_no u own c.requires.same su in
    let values = pieces_of u in
    let within = c.pieces.invariant.within in let done = c.pieces-test.false in let len = c.unknown_count-len.ensures u own their in
    let all : c.pieces.i ≡ length (values) = omega (arith, within, done, len) in
    let none : pieces_count cleanups.bytes (drop c.pieces.i values) ≡ 0 = ap (pieces_count cleanups.bytes) (ap (λ n. drop n values) all ∙ drop_all values) in
    omega (arith, c.pieces.invariant.kept u own su, none)
