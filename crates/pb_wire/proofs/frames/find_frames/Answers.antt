use Rattle.std.proofs.Common.{◌≡◌, ◌+◌, [], ◌∷◌, ◌++◌, length, drop, cond, sym, ap, ◌∙◌, subst, arith}
use Rattle.std.proofs.lemmas.List.{length_push, length-map, map-append}
use Rattle.std.proofs.lemmas.List.Elements.{All-push}
use Rattle.pb_schema.specs.Frames.{frame_at}
use Rattle.pb_wire.specs.FramePlaces.{payload_in, payload_at, payload_of, payloads_at, Begins, AllBegin}
use Rattle.pb_wire.proofs.Framing.{ReadTo, FollowTo, follow_none, follow_more, follow_all, frame_found, no_frame_found, begins, read_none, read_frame, read_cut, read_many, read_all}
use Rattle.pb_wire.proofs.frames.find_frames.Goals as goal

pub loop-at-init : goal.loop-at-init
loop-at-init c =
    let none = c.with_room-starts.ensures in
    let count = ap length none in
    record {
      within = omega arith;
      few = omega (arith, count);
      begin = λ k d h. absurd (omega (arith, h, count));
      follow = follow_none c.args.bytes.now c.with_room-starts.result.items none;
      read = subst (λ starts. ReadTo c.args.bytes.now 0 (payloads_at c.args.bytes.now starts)) (sym none) (read_none c.args.bytes.now);
    }

pub returns-then-len-ge-MOST_FRAMES-clause-exact : goal.returns-then-len-ge-MOST_FRAMES-clause-exact
returns-then-len-ge-MOST_FRAMES-clause-exact c =
    let starts = c.loop-at.starts.items in
    let bytes = c.args.bytes.now in
    read_many bytes c.loop-at.at (payloads_at bytes starts) c.loop-at.invariant.read c.loop-at-test.true (omega (arith, length-map starts (payload_at bytes), c.len.ensures, c.loop-at.starts.ok.0, c.if-len-ge-MOST_FRAMES.true))

pub returns-in_default-clause-exact : goal.returns-in_default-clause-exact
returns-in_default-clause-exact c =
    let starts = c.loop-at.starts.items in
    let bytes = c.args.bytes.now in
    read_cut bytes c.loop-at.at c.len-in_default.result (payloads_at bytes starts) c.loop-at.invariant.read c.loop-at-test.true
    (no_frame_found (frame_at (drop c.loop-at.at bytes)) c.loop-at.at c.in_default.ensures.found)
    (omega (arith, length-map starts (payload_at bytes), c.len-in_default.ensures, c.loop-at.starts.ok.0)) (omega (arith, c.len-in_default.ensures, c.len.ensures, c.if-len-ge-MOST_FRAMES.false))

pub loop-at-preserved : goal.loop-at-preserved
loop-at-preserved c =
    let bytes = c.args.bytes.now in
    let before = c.loop-at.starts.items in
    let at = c.loop-at.at in
    let place = c.in-Some.place in
    let found = frame_found (frame_at (drop at bytes)) at (payload_in bytes place) place.end c.in-Some.ensures.found in
    let here : payload_at bytes at ≡ payload_in bytes place = ap payload_of found.is in
    let pushed : c.push.new.self.items ≡ before ++ at ∷ [] = c.push.ensures.items ∙ ap (λ b. cond b (before ++ at ∷ []) before) c.if-is_err.ensures.negation in
    let count : length c.push.new.self.items ≡ length before + 1 = ap length pushed ∙ length_push before at in
    let read = read_frame bytes at found.bytes (payloads_at bytes before) (payload_in bytes place) c.loop-at.invariant.read c.loop-at-test.true found.is in
    let same = map-append (payload_at bytes) before (at ∷ []) ∙ ap (λ p. payloads_at bytes before ++ p ∷ []) here in
    record {
      within = c.in-Some.ensures.inside.0.end;
      few = omega (arith, count, c.len.ensures, c.loop-at.starts.ok.0, c.if-len-ge-MOST_FRAMES.false);
      begin = subst (AllBegin bytes) (sym pushed) (All-push (Begins bytes) before at c.loop-at.invariant.begin (begins bytes at (payload_in bytes place, found.bytes) c.loop-at.invariant.within found.is));
      follow =
          subst (FollowTo bytes place.end) (sym pushed)
          (subst (λ k. FollowTo bytes k (before ++ at ∷ [])) (sym found.end_is) (follow_more bytes at found.bytes before (payload_in bytes place) c.loop-at.invariant.follow c.loop-at-test.true found.is));
      read =
          subst (λ starts. ReadTo bytes place.end (payloads_at bytes starts)) (sym pushed)
          (subst (λ k. ReadTo bytes k (payloads_at bytes (before ++ at ∷ []))) (sym found.end_is)
          (subst (ReadTo bytes (at + found.bytes)) (sym same) read));
    }

pub returns-clause-exact : goal.returns-clause-exact
returns-clause-exact c =
    let starts = c.loop-at.starts.items in
    let bytes = c.args.bytes.now in
    read_all bytes c.loop-at.at (payloads_at bytes starts) c.loop-at.invariant.read c.loop-at-test.false (omega (arith, length-map starts (payload_at bytes), c.loop-at.invariant.few))

pub returns-clause-frames : goal.returns-clause-frames
returns-clause-frames c = record {
  begin = c.loop-at.invariant.begin;
  follow = follow_all c.args.bytes.now c.loop-at.at c.loop-at.starts.items c.loop-at.invariant.follow (omega (arith, c.loop-at-test.false));
}
