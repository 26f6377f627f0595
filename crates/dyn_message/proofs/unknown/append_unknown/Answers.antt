use Rattle.std.proofs.Common.{rules, ◌≡◌, ◌∙◌, ◌+◌, sym, ap, subst, length}
use Rattle.std.specs.Prelude.{Result, Ok, Err, OnErr}
use Rattle.pb_schema.specs.Meter.{array_bytes}
use Rattle.msg_layout.specs.Layout.{Layout, layout_of}
use Rattle.dyn_message.specs.Feet.{KeepsOthers}
use Rattle.dyn_message.specs.Slots.{word}
use Rattle.dyn_message.specs.Stands.{Stands, IsPieceIn}
use Rattle.dyn_message.specs.Rooms.{IsAppended, MayGrow, list_slot}
use Rattle.dyn_message.specs.Unknown.{with_piece, pieces_of}
use Rattle.dyn_message.proofs.Setting.{keeps_join, growth_keeps}
use Rattle.dyn_message.proofs.There.{bytes_there, message_there}
use Rattle.dyn_message.proofs.Appending.{appended_from, fresh_apart}
use Rattle.dyn_message.proofs.ListLaws.{stands_grown, none_before, changes_then}
use Rattle.dyn_message.proofs.UnknownLaws.{piece_appended, pieces_counted, unknown_may_grow}
use Rattle.dyn_message.proofs.unknown.append_unknown.Goals as goal

on_any : {T E : Type 0} {P : Type 0} (r : Result T E) → P → OnErr r P
on_any (Ok x) p = tt
on_any (Err e) p = p

pub append_element-requires-clause-list : goal.append_element-requires-clause-list
append_element-requires-clause-list g c =
    let M = g.M.Memory in
    let grows = c.in_ok-element.ensures.grows in
    let at_is : c.unknown-at.result ≡ (layout_of c.args.types.now c.args.msg.type_no).unknown = c.unknown-at.ensures ∙ ap (λ (l : Layout). l.unknown) c.of_type.ensures in
    let st = stands_grown c.args.types.now _ (M.places c.keep_bytes.new.mem) _ (M.buffers c.keep_bytes.new.mem) c.args.msg c.requires.message.0 c.requires.message.1 c.requires.message.2 grows.rest grows.buffers in
    let long : length c.in_ok-element.element ≡ 24 = search rules in
    subst (λ at. MayGrow (M.places c.keep_bytes.new.mem) (length c.in_ok-element.element) (list_slot (M.places c.keep_bytes.new.mem) c.args.msg.place at)) (sym at_is)
    (unknown_may_grow c.args.types.now (M.places c.keep_bytes.new.mem) (M.buffers c.keep_bytes.new.mem) c.args.msg (length c.in_ok-element.element) long c.requires.message.0 c.requires.message.1 st (c.requires.few c.requires.message.0 c.requires.message.1 c.requires.message.2))

pub returns-in_err-append_element-clause-stands : goal.returns-in_err-append_element-clause-stands
returns-in_err-append_element-clause-stands g c =
    let M = g.M.Memory in
    let grows = c.in_ok-element.ensures.grows in
    on_any c.from_residual-in_err-append_element.result (λ t feet st.
    let st1 = stands_grown c.args.types.now _ (M.places c.keep_bytes.new.mem) _ (M.buffers c.keep_bytes.new.mem) c.args.msg t feet st grows.rest grows.buffers in
    subst (λ b. Stands c.args.types.now (M.places c.append_element.new.mem) b c.args.msg t feet) (sym c.in_err-append_element.ensures.grows.buffers)
    (subst (λ p. Stands c.args.types.now p (M.buffers c.keep_bytes.new.mem) c.args.msg t feet) (sym c.in_err-append_element.ensures.unchanged) st1))

pub returns-in_err-append_element-clause-changes : goal.returns-in_err-append_element-clause-changes
returns-in_err-append_element-clause-changes g c = λ t feet st.
    let M = g.M.Memory in
    let grows = c.in_ok-element.ensures.grows in
    let keeps = growth_keeps (M.places c.args.mem.now) (M.places c.keep_bytes.new.mem) (M.buffers c.args.mem.now) (M.buffers c.keep_bytes.new.mem) feet grows.rest grows.buffers in
    changes_then M.key M.places M.buffers M.blocks 1 1 1 feet c.args.mem.now c.keep_bytes.new.mem c.append_element.new.mem grows c.in_err-append_element.ensures.grows
    (subst (λ b. KeepsOthers (M.places c.args.mem.now) (M.buffers c.args.mem.now) (M.places c.append_element.new.mem) b feet) (sym c.in_err-append_element.ensures.grows.buffers)
    (subst (λ p. KeepsOthers (M.places c.args.mem.now) (M.buffers c.args.mem.now) p (M.buffers c.keep_bytes.new.mem) feet) (sym c.in_err-append_element.ensures.unchanged) keeps))

pub returns-clause-appended : goal.returns-clause-appended
returns-clause-appended g c = λ t feet st.
    let M = g.M.Memory in
    let grows = c.in_ok-element.ensures.grows in
    let kept = c.in_ok-element.ensures.kept in
    let at_is : c.unknown-at.result ≡ (layout_of c.args.types.now c.args.msg.type_no).unknown = c.unknown-at.ensures ∙ ap (λ (l : Layout). l.unknown) c.of_type.ensures in
    let done = subst (λ at. IsAppended (M.places c.keep_bytes.new.mem) (M.places c.append_element.new.mem) c.args.msg.place at c.in_ok-element.element) at_is c.in_ok-append_element.ensures.appended in
    let st1 = stands_grown c.args.types.now _ (M.places c.keep_bytes.new.mem) _ (M.buffers c.keep_bytes.new.mem) c.args.msg t feet st grows.rest grows.buffers in
    let long : length c.in_ok-element.element ≡ 24 = search rules in
    let piece : IsPieceIn (M.places c.keep_bytes.new.mem) (M.buffers c.keep_bytes.new.mem) c.in_ok-element.element c.args.bytes.now kept.feet = record { some = c.requires.some; short = c.requires.short; whole = c.requires.whole; holds = kept.holds } in
    let there = message_there c.args.types.now (M.places c.args.mem.now) (M.buffers c.args.mem.now) c.args.msg.type_no c.args.msg.place t feet st.message in
    let a = piece_appended c.args.types.now c.record_is_there.ensures.lawful (M.places c.keep_bytes.new.mem) (M.places c.append_element.new.mem) (M.buffers c.keep_bytes.new.mem) c.args.msg c.args.bytes.now c.in_ok-element.element kept.feet long done t feet st1 (c.requires.few t feet st)
    piece kept.once (bytes_there c.args.types.now (M.places c.keep_bytes.new.mem) (M.buffers c.keep_bytes.new.mem) c.in_ok-element.element c.args.bytes.now kept.feet kept.holds)
    (λ foot among. fresh_apart (M.places c.args.mem.now) (M.buffers c.args.mem.now) feet foot there (kept.fresh foot among)) in
    let same : M.buffers c.append_element.new.mem ≡ M.buffers c.keep_bytes.new.mem = c.in_ok-append_element.ensures.grows.buffers in
    record {
      now = a.now;
      stands = subst (λ b. Stands c.args.types.now (M.places c.append_element.new.mem) b c.args.msg (with_piece c.args.bytes.now t) a.now) (sym same) a.stands;
      from = appended_from c.args.types.now (M.places c.args.mem.now) (M.places c.keep_bytes.new.mem) (M.places c.append_element.new.mem) (M.buffers c.args.mem.now) (M.buffers c.keep_bytes.new.mem) c.args.msg _ feet kept.feet done.array a
          (none_before (M.places c.args.mem.now) (M.places c.keep_bytes.new.mem) (M.buffers c.args.mem.now) (M.buffers c.keep_bytes.new.mem) grows.rest grows.buffers) kept.fresh;
    }

pub returns-clause-space : goal.returns-clause-space
returns-clause-space g c = λ t feet st.
    let M = g.M.Memory in
    let grows = c.in_ok-element.ensures.grows in
    let kept = c.in_ok-element.ensures.kept in
    let at_is : c.unknown-at.result ≡ (layout_of c.args.types.now c.args.msg.type_no).unknown = c.unknown-at.ensures ∙ ap (λ (l : Layout). l.unknown) c.of_type.ensures in
    let done = subst (λ at. IsAppended (M.places c.keep_bytes.new.mem) (M.places c.append_element.new.mem) c.args.msg.place at c.in_ok-element.element) at_is c.in_ok-append_element.ensures.appended in
    let st1 = stands_grown c.args.types.now _ (M.places c.keep_bytes.new.mem) _ (M.buffers c.keep_bytes.new.mem) c.args.msg t feet st grows.rest grows.buffers in
    let long : length c.in_ok-element.element ≡ 24 = search rules in
    let many = pieces_counted c.args.types.now c.record_is_there.ensures.lawful (M.places c.keep_bytes.new.mem) (M.places c.append_element.new.mem) (M.buffers c.keep_bytes.new.mem) c.args.msg c.args.bytes.now c.in_ok-element.element kept.feet long done t feet st1 in
    let word_is : word 4 (list_slot (M.places c.keep_bytes.new.mem) c.args.msg.place c.unknown-at.result) ≡ length (pieces_of t) = ap (λ at. word 4 (list_slot (M.places c.keep_bytes.new.mem) c.args.msg.place at)) at_is ∙ sym many in
    c.in_ok-append_element.ensures.space ∙ (λ i. c.in_ok-element.ensures.space i + array_bytes (long i) (word_is i) (word_is i + 1))

pub returns-clause-changes : goal.returns-clause-changes
returns-clause-changes g c = λ t feet st.
    let M = g.M.Memory in
    let grows = c.in_ok-element.ensures.grows in
    let kept = c.in_ok-element.ensures.kept in
    let at_is : c.unknown-at.result ≡ (layout_of c.args.types.now c.args.msg.type_no).unknown = c.unknown-at.ensures ∙ ap (λ (l : Layout). l.unknown) c.of_type.ensures in
    let done = subst (λ at. IsAppended (M.places c.keep_bytes.new.mem) (M.places c.append_element.new.mem) c.args.msg.place at c.in_ok-element.element) at_is c.in_ok-append_element.ensures.appended in
    let st1 = stands_grown c.args.types.now _ (M.places c.keep_bytes.new.mem) _ (M.buffers c.keep_bytes.new.mem) c.args.msg t feet st grows.rest grows.buffers in
    let long : length c.in_ok-element.element ≡ 24 = search rules in
    let piece : IsPieceIn (M.places c.keep_bytes.new.mem) (M.buffers c.keep_bytes.new.mem) c.in_ok-element.element c.args.bytes.now kept.feet = record { some = c.requires.some; short = c.requires.short; whole = c.requires.whole; holds = kept.holds } in
    let there = message_there c.args.types.now (M.places c.args.mem.now) (M.buffers c.args.mem.now) c.args.msg.type_no c.args.msg.place t feet st.message in
    let a = piece_appended c.args.types.now c.record_is_there.ensures.lawful (M.places c.keep_bytes.new.mem) (M.places c.append_element.new.mem) (M.buffers c.keep_bytes.new.mem) c.args.msg c.args.bytes.now c.in_ok-element.element kept.feet long done t feet st1 (c.requires.few t feet st)
    piece kept.once (bytes_there c.args.types.now (M.places c.keep_bytes.new.mem) (M.buffers c.keep_bytes.new.mem) c.in_ok-element.element c.args.bytes.now kept.feet kept.holds)
    (λ foot among. fresh_apart (M.places c.args.mem.now) (M.buffers c.args.mem.now) feet foot there (kept.fresh foot among)) in
    let same : M.buffers c.append_element.new.mem ≡ M.buffers c.keep_bytes.new.mem = c.in_ok-append_element.ensures.grows.buffers in
    changes_then M.key M.places M.buffers M.blocks 1 1 1 feet c.args.mem.now c.keep_bytes.new.mem c.append_element.new.mem grows c.in_ok-append_element.ensures.grows
    (subst (λ b. KeepsOthers (M.places c.args.mem.now) (M.buffers c.args.mem.now) (M.places c.append_element.new.mem) b feet) (sym same)
    (keeps_join (M.places c.args.mem.now) (M.places c.keep_bytes.new.mem) (M.places c.append_element.new.mem) (M.buffers c.args.mem.now) (M.buffers c.keep_bytes.new.mem) (M.buffers c.keep_bytes.new.mem) feet
    (growth_keeps (M.places c.args.mem.now) (M.places c.keep_bytes.new.mem) (M.buffers c.args.mem.now) (M.buffers c.keep_bytes.new.mem) feet grows.rest grows.buffers) a.keeps))
