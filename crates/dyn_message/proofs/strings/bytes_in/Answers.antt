use Rattle.std.proofs.Common.{sym, subst, refl, ap, ◌∙◌}
use Rattle.std.specs.Prelude.{IsSome}
use Rattle.std.proofs.lemmas.Option.{same_Some}
use Rattle.std.specs.FinMap as map
use Rattle.dyn_message.proofs.HeldBytes.{short_live, long_kept, short_read, short_bound}
use Rattle.dyn_message.proofs.strings.bytes_in.Goals as goal

pub read-requires : goal.read-requires
read-requires g c =
    let holds = c.requires.holds in
    let live = short_live (g.M.Memory.places c.args.mem.now) (g.M.Memory.buffers c.args.mem.now) c.args.slot.now holds.0 holds.1 holds.2 (sym c.word-form.ensures ∙ c.if-form-eq-PLACED.true) in
    subst IsSome (sym (ap (map.get (g.M.Memory.places c.args.mem.now)) c.place_at.ensures ∙ live.1)) refl

pub slice_bounds-result-end : goal.slice_bounds-result-end
slice_bounds-result-end g c =
    let holds = c.requires.holds in
    short_bound (g.M.Memory.places c.args.mem.now) (g.M.Memory.buffers c.args.mem.now) c.args.slot.now holds.0 holds.1 holds.2 (sym c.word-form.ensures ∙ c.if-form-eq-PLACED.true) c.place_at.result c.word.result c.read.result.now c.place_at.ensures c.word.ensures c.read.ensures.value

pub kept-requires : goal.kept-requires
kept-requires g c =
    let holds = c.requires.holds in
    let kept = long_kept (g.M.Memory.places c.args.mem.now) (g.M.Memory.buffers c.args.mem.now) c.args.slot.now holds.0 holds.1 holds.2 (sym c.word-form.ensures ∙ c.if-form-eq-KEPT.true) in
    subst IsSome (sym (ap (map.get (g.M.Memory.buffers c.args.mem.now)) c.buffer_at.ensures ∙ kept)) refl

pub returns-then-form-eq-PLACED : goal.returns-then-form-eq-PLACED
returns-then-form-eq-PLACED g c = λ bytes feet holds.
    short_read (g.M.Memory.places c.args.mem.now) (g.M.Memory.buffers c.args.mem.now) c.args.slot.now bytes feet holds (sym c.word-form.ensures ∙ c.if-form-eq-PLACED.true) c.place_at.result c.word.result c.read.result.now c.place_at.ensures c.word.ensures c.read.ensures.value

pub returns-then-form-eq-KEPT : goal.returns-then-form-eq-KEPT
returns-then-form-eq-KEPT g c = λ bytes feet holds.
    let kept = long_kept (g.M.Memory.places c.args.mem.now) (g.M.Memory.buffers c.args.mem.now) c.args.slot.now bytes feet holds (sym c.word-form.ensures ∙ c.if-form-eq-KEPT.true) in
    same_Some c.kept.result.now bytes (sym c.kept.ensures ∙ ap (map.get (g.M.Memory.buffers c.args.mem.now)) c.buffer_at.ensures ∙ kept)
