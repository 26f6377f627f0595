use Rattle.std.proofs.Common.{◌≡◌, ◌++◌, ◌<◌, ◌^◌, ◌-◌, List, ℕ, [], length, min, ap, ◌∙◌, append-nil, arith}
use Rattle.std.specs.List.{concat}
use Rattle.pb_schema.specs.Text.{values_text}
use Rattle.pb_schema.specs.Tree.{values_map}
use Rattle.pb_write.proofs.counter.elements_size.Goals as goal

pub returns : goal.returns
returns g c = λ values feet stand counted short.
    let text = values_text c.args.types.now c.args.field [] (values_map concat values) in
    let whole = append-nil text in
    let less : length (text ++ []) < 2 ^ 63 = omega (arith, short, ap (λ (s : List ℕ). length s) whole) in
    let empty : c.new-counter.result.bytes ≡ min 0 (2 ^ 64 - 1) = omega (arith, c.new-counter.ensures) in
    c.len.ensures (text ++ []) (c.in-Ok.ensures values feet stand counted [] empty less) less ∙ ap (λ (s : List ℕ). length s) whole
