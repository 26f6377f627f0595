use Rattle.std.proofs.Common.{◌≡◌, ◌++◌, ◌<◌, ◌^◌, ◌-◌, List, ℕ, [], length, min, ap, ◌∙◌, append-nil, arith}
use Rattle.std.specs.List.{concat}
use Rattle.pb_schema.specs.Fits.{fields_of}
use Rattle.pb_schema.specs.Text.{message_text}
use Rattle.pb_schema.specs.Tree.{tree_map}
use Rattle.pb_write.proofs.counter.message_size.Goals as goal

pub returns : goal.returns
returns g c = λ t feet stand short.
    let text = message_text c.args.types.now (fields_of c.args.types.now c.args.msg.type_no) (tree_map concat t) in
    let whole = append-nil text in
    let less : length (text ++ []) < 2 ^ 63 = omega (arith, short, ap (λ (s : List ℕ). length s) whole) in
    let empty : c.new-counter.result.bytes ≡ min 0 (2 ^ 64 - 1) = omega (arith, c.new-counter.ensures) in
    c.len.ensures (text ++ []) (c.in-Ok.ensures t feet stand [] empty less) less ∙ ap (λ (s : List ℕ). length s) whole
