use Rattle.std.proofs.Common.{◌≡◌, true, drop, sym, ap, ◌∙◌, arith}
use Rattle.pb_schema.specs.Kinds.{value_type_of, value_wire}
use Rattle.pb_schema.specs.Form.{read_scalar}
use Rattle.pb_parse.specs.Contents.{fits_wire}
use Rattle.pb_parse.proofs.ShortRecords.{short_form, one_value, takes_number, is_number_kind}
use Rattle.pb_parse.proofs.TakenShapes.{number_coding}
use Rattle.pb_parse.proofs.short.short_number.Goals as goal

pub returns : goal.returns
returns c =
    let entry = c.in-Some.entry in
    let fits : fits_wire entry.field 0 ≡ true = sym c.takes_wire.ensures ∙ c.if-not-takes_wire.false in
    let k = number_coding (value_type_of entry.field.kind) (is_number_kind entry fits) in
    let good = c.in-Some-next_number.ensures k.0 k.1 in
    let wire : k.0.wire ≡ 0 = sym (ap value_wire k.1) ∙ takes_number entry fits in
    record {
      known = sym c.entry.ensures ∙ c.in-Some.is;
      single = one_value entry.field.card (sym c.is_list.ensures ∙ c.if-is_list.false);
      fits = fits;
      tag = omega (arith, c.in-Ok.ensures.bound);
      some = omega (arith, good.1);
      within = omega (arith, good.2);
      here = λ left. short_form left c.args.at c.args.bytes.now c.in-Ok.number _ c.in-Ok.payload c.in-Some-next_number.end c.in-Ok.ensures.exact c.if-wire-ne-VARINT.false (omega (arith, c.in-Ok.ensures.bound)) (omega (arith, good.1))
          (ap (λ w. read_scalar w c.in-Ok.payload (drop c.in-Ok.payload c.args.bytes.now)) (sym wire) ∙ good.0);
      value = λ coding e. let own = c.in-Some-next_number.ensures coding e in (own.0, own.3, own.4);
    }
