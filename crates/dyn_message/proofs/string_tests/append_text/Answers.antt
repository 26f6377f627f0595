use Rattle.std.proofs.Common.{◌≡◌, sym, subst, true, rules}
use Rattle.std.specs.Str.{is_utf8}
use Rattle.std.proofs.lemmas.Str.{is_utf8-from_IsUtf8}
use Rattle.pb_schema.specs.Kinds.{Characters, value_type_of}
use Rattle.pb_schema.specs.Fitted.{IsStringOf}
use Rattle.dyn_message.proofs.string_tests.append_text.Goals as goal

pub append_bytes-requires-clause-field : goal.append_bytes-requires-clause-field
append_bytes-requires-clause-field g c =
    let kind : value_type_of c.in-Some.field.kind ≡ Characters = search rules in
    let text : is_utf8 c.as_bytes.result.now ≡ true = subst (λ s. is_utf8 s ≡ true) (sym c.as_bytes.ensures.value) (is_utf8-from_IsUtf8 c.args.text.now c.utf8.text) in
    record { field = c.in-Some.field; found = c.in-Some.ensures; card = search rules; type = subst (λ t. IsStringOf t c.as_bytes.result.now) (sym kind) text }
