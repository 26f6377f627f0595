use Rattle.std.proofs.Common.{refl, sym, subst, ◌≡◌, true}
use Rattle.std.specs.Str.{is_utf8}
use Rattle.std.proofs.lemmas.Str.{is_utf8-from_IsUtf8}
use Rattle.dyn_message.proofs.NodeFields.{node_has}
use Rattle.dyn_message.proofs.tests.put_word.Goals as goal

pub set_bytes-requires-clause-field : goal.set_bytes-requires-clause-field
set_bytes-requires-clause-field g c = node_has _ _ c.args.types.now c.args.msg.type_no 7 c.requires.schema c.requires.node (record { field = _; found = refl; card = tt; type = subst (λ s. is_utf8 s ≡ true) (sym c.as_bytes.ensures.value) (is_utf8-from_IsUtf8 c.args.text.now c.utf8.text) })
