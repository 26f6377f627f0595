use Rattle.std.proofs.Common.{true, false}
use Rattle.std.proofs.lemmas.Str.{is_utf8-from_IsUtf8}
use Rattle.pb_parse.proofs.ContentsRead.{not_text, text_fits}
use Rattle.pb_parse.proofs.values.is_string.Goals as goal

pub returns-in-Ok : goal.returns-in-Ok
returns-in-Ok c = text_fits c.args.kind c.args.bytes.now true c.in-Text.is (is_utf8-from_IsUtf8 c.args.bytes.now c.in-Ok.ensures.cases.1)

pub returns-in-Err : goal.returns-in-Err
returns-in-Err c = text_fits c.args.kind c.args.bytes.now false c.in-Text.is (not_text c.args.bytes.now c.in-Err.ensures.cases.0)
