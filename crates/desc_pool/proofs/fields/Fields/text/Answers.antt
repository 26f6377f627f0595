use Rattle.std.proofs.Common.{Some, map, sym, ap, ◌∙◌, append-nil}
use Rattle.std.proofs.lemmas.Str.{IsUtf8-from_is_utf8}
use Rattle.desc_pool.specs.Payloads.{last_payload, record_at}
use Rattle.desc_pool.proofs.Held.{text_is}
use Rattle.desc_pool.proofs.Gathering.{last_is_text, last_read}
use Rattle.desc_pool.proofs.fields.Fields.text.Goals as goal

pub returns-in_default : goal.returns-in_default
returns-in_default c =
    last_read c.args.number 2 c.args.bytes.now c.deref.result.now c.args.self.now.records.items _ c.in_default.ensures c.deref.ensures.value c.requires.read.records
    ∙ sym (text_is c.args.self.now.descriptor c.args.self.now.depth c.args.bytes.now c.args.number c.requires.field)

pub unreachable-requires : goal.unreachable-requires
unreachable-requires c =
    c.in_default-from_utf8.ensures.cases.0 (IsUtf8-from_is_utf8 c.in-Some.payload.now (last_is_text c.args.self.now.descriptor c.args.self.now.depth c.args.bytes.now c.args.self.now.records.items c.args.number c.in-Some.payload.now c.requires.read.read c.requires.contents (sym (c.in-Some.ensures ∙ ap (λ ws. last_payload c.args.number 2 (map (record_at c.args.bytes.now) ws)) c.deref.ensures.value))))

pub returns : goal.returns
returns c =
    ap Some (c.in_ok-joined.ensures ∙ (append-nil c.in-Ok.text.now ∙ c.in-Ok.ensures.cases.0))
    ∙ (last_read c.args.number 2 c.args.bytes.now c.deref.result.now c.args.self.now.records.items _ c.in-Some.ensures c.deref.ensures.value c.requires.read.records
    ∙ sym (text_is c.args.self.now.descriptor c.args.self.now.depth c.args.bytes.now c.args.number c.requires.field))
