use Rattle.std.proofs.Common.{◌≡◌, ℕ, Bool, true, false, not, cond, eqb, Some, refl, sym, ap, ◌∙◌}
use Rattle.std.specs.Option.{option_map}
use Rattle.pb_schema.specs.Kinds.{truth}
use Rattle.desc_pool.specs.Trees.{flag_of}
use Rattle.desc_pool.specs.Payloads.{flag_bits}
use Rattle.desc_pool.proofs.Gathering.{last_read}
use Rattle.desc_pool.proofs.Held.{flag_is}
use Rattle.desc_pool.proofs.fields.Fields.flag.Goals as goal

flag_shown : (v : ℕ) → not (eqb v 0) ≡ flag_of (truth v)
flag_shown v = cases (eqb v 0)
  where
    cases : (t : Bool) → not t ≡ flag_of (cond t 0 1)
    cases true = refl
    cases false = refl

pub returns-in-Some : goal.returns-in-Some
returns-in-Some c =
    ap Some (flag_shown c.spelled.result ∙ ap (λ v. flag_of (truth v)) c.spelled.ensures)
    ∙ (ap (option_map flag_bits) (last_read c.args.number 0 c.args.bytes.now c.deref.result.now c.args.self.now.records.items _ c.in-Some.ensures c.deref.ensures.value c.requires.read.records)
    ∙ sym (flag_is c.args.self.now.descriptor c.args.self.now.depth c.args.bytes.now c.args.number c.requires.field))

pub returns-in-None : goal.returns-in-None
returns-in-None c =
    ap (option_map flag_bits) (last_read c.args.number 0 c.args.bytes.now c.deref.result.now c.args.self.now.records.items _ c.in-None.ensures c.deref.ensures.value c.requires.read.records)
    ∙ sym (flag_is c.args.self.now.descriptor c.args.self.now.depth c.args.bytes.now c.args.number c.requires.field)
