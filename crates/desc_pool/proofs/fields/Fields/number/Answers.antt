use Rattle.std.proofs.Common.{◌≡◌, ◌%◌, ◌^◌, ◌⊎◌, ℕ, Some, List, sym, ap, ◌∙◌, ⊎_elim}
use Rattle.std.specs.Option.{option_map}
use Rattle.pb_schema.specs.declared.kind.Kind.TheVariants as kinds
use Rattle.desc_pool.specs.declared.descriptor.Descriptor.{Descriptor}
use Rattle.desc_pool.specs.Trees.{number_in}
use Rattle.desc_pool.specs.Payloads.{last_payload, tree_at, IsField}
use Rattle.desc_pool.proofs.Gathering.{last_read}
use Rattle.desc_pool.proofs.Held.{int32_is, enum_is, low_bits, records_there}
use Rattle.desc_pool.proofs.fields.Fields.number.Goals as goal

number_is : (descriptor : Descriptor) (depth : ℕ) (bytes : List ℕ) (number : ℕ) → (IsField descriptor number kinds.Int32) ⊎ (IsField descriptor number kinds.Enumeration) → number_in descriptor number (tree_at descriptor depth bytes) ≡ option_map low_bits (last_payload number 0 (records_there depth bytes))
number_is descriptor depth bytes number e = ⊎_elim (int32_is descriptor depth bytes number) (enum_is descriptor depth bytes number) e

pub returns-in-Some : goal.returns-in-Some
returns-in-Some c =
    ap (λ v. Some (v % 2 ^ 32)) c.spelled.ensures
    ∙ (ap (option_map low_bits) (last_read c.args.number 0 c.args.bytes.now c.deref.result.now c.args.self.now.records.items _ c.in-Some.ensures c.deref.ensures.value c.requires.read.records)
    ∙ sym (number_is c.args.self.now.descriptor c.args.self.now.depth c.args.bytes.now c.args.number c.requires.field))

pub returns-in-None : goal.returns-in-None
returns-in-None c =
    ap (option_map low_bits) (last_read c.args.number 0 c.args.bytes.now c.deref.result.now c.args.self.now.records.items _ c.in-None.ensures c.deref.ensures.value c.requires.read.records)
    ∙ sym (number_is c.args.self.now.descriptor c.args.self.now.depth c.args.bytes.now c.args.number c.requires.field)
