use Rattle.std.proofs.Common.{◌<◌, ◌^◌, ℕ, length, sym, subst, arith}
use Rattle.std.specs.Prelude.{slice_index}
use Rattle.desc_pool.proofs.Members.{few_counted}
use Rattle.desc_pool.proofs.rules.count_members.Goals as goal

pub bump-requires : goal.bump-requires
bump-requires c =
    subst (λ s. (j : ℕ) → j < length s → slice_index s j < 2 ^ 63) (sym c.deref_mut.ensures.value)
    (λ j h. let few = few_counted c.args.optional_alone c.args.message.now c.loop-field.field-index c.loop-field.counts.items c.loop-field.invariant j h in omega (arith, few, c.loop-field-test.true))
