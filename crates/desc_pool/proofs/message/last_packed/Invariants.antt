use Rattle.std.proofs.Common.{◌≡◌, take}
use Rattle.desc_pool.specs.Payloads.{options_flag}
use Rattle.desc_pool.proofs.message.last_packed.Given as goal

-- what the options so far say
abbrev pub invariant-loop-sub : goal.invariant-loop-sub
invariant-loop-sub l = l.packed ≡ options_flag l.depth l.bytes (take l.sub-index l.subs)
