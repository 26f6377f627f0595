use Rattle.std.proofs.Common.{refl}
use Rattle.msg_layout.proofs.WordLaws.{has_words}
use Rattle.msg_layout.proofs.make.layout_of_type.Goals as goal

pub of-requires-clause-words : goal.of-requires-clause-words
of-requires-clause-words c =
    has_words c.args.ty.now c.requires c.in_ok-entries.entries.items c.bit_bytes.result c.args.ty.now.oneofs c.front_bytes-front.result c.in_ok-entries.ensures.value c.bit_bytes.ensures.value refl c.front_bytes-front.ensures.value c.front_bytes-front.ensures.small
