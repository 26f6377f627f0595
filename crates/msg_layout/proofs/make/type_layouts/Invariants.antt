-- The layouts of the types so far.
use Rattle.std.proofs.Common.{◌≡◌, map, take}
use Rattle.msg_layout.specs.Layout.{layout_of_type}
use Rattle.msg_layout.proofs.make.type_layouts.Given as goal

abbrev pub invariant-loop-ty : goal.invariant-loop-ty
invariant-loop-ty l = l.layouts.items ≡ map layout_of_type (take l.ty-index l.types)
