use Rattle.msg_layout.proofs.LayoutLaws.{layout_read}
use Rattle.msg_layout.proofs.tables.Layouts.of_type.Goals as goal

pub returns : goal.returns
returns c =
    layout_read c.args.self.now c.self.inside.schema c.self.inside.types.items c.args.type_no c.index.result.now c.self.view_is c.self.invariant.1 c.index.ensures c.requires
