use Rattle.pb_wire.proofs.Window.{join_window}
use Rattle.pb_wire.proofs.find.join_groups.Goals as goal

pub returns : goal.returns
returns c s fits small is = join_window s c.args.window fits small is
