use Rattle.std.proofs.Common.{sym}
use Rattle.jessie_machine.proofs.Places.{variable_rebind}
use Rattle.jessie_machine.proofs.names.set_variable.Goals as goal

pub returns : goal.returns
returns c = λ x names values e. variable_rebind x c.args.«data» names values c.args.changed.now.items c.args.i c.requires (sym e)
