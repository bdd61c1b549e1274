use Rattle.jessie_machine.proofs.Places.{set_in}
use Rattle.jessie_machine.proofs.names.set_local.Goals as goal

pub returns : goal.returns
returns c = set_in c.args.locals.now c.args.i c.args.«data» c.set.new.self c.requires c.set.ensures
