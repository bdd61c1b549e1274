use Rattle.turn_stores.proofs.Cuts.{seen-cut}
use Rattle.turn_stores.proofs.invitations.Invitations.back.Goals as goal

pub returns : goal.returns
returns c = seen-cut c.args.self.now.kept c.args.self.now.details.items c.truncate.new.self.items c.truncate.ensures.items
