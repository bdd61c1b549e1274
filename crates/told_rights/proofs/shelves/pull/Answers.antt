use Rattle.std.proofs.Common.{None}
use Rattle.told_rights.proofs.Shelving.{none_is_some, stays_filled}
use Rattle.told_rights.proofs.shelves.pull.Goals as goal

pub returns-in-Some-clause-filled : goal.returns-in-Some-clause-filled
returns-in-Some-clause-filled g c = stays_filled g.K.Ord.cmp c.args.rows.now.entries c.remove.new.self.entries c.args.key.now None c.remove.ensures.updates.0 none_is_some
