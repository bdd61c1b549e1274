use Rattle.std.proofs.Common.{◌∙◌, ap}
use Rattle.std.specs.Map.{values_of}
use Rattle.proposals.proofs.SharesKeyed.{AreKeyed-insert, values-insert}
use Rattle.proposals.proofs.allocations.insert.Goals as goal

pub returns-in-Ok-clause-ok : goal.returns-in-Ok-clause-ok
returns-in-Ok-clause-ok c = ap values_of c.in-Ok.ensures.entries ∙ values-insert c.args.shares.now _ c.args.share c.requires.named c.requires.keyed c.requires.free

pub returns-in-Ok-clause-keyed : goal.returns-in-Ok-clause-keyed
returns-in-Ok-clause-keyed c = rw c.in-Ok.ensures.entries (AreKeyed-insert c.args.shares.now _ c.args.share c.requires.named c.requires.keyed c.requires.free c.requires.room)
