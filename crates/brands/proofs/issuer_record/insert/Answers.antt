use Rattle.std.proofs.Common.{◌∙◌, ap}
use Rattle.std.specs.Map.{values_of}
use Rattle.brands.proofs.IssuersKeyed.{AreKeyed-insert, values-insert}
use Rattle.brands.proofs.issuer_record.insert.Goals as goal

pub returns-in-Ok-clause-ok : goal.returns-in-Ok-clause-ok
returns-in-Ok-clause-ok c = ap values_of c.in-Ok.ensures.entries ∙ values-insert c.args.issuers.now _ c.args.issuer c.requires.named c.requires.keyed c.requires.free

pub returns-in-Ok-clause-keyed : goal.returns-in-Ok-clause-keyed
returns-in-Ok-clause-keyed c = rw c.in-Ok.ensures.entries (AreKeyed-insert c.args.issuers.now _ c.args.issuer c.requires.named c.requires.keyed c.requires.free c.requires.room)
