use Rattle.told_rights.proofs.Kept.{none_there}
use Rattle.told_rights.proofs.contents.Contents.new.Goals as goal

pub returns : goal.returns
returns c = none_there c.new.result.entries c.new.ensures.empty
