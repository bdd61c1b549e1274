use Rattle.jessie_semantics.proofs.Licence.{licence}
use Rattle.jessie_semantics.proofs.laws.objects_were_handed.Goals as goal

pub returns : goal.returns
returns c = licence
