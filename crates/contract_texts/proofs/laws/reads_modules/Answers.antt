use Rattle.contract_texts.proofs.Modules.{reads_modules}
use Rattle.contract_texts.proofs.laws.reads_modules.Goals as goal

pub returns : goal.returns
returns c = reads_modules
