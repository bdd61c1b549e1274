use Rattle.std.proofs.lemmas.Result.{on_ok_weaker}
use Rattle.vault.proofs.Arms.{issued_taken}
use Rattle.vault.proofs.stores.Stores.issue.Goals as goal

pub returns-clause-ok : goal.returns-clause-ok
returns-clause-ok c = on_ok_weaker _ (λ ok. issued_taken c.args.self.now c.issue.new.self c.args.brand c.args.value ok) c.issue.ensures.ok
