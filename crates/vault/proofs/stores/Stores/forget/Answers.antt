use Rattle.vault.proofs.Arms.{forgets, is_kept}
use Rattle.vault.proofs.stores.Stores.forget.Goals as goal

pub forget-requires-clause-kept : goal.forget-requires-clause-kept
forget-requires-clause-kept c = is_kept c.requires.0 c.args.self.now c.args.movement.now c.requires.1 c.requires.2 c.in-Outside.is

pub returns-in-Outside : goal.returns-in-Outside
returns-in-Outside c = λ start rest is. forgets start c.args.self.now c.args.movement.now rest is c.in-Outside.is c.forget.new.self c.forget.ensures
