use Rattle.escrow.proofs.Tellings.{can_untell, untold}
use Rattle.escrow.proofs.Escrow.undo_moved.Goals as goal

pub untell-requires-clause-can : goal.untell-requires-clause-can
untell-requires-clause-can c = let w = c.requires.told in can_untell w.before c.args.self.now c.args.movement.now w.table w.sums w.defined w.minted w.told

pub returns-clause-undone : goal.returns-clause-undone
returns-clause-undone c = λ before told. untold before c.args.self.now c.untell.new.self c.args.movement.now told c.untell.ensures.ok
