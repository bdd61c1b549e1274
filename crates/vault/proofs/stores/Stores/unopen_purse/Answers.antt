use Rattle.vault.proofs.OpenedStores.{purse_closed}
use Rattle.vault.proofs.stores.Stores.unopen_purse.Goals as goal

pub returns : goal.returns
returns c = purse_closed c.args.self.now c.undo_open.new.self c.undo_open.ensures
