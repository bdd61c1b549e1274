use Rattle.vault.proofs.OpenedStores.{brand_removed}
use Rattle.vault.proofs.stores.Stores.unadd_brand.Goals as goal

pub returns : goal.returns
returns c = brand_removed c.args.self.now c.undo_add_brand.new.self c.undo_add_brand.ensures.out c.undo_add_brand.ensures.hand c.undo_add_brand.ensures.same
