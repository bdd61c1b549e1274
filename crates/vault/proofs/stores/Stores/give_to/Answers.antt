use Rattle.vault.proofs.Arms.{both_ok, given_to_purse}
use Rattle.vault.proofs.stores.Stores.give_to.Goals as goal

pub returns-in-Purse-clause-ok : goal.returns-in-Purse-clause-ok
returns-in-Purse-clause-ok c = rw c.in-Purse.is (both_ok _ (λ is out. given_to_purse c.args.self.now _ c.put.new.self c.args.parcel _ (rw c.in-Purse.is at c.requires) c.put.ensures.room is out) c.put.ensures.ok c.put.ensures.out)
