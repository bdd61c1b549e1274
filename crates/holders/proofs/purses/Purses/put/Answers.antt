use Rattle.std.proofs.lemmas.Result.{on_ok_weaker}
use Rattle.holders.proofs.Stores.{taken_over}
use Rattle.holders.proofs.purses.Purses.put.Goals as goal

pub returns-clause-undone : goal.returns-clause-undone
returns-clause-undone c =
    let made = rw (← c.self.view_is) at c.requires.made in
    rw (← c.self.view_is) (on_ok_weaker _ (taken_over c.self.inside.balances.items c.args.purse c.put.new.self c.index_mut.result.now made c.index_mut.ensures.value c.args.parcel.value.content) c.put.ensures.undone)
