use Rattle.std.proofs.Common.{◌∙◌}
use Rattle.ertp_mint.specs.Balances.{with_put}
use Rattle.holders.proofs.Stores.{written_over}
use Rattle.holders.proofs.purses.Purses.take_value.Goals as goal

pub returns-clause-undone : goal.returns-clause-undone
returns-clause-undone c =
    let made = rw (← c.self.view_is) at c.requires.made in
    written_over c.self.inside.balances.items c.args.purse c.take_value.new.self c.index_mut.result.now made c.index_mut.ensures.value (λ s. with_put s c.args.value.content) c.take_value.ensures.undone ∙ c.self.view_is
