use Rattle.std.proofs.Common.{sym, subst}
use Rattle.call_arguments.specs.proposals.Shares.{AreApart}
use Rattle.rearrange.proofs.Agreeing.{AreApart-settled}
use Rattle.share_transfers.proofs.transfers.settle.Goals as goal

pub returns-clause-apart : goal.returns-clause-apart
returns-clause-apart c = subst AreApart (sym c.in_ok-shares.ensures) (AreApart-settled c.allocation_of.result.now c.args.shares.now c.allocation_of.ensures.apart c.requires.apart)
