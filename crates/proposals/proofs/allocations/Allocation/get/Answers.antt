use Rattle.std.proofs.Common.{◌≡◌, None, Some, ap, ◌∙◌, rules, option_copied}
use Rattle.proposals.specs.Shares.{amount_under}
use Rattle.proposals.proofs.SharesKeyed.{amount_under-found}
use Rattle.proposals.proofs.allocations.Allocation.get.Goals as goal

pub returns-in_err-share : goal.returns-in_err-share
returns-in_err-share c =
    let none : option_copied c.from_residual.result ≡ None = search rules in
    none ∙ amount_under-found c.args.keyword.now _ c.self.inside.shares.entries None c.self.invariant c.as_str.ensures.text c.in_err-share.ensures.value ∙ ap (amount_under c.args.keyword.now) c.self.view_is

pub returns : goal.returns
returns c = amount_under-found c.args.keyword.now _ c.self.inside.shares.entries (Some c.in_ok-share.share.now) c.self.invariant c.as_str.ensures.text c.in_ok-share.ensures.value ∙ ap (amount_under c.args.keyword.now) c.self.view_is
