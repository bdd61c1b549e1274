use Rattle.std.proofs.Common.{refl, sym, subst, ap, ◌∙◌, ◌++◌}
use Rattle.call_arguments.proofs.proposals.Apart.{AreApart-further}
use Rattle.call_arguments.proofs.proposals.Sums.{can_raise}
use Rattle.call_arguments.specs.proposals.Gains.{raised}
use Rattle.call_arguments.specs.proposals.ChangedShares.{further}
use Rattle.call_arguments.specs.proposals.Shares.{AreApart}
use Rattle.share_transfers.proofs.Raising.{can_gain}
use Rattle.share_transfers.proofs.slots.slots_more.Goals as goal

pub raised_slots-requires : goal.raised_slots-requires
raised_slots-requires c =
    let slots = c.args.slots.now in
    let gains = c.args.gains.now in
    can_raise slots gains c.requires.apart c.requires.meet (can_gain slots c.have_values.ensures gains c.requires.meet c.have_values-2.ensures c.in_ok-check_gains.ensures)

pub returns-clause-apart : goal.returns-clause-apart
returns-clause-apart c =
    let slots = c.args.slots.now in
    let gains = c.args.gains.now in
    let same = c.in_ok-open_further.ensures.ok ∙ ap (λ l. l ++ further slots gains) c.in_ok-after.ensures in
    subst AreApart (sym same) (AreApart-further (raised gains) (λ r. refl) slots gains c.requires.apart c.requires.given)
