-- What is read of an offer, as the rules have it.
use Rattle.std.specs.Prelude.{◌≡◌, ◌<◌, ◌^◌, true, List, All}
use Rattle.refusals.specs.host_text.Words.{is_keyword}
use Rattle.refusals.specs.host_data.View.{named_trees}
use Rattle.call_arguments.specs.Records.{shares_data}
use Rattle.call_arguments.specs.declared.records.GivenShare.{GivenShare}
use Rattle.rules.specs.Zoe as zoe_rules
use Rattle.rules.specs.Proposals as proposed
use Rattle.offer_calls.specs.ProposalSteps as reading
use Rattle.offer_calls.specs.declared.invitation.Invited.{Invited}
use Rattle.offer_calls.specs.declared.proposal.Given.{Given}
use Rattle.offer_calls.specs.declared.proposal.Proposed.{Proposed}

abbrev pub invited_view : Invited → zoe_rules.Invited
invited_view by = record { payment = by.payment; invitation = by.invitation }

abbrev pub given_view : Given → reading.Given
given_view g = record {
  give = shares_data g.give.items;
  want = shares_data g.want.items;
  payments = named_trees g.payments.now;
}

abbrev pub proposed_view : Proposed → proposed.Proposed
proposed_view p = record {
  proposal = record { give = p.give.items; want = p.want.items; exit = p.exit };
  payments = named_trees p.payments.now;
}

-- shares of which each is under a keyword, and names a brand by such a number as brands have
pub record CanBeShares (shares : List GivenShare) : Type 0 where
  pub named : All (λ r. is_keyword r.keyword.now ≡ true) shares
  pub small : All (λ r. r.amount.brand < 2 ^ 16) shares
