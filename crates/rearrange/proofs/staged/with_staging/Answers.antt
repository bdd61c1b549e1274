use Rattle.std.proofs.Common.{List, IfSome, sym, subst, ◌∙◌, ap}
use Rattle.proposals.specs.OfferSafety.{MeetSlots}
use Rattle.proposals.specs.Shares.{AreApart}
use Rattle.proposals.specs.declared.allocations.Share.{Share}
use Rattle.rearrange.specs.Safety.{MeetProposal}
use Rattle.rearrange.specs.Seats.{allocation_of, state_of}
use Rattle.rearrange.specs.Settled.{settled}
use Rattle.rearrange.proofs.Agreeing.{AreApart-settled, staged_meets, staged_safe}
use Rattle.rearrange.proofs.staged.with_staging.Goals as goal

pub settled-requires : goal.settled-requires
settled-requires c =
    subst (λ (slots : List Share). MeetSlots c.shares_staged.result.now slots) (sym c.allocation_of.ensures.shares)
    (subst (λ (shares : List Share). MeetSlots shares (allocation_of c.args.states.now c.args.seat)) (sym c.shares_staged.ensures.shares) (staged_meets c.args.states.now c.args.seat c.requires))

pub returns-clause-apart : goal.returns-clause-apart
returns-clause-apart c = subst AreApart (sym c.in_ok-shares.ensures) (AreApart-settled c.allocation_of.result.now c.shares_staged.result.now c.allocation_of.ensures.apart c.shares_staged.ensures.apart)

pub returns-clause-meets : goal.returns-clause-meets
returns-clause-meets c =
    let same = c.in_ok-shares.ensures ∙ ap (λ (slots : List Share). settled slots c.shares_staged.result.now) c.allocation_of.ensures.shares ∙ ap (settled (allocation_of c.args.states.now c.args.seat)) c.shares_staged.ensures.shares in
    subst (λ (shares : List Share). IfSome (state_of c.args.states.now c.args.seat) (MeetProposal shares)) (sym same) (staged_safe c.args.states.now c.args.seat c.requires)
