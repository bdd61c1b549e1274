use Rattle.std.proofs.Common.{refl, sym, subst, ap, ◌∙◌}
use Rattle.proposals.specs.OfferSafety.{MeetSlots}
use Rattle.proposals.specs.Shares.{AreApart}
use Rattle.proposals.specs.Gains.{raised, with_gains}
use Rattle.proposals.proofs.Apart.{AreApart-further}
use Rattle.proposals.proofs.Sums.{can_raise}
use Rattle.proposals.proofs.gains.with_gains.Goals as goal

pub all_raised-requires : goal.all_raised-requires
all_raised-requires c =
    let slots = c.args.slots.now in
    let meet = subst (MeetSlots slots) (sym c.shares-given.ensures.value) c.requires.meet in
    can_raise slots c.shares-given.result.now c.requires.apart meet (c.in_ok-check_gains.ensures.ok refl)

pub returns-in-Ok-clause-ok : goal.returns-in-Ok-clause-ok
returns-in-Ok-clause-ok c = c.in-Ok.ensures ∙ ap (with_gains c.args.slots.now) c.shares-given.ensures.value

pub returns-in-Ok-clause-apart : goal.returns-in-Ok-clause-apart
returns-in-Ok-clause-apart c =
    let given = c.shares-given.result.now in
    let apart = subst AreApart (sym c.shares-given.ensures.value) c.shares-given.ensures.shares.apart in
    subst AreApart (sym c.in-Ok.ensures) (AreApart-further (raised given) (λ r. refl) c.args.slots.now given c.requires.apart apart)
