use Rattle.std.proofs.Common.{[], ◌∙◌, sym, subst}
use Rattle.call_arguments.specs.proposals.Shares.{AreApart}
use Rattle.rearrange.specs.Seats.{allocation_of}
use Rattle.share_transfers.specs.Changed.{changed_seats}
use Rattle.share_transfers.proofs.Changed.{absent, apart_at, there}
use Rattle.share_transfers.proofs.working_copy.WorkingCopy.shares.Goals as goal

pub returns-in-Some-clause-shares : goal.returns-in-Some-clause-shares
returns-in-Some-clause-shares c = c.as_slice.ensures.value ∙ there c.args.seat c.args.self.now.changed.entries c.in-Some.shares.now (allocation_of c.args.states.now c.args.seat) c.in-Some.ensures.value

pub returns-in-Some-clause-apart : goal.returns-in-Some-clause-apart
returns-in-Some-clause-apart c = λ all.
    subst AreApart (sym (c.as_slice.ensures.value ∙ there c.args.seat c.args.self.now.changed.entries c.in-Some.shares.now [] c.in-Some.ensures.value))
    (apart_at c.args.seat (changed_seats c.args.self.now) [] all tt)

pub returns-in-None-clause-shares : goal.returns-in-None-clause-shares
returns-in-None-clause-shares c = c.allocation_of.ensures.shares ∙ absent c.args.seat c.args.self.now.changed.entries (allocation_of c.args.states.now c.args.seat) c.in-None.ensures.value
