use Rattle.std.proofs.Common.{◌≡◌, Some, None, sym, ◌∙◌}
use Rattle.std.specs.List.{slice_get}
use Rattle.told_causes.specs.ToldCauses.{standing_at}
use Rattle.told_causes.specs.StandingSteps.{shown_in}
use Rattle.told_causes.proofs.Exited.{first_by_row, first_called, opened_there}
use Rattle.told_causes.proofs.standings.Standings.first_cause.Goals as goal

pub returns-in-Some : goal.returns-in-Some
returns-in-Some c = λ i told by_row is_open.
    let shown : shown_in (standing_at c.args.self.now c.args.seat) ≡ Some c.in-Some.cause = sym c.shown.ensures ∙ c.in-Some.is in
    first_called c.args.self.now i c.args.seat is_open told c.in-Some.cause shown

pub returns-in-Some-instance : goal.returns-in-Some-instance
returns-in-Some-instance c = λ i told by_row is_open.
    let none : shown_in (standing_at c.args.self.now c.args.seat) ≡ None = sym c.shown.ensures ∙ c.in_default.is in
    let instance : slice_get c.args.self.now.instances.items c.args.seat ≡ Some c.in-Some-instance.instance = sym c.instance.ensures ∙ c.in-Some-instance.is in
    first_by_row c.args.self.now i c.args.seat is_open told c.args.shows c.in-Some-instance.instance _ by_row none instance c.of.ensures

pub returns-in-None : goal.returns-in-None
returns-in-None c = λ i told by_row is_open.
    let none : slice_get c.args.self.now.instances.items c.args.seat ≡ None = sym c.instance.ensures ∙ c.in-None.is in
    absurd (opened_there c.args.self.now i c.args.seat is_open told none)
