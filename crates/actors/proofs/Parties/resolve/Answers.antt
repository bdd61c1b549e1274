use Rattle.std.proofs.Common.{ap, map, sym, ◌∙◌}
use Rattle.promise_store.specs.Views.{now_of}
use Rattle.actors.specs.Labels.{binding}
use Rattle.actors.specs.Paths.{states_in, steps_behind, steps_of}
use Rattle.actors.proofs.Walks.{from_service, service_stands}
use Rattle.actors.proofs.Parties.resolve.Goals as goal

pub returns-in-Some : goal.returns-in-Some
returns-in-Some g c =
    let states = states_in (now_of c.args.promises.now) in
    let label = c.first_step.result.0.now in
    service_stands states label c.in-Some.object c.first_step.result.1 c.at_service.result (sym c.in-Some.ensures) c.at_service.ensures.none c.at_service.ensures.some
    ∙ sym (from_service states (map binding c.args.self.now.labels.entries) c.args.party.now c.args.path.now label (steps_behind c.first_step.result.1) (ap steps_of (sym c.as_str.ensures) ∙ c.first_step.ensures.steps) c.in-Some.object (sym c.in-Some.ensures))
