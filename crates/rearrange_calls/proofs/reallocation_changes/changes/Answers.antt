use Rattle.std.specs.Prelude.{Result}
use Rattle.std.proofs.Common.{List, map, sym, ap, subst, ◌∙◌}
use Rattle.world_reads.specs.host_world.Worlds.{world_of}
use Rattle.rules.specs.proposals.declared.plans.Touched.{Touched}
use Rattle.refusals.specs.Outcomes.{Gives}
use Rattle.refusals.specs.declared.codes.Refusal.{Refusal}
use Rattle.rules.specs.States.{state_of}
use Rattle.rearrange_calls.proofs.PassingReallocations.{states_enough}
use Rattle.rearrange_calls.proofs.reallocation_changes.changes.Goals as goal

pub returns-clause-gives : goal.returns-clause-gives
returns-clause-gives c =
    let w = world_of c.args.world.now in
    subst (λ (r : Result (List Touched) Refusal). Gives (λ plan. plan) c.staged_changes.result r)
    (sym (states_enough w c.requires.good c.args.seats.now c.in_ok-once.once.items c.in_ok-once.ensures.all c.in_ok-states.states
    (c.in_ok-states.ensures ∙ ap (map (state_of w)) c.as_slice.ensures.value) c.args.instance))
    c.staged_changes.ensures.gives
