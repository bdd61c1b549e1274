use Rattle.std.specs.Prelude.{IfOk}
use Rattle.std.proofs.Common.{ℕ, List, subst}
use Rattle.world_effects.specs.host_world.Worlds.{world_of}
use Rattle.jessie_machine.specs.jessie_semantics.Play as plays
use Rattle.refusals.specs.host_data.View.{tree}
use Rattle.contract_powers.specs.Admission.{IsPlanned}
use Rattle.contract_powers.proofs.admission.admit_far.Goals as goal

pub returns-in-Ok : goal.returns-in-Ok
returns-in-Ok c = subst (λ (x : List ℕ). IfOk c.named_facet.result (IsPlanned (world_of c.args.world.now) c.args.instance (plays.far x c.args.methods.items (tree c.args.held)))) c.in-Ok.ensures c.named_facet.ensures
