use Rattle.std.specs.Prelude.{IfOk}
use Rattle.std.proofs.Common.{ℕ, List, subst}
use Rattle.world_effects.specs.host_world.Worlds.{world_of}
use Rattle.jessie_machine.specs.jessie_semantics.Play as plays
use Rattle.refusals.specs.host_data.View.{trees}
use Rattle.contract_powers.specs.Admission.{IsPlanned}
use Rattle.contract_powers.proofs.admission.admit_call.Goals as goal

pub returns-in-Ok : goal.returns-in-Ok
returns-in-Ok g c = subst (λ (m : List ℕ). IfOk c.named_call.result (IsPlanned (world_of c.args.world.now) c.args.instance (plays.call c.args.target m (trees c.args.args.items)))) c.in-Ok.ensures c.named_call.ensures
