-- That a run is ready, and that its turn goes back, can be told of what was shown to be so.
use Rattle.std.proofs.Common.{◌≡◌, false}
use denote.Struct.Props.{props}
use Rattle.refusals.specs.amount_math.Content.{coded_content}
use Rattle.contract_powers.specs.Situations.{IsReady, IsRunning, Situation}
use Rattle.contract_powers.specs.TurnStarts.{GoesBackTo, Start}
use Rattle.world_effects.specs.escrow.contracts.totals.Totals as a_total
use Rattle.world_effects.specs.escrow.Told.{EscrowState}
use Rattle.world_effects.specs.host_world.declared.World.{World}
use Rattle.jessie_machine.specs.jessie_grammar.contracts.syntax.Module as a_module
use Rattle.world_effects.specs.registers.RegisterStates.{RegisterState}
use Rattle.refusals.specs.contracts.codes.Refusal as a_refusal
use Rattle.delivery_laws.specs.vault_model.Lists.{coded_lists}
use Rattle.world_effects.specs.lemmas.Stable.{IsStable}
use Rattle.world_effects.proofs.world_laws.PartSets.{Parts-set}
use Rattle.world_effects.proofs.world_laws.Worlds.{stable_parts, stable_world, world_facts}
use Rattle.world_effects.specs.turn_records.Deliveries.{Delivery}

pub ready_stable : (s : Situation) → IsStable (IsReady s)
ready_stable s = hlevel (stable_parts, world_facts, stable_world)

Delivery-set : IsSet Delivery
Delivery-set = hlevel (world_facts, Parts-set, a_refusal.the_row.coded)

Plain-set : IsSet RegisterState
Plain-set = hlevel (world_facts, Delivery-set, Parts-set, a_refusal.the_row.coded, a_module.the_row.coded)

Escrow-set : IsSet EscrowState
Escrow-set = hlevel (props, a_total.the_row.coded)

Start-set : IsSet Start
Start-set = hlevel (props, Plain-set, Escrow-set, coded_lists)

pub back_prop : (start : Start) (w : World) → IsProp (GoesBackTo start w)
back_prop start w = hlevel (props, Start-set, coded_content)

-- a run that hasn't failed is as it should be
pub running_of : (s : Situation) → ∥ IsReady s ∥₁ → s.failed ≡ false → IsRunning s
running_of s ready going = ((ready_stable s).told ready).running going
