-- A world is the same as another in at most one way.
use Rattle.world_state.specs.jessie_grammar.contracts.syntax.Module as a_module
use Rattle.world_state.specs.refusals.contracts.codes.Refusal as a_refusal
use Rattle.world_laws.proofs.PartSets.{Parts-set}
use Rattle.world_laws.proofs.Worlds.{world_facts}
use Rattle.world_state.specs.turn_records.Deliveries.{Delivery}
use Rattle.world_state.specs.Worlds.{State}

Delivery-set : IsSet Delivery
Delivery-set = hlevel (world_facts, Parts-set, a_refusal.the_row.coded)

pub State-set : IsSet State
State-set = hlevel (world_facts, Delivery-set, Parts-set, a_refusal.the_row.coded, a_module.the_row.coded)
