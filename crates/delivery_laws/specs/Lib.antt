pub mod Told
pub mod Works
pub mod Hosts
pub use Rattle.delivery_turns.specs.actors
pub use Rattle.rule_laws.specs.brands
pub use Rattle.rule_laws.specs.call_arguments
pub use Rattle.delivery_turns.specs as delivery_turns
pub use Rattle.rule_laws.specs.ertp_mint
pub use Rattle.rule_laws.specs.holders
pub use Rattle.turn_writer.specs.host_data
pub use Rattle.rule_laws.specs.jessie_grammar
pub use Rattle.rule_laws.specs.jessie_semantics
pub use Rattle.delivery_turns.specs.promise_store
pub use Rattle.turn_writer.specs.proposals
pub use Rattle.turn_writer.specs.refusals
pub use Rattle.delivery_turns.specs.vault_model
pub use Rattle.rule_laws.specs as rule_laws
pub use Rattle.delivery_turns.specs.rules
pub use Rattle.delivery_turns.specs.turn_records
pub use Rattle.rule_laws.specs.turn_stores
pub use Rattle.turn_writer.specs as turn_writer
pub use Rattle.rule_laws.specs.world_laws
pub use Rattle.delivery_turns.specs.world_state
