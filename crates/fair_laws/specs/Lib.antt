pub mod Places
pub mod ShownEffects
pub mod Accounts
pub mod Owed
pub mod Views
pub mod Steps
pub mod Reads
pub mod ShownRuns
pub mod Turns
pub use Rattle.delivery_laws.specs.actors
pub use Rattle.delivery_laws.specs.call_arguments
pub use Rattle.delivery_laws.specs as delivery_laws
pub use Rattle.delivery_laws.specs.delivery_turns
pub use Rattle.delivery_laws.specs.ertp_mint
pub use Rattle.fair_rows.specs as fair_rows
pub use Rattle.delivery_laws.specs.jessie_grammar
pub use Rattle.delivery_laws.specs.jessie_semantics
pub use Rattle.delivery_laws.specs.vault_model
pub use Rattle.delivery_laws.specs.rule_laws
pub use Rattle.delivery_laws.specs.rules
pub use Rattle.delivery_laws.specs.turn_writer
pub use Rattle.delivery_laws.specs.world_laws
pub use Rattle.delivery_laws.specs.world_state
