pub mod Messages
pub mod HostCalls
pub mod Functions
pub mod Tasks
pub mod Endings
pub mod Turns
pub mod Hosts
pub use Rattle.world_laws.specs.actors
pub use Rattle.world_laws.specs.promise_store
pub use Rattle.world_laws.specs.vault_model
pub use Rattle.rules.specs as rules
pub use Rattle.world_laws.specs.turn_records
pub use Rattle.world_laws.specs.turn_rows
pub use Rattle.world_laws.specs as world_laws
pub use Rattle.world_laws.specs.world_state
