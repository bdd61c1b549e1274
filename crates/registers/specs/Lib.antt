pub mod Books
pub mod PromiseTables
pub mod Facts
pub mod Tables
pub mod Timed
pub mod Makers
pub mod RegisterStates
pub mod Stores
pub use Rattle.world_state.specs.actors
pub use Rattle.world_state.specs.ertp_mint
pub use Rattle.world_state.specs.proposals
pub use Rattle.world_state.specs.vault_model
pub use Rattle.world_state.specs.rights_model
pub use Rattle.world_state.specs.turn_records
pub use Rattle.world_state.specs.turn_rows
pub use Rattle.world_state.specs as world_state
