pub mod Views
pub use Rattle.world_laws.specs.amount_math
pub use Rattle.world_laws.specs.ertp_mint
pub use Rattle.vault.specs.holders
pub use Rattle.world_laws.specs.proposals
pub use Rattle.world_laws.specs.vault_model
pub use Rattle.world_laws.specs.rights_model
pub use Rattle.vault.specs.seats
pub use Rattle.world_laws.specs.turn_records
pub use Rattle.vault.specs as vault
pub use Rattle.world_laws.specs as world_laws
pub use Rattle.world_laws.specs.world_state
