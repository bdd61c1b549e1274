pub mod Rights
pub mod Promises
pub mod Lines
pub mod Worlds
pub mod Known
pub mod Good
pub mod Shapes
pub use Rattle.actors.specs as actors
pub use Rattle.vault_model.specs.amount_math
pub use Rattle.actors.specs.brands
pub use Rattle.vault_model.specs.ertp_mint
pub use Rattle.vault_model.specs.holders
pub use Rattle.vault_model.specs.host_data
pub use Rattle.vault_model.specs.host_text
pub use Rattle.actors.specs.jessie_grammar
pub use Rattle.actors.specs.jessie_semantics
pub use Rattle.actors.specs.jessie_values
pub use Rattle.vault_model.specs.lemmas
pub use Rattle.turn_records.specs.promise_store
pub use Rattle.vault_model.specs.proposals
pub use Rattle.turn_records.specs.refusals
pub use Rattle.vault_model.specs as vault_model
pub use Rattle.vault_model.specs.rights_model
pub use Rattle.turn_records.specs as turn_records
pub use Rattle.turn_records.specs.turn_rows
pub use Rattle.actors.specs.turn_stores
