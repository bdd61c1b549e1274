pub mod CallNotes
pub mod CallOutcomes
pub mod NameTests
pub mod CallReplies
pub mod Admission
pub mod Situations
pub mod TurnStarts
pub mod HostSide
pub use Rattle.contract_texts.specs as contract_texts
pub use Rattle.contract_texts.specs.rules
pub use Rattle.refusals.specs as refusals
pub use Rattle.world_effects.specs as world_effects
pub use Rattle.world_effects.specs.actors
pub use Rattle.world_effects.specs.amount_math
pub use Rattle.world_effects.specs.call_outcomes
pub use Rattle.world_effects.specs.ertp_mint
pub use Rattle.world_effects.specs.escrow
pub use Rattle.world_effects.specs.host_world
pub use Rattle.world_effects.specs.registers
pub use Rattle.world_effects.specs.promise_store
pub use Rattle.world_effects.specs.proposals
pub use Rattle.world_effects.specs.rights_model
pub use Rattle.world_effects.specs.turn_records
pub use Rattle.world_effects.specs.turn_rows
pub use Rattle.world_effects.specs.vault
pub use Rattle.world_effects.specs.world_laws
pub use Rattle.world_effects.specs.world_reads
pub use Rattle.world_effects.specs.world_state
