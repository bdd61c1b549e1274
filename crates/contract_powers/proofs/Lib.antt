pub mod HostSide
pub mod Methods
pub mod Results
pub mod NameTests
pub mod AdmittedCalls
pub mod RunSteps
pub mod ReadyRuns
pub use Rattle.contract_texts.proofs as contract_texts
pub use Rattle.refusals.proofs as refusals
pub use Rattle.world_effects.proofs as world_effects
pub use Rattle.world_effects.proofs.draft_reads
pub use Rattle.world_effects.proofs.escrow
pub use Rattle.world_effects.proofs.lemmas
pub use Rattle.world_effects.proofs.world_laws
pub use Rattle.world_effects.proofs.world_reads
pub use Rattle.world_effects.proofs.registers
