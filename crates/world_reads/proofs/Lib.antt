pub mod Placed
pub mod Installed
pub mod NamedObjects
pub mod Known
pub mod HandedObjects
pub mod KeywordReads
pub mod OpenSeats
pub use Rattle.host_world.proofs.draft_reads
pub use Rattle.host_world.proofs.escrow
pub use Rattle.call_outcomes.proofs.registers
pub use Rattle.refusals.proofs as refusals
pub use Rattle.host_world.proofs.vault
pub use Rattle.host_world.proofs.world_laws
