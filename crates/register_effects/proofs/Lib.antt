pub mod NewPromises
pub use Rattle.world_reads.proofs.draft_reads
pub use Rattle.world_reads.proofs.escrow
pub use Rattle.world_reads.proofs as world_reads
pub use Rattle.world_reads.proofs.registers
