pub use Rattle.draft_reads.proofs as draft_reads
pub use Rattle.escrow.proofs as escrow
pub use Rattle.draft_reads.proofs.vault
pub use Rattle.draft_reads.proofs.world_laws
