pub mod SeatFacts
pub use Rattle.world_reads.proofs.vault
