pub mod Parts
pub mod Worlds
pub mod Turns
pub use Rattle.draft_reads.specs as draft_reads
pub use Rattle.escrow.specs as escrow
pub use Rattle.draft_reads.specs.seats
pub use Rattle.draft_reads.specs.vault
pub use Rattle.draft_reads.specs.world_laws
