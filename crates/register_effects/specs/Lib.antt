pub mod StoreEffects
pub mod Conditions
pub use Rattle.world_reads.specs.call_outcomes
pub use Rattle.world_reads.specs.draft_reads
pub use Rattle.world_reads.specs.escrow
pub use Rattle.world_reads.specs.host_world
pub use Rattle.world_reads.specs.registers
pub use Rattle.world_reads.specs.vault
pub use Rattle.world_reads.specs as world_reads
