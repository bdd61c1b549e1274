pub mod Parts
pub mod Views
pub use Rattle.world_reads.specs.call_outcomes
pub use Rattle.world_reads.specs.draft_reads
pub use Rattle.world_reads.specs.host_world
pub use Rattle.world_reads.specs.registers
pub use Rattle.world_reads.specs.seats
pub use Rattle.world_reads.specs.vault
pub use Rattle.rule_laws.specs.world_laws
pub use Rattle.world_reads.specs as world_reads
