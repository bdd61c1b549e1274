pub mod Parts
pub mod Fulfilment
pub use Rattle.world_reads.specs.call_outcomes
pub use Rattle.world_reads.specs.host_world
pub use Rattle.world_reads.specs.seats
pub use Rattle.world_reads.specs.vault
