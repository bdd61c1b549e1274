pub mod Placed
pub mod Tests
pub mod Handed
pub use Rattle.call_outcomes.specs as call_outcomes
pub use Rattle.host_world.specs.draft_reads
pub use Rattle.host_world.specs.escrow
pub use Rattle.host_world.specs as host_world
pub use Rattle.call_outcomes.specs.registers
pub use Rattle.refusals.specs as refusals
pub use Rattle.host_world.specs.seats
pub use Rattle.host_world.specs.vault
