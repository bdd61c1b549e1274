pub mod KnownObjects
pub mod Opened
pub mod Allocated
pub mod Failing
pub mod Values
pub mod Fresh
pub mod Fits
pub mod Lessened
pub use Rattle.rule_laws.proofs as rule_laws
pub use Rattle.host_world.proofs.world_laws
