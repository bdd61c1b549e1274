pub mod Elements
pub mod HandedFields
pub mod HeldKinds
pub mod Supplies
pub mod Placed
pub mod InstanceIssuers
pub use Rattle.world_reads.proofs.draft_reads
pub use Rattle.rule_laws.proofs as rule_laws
pub use Rattle.world_reads.proofs.vault
pub use Rattle.rule_laws.proofs.world_laws
pub use Rattle.world_reads.proofs as world_reads
