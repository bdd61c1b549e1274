pub mod Valued
pub mod Wrong
pub mod FineShares
pub mod Raising
pub mod Changed
pub mod BrandsSeen
pub mod Worked
pub mod Planned
pub use Rattle.contract_reads.proofs as contract_reads
pub use Rattle.contract_reads.proofs.rule_laws
pub use Rattle.contract_reads.proofs.world_laws
