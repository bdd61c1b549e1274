pub mod Views
pub mod Brands
pub mod BrandsSeen
pub mod Changed
pub mod Fine
pub mod Reading
pub mod Tests
pub use Rattle.contract_reads.specs as contract_reads
pub use Rattle.contract_reads.specs.world_laws
