pub mod Shown
pub mod StagingParts
pub mod TableParts
pub use Rattle.contract_reads.specs as contract_reads
