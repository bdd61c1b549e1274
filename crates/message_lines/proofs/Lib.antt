pub mod Cuts
pub mod FurtherFields
pub mod JsonLines
pub mod OnlyMembers
pub mod Paths
pub mod ReadParts
pub use Rattle.turn_records.proofs.refusals
