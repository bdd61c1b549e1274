pub mod ToldFacets
pub mod ToldCauses
pub mod StandingSteps
pub use Rattle.row_records.specs as row_records
