pub mod TableSums
pub mod Tellings
pub mod RowReads
pub use Rattle.rights_model.proofs as rights_model
