pub mod Sums
pub mod Running
pub mod Told
pub mod Rows
pub use Rattle.rights_model.specs.amount_math
pub use Rattle.rights_model.specs as rights_model
