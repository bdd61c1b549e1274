pub mod TableLaws
pub mod SupplyLaws
pub use Rattle.amount_math.proofs as amount_math
