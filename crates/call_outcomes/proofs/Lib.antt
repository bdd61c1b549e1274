pub mod Shaped
pub use Rattle.registers.proofs as registers
