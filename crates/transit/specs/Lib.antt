pub mod Transit
pub use Rattle.ertp_mint.specs as ertp_mint
