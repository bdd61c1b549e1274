pub mod Purses
pub mod PaymentViews
pub mod Kept
pub use Rattle.ertp_mint.specs as ertp_mint
