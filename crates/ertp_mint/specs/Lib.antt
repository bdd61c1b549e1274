pub mod BrandSupply
pub mod Stocks
pub mod Balances
pub mod Circulating
pub mod Places
pub use Rattle.amount_math.specs as amount_math
