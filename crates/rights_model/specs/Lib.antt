pub mod Place
pub mod Table
pub mod Supply
pub mod Totals
pub mod Tabulated
pub mod Numbers
pub use Rattle.amount_math.specs as amount_math
pub use Rattle.host_text.specs as host_text
