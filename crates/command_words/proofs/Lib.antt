pub mod NoFault
pub mod Numbers
pub mod RowsFit
pub mod Taken
