pub mod Reasons
pub mod Outcomes
pub mod Operators
pub mod Named
pub mod Records
pub mod Accesses
pub mod Literals
pub mod BuiltIns
pub mod Requests
pub mod Dispatch
pub mod RequestViews
pub mod SortedFields
pub use Rattle.jessie_grammar.specs as jessie_grammar
