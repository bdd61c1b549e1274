pub mod OrderedJson
pub mod FormedLines
pub mod Appended
pub mod MachineOrder
pub mod RunOrder
pub mod GoodRuns
pub mod Little
pub mod RunsFair
pub mod Licences
pub mod ShortJournals
pub use Rattle.licence_laws.proofs.delivery_laws
pub use Rattle.licence_laws.proofs.fair_laws
pub use Rattle.licence_laws.proofs.turn_rows
pub use Rattle.licence_laws.proofs.rule_laws
pub use Rattle.licence_laws.proofs as licence_laws
