pub mod Machines
pub mod Runs
pub mod Order
pub mod GoodTurns
pub mod FairRuns
pub mod Licences
pub use Rattle.licence_laws.specs.delivery_laws
pub use Rattle.licence_laws.specs.delivery_turns
pub use Rattle.licence_laws.specs.fair_laws
pub use Rattle.licence_laws.specs.fair_rows
pub use Rattle.message_lines.specs as message_lines
pub use Rattle.licence_laws.specs.turn_writer
pub use Rattle.licence_laws.specs as licence_laws
