-- What an object with the arguments of a call is in the definitions.
use Rattle.delivery_turns.specs.Messages as messages
use Rattle.host_data.specs.View.{trees}
use Rattle.delivery_reads.specs.declared.messages.Addressed.{Addressed}

abbrev pub addressed_view : Addressed → messages.Addressed
addressed_view a = record { target = a.target; arguments = trees a.arguments.items }
