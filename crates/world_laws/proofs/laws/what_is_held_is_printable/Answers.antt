use Rattle.world_laws.proofs.Printables.{formed_printable, function_named}
use Rattle.world_laws.proofs.laws.what_is_held_is_printable.Goals as goal

pub returns : goal.returns
returns c = record { function = function_named; tree = λ w holder t good. formed_printable w good holder t }
