use Rattle.jessie_values.proofs.ReadFunctions.{AreRead}
use Rattle.jessie_values.proofs.requests.functions_in.Given as goal

abbrev pub invariant-loop-name : goal.invariant-loop-name
invariant-loop-name l = AreRead l.fields l.name-index l.methods.items
