-- What the data of refusals is at each node: no object and no function.
use Rattle.host_data.specs.Tree.{object, function}
use Rattle.host_data.specs.Nodes.{NodeFact}

-- neither an object nor a function
abbrev pub IsPlain : NodeFact
IsPlain n (object o) = ⊥
IsPlain n (function name) = ⊥
IsPlain n _ = Unit {0}
