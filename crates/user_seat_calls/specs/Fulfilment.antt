-- What a promise was fulfilled with, by its state.
use Rattle.std.specs.Prelude.{ℕ}
use Rattle.host_data.specs.Tree.{Tree, null}
use Rattle.rules.specs.promise_store.States.{StateView, broken, follows, ok, pending, settled}

-- null where it wasn't
abbrev pub fulfilment : StateView → Tree
fulfilment (settled (ok t)) = t
fulfilment (settled (broken t)) = null
fulfilment pending = null
fulfilment (follows q) = null
