-- What a promise in a state follows.
use Rattle.std.specs.Prelude.{ℕ, Option, Some, None}
use Rattle.delivery_turns.specs.promise_store.States.{StateView, follows, pending, settled}

abbrev pub followed_in : StateView → Option ℕ
followed_in (follows target) = Some target
followed_in pending = None
followed_in (settled s) = None
