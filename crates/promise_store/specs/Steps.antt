-- The steps in which what hangs on a promise is settled.
use Rattle.std.specs.Prelude.{ℕ, List, [], ◌∷◌, map, reverse}
use Rattle.promise_store.specs.declared.links.Consequence.{Consequence}
use Rattle.promise_store.specs.declared.links.Consequence.TheVariants.{Settled}
use Rattle.promise_store.specs.declared.links.Todo.{Todo}
use Rattle.promise_store.specs.declared.links.Todo.TheVariants.{Settle, Notify}
use Rattle.promise_store.specs.Linked.{Linked, followers}
use Rattle.promise_store.specs.Cascade.{notifications}

abbrev pub settle_todo : ℕ → Todo
settle_todo p = Settle p

-- what is to be done after a step, the next last
abbrev pub further : Linked → Todo → List Todo
further l (Settle p) = Notify p ∷ map settle_todo (reverse (followers l.follows p))
further l (Notify p) = []

-- the events of a step alone
abbrev pub shown : Linked → Todo → List Consequence
shown l (Settle p) = Settled p ∷ []
shown l (Notify p) = notifications l p
