-- What comes of settling promises: each is settled, then what hangs on it, and then its requests are answered.
use Rattle.std.specs.Prelude.{◌≡◌, ℕ, List, [], ◌∷◌, ◌++◌, map}
use Rattle.promise_store.specs.declared.links.Consequence.{Consequence}
use Rattle.promise_store.specs.declared.links.Consequence.TheVariants.{Settled, Notified}
use Rattle.promise_store.specs.Linked.{Linked, followers, requests}

-- the request r is answered: it asks for p
abbrev pub notified : ℕ → ℕ → Consequence
notified p r = Notified p r

-- the requests that ask for p are answered, in the order in which they came
abbrev pub notifications : Linked → ℕ → List Consequence
notifications l p = map (notified p) (requests l.asked p)

-- Settling these promises in turn gives these events: the first is settled, then its followers in the order in
-- which they came, each with all that hangs on it; then its own requests are answered; then come the others.
pub data Settles (l : Linked) : List ℕ → List Consequence → Type 0 where
  none : Settles l [] []
  first : (p : ℕ) (others : List ℕ) (below rest events : List Consequence)
      → Settles l (followers l.follows p) below → Settles l others rest
      → events ≡ Settled p ∷ below ++ notifications l p ++ rest → Settles l (p ∷ others) events

-- the promises that are settled, in order
abbrev pub settled_in : List Consequence → List ℕ
settled_in [] = []
settled_in (Settled p ∷ es) = p ∷ settled_in es
settled_in (Notified _ _ ∷ es) = settled_in es
