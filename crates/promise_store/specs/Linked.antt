-- The links between promises, as contracts see them, and what they come to at one promise.
use Rattle.std.specs.Prelude.{◌≡◌, ℕ, ◌+◌, ◌==◌, if◌then◌else◌, List, [], ◌∷◌, ◌++◌, Option, None, Some, IsSome}
use Rattle.promise_store.specs.declared.links.Following.{Following}
use Rattle.promise_store.specs.declared.links.Outcome.{Outcome}
use Rattle.promise_store.specs.Nodes.{Noted}

-- How many promises were made; who follows whom, the latest first; which promise each request asks for, by
-- the request's number; and which promise was settled with which settlement, the latest first. A promise
-- that is settled keeps what it followed.
pub record Linked : Type 0 where
  pub made : ℕ
  pub follows : List Following
  pub asked : List ℕ
  pub outcomes : List Outcome

-- the links at the turn's start, and those of now
pub record LinkedTurn : Type 0 where
  pub start : Linked
  pub now : Linked

-- how many can be made
abbrev pub most_made : ℕ
most_made = 4294967295

-- what is now is changed
abbrev pub links_changed : (Linked → Linked) → LinkedTurn → LinkedTurn
links_changed f t = record { start = t.start; now = f t.now }

-- no promises
abbrev pub none_made : Linked
none_made = record { made = 0; follows = []; asked = []; outcomes = [] }

-- what the promise n follows
abbrev pub leader : List Following → ℕ → Option ℕ
leader [] n = None
leader (f ∷ fs) n = if f.promise == n then Some f.target else leader fs n

-- the promises that follow n, in the order in which they came
abbrev pub followers : List Following → ℕ → List ℕ
followers [] n = []
followers (f ∷ fs) n = if f.target == n then followers fs n ++ f.promise ∷ [] else followers fs n

-- the numbers of the requests, from k on, that ask for n
abbrev pub requests_from : ℕ → List ℕ → ℕ → List ℕ
requests_from k [] n = []
requests_from k (p ∷ ps) n = if p == n then k ∷ requests_from (k + 1) ps n else requests_from (k + 1) ps n

-- the numbers of the requests that ask for n, in the order in which they came
abbrev pub requests : List ℕ → ℕ → List ℕ
requests ps n = requests_from 0 ps n

-- the number of the settlement that n was settled with
abbrev pub settlement_of : List Outcome → ℕ → Option ℕ
settlement_of [] n = None
settlement_of (o ∷ os) n = if o.promise == n then Some o.settlement else settlement_of os n

-- what is known of the promise n
abbrev pub noted_at : List Following → List ℕ → List Outcome → ℕ → Noted
noted_at fs ps os n = record { leader = leader fs n; followers = followers fs n; requests = requests ps n; settlement = settlement_of os n }

-- the promise p is settled with the settlement k
abbrev pub outcome : ℕ → ℕ → Outcome
outcome k p = record { promise = p; settlement = k }

-- these promises are settled, one after another, with the settlement k
abbrev pub with_outcomes : ℕ → List ℕ → List Outcome → List Outcome
with_outcomes k [] os = os
with_outcomes k (p ∷ ps) os = with_outcomes k ps (outcome k p ∷ os)

-- one more promise is made
abbrev pub one_more : Linked → Linked
one_more l = record l { made = l.made + 1 }

-- the promise p follows t
abbrev pub following : ℕ → ℕ → Linked → Linked
following p t l = record l { follows = record { promise = p; target = t } ∷ l.follows }

-- one more request asks for p
abbrev pub asking : ℕ → Linked → Linked
asking p l = record l { asked = l.asked ++ p ∷ [] }

-- these promises are settled, one after another, with the settlement k
abbrev pub settling : ℕ → List ℕ → Linked → Linked
settling k ps l = record l { outcomes = with_outcomes k ps l.outcomes }

-- Where n leads: it is p, or it follows one that leads to p.
pub data LeadsTo (fs : List Following) (p : ℕ) : ℕ → Type 0 where
  here : LeadsTo fs p p
  through : (n q : ℕ) → leader fs n ≡ Some q → LeadsTo fs p q → LeadsTo fs p n

-- No promise leads to itself: each that came to follow one followed none before, and was not led to by it.
abbrev pub IsForest : List Following → Type 0
IsForest [] = Unit {0}
IsForest (f ∷ fs) = (leader fs f.promise ≡ None) × (LeadsTo fs f.promise f.target → ⊥) × IsForest fs

-- None is settled twice, and none before what it follows.
abbrev pub IsInOrder : List Following → List Outcome → Type 0
IsInOrder fs [] = Unit {0}
IsInOrder fs (o ∷ os) = (settlement_of os o.promise ≡ None) × ((q : ℕ) → leader fs o.promise ≡ Some q → IsSome (settlement_of os q)) × IsInOrder fs os

-- A promise that follows another is settled just as that one is: with the same settlement, or not yet.
pub record AreAlike (fs : List Following) (os : List Outcome) : Type 0 where
  pub each : (n q : ℕ) → leader fs n ≡ Some q → settlement_of os n ≡ settlement_of os q

-- What holds of all links.
pub record IsLinked (l : Linked) : Type 0 where
  pub forest : IsForest l.follows
  pub order : IsInOrder l.follows l.outcomes
