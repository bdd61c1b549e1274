-- What an evaluation comes to, whatever the host answers: it ends, its meter is spent, or it asks the
-- host and goes on by the answer.
use Rattle.std.specs.Prelude.{◌≡◌, ℕ, List, [], ◌∷◌, ◌++◌, map}
use Rattle.host_data.specs.Tree.{Tree}
use Rattle.host_data.specs.declared.data.Obj.{Obj}

-- what the host is asked
pub data Call : Type 0 where
  -- an object's method, with its arguments
  call : Obj → List ℕ → List Tree → Call
  -- the same, to be delivered later
  send : Obj → List ℕ → List Tree → Call
  -- a function that is to hear of a promise, with data for it
  when : Obj → List ℕ → Tree → Call
  -- a facet: its name, its methods each with its function, and data for them
  far : List ℕ → List (List ℕ × List ℕ) → Tree → Call

pub data Reply : Type 0 where
  given : Tree → Reply
  refused : Tree → Reply

-- a call of the host, with its answer
pub record Exchange : Type 0 where
  pub call : Call
  pub reply : Reply

pub data Ending : Type 0 where
  returned : Tree → Ending
  threw : Tree → Ending

-- an ending comes with the new state values
pub data Play : Type 0 where
  Ends : Ending → List Tree → Play
  Spends : Play
  Asks : Call → (Reply → Play) → Play

-- what it comes to after these answers
abbrev pub after : Play → List Reply → Play
after p [] = p
after (Ends e values) (r ∷ rs) = Ends e values
after Spends (r ∷ rs) = Spends
after (Asks c go) (r ∷ rs) = after (go r) rs

abbrev pub replies : List Exchange → List Reply
replies xs = map (λ x. x.reply) xs

-- how a host answers: from what it was, by a call and its answer, to what it is then
abbrev pub Answering : Type 0 → Type 1
Answering W = W → Exchange → W → Type 0

-- the host has answered these, one after another
abbrev pub Answered : {W : Type 0} → Answering W → W → List Exchange → W → Type 0
Answered step w [] v = w ≡ v
Answered {W} step w (x ∷ xs) v = (u : W) × (step w x u × Answered step u xs v)

-- The host was asked exactly what the play asks, each time for the answers so far; with all of them it
-- comes to r.
pub record Follows {W : Type 0} (step : W → Exchange → W → Type 0) (p : Play) (old new : W) (r : Play) : Type 0 where
  pub since : List Exchange
  pub answered : Answered step old since new
  pub asks : (before : List Exchange) (x : Exchange) (rest : List Exchange) → since ≡ before ++ x ∷ rest → (go : Reply → Play) × (after p (replies before) ≡ Asks x.call go)
  pub ends : after p (replies since) ≡ r
