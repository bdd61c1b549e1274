-- What a host can count on: where it keeps to its side, each call is of what is known.
use Rattle.std.specs.Prelude.{ℕ, List, [], ◌∷◌}
use Rattle.jessie_semantics.specs.Play.{Exchange, Play, Answered}
use Rattle.jessie_semantics.specs.Keeping.{Known, Reference, Within, CallHas, ReplyHas, NextHas}

-- the host's side: a call of what is known is answered with what is known, and what was known stays so
abbrev pub Keeps : {W : Type 0} → (W → Exchange → W → Type 0) → (W → Known) → Type 0
Keeps {W} step known = (w : W) (x : Exchange) (v : W) → step w x v → CallHas (Within (known w)) x.call
    → ReplyHas (Within (known v)) x.reply × ((r : Reference) → known w r → known v r)

-- at each of these calls what it holds was known
abbrev pub Allowed : {W : Type 0} → (step : W → Exchange → W → Type 0) → (W → Known) → (w : W) (xs : List Exchange) (v : W) → Answered step w xs v → Type 0
Allowed step known w [] v a = Unit {0}
Allowed step known w (x ∷ xs) v a = CallHas (Within (known w)) x.call × Allowed step known a.0 xs v a.1.1

pub record Granted {W : Type 0} (step : W → Exchange → W → Type 0) (known : W → Known) (old new : W) (n : ℕ) (r : Play) : Type 0 where
  pub since : List Exchange
  pub answered : Answered step old since new
  pub allowed : Allowed step known old since new answered
  pub keeps : (r : Reference) → known old r → known new r
  pub ends : NextHas (Within (known new)) n r
