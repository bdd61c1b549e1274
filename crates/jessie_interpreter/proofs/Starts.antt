-- An evaluation from another name of the state where it stands.
use Rattle.std.proofs.Common.{◌≡◌, subst}
use Rattle.jessie_machine.specs.jessie_semantics.Play.{Exchange}
use Rattle.jessie_machine.specs.jessie_semantics.Actions.{Action, State}
use Rattle.jessie_machine.specs.jessie_semantics.Runs.{Come, Runs}

pub runs_since : {W A : Type 0} {step : W → Exchange → W → Type 0} {v w : W} {a : Action A} {s t u : State} {c : Come A} → s ≡ t → Runs step v w a s c u → Runs step v w a t c u
runs_since {W} {A} {step} {v} {w} {a} {s} {t} {u} {c} e r = subst (λ s. Runs step v w a s c u) e r
