-- The rule of the timer is good.
use Rattle.std.proofs.Common.{ℕ, List, None, IfOk, codes, refl}
use Rattle.world_laws.specs.host_data.declared.data.ObjKind.TheVariants as kinds
use Rattle.world_laws.specs.world_state.Known.{IsFormed}
use Rattle.world_laws.specs.world_state.Worlds.{State}
use Rattle.rules.specs.Obligations.{IsGoodOutcome}
use Rattle.rules.specs.Outcomes.{Outcome}
use Rattle.rule_laws.proofs.Reading.{by_method, reads}
use Rattle.rule_laws.specs.GoodServices.{AreGoodRules, numbered}
use Rattle.rules.specs.Timer.{get_current_timestamp, of_timer}

time_formed : (w : State) → IfOk (get_current_timestamp w) (IsFormed w None)
unfolding get_current_timestamp
time_formed w = record { objects = tt; functions = tt; named = tt; ordered = tt; shallow = tt }

pub timer_is : AreGoodRules kinds.Timer (λ w n m args. of_timer w m args)
timer_is w n m args can =
    let P : List ℕ → Outcome → Type 0 = λ k rule. IsGoodOutcome w None (numbered kinds.Timer n) k args rule in
    by_method P m (codes "getCurrentTimestamp") _ _ (reads w None _ _ args (get_current_timestamp w) refl refl (time_formed w)) tt
