use Rattle.std.proofs.Common.{ap}
use Rattle.jessie_semantics.specs.host_data.View.{tree}
use Rattle.jessie_semantics.specs.Rules.{heard}
use Rattle.jessie_semantics.proofs.Runs.{computes_as, then_computes, pure_computes}
use Rattle.jessie_machine.specs.Host.{reply_of}
use Rattle.jessie_machine.proofs.Exits.{stops_here, thrown_computes}
use Rattle.jessie_machine.proofs.machine.settle.Goals as goal

pub returns-in_err-take_size-in-Value-clause-does : goal.returns-in_err-take_size-in-Value-clause-does
returns-in_err-take_size-in-Value-clause-does c = λ names values. computes_as (ap (λ a. heard (reply_of a)) c.in-Value.is) (stops_here tree _ _ _ c.from_residual.ensures.1 (c.in_err-take_size-in-Value.ensures.does _ _))

pub returns-in_ok-take_size-in-Value-clause-does : goal.returns-in_ok-take_size-in-Value-clause-does
returns-in_ok-take_size-in-Value-clause-does c = λ names values. computes_as (ap (λ a. heard (reply_of a)) c.in-Value.is) (then_computes _ (c.in_ok-take_size-in-Value.ensures.does _ _) (pure_computes _ _))

pub returns-in_err-take_size-in-Refused-clause-does : goal.returns-in_err-take_size-in-Refused-clause-does
returns-in_err-take_size-in-Refused-clause-does c = λ names values. computes_as (ap (λ a. heard (reply_of a)) c.in-Refused.is) (stops_here tree _ _ _ c.from_residual-in_err-take_size-in-Refused.ensures.1 (c.in_err-take_size-in-Refused.ensures.does _ _))

pub returns-in_ok-take_size-in-Refused-clause-does : goal.returns-in_ok-take_size-in-Refused-clause-does
returns-in_ok-take_size-in-Refused-clause-does c = λ names values. computes_as (ap (λ a. heard (reply_of a)) c.in-Refused.is) (then_computes _ (c.in_ok-take_size-in-Refused.ensures.does _ _) (thrown_computes _ _ c.throw_data.ensures))
