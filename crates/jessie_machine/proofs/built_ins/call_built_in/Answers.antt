use Rattle.std.proofs.Common.{ap}
use Rattle.jessie_semantics.specs.host_data.View.{trees}
use Rattle.jessie_semantics.specs.Rules.{apply_built_in}
use Rattle.jessie_semantics.proofs.Runs.{computed, runs_as}
use Rattle.jessie_machine.proofs.Exits.{worked_as_ok}
use Rattle.jessie_machine.proofs.built_ins.call_built_in.Goals as goal

pub returns-in-When : goal.returns-in-When
returns-in-When g c = λ names values. runs_as (ap (λ f. apply_built_in f (trees c.args.args.items)) c.in-When.is) (c.call_when.ensures _ _)

pub returns-in-Far : goal.returns-in-Far
returns-in-Far g c = λ names values. runs_as (ap (λ f. apply_built_in f (trees c.args.args.items)) c.in-Far.is) (c.call_far.ensures _ _)

pub returns-in-Harden : goal.returns-in-Harden
returns-in-Harden g c = λ names values. runs_as (ap (λ f. apply_built_in f (trees c.args.args.items)) c.in-Harden.is) (computed (worked_as_ok _ _ c.harden.ensures))

pub returns-in-Keys : goal.returns-in-Keys
returns-in-Keys g c = λ names values. runs_as (ap (λ f. apply_built_in f (trees c.args.args.items)) c.in-Keys.is) (computed (c.value_or_fault.ensures _ _ c.keys.ensures))

pub returns-in-Len : goal.returns-in-Len
returns-in-Len g c = λ names values. runs_as (ap (λ f. apply_built_in f (trees c.args.args.items)) c.in-Len.is) (computed (c.value_or_bad.ensures _ _ c.len.ensures))

pub returns-in-Push : goal.returns-in-Push
returns-in-Push g c = λ names values. runs_as (ap (λ f. apply_built_in f (trees c.args.args.items)) c.in-Push.is) (computed (c.value_or_fault-in-Push.ensures _ _ c.push.ensures))

pub returns-in-Put : goal.returns-in-Put
returns-in-Put g c = λ names values. runs_as (ap (λ f. apply_built_in f (trees c.args.args.items)) c.in-Put.is) (computed (c.value_or_bad-in-Put.ensures _ _ c.put.ensures))
