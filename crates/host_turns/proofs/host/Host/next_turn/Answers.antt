use Rattle.std.proofs.Common.{refl, sym, ◌∙◌}
use Rattle.host_turns.proofs.HostSteps.{none_waits_in, turned_called_for, turned_fair, turned_licensed, turned_spent, turned_spent_by_name, turned_strict}
use Rattle.host_turns.proofs.host.Host.next_turn.Goals as goal

pub returns-then-waiting_in-eq0-clause-step : goal.returns-then-waiting_in-eq0-clause-step
returns-then-waiting_in-eq0-clause-step g c = record { none = none_waits_in _ _ c.self.view_is (sym c.waiting_in.ensures ∙ c.if-waiting_in-eq0.true); same = refl }

pub returns-in-Some-clause-fair : goal.returns-in-Some-clause-fair
returns-in-Some-clause-fair g c =
    λ ts fair leaves. turned_fair _ _ c.self.view_is _ _ _ c.in-Some.is c.run_turn.ensures c.self.invariant ts fair leaves

pub returns-in-Some-clause-strict : goal.returns-in-Some-clause-strict
returns-in-Some-clause-strict g c =
    λ ts strict leaves. turned_strict _ _ c.self.view_is _ _ _ c.in-Some.is c.run_turn.ensures c.self.invariant ts strict leaves

pub returns-in-Some-clause-called_for : goal.returns-in-Some-clause-called_for
returns-in-Some-clause-called_for g c =
    turned_called_for _ _ c.self.view_is _ _ _ c.in-Some.is c.run_turn.ensures c.self.invariant

pub returns-in-Some-clause-spent_by_name : goal.returns-in-Some-clause-spent_by_name
returns-in-Some-clause-spent_by_name g c =
    turned_spent_by_name _ _ c.self.view_is _ _ _ c.in-Some.is c.run_turn.ensures c.self.invariant

pub returns-in-Some-clause-licensed : goal.returns-in-Some-clause-licensed
returns-in-Some-clause-licensed g c =
    turned_licensed _ _ c.self.view_is _ _ _ c.in-Some.is c.run_turn.ensures c.self.invariant

pub returns-in-Some-clause-spent : goal.returns-in-Some-clause-spent
returns-in-Some-clause-spent g c =
    turned_spent _ _ c.self.view_is _ _ _ c.in-Some.is c.run_turn.ensures c.self.invariant
