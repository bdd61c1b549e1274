use Rattle.std.proofs.Common.{◌≡◌, ◌+◌, ◌-◌, suc, refl, sym, ◌∙◌, arith}
use Rattle.std.proofs.lemmas.Result.{err_from_is_err_and}
use Rattle.host_turns.specs.contract_texts.Reader.{reader}
use Rattle.run_laws.proofs.RunOrder.{step_count}
use Rattle.top_call.proofs.Drains.{drain_empty, drain_failed, drain_limit, drain_over, drain_turn, end_turn, text_limit, text_none, text_some}
use Rattle.top_call.proofs.InForm.{form_none, form_over, form_turn}
use Rattle.top_call.specs.declared.run.RunFault.{RunFault}
use Rattle.top_call.specs.declared.run.RunFault.TheVariants.{Failed, NoMemory, TurnLimit}
use Rattle.top_call.proofs.run.drain.Goals as goal

pub returns-in_err-text-clause-limit : goal.returns-in_err-text-clause-limit
returns-in_err-text-clause-limit g c =
    let p = err_from_is_err_and c.from_residual.result c.from_residual.ensures.1 in
    let left : c.args.most - c.loop.counter ≡ suc (c.args.most - (c.loop.counter + 1)) = omega arith in
    λ e.
    let at = text_limit _ _ c.in_err-text.field-0.0 (cc (p.1, p.2, e)) c.in_err-text.ensures in
    drain_limit _ _ _ _ _ _ c.loop.invariant.worked _ left c.loop.invariant.few at.turns at.left

pub returns-in_default-clause-host : goal.returns-in_default-clause-host
returns-in_default-clause-host g c =
    let none = text_none _ _ _ c.in_default.is c.in_ok-text.ensures in
    none.same ∙ sym (c.loop.invariant.ends ∙ (drain_empty _ _ _ _ _ _ c.loop.invariant.worked none.none).1)

pub returns-in_default-clause-ok : goal.returns-in_default-clause-ok
returns-in_default-clause-ok g c =
    let none = text_none _ _ _ c.in_default.is c.in_ok-text.ensures in
    (drain_empty _ _ _ _ _ _ c.loop.invariant.worked none.none).0

pub returns-in_err-write-clause-failed : goal.returns-in_err-write-clause-failed
returns-in_err-write-clause-failed g c =
    let p = err_from_is_err_and c.from_residual-in_err-write.result c.from_residual-in_err-write.ensures.1 in
    let left : c.args.most - c.loop.counter ≡ suc (c.args.most - (c.loop.counter + 1)) = omega arith in
    let stepped = text_some _ _ _ _ c.in-Some.is c.in_ok-text.ensures in
    λ e. drain_failed _ _ _ _ _ _ c.loop.invariant.worked _ left _ stepped.step _
    (rw (c.as_str.ensures.value, stepped.text) at (c.in_err-write.ensures.failed (cc (p.1, p.2, e))))

-- a write has no other fault
only_failed : (fault : RunFault) → (fault ≡ NoMemory → ⊥) → (fault ≡ TurnLimit → ⊥) → fault ≡ Failed
only_failed Failed memory limit = refl
only_failed NoMemory memory limit = absurd (memory refl)
only_failed TurnLimit memory limit = absurd (limit refl)

pub returns-in_err-write-clause-quiet : goal.returns-in_err-write-clause-quiet
returns-in_err-write-clause-quiet g c =
    let p = err_from_is_err_and c.from_residual-in_err-write.result c.from_residual-in_err-write.ensures.1 in
    let failed = only_failed c.in_err-write.field-0.0 (λ is. c.in_err-write.ensures.memory (cc is)) (λ is. c.in_err-write.ensures.limit (cc is)) in
    λ others. absurd (others (cc (p.1, p.2, failed)))

pub loop-preserved : goal.loop-preserved
loop-preserved g c =
    let left : c.args.most - c.loop.counter ≡ suc (c.args.most - (c.loop.counter + 1)) = omega arith in
    let stepped = text_some _ _ _ _ c.in-Some.is c.in_ok-text.ensures in
    record {
      worked = drain_turn _ _ _ _ _ _ c.loop.invariant.worked _ left _ stepped.step _ stepped.short (rw (c.as_str.ensures.value, stepped.text) at c.in_ok-write.ensures.ok);
      ends = c.loop.invariant.ends ∙ end_turn _ _ _ _ left stepped.step;
      few = omega (arith, step_count reader _ _ stepped.step, stepped.early);
      form = λ rest. c.loop.invariant.form (form_turn _ _ _ _ left stepped.step (record { form = stepped.form; short = stepped.short }) rest);
      quiet = c.in_ok-write.ensures.quiet ∙ c.loop.invariant.quiet;
    }

pub returns-clause-host : goal.returns-clause-host
returns-clause-host g c =
    let none : c.args.most - c.loop.counter ≡ 0 = omega arith in
    sym (c.loop.invariant.ends ∙ (drain_over _ _ _ _ _ _ c.loop.invariant.worked none).1)

pub returns-clause-ok : goal.returns-clause-ok
returns-clause-ok g c =
    let none : c.args.most - c.loop.counter ≡ 0 = omega arith in
    (drain_over _ _ _ _ _ _ c.loop.invariant.worked none).0

pub returns-in_default-clause-form : goal.returns-in_default-clause-form
returns-in_default-clause-form g c =
    let none = text_none _ _ _ c.in_default.is c.in_ok-text.ensures in
    c.loop.invariant.form (form_none _ _ none.none)

pub returns-clause-form : goal.returns-clause-form
returns-clause-form g c =
    let none : c.args.most - c.loop.counter ≡ 0 = omega arith in
    c.loop.invariant.form (form_over _ _ none)
