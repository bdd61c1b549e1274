use Rattle.std.proofs.Common.{◌∙◌, ap, map}
use Rattle.std.proofs.lemmas.Result.{err_from_is_err_and}
use Rattle.run_laws.specs.message_lines.Meanings.{meaning_of}
use Rattle.top_call.proofs.InForm.{form_line, turns_short}
use Rattle.top_call.proofs.LineRuns.{line_ends, line_next, line_worked}
use Rattle.top_call.proofs.TurnTexts.{failed_next, limit_next, memory_next}
use Rattle.top_call.proofs.run.work_lines.Goals as goal

pub loop-line-preserved : goal.loop-line-preserved
loop-line-preserved g c =
    let steps = ap (λ ls. map meaning_of ls) c.in-Some.ensures.steps in
    record {
      can = tt;
      finite = tt;
      worked = line_worked _ _ _ _ steps _ c.in_ok-work_line.ensures.host _ _ _ _ _ c.loop-line.invariant.worked (turns_short _ c.in_ok-work_line.ensures.form) c.in_ok-work_line.ensures.ok;
      ends = c.loop-line.invariant.ends ∙ line_ends _ _ _ _ steps _ c.in_ok-work_line.ensures.host;
      few = c.in_ok-work_line.ensures.few;
      form = λ rest. c.loop-line.invariant.form (form_line _ _ _ _ steps _ c.in_ok-work_line.ensures.host c.in_ok-work_line.ensures.form rest);
      quiet = c.work_line.ensures.quiet (λ e. cc (c.in_ok-work_line.was, e)) ∙ c.loop-line.invariant.quiet;
    }

pub returns-in_err-work_line-clause-memory : goal.returns-in_err-work_line-clause-memory
returns-in_err-work_line-clause-memory g c =
    let p = err_from_is_err_and c.from_residual.result c.from_residual.ensures.1 in
    let steps = ap (λ ls. map meaning_of ls) c.in-Some.ensures.steps in
    λ e. memory_next _ _ _ _ _ _ _ _ (line_next _ _ _ _ steps _ _ _ _ c.loop-line.invariant.worked) (c.in_err-work_line.ensures.memory (cc (p.1, p.2, e)))

pub returns-in_err-work_line-clause-limit : goal.returns-in_err-work_line-clause-limit
returns-in_err-work_line-clause-limit g c =
    let p = err_from_is_err_and c.from_residual.result c.from_residual.ensures.1 in
    let steps = ap (λ ls. map meaning_of ls) c.in-Some.ensures.steps in
    λ e. limit_next _ _ _ _ _ _ _ _ (line_next _ _ _ _ steps _ _ _ _ c.loop-line.invariant.worked) (c.in_err-work_line.ensures.limit (cc (p.1, p.2, e)))

pub returns-in_err-work_line-clause-failed : goal.returns-in_err-work_line-clause-failed
returns-in_err-work_line-clause-failed g c =
    let p = err_from_is_err_and c.from_residual.result c.from_residual.ensures.1 in
    let steps = ap (λ ls. map meaning_of ls) c.in-Some.ensures.steps in
    λ e. failed_next _ _ _ _ _ _ _ _ (line_next _ _ _ _ steps _ _ _ _ c.loop-line.invariant.worked) (c.in_err-work_line.ensures.failed (cc (p.1, p.2, e)))
