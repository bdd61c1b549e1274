use Rattle.std.proofs.Common.{Result, Ok, Err, OnOk, ◌<◌, ◌^◌, subst}
use Rattle.run_laws.specs.Runs.{left_in}
use Rattle.std.proofs.lemmas.Result.{err_from_is_err_and, on_ok_weaker}
use Rattle.top_call.proofs.InForm.{fair_journal, form_run, turns_short}
use Rattle.top_call.proofs.RunTexts.{run_close_failed, run_close_kept, run_closed, run_ends, run_few, run_lines, run_short, run_start, run_turns_failed, run_written}
use Rattle.top_call.proofs.TurnTexts.{failed_next, limit_next, memory_next}
use Rattle.top_call.proofs.run.run_input.Goals as goal

-- ---- a fault in the lines

pub returns-in_err-work_lines-clause-memory : goal.returns-in_err-work_lines-clause-memory
returns-in_err-work_lines-clause-memory g c =
    let p = err_from_is_err_and c.from_residual.result c.from_residual.ensures.1 in
    λ e. memory_next _ _ _ _ _ _ _ _ (run_start c.args.meter c.args.most c.args.input.now _ _ c.in-Ok.ensures) (c.in_err-work_lines.ensures.memory (cc (p.1, p.2, e)))

pub returns-in_err-work_lines-clause-limit : goal.returns-in_err-work_lines-clause-limit
returns-in_err-work_lines-clause-limit g c =
    let p = err_from_is_err_and c.from_residual.result c.from_residual.ensures.1 in
    λ e. limit_next _ _ _ _ _ _ _ _ (run_start c.args.meter c.args.most c.args.input.now _ _ c.in-Ok.ensures) (c.in_err-work_lines.ensures.limit (cc (p.1, p.2, e)))

pub returns-in_err-work_lines-clause-failed : goal.returns-in_err-work_lines-clause-failed
returns-in_err-work_lines-clause-failed g c =
    let p = err_from_is_err_and c.from_residual.result c.from_residual.ensures.1 in
    λ e. run_turns_failed _ _ _ _ _ (failed_next _ _ _ _ _ _ _ _ (run_start c.args.meter c.args.most c.args.input.now _ _ c.in-Ok.ensures) (c.in_err-work_lines.ensures.failed (cc (p.1, p.2, e))))

-- ---- a fault at the end

pub returns-in_err-drain-clause-memory : goal.returns-in_err-drain-clause-memory
returns-in_err-drain-clause-memory g c =
    let p = err_from_is_err_and c.from_residual-in_err-drain.result c.from_residual-in_err-drain.ensures.1 in
    let lines = run_lines c.args.meter c.args.most c.args.input.now _ _ c.in-Ok.ensures c.in_ok-work_lines.ensures.host _ _ (turns_short _ c.in_ok-work_lines.ensures.form) c.in_ok-work_lines.ensures.ok in
    λ e. memory_next _ _ _ _ _ _ _ _ lines (c.in_err-drain.ensures.memory (cc (p.1, p.2, e)))

pub returns-in_err-drain-clause-limit : goal.returns-in_err-drain-clause-limit
returns-in_err-drain-clause-limit g c =
    let p = err_from_is_err_and c.from_residual-in_err-drain.result c.from_residual-in_err-drain.ensures.1 in
    let lines = run_lines c.args.meter c.args.most c.args.input.now _ _ c.in-Ok.ensures c.in_ok-work_lines.ensures.host _ _ (turns_short _ c.in_ok-work_lines.ensures.form) c.in_ok-work_lines.ensures.ok in
    λ e. limit_next _ _ _ _ _ _ _ _ lines (c.in_err-drain.ensures.limit (cc (p.1, p.2, e)))

pub returns-in_err-drain-clause-failed : goal.returns-in_err-drain-clause-failed
returns-in_err-drain-clause-failed g c =
    let p = err_from_is_err_and c.from_residual-in_err-drain.result c.from_residual-in_err-drain.ensures.1 in
    let lines = run_lines c.args.meter c.args.most c.args.input.now _ _ c.in-Ok.ensures c.in_ok-work_lines.ensures.host _ _ (turns_short _ c.in_ok-work_lines.ensures.form) c.in_ok-work_lines.ensures.ok in
    λ e. run_turns_failed _ _ _ _ _ (failed_next _ _ _ _ _ _ _ _ lines (c.in_err-drain.ensures.failed (cc (p.1, p.2, e))))

-- ---- the close row

pub returns-clause-ok : goal.returns-clause-ok
returns-clause-ok g c =
    let ends = run_ends c.args.meter c.args.most c.args.input.now _ _ c.in-Ok.ensures c.in_ok-work_lines.ensures.host _ c.in_ok-drain.ensures.host in
    let turns = run_written c.args.meter c.args.most c.args.input.now _ _ c.in-Ok.ensures c.in_ok-work_lines.ensures.host _ _ _ (turns_short _ c.in_ok-work_lines.ensures.form) (turns_short _ c.in_ok-drain.ensures.form) c.in_ok-work_lines.ensures.ok c.in_ok-drain.ensures.ok in
    on_ok_weaker c.close.result (run_closed _ _ _ _ ends _ _ _ turns) c.close.ensures.ok

on_ok : {T E : Type 0} (r : Result T E) (P : Type 0) → P → OnOk r P
on_ok (Ok x) P p = p
on_ok (Err e) P p = tt

pub returns-clause-few : goal.returns-clause-few
returns-clause-few g c =
    let ends = run_ends c.args.meter c.args.most c.args.input.now _ _ c.in-Ok.ensures c.in_ok-work_lines.ensures.host _ c.in_ok-drain.ensures.host in
    on_ok c.close.result _ (run_few _ _ _ _ ends c.in_ok-drain.ensures.few)

pub returns-clause-memory : goal.returns-clause-memory
returns-clause-memory g c =
    let turns = run_written c.args.meter c.args.most c.args.input.now _ _ c.in-Ok.ensures c.in_ok-work_lines.ensures.host _ _ _ (turns_short _ c.in_ok-work_lines.ensures.form) (turns_short _ c.in_ok-drain.ensures.form) c.in_ok-work_lines.ensures.ok c.in_ok-drain.ensures.ok in
    let prints = form_run _ _ _ _ _ c.in-Ok.ensures c.in_ok-work_lines.ensures.host c.in_ok-work_lines.ensures.form c.in_ok-drain.ensures.form in
    λ e. run_close_kept _ _ _ _ _ _ (turns_short _ prints) turns (c.close.ensures.memory e)

pub returns-clause-limit : goal.returns-clause-limit
returns-clause-limit g c = λ e. absurd (c.close.ensures.limit e)

pub returns-clause-failed : goal.returns-clause-failed
returns-clause-failed g c =
    let ends = run_ends c.args.meter c.args.most c.args.input.now _ _ c.in-Ok.ensures c.in_ok-work_lines.ensures.host _ c.in_ok-drain.ensures.host in
    let turns = run_written c.args.meter c.args.most c.args.input.now _ _ c.in-Ok.ensures c.in_ok-work_lines.ensures.host _ _ _ (turns_short _ c.in_ok-work_lines.ensures.form) (turns_short _ c.in_ok-drain.ensures.form) c.in_ok-work_lines.ensures.ok c.in_ok-drain.ensures.ok in
    λ e. run_close_failed _ _ _ _ ends _ _ _ turns (c.close.ensures.failed e)

pub returns-clause-fair : goal.returns-clause-fair
returns-clause-fair g c =
    let ends = run_ends c.args.meter c.args.most c.args.input.now _ _ c.in-Ok.ensures c.in_ok-work_lines.ensures.host _ c.in_ok-drain.ensures.host in
    let short = run_few _ _ _ _ ends c.in_ok-drain.ensures.few in
    let prints = form_run _ _ _ _ _ c.in-Ok.ensures c.in_ok-work_lines.ensures.host c.in_ok-work_lines.ensures.form c.in_ok-drain.ensures.form in
    on_ok_weaker c.close.result (λ h. fair_journal c.args.meter c.args.most c.args.input.now c.requires prints short (subst (λ u. left_in u < 2 ^ 64) ends h)) c.close.ensures.left

pub returns-clause-short : goal.returns-clause-short
returns-clause-short g c =
    let ends = run_ends c.args.meter c.args.most c.args.input.now _ _ c.in-Ok.ensures c.in_ok-work_lines.ensures.host _ c.in_ok-drain.ensures.host in
    let prints = form_run _ _ _ _ _ c.in-Ok.ensures c.in_ok-work_lines.ensures.host c.in_ok-work_lines.ensures.form c.in_ok-drain.ensures.form in
    on_ok_weaker c.close.result (run_short _ _ _ _ ends (turns_short _ prints)) c.close.ensures.short
