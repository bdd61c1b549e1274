use Rattle.std.proofs.Common.{refl}
use Rattle.top_call.proofs.Statuses.{ends_free, run_unlike_usage, says_on, says_unrun, unrun_unlike_done, unrun_unlike_usage}
use Rattle.top_call.proofs.top.zoe_top.Goals as goal

-- ---- the input was run

pub returns-in-Ok-read_input-clause-says : goal.returns-in-Ok-read_input-clause-says
returns-in-Ok-read_input-clause-says g c =
    says_on _ c.in-Ok.options c.in-Ok-read_input.input.items c.in-Ok.ensures.options c.in-Ok-read_input.ensures.all c.in-Ok-read_input.ensures.quiet _ (rw c.deref.ensures.value at c.run_on.ensures.says)

pub returns-in-Ok-read_input-clause-usage : goal.returns-in-Ok-read_input-clause-usage
returns-in-Ok-read_input-clause-usage g c = λ e. absurd (run_unlike_usage _ c.run_on.ensures.run e)

pub returns-in-Ok-read_input-clause-complete : goal.returns-in-Ok-read_input-clause-complete
returns-in-Ok-read_input-clause-complete g c = ends_free _ _ _ (run_unlike_usage _ c.run_on.ensures.run) (returns-in-Ok-read_input-clause-says g c)

-- ---- it wasn't

pub returns-in-Err-read_input-clause-says : goal.returns-in-Err-read_input-clause-says
returns-in-Err-read_input-clause-says g c = says_unrun _ _ c.in-Err-read_input.ensures.why refl refl

pub returns-in-Err-read_input-clause-all_read : goal.returns-in-Err-read_input-clause-all_read
returns-in-Err-read_input-clause-all_read g c = λ e. absurd (unrun_unlike_done _ _ _ c.in-Err-read_input.ensures.why e)

pub returns-in-Err-read_input-clause-usage : goal.returns-in-Err-read_input-clause-usage
returns-in-Err-read_input-clause-usage g c = λ e. absurd (unrun_unlike_usage _ _ _ c.in-Err-read_input.ensures.why e)

pub returns-in-Err-read_input-clause-complete : goal.returns-in-Err-read_input-clause-complete
returns-in-Err-read_input-clause-complete g c = ends_free _ _ _ (unrun_unlike_usage _ _ _ c.in-Err-read_input.ensures.why) (returns-in-Err-read_input-clause-says g c)
