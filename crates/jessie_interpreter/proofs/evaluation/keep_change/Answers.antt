use Rattle.std.proofs.Common.{ap, sym, ◌∙◌, option_map}
use Rattle.jessie_machine.specs.host_data.View.{tree, trees}
use Rattle.jessie_interpreter.specs.Outcomes.{kept_at}
use Rattle.jessie_interpreter.proofs.Ends.{kept_none, set_kept}
use Rattle.jessie_interpreter.proofs.evaluation.keep_change.Goals as goal

pub returns-in_default : goal.returns-in_default
returns-in_default c = sym (ap (λ o. kept_at (trees c.args.values.now.items) c.args.place (option_map tree o)) c.in_default.is ∙ kept_none _ _)

pub returns : goal.returns
returns c = set_kept _ _ _ ∙ ap (λ o. kept_at (trees c.args.values.now.items) c.args.place (option_map tree o)) (sym c.in-Some.is)
