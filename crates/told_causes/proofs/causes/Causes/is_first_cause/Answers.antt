use Rattle.std.proofs.Common.{refl, sym, ap, ◌∙◌}
use Rattle.std.specs.Option.{option_map}
use Rattle.row_records.specs.Views.{exit_view}
use Rattle.row_records.specs.turn_records.Views.{cause_view}
use Rattle.told_causes.proofs.CauseRows.{first_is, first_none}
use Rattle.told_causes.proofs.causes.Causes.is_first_cause.Goals as goal

pub returns-in-Some : goal.returns-in-Some
returns-in-Some c = λ i told is_open. first_is i (exit_view c.args.row.now) c.args.row.now.cause refl is_open c.is_same.result c.in-Some.cause c.is_same.ensures
    (sym (ap (option_map cause_view) c.in-Some.is) ∙ c.first_cause.ensures i told.standings told.shows is_open)

pub returns-in-None : goal.returns-in-None
returns-in-None c = λ i told is_open. first_none i (exit_view c.args.row.now) c.args.row.now.cause refl is_open (sym (ap (option_map cause_view) c.in-None.is) ∙ c.first_cause.ensures i told.standings told.shows is_open)
