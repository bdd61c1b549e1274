use Rattle.std.proofs.Common.{refl}
use Rattle.row_records.specs.Views.{turn_view}
use Rattle.told_causes.proofs.CauseRows.{begun}
use Rattle.told_causes.proofs.causes.Causes.begin_turn.Goals as goal

pub returns : goal.returns
returns c = λ s before. begun _ s (turn_view c.args.row.now) (c.begin_turn.ensures s (turn_view c.args.row.now) before.standings) before.facets
    (c.instance_of-instance.ensures s.owners before.facets) (c.shown_by_row-self.ensures s.owners (c.instance_of-instance.ensures s.owners before.facets)) c.is_offer-self.ensures refl
