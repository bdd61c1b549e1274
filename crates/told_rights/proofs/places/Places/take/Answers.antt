use Rattle.row_records.specs.Views.{value_view}
use Rattle.row_records.specs.fair_rows.Values.{content_of}
use Rattle.told_rights.proofs.Shelving.{are_taken, taken_outside, ok_map}
use Rattle.told_rights.proofs.places.Places.take.Goals as goal

pub returns-in-Outside : goal.returns-in-Outside
returns-in-Outside c = rw c.in-Outside.is (taken_outside c.args.self.now c.args.brand (content_of (value_view c.args.value.now)))

pub returns-in_ok-take-in_default : goal.returns-in_ok-take-in_default
returns-in_ok-take-in_default c =
    ok_map c.replace.result
    (λ put. are_taken c.self.inside.shelves.entries c.pull-contents.new.rows.entries c.replace.new.rows.entries c.args.self.now c.self.view_is c.args.holder.now c.args.brand c.in_ok-spot-in_default.spot c.in_ok-spot-in_default.ensures c.pull-contents.result c.take.new.self c.pull-contents.ensures.value c.pull-contents.ensures.gone put c.in_default.not-Outside (content_of (value_view c.args.value.now)) c.in_ok-take-in_default.ensures)
    c.replace.ensures.ok
