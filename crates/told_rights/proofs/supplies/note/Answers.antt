use Rattle.row_records.specs.Views.{value_view}
use Rattle.told_rights.proofs.Noting.{noted}
use Rattle.told_rights.proofs.Shelving.{ok_map}
use Rattle.told_rights.proofs.supplies.note.Goals as goal

pub returns-clause-noted : goal.returns-clause-noted
returns-clause-noted c =
    ok_map c.replace.result
    (λ put. noted c.args.over.now.entries c.pull-excess.new.rows.entries c.replace.new.rows.entries c.args.brand (value_view c.args.value.now) c.args.out.now c.args.most c.pull-excess.result c.exceed.new.self c.pull-excess.ensures.value c.pull-excess.ensures.gone put c.in_ok-exceed.ensures.listed c.in_ok-exceed.ensures.others)
    c.replace.ensures.ok
