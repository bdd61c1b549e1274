use Rattle.std.proofs.lemmas.Result.{on_ok_weaker}
use Rattle.row_records.specs.Views.{call_view}
use Rattle.told_causes.proofs.Owners.{owners_added, owners_same}
use Rattle.told_causes.proofs.facets.Facets.called.Goals as goal

pub returns-in-Some : goal.returns-in-Some
returns-in-Some c = on_ok_weaker c.add.result (λ added os told. owners_added c.args.self.now c.add.new.self (call_view c.args.call.now) c.in-Some.facet c.args.instance os c.in-Some.ensures added told) c.add.ensures

pub returns-in-None : goal.returns-in-None
returns-in-None c = λ os told. owners_same c.args.self.now (call_view c.args.call.now) c.args.instance os c.in-None.ensures told
