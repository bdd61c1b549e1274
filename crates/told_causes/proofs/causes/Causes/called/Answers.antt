use Rattle.std.proofs.Common.{refl}
use Rattle.std.proofs.lemmas.Result.{on_ok_weaker}
use Rattle.row_records.specs.Views.{call_view}
use Rattle.told_causes.proofs.Called.{nothing_told}
use Rattle.told_causes.proofs.CauseRows.{called_kept}
use Rattle.told_causes.proofs.causes.Causes.called.Goals as goal

pub returns-in-Nothing : goal.returns-in-Nothing
returns-in-Nothing c = λ i told. called_kept c.args.self.now _ i (call_view c.args.call.now) told (nothing_told c.args.self.now.standings i (call_view c.args.call.now) c.in-Nothing.ensures told.standings) c.in_ok-called.ensures refl refl refl c.is_kit_call-self.ensures

pub returns-in-OfSeat : goal.returns-in-OfSeat
returns-in-OfSeat c = on_ok_weaker c.show.result (λ step i told. called_kept c.args.self.now _ i (call_view c.args.call.now) told (step i (call_view c.args.call.now) c.in-OfSeat.ensures told.standings) c.in_ok-called.ensures refl refl refl c.is_kit_call-self.ensures) c.show.ensures

pub returns-in-OfInstance : goal.returns-in-OfInstance
returns-in-OfInstance c = on_ok_weaker c.halt.result (λ step i told. called_kept c.args.self.now _ i (call_view c.args.call.now) told (step i (call_view c.args.call.now) c.in-OfInstance.ensures told.standings) c.in_ok-called.ensures refl refl refl c.is_kit_call-self.ensures) c.halt.ensures
