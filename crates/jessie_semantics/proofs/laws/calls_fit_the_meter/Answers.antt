use Rattle.jessie_semantics.proofs.Charges.{meter_fits}
use Rattle.jessie_semantics.proofs.laws.calls_fit_the_meter.Goals as goal

pub returns : goal.returns
returns c = meter_fits
