use Rattle.std.proofs.Common.{ap, sym, ◌∙◌}
use Rattle.std.proofs.Math.Facts.{to_z-of_z}
use Rattle.host_data.specs.Amounts.{nat_value}
use Rattle.host_data.proofs.KeyedData.{nat_is, nat_is_not}
use Rattle.host_data.proofs.amounts.nat_of.Goals as goal

pub returns-in-Ok : goal.returns-in-Ok
returns-in-Ok c = ap nat_value (sym (to_z-of_z c.ranges.number)) ∙ nat_is _ _ c.in-Ok.ensures.ok.0 c.in-Ok.ensures.ok.1 c.in-Ok.ensures.value

pub returns-in-Err : goal.returns-in-Err
returns-in-Err c = ap nat_value (sym (to_z-of_z c.ranges.number)) ∙ nat_is_not _ (c.in-Err.ensures.bad_value (λ e. e))
