use Rattle.host_data.proofs.KeyedData.{set_at, set_made}
use Rattle.host_data.proofs.amounts.set.Goals as goal

pub returns : goal.returns
returns c = rw (set_at _ _ _ c.in-Some.ensures c.in_ok-keys.ensures) (set_made _ _ c.make.ensures.ok c.make.ensures.value c.make.ensures.bad_value)
