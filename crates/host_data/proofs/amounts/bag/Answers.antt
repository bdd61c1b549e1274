use Rattle.host_data.proofs.KeyedData.{bag_at, bag_made}
use Rattle.host_data.proofs.amounts.bag.Goals as goal

pub returns : goal.returns
returns c = rw (bag_at _ _ _ c.in-Some.ensures c.in_ok-pairs.ensures) (bag_made _ _ c.make.ensures.ok c.make.ensures.value c.make.ensures.bad_value)
