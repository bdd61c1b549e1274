use Rattle.host_data.proofs.ValuesRead.{bag_has, nat_from_has, own_from, set_has}
use Rattle.host_data.proofs.amounts.read_value.Goals as goal

pub returns-in-Nat-clause-own : goal.returns-in-Nat-clause-own
returns-in-Nat-clause-own c = rw c.in-Nat.is (own_from _ _ _ c.nat.ensures (nat_from_has c.number.result))

pub returns-in-Set-clause-own : goal.returns-in-Set-clause-own
returns-in-Set-clause-own c = rw c.in-Set.is (own_from _ _ _ c.set.ensures (set_has _))

pub returns-in-Bag-clause-own : goal.returns-in-Bag-clause-own
returns-in-Bag-clause-own c = rw c.in-Bag.is (own_from _ _ _ c.bag.ensures (bag_has _))
